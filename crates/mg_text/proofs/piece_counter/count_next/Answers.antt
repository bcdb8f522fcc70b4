use Rattle.std.proofs.Common.{◌≡◌, sym, subst}
use Rattle.mg_bits.specs.Feed.{Calm}
use Rattle.mg_bits.proofs.CallerLemmas.{calm_none}
use Rattle.mg_defs.specs.declared.Stream.TheVariants.{Words}
use Rattle.mg_text.specs.PieceCounts.{with_symbol}
use Rattle.mg_text.proofs.CountLaws.{on_true_is, on_true_map}
use Rattle.mg_text.proofs.SymbolPairs.{symbols_counted}
use Rattle.mg_text.proofs.piece_counter.count_next.Goals as goal

pub returns : goal.returns
returns g c =
    let code = c.args.model.now in
    let device = g.F.Feed.device c.args.dev.now in
    let feed = c.in-Some.ensures.feed in
    let both = rw (c.canon-words.ensures.lengths, c.canon-others.ensures.lengths) at c.in-Some.ensures.symbols in
    let first = on_true_is c.count.result (c.count.new.self ≡ with_symbol Words c.in-Some.symbols.0 c.args.counts.now) c.if-not-count.false c.count.ensures in
    record {
      fits = subst (λ f. g.F.Feed.fits f device.files) (sym feed) c.requires.fits;
      calm = subst (λ f. Calm (g.F.Feed.feeding c.args.r.now.feed) (g.F.Feed.feeding f) device device) (sym feed) (calm_none _ _);
      told = on_true_map c.count-2.result
          (λ second. symbols_counted code c.canon-words.ensures.keeps c.canon-others.ensures.keeps both device c.requires.fits c.args.counts.now c.count.new.self c.count-2.new.self
          first second) c.count-2.ensures;
      cause = tt;
    }
