use Rattle.mg_text.proofs.SymbolPairs.{symbols_came, symbols_shown}
use Rattle.mg_text.proofs.decoder.hold_at.Goals as goal

pub returns-then-hold_pair-clause-held : goal.returns-then-hold_pair-clause-held
returns-then-hold_pair-clause-held g c =
    let code = c.args.model.now in
    let both = rw (c.canon-words.ensures.lengths, c.canon-others.ensures.lengths) at c.in-Some.ensures in
    record {
      told = symbols_shown code c.canon-words.ensures.keeps c.canon-others.ensures.keeps both c.in-Some-short_piece.ensures.piece
          c.in-Some-short_piece-2.ensures.piece (g.met.F.Feed.whole_pages c.args.r.now.feed).some c.if-hold_pair.ensures.held;
      stood = symbols_came code c.canon-words.ensures.keeps c.canon-others.ensures.keeps both c.in-Some-short_piece.ensures.piece
          c.in-Some-short_piece-2.ensures.piece c.if-hold_pair.ensures.held;
      most = c.if-hold_pair.ensures.most;
    }
