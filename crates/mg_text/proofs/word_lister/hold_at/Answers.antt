use Rattle.std.proofs.Common.{arith, drop, length, ◌≡◌, ◌+◌, length-drop, length-take}
use Rattle.std.specs.Prelude.{slice_index}
use Rattle.mg_model.specs.Blocks.{short_piece}
use Rattle.mg_text.proofs.ListLaws.{words_held}
use Rattle.mg_text.proofs.SymbolPairs.{symbols_listed, symbols_stood}
use Rattle.mg_text.proofs.word_lister.hold_at.Goals as goal

pub returns-then-hold-clause-held : goal.returns-then-hold-clause-held
returns-then-hold-clause-held g c =
    let code = c.args.model.now in
    let both = rw (c.canon-words.ensures.lengths, c.canon-others.ensures.lengths) at c.in-Some.ensures in
    let entry = c.in-Some-short_piece.entry.now in
    let then = c.in-Some-short_piece-2.entry.now in
    let long : length (short_piece entry) ≡ c.from.result = omega (arith, c.from.ensures, length-take (slice_index entry 0) (drop 1 entry), length-drop 1 entry, c.in-Some-short_piece.ensures.length) in
    let long_other : length (short_piece then) ≡ c.from-2.result = omega (arith, c.from-2.ensures, length-take (slice_index then 0) (drop 1 then), length-drop 1 then, c.in-Some-short_piece-2.ensures.length) in
    record {
      told = symbols_listed code c.canon-words.ensures.keeps c.canon-others.ensures.keeps both c.in-Some-short_piece.ensures.piece
          c.in-Some-short_piece-2.ensures.piece (g.met.F.Feed.whole_pages c.args.r.now.feed).some long long_other c.if-hold.ensures.held;
      stood = symbols_stood code c.canon-words.ensures.keeps c.canon-others.ensures.keeps both c.in-Some-short_piece.ensures.piece
          c.in-Some-short_piece-2.ensures.piece long long_other c.if-hold.ensures.held;
      of_words = words_held code c.in-Some.found.0 c.from.result (c.from.result + c.from-2.result) c.args.list.now c.hold.new.self
          (omega (arith, both.one.taken, c.canon-words.ensures.keeps.each)) c.if-hold.ensures.held;
    }
