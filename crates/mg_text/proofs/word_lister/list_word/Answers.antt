use Rattle.std.proofs.Common.{arith, ◌≡◌, ◌<◌, length, Some, refl, sym, ◌∙◌, ap}
use Rattle.std.specs.Prelude.{slice_get}
use Rattle.mg_defs.specs.Sorted.{number_of}
use Rattle.mg_text.specs.Listing.{symbol_if}
use Rattle.mg_text.proofs.ListLaws.{list_ends_read, number_refused, piece_added, piece_listed, symbol_of_word}
use Rattle.mg_text.proofs.ListedLaws.{word_came}
use Rattle.mg_text.proofs.PairLaws.{piece_number}
use Rattle.mg_text.proofs.word_lister.list_word.Goals as goal

pub returns-in-Err : goal.returns-in-Err
returns-in-Err g c = number_refused c.in-Err.refusal c.in-Err.ensures.read refl (λ piece is few small shows.
    let code = c.args.model.now.words in
    let below : number_of code.pieces piece < length code.lengths = omega (arith, piece_number code piece is, c.canon.ensures.keeps.each) in
    list_ends_read c.in-Err.refusal _ _ _ _ (λ pages. pages) ((rw c.canon.ensures.lengths at c.in-Err.ensures.told) (number_of code.pieces piece) below small shows))

pub returns-in-Ok : goal.returns-in-Ok
returns-in-Ok g c =
    let code = c.args.model.now.words in
    let size = length c.piece.result.now in
    piece_added c.in-Ok.symbol (symbol_if c.in-Ok.symbol size) c.add.result c.in-Ok.ensures.read
    (symbol_of_word c.args.model.now c.in-Ok.symbol size (omega (arith, c.in-Ok.ensures.symbol, c.canon.ensures.keeps.each, ap length c.canon.ensures.lengths))) c.add.ensures
    (λ piece is few small shows.
    let number = number_of code.pieces piece in
    let below : number < length code.lengths = omega (arith, piece_number code piece is, c.canon.ensures.keeps.each) in
    let read = (rw c.canon.ensures.lengths at c.in-Ok.ensures.told) number below small shows in
    let there : slice_get code.pieces number ≡ Some c.piece.result.now = ap (slice_get code.pieces) (sym read.0) ∙ c.piece.ensures.piece in
    let same : c.piece.result.now ≡ piece = cc (there, is) in
    piece_listed c.add.result _ _ _ size (length piece) _ _ read.1 read.2 c.add.ensures (ap (λ s. symbol_if s size) read.0 ∙ ap (λ p. symbol_if number (length p)) same)
    (ap length same) few)
    (word_came c.args.model.now c.in-Ok.symbol c.piece.result.now c.add.result _ _ c.canon.ensures.keeps c.piece.ensures.piece (rw c.canon.ensures.lengths at c.in-Ok.ensures.stood) c.add.ensures)
