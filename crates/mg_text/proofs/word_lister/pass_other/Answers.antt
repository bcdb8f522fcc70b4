use Rattle.std.proofs.Common.{arith, [], ◌≡◌, ◌<◌, length, Some, refl, sym, ◌∙◌, ap}
use Rattle.std.specs.Prelude.{slice_get}
use Rattle.mg_defs.specs.Sorted.{number_of}
use Rattle.mg_text.proofs.ListLaws.{list_ends_read, number_refused, piece_added, piece_listed}
use Rattle.mg_text.proofs.ListedLaws.{other_came}
use Rattle.mg_text.proofs.PairLaws.{piece_number}
use Rattle.mg_text.proofs.word_lister.pass_other.Goals as goal

pub returns-in-Err : goal.returns-in-Err
returns-in-Err g c = number_refused c.in-Err.refusal c.in-Err.ensures.read refl (λ piece is few small shows.
    let code = c.args.model.now.others in
    let below : number_of code.pieces piece < length code.lengths = omega (arith, piece_number code piece is, c.canon.ensures.keeps.each) in
    list_ends_read c.in-Err.refusal _ _ _ _ (λ pages. pages) ((rw c.canon.ensures.lengths at c.in-Err.ensures.told) (number_of code.pieces piece) below small shows))

pub returns-in-Ok : goal.returns-in-Ok
returns-in-Ok g c =
    let code = c.args.model.now.others in
    let size = length c.piece.result.now in
    piece_added c.in-Ok.symbol [] c.pass.result c.in-Ok.ensures.read tt c.pass.ensures
    (λ piece is few small shows.
    let number = number_of code.pieces piece in
    let below : number < length code.lengths = omega (arith, piece_number code piece is, c.canon.ensures.keeps.each) in
    let read = (rw c.canon.ensures.lengths at c.in-Ok.ensures.told) number below small shows in
    let there : slice_get code.pieces number ≡ Some c.piece.result.now = ap (slice_get code.pieces) (sym read.0) ∙ c.piece.ensures.piece in
    let same : c.piece.result.now ≡ piece = cc (there, is) in
    piece_listed c.pass.result _ _ _ size (length piece) _ _ read.1 read.2 c.pass.ensures refl (ap length same) few)
    (other_came c.args.model.now c.in-Ok.symbol c.piece.result.now c.pass.result _ _ c.canon.ensures.keeps c.piece.ensures.piece (rw c.canon.ensures.lengths at c.in-Ok.ensures.stood) c.pass.ensures)
