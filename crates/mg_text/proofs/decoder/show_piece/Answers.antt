use Rattle.std.proofs.Common.{arith, ◌≡◌, ◌<◌, length, Some, refl, sym, ◌∙◌, ap}
use Rattle.std.specs.Prelude.{slice_get}
use Rattle.mg_defs.specs.Sorted.{number_of}
use Rattle.mg_defs.specs.Marks.{code_of}
use Rattle.mg_model.specs.Blocks.{short_piece}
use Rattle.mg_text.proofs.PairLaws.{piece_number, piece_put, piece_stopped}
use Rattle.mg_text.proofs.StepLaws.{number_refused, put_behind}
use Rattle.mg_text.proofs.Steps.{ends_read}
use Rattle.mg_text.proofs.ToldLaws.{piece_came}
use Rattle.mg_text.proofs.decoder.show_piece.Goals as goal

pub returns-in-Err : goal.returns-in-Err
returns-in-Err g c = number_refused c.in-Err.refusal c.in-Err.ensures.read refl refl (λ piece is before bytes most small shows shown fits.
    let code = code_of c.args.stream c.args.model.now in
    let below : number_of code.pieces piece < length code.lengths = omega (arith, piece_number code piece is, c.canon.ensures.keeps.each) in
    ends_read c.in-Err.refusal _ _ _ _ (λ pages. piece_stopped bytes piece shown pages) ((rw c.canon.ensures.lengths at c.in-Err.ensures.told) (number_of code.pieces piece) below small shows))

pub returns-in-Some : goal.returns-in-Some
returns-in-Some g c = put_behind c.in-Ok.symbol c.put_short.result _ _ c.in-Ok.ensures.read c.put_short.ensures.added c.put_short.ensures.cause (λ piece is before bytes most small shows shown fits.
    let code = code_of c.args.stream c.args.model.now in
    let number = number_of code.pieces piece in
    let below : number < length code.lengths = omega (arith, piece_number code piece is, c.canon.ensures.keeps.each) in
    let read = (rw c.canon.ensures.lengths at c.in-Ok.ensures.told) number below small shows in
    let there : slice_get code.pieces number ≡ Some (short_piece c.in-Some.entry.now) = ap (slice_get code.pieces) (sym read.0) ∙ c.in-Some.ensures.piece in
    let same : short_piece c.in-Some.entry.now ≡ piece = cc (there, is) in
    piece_put c.put_short.result _ _ _ _ before _ _ _ _ bytes piece read.1 read.2 shown fits (rw same at c.put_short.ensures.cause)
    (rw same at (c.put_short.ensures.shown before bytes most shown)))
    (piece_came (code_of c.args.stream c.args.model.now) c.in-Ok.symbol (short_piece c.in-Some.entry.now) c.put_short.result _ _ c.canon.ensures.keeps c.in-Some.ensures.piece
    (rw c.canon.ensures.lengths at c.in-Ok.ensures.stood) c.put_short.ensures.shown)

pub returns-in-None : goal.returns-in-None
returns-in-None g c = put_behind c.in-Ok.symbol c.put.result _ _ c.in-Ok.ensures.read c.put.ensures.added c.put.ensures.cause (λ piece is before bytes most small shows shown fits.
    let code = code_of c.args.stream c.args.model.now in
    let number = number_of code.pieces piece in
    let below : number < length code.lengths = omega (arith, piece_number code piece is, c.canon.ensures.keeps.each) in
    let read = (rw c.canon.ensures.lengths at c.in-Ok.ensures.told) number below small shows in
    let there : slice_get code.pieces number ≡ Some c.piece.result.now = ap (slice_get code.pieces) (sym read.0) ∙ c.piece.ensures.piece in
    let same : c.piece.result.now ≡ piece = cc (there, is) in
    piece_put c.put.result _ _ _ _ before _ _ _ _ bytes piece read.1 read.2 shown fits (rw same at c.put.ensures.cause)
    (rw same at (c.put.ensures.shown before bytes most shown)))
    (piece_came (code_of c.args.stream c.args.model.now) c.in-Ok.symbol c.piece.result.now c.put.result _ _ c.canon.ensures.keeps c.piece.ensures.piece
    (rw c.canon.ensures.lengths at c.in-Ok.ensures.stood) c.put.ensures.shown)
