use Rattle.std.proofs.Common.{◌++◌, refl}
use Rattle.std.proofs.lemmas.Result.{err_from_is_err_and}
use Rattle.mg_make.proofs.PassLaws.{pass_first, pass_then}
use Rattle.mg_make.proofs.Taking.{begin_part, end_part, next_first, next_then, other_part, piece_part}
use Rattle.mg_make.proofs.mark_writer.put_each.Goals as goal

pub begin_if-requires : goal.begin_if-requires
begin_if-requires g c =
    let m = c.args.met.now in
    λ k. ((refl, tt), rw c.begins.ensures (next_first _ _ (begin_part m) (piece_part m ++ (other_part m ++ (end_part m))) c.requires.next))

pub piece_if-requires : goal.piece_if-requires
piece_if-requires g c =
    let m = c.args.met.now in
    let wrote_1 = rw c.begins.ensures at c.in_ok-begin_if.ensures.written in
    λ k. (
      (refl, tt),
      rw (c.has_piece.ensures, c.kind.ensures, c.alone.ensures, c.piece.ensures.bytes)
          (next_first _ _ (piece_part m) (other_part m ++ (end_part m))
          (next_then _ _ _ _ (begin_part m) (piece_part m ++ (other_part m ++ (end_part m))) c.requires.next wrote_1)),
    )

pub piece_if-requires-2 : goal.piece_if-requires-2
piece_if-requires-2 g c =
    let m = c.args.met.now in
    let wrote_1 = rw c.begins.ensures at c.in_ok-begin_if.ensures.written in
    let wrote_2 = rw (c.has_piece.ensures, c.kind.ensures, c.alone.ensures, c.piece.ensures.bytes) at c.in_ok-piece_if.ensures.written in
    λ k. (
      (refl, tt),
      rw (c.has_other.ensures, c.other_kind.ensures, c.alone-2.ensures)
          (next_first _ _ (other_part m) (end_part m) (next_then _ _ _ _ (piece_part m) (other_part m ++ (end_part m))
          (next_then _ _ _ _ (begin_part m) (piece_part m ++ (other_part m ++ (end_part m))) c.requires.next wrote_1) wrote_2)),
    )

pub end_if-requires : goal.end_if-requires
end_if-requires g c =
    let m = c.args.met.now in
    let wrote_1 = rw c.begins.ensures at c.in_ok-begin_if.ensures.written in
    let wrote_2 = rw (c.has_piece.ensures, c.kind.ensures, c.alone.ensures, c.piece.ensures.bytes) at c.in_ok-piece_if.ensures.written in
    let wrote_3 = rw (c.has_other.ensures, c.other_kind.ensures, c.alone-2.ensures) at c.in_ok-piece_if-2.ensures.written in
    λ k. (
      (refl, tt),
      rw c.ends.ensures (next_then _ _ _ _ (other_part m) (end_part m)
          (next_then _ _ _ _ (piece_part m) (other_part m ++ (end_part m))
          (next_then _ _ _ _ (begin_part m) (piece_part m ++ (other_part m ++ (end_part m))) c.requires.next wrote_1) wrote_2) wrote_3),
    )

-- ---- one of the four stops

pub returns-in_err-begin_if : goal.returns-in_err-begin_if
returns-in_err-begin_if g c =
    let m = c.args.met.now in
    let p = err_from_is_err_and c.from_residual.result c.from_residual.ensures.1 in
    let one = rw c.begins.ensures at c.in_err-begin_if.ensures in
    rw (p.1, p.2) (pass_first (piece_part m ++ (other_part m ++ end_part m)) one)

pub returns-in_err-piece_if : goal.returns-in_err-piece_if
returns-in_err-piece_if g c =
    let m = c.args.met.now in
    let p = err_from_is_err_and c.from_residual-in_err-piece_if.result c.from_residual-in_err-piece_if.ensures.1 in
    let one = rw c.begins.ensures at c.in_ok-begin_if.ensures in
    let two = rw (c.has_piece.ensures, c.kind.ensures, c.alone.ensures, c.piece.ensures.bytes) at c.in_err-piece_if.ensures in
    rw (p.1, p.2) (pass_then one (pass_first (other_part m ++ end_part m) two))

pub returns-in_err-piece_if-2 : goal.returns-in_err-piece_if-2
returns-in_err-piece_if-2 g c =
    let m = c.args.met.now in
    let p = err_from_is_err_and c.from_residual-in_err-piece_if-2.result c.from_residual-in_err-piece_if-2.ensures.1 in
    let one = rw c.begins.ensures at c.in_ok-begin_if.ensures in
    let two = rw (c.has_piece.ensures, c.kind.ensures, c.alone.ensures, c.piece.ensures.bytes) at c.in_ok-piece_if.ensures in
    let three = rw (c.has_other.ensures, c.other_kind.ensures, c.alone-2.ensures) at c.in_err-piece_if-2.ensures in
    rw (p.1, p.2) (pass_then one (pass_then two (pass_first (end_part m) three)))

-- ---- the last call

pub returns : goal.returns
returns g c =
    let one = rw c.begins.ensures at c.in_ok-begin_if.ensures in
    let two = rw (c.has_piece.ensures, c.kind.ensures, c.alone.ensures, c.piece.ensures.bytes) at c.in_ok-piece_if.ensures in
    let three = rw (c.has_other.ensures, c.other_kind.ensures, c.alone-2.ensures) at c.in_ok-piece_if-2.ensures in
    let four = rw c.ends.ensures at c.end_if.ensures in
    pass_then one (pass_then two (pass_then three four))
