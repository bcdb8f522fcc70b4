use Rattle.std.proofs.Common.{arith, ◌≡◌, ◌*◌, ◌++◌, ◌∷◌, ◌∙◌, [], List, length, ap}
use Rattle.std.specs.Prelude.{vec_capacity, vec_len}
use Rattle.mg_defs.specs.declared.Posting.{Posting}
use Rattle.mg_check_index.specs.Packing.{Packed}
use Rattle.mg_check_index.proofs.PackedLaws.{put_behind, room_grown, room_left}
use Rattle.mg_check_index.proofs.packed_postings.PackedPostings.put_beside.Goals as goal

pub returns-clause-put : goal.returns-clause-put
returns-clause-put c =
    let kept : c.len-kept.result * 256 ≡ length c.self.inside.beside.items * 256 = omega (arith, c.len-kept.ensures, c.self.inside.beside.ok.0) in
    let items = c.push_reserved.ensures.items ∙ ap (λ (ps : List Posting). ps ++ c.args.posting ∷ []) c.reserve.ensures.items in
    let left = room_grown (vec_capacity c.self.inside.beside) (vec_capacity c.push_reserved.new.self) (vec_len c.self.inside.beside)
    (omega (arith, c.reserve.ensures.capacity, c.push_reserved.ensures.capacity))
    (omega (arith, c.in-Ok.ensures.ok, c.reserve.ensures.len, c.push_reserved.ensures.capacity))
    (omega (arith, c.if-kept-ge-MOST_BESIDE.false, c.len-kept.ensures)) in
    record {
      all = put_behind c.self.inside.beside.items c.push_reserved.new.self.items c.self.inside.packed.items c.args.place _ c.args.posting c.args.self.now.all
          (ap (λ (v : Packed). v.all) c.self.view_is) items c.self.invariant kept;
      left = omega (arith, ap (λ (v : Packed). v.left) c.self.view_is, c.push_reserved.ensures.len, c.reserve.ensures.len, left);
    }

pub returns-in-Err-clause-sure : goal.returns-in-Err-clause-sure
returns-in-Err-clause-sure c = λ some.
    let room = room_left (vec_capacity c.self.inside.beside) (vec_len c.self.inside.beside) (omega (arith, some, ap (λ (v : Packed). v.left) c.self.view_is)) in
    absurd (omega (arith, room.0, c.in-Err.ensures.full))
