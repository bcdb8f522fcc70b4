use Rattle.std.proofs.Common.{arith, refl, ap}
use Rattle.mg_check_index.specs.Packing.{Packed}
use Rattle.mg_check_index.proofs.PackedLaws.{put_is}
use Rattle.mg_check_index.proofs.packed_postings.PackedPostings.put.Goals as goal

pub returns-in-Some-clause-put : goal.returns-in-Some-clause-put
returns-in-Some-clause-put c =
    let beside = c.self.inside.beside.items in
    record {
      all = put_is beside beside c.self.inside.packed.items c.args.place c.in-Some.word c.args.posting c.args.self.now.all (ap (λ (v : Packed). v.all) c.self.view_is) refl
          (c.in-Some.ensures.posting beside);
      left = omega (arith, ap (λ (v : Packed). v.left) c.self.view_is, c.in-Some.ensures.small);
    }
