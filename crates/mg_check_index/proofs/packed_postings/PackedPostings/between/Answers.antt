use Rattle.std.proofs.Common.{◌-◌, ap}
use Rattle.mg_check_index.specs.Packing.{Packed}
use Rattle.mg_check_index.proofs.PackedLaws.{between_is}
use Rattle.mg_check_index.proofs.packed_postings.PackedPostings.between.Goals as goal

pub returns : goal.returns
returns c =
    between_is c.deref-2.result.now c.self.inside.beside.items c.deref.result.now c.self.inside.packed.items c.args.from (c.args.to - c.args.from) c.args.self.now.all
    c.deref-2.ensures.value c.deref.ensures.value (ap (λ (v : Packed). v.all) c.self.view_is)
