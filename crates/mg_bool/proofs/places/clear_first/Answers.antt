use Rattle.std.proofs.Common.{arith, false, ◌∙◌}
use Rattle.std.proofs.lemmas.List.{length-set}
use Rattle.mg_bool.proofs.FirstLaws.{clear_next}
use Rattle.mg_bool.proofs.places.clear_first.Goals as goal

pub loop-i-preserved : goal.loop-i-preserved
loop-i-preserved c = record {
  size = length-set c.loop-i.there.items c.loop-i.i false ∙ c.loop-i.invariant.size;
  none = clear_next c.loop-i.there.items c.loop-i.i (omega (arith, c.loop-i.invariant.size, c.requires, c.loop-i-test.true)) c.loop-i.invariant.none;
}
