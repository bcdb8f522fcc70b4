use Rattle.std.proofs.Common.{arith, ◌<◌, length}
use Rattle.mg_rank.proofs.RowSums.{inserted}
use Rattle.mg_rank.proofs.sums.map_of.Goals as goal

pub loop-place-preserved : goal.loop-place-preserved
loop-place-preserved c =
    let lt : c.loop-place.place < length c.args.row.now = omega (arith, c.loop-place-test.true, c.loop-place.auto.place-end) in
    inserted c.args.row.now c.loop-place.place _ c.requires.apart lt c.loop-place.invariant c.in-Ok.ensures.entries
