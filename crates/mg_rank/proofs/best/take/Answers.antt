use Rattle.std.proofs.Common.{rules}
use Rattle.mg_rank.specs.Best.{kept_cmp}
use Rattle.mg_rank.proofs.Dropping.{dropped}
use Rattle.mg_rank.proofs.best.take.Goals as goal

pub returns : goal.returns
returns c =
    let e = c.pop-gone.ensures in
    let p = c.in_ok-push.ensures in
    record {
      heap = search rules;
      taken = dropped kept_cmp _ c.pop-gone.result _ _ _ _ p.permutation (p.heap_order c.requires.heap) e.permutation e.below_top e.unchanged;
      len = search rules;
    }
