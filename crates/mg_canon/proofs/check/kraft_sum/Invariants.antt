use Rattle.std.proofs.Common.{◌≡◌, ◌*◌, ◌^◌, ◌≤◌, take}
use Rattle.mg_defs.specs.Canon.{kraft}
use Rattle.mg_canon.proofs.check.kraft_sum.Given as goal

abbrev pub invariant-loop-length : goal.invariant-loop-length
invariant-loop-length l = record {
  so_far : l.sum ≡ kraft (take l.length-index l.lengths);
  most : l.sum ≤ l.length-index * 2 ^ 48;
}
