use Rattle.std.proofs.Common.{◌≡◌, ◌+◌, ◌-◌, ◌*◌, ◌^◌, ◌<◌}
use Rattle.mg_defs.specs.Fixed.{digits_of}
use Rattle.mg_fixed.proofs.logarithm.lg.Given as goal

abbrev pub invariant-loop-i : goal.invariant-loop-i
invariant-loop-i l = record {
  so_far : l.digits * 2 ^ (8 - l.i) + digits_of (8 - l.i) l.y ≡ digits_of 8 l.initial.y;
  small : l.y < 2 ^ 32;
  few : l.digits < 2 ^ l.i;
}
