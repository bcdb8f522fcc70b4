use Rattle.std.proofs.Common.{◌≡◌, None, find, map, take}
use Rattle.mg_defs.specs.Heads.{is_wrong}
use Rattle.mg_layout.specs.HeadAnswers.{check_of}
use Rattle.mg_layout.proofs.check.pass_all.Given as goal

abbrev pub invariant-loop-check : goal.invariant-loop-check
invariant-loop-check l = find is_wrong (map check_of (take l.check-index l.checks)) ≡ None
