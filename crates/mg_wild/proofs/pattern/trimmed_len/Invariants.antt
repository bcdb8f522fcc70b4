use Rattle.std.proofs.Common.{◌≡◌, ◌≤◌, length, take}
use Rattle.mg_defs.specs.Patterns.{without_end_blanks}
use Rattle.mg_wild.proofs.pattern.trimmed_len.Given as goal

abbrev pub invariant-loop-len : goal.invariant-loop-len
invariant-loop-len l = record {
  within : l.len ≤ length l.text;
  is : without_end_blanks (take l.len l.text) ≡ without_end_blanks l.text;
}

abbrev pub decreases-loop-len : goal.decreases-loop-len
decreases-loop-len l = l.len
