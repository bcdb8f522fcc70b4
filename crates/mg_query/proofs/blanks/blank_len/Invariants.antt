use Rattle.std.proofs.Common.{◌≡◌, ◌+◌, drop}
use Rattle.std.specs.List.{prefix_len}
use Rattle.mg_defs.specs.Commands.{is_blank}
use Rattle.mg_query.proofs.blanks.blank_len.Given as goal

abbrev pub invariant-loop-byte : goal.invariant-loop-byte
invariant-loop-byte l = record {
  count : l.len ≡ l.byte-index;
  is : prefix_len is_blank l.line ≡ l.byte-index + prefix_len is_blank (drop l.byte-index l.line);
}
