use Rattle.std.proofs.Common.{◌≡◌, ◌+◌, ◌≤◌, drop}
use Rattle.std.specs.List.{prefix_len}
use Rattle.mg_defs.specs.Parse.{is_of_kind}
use Rattle.mg_parse.proofs.bytes.piece_len.Given as goal

abbrev pub invariant-loop-byte : goal.invariant-loop-byte
invariant-loop-byte l = record {
  at : l.len ≡ l.byte-index;
  short : l.len ≤ 255;
  run : prefix_len (is_of_kind l.kind) l.text ≡ l.len + prefix_len (is_of_kind l.kind) (drop l.byte-index l.text);
}
