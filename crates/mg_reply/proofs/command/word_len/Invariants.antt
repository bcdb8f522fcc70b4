use Rattle.std.proofs.Common.{◌≡◌, ◌+◌, drop}
use Rattle.std.specs.List.{prefix_len}
use Rattle.mg_defs.specs.Commands.{is_word}
use Rattle.mg_reply.proofs.command.word_len.Given as goal

abbrev pub invariant-loop-byte : goal.invariant-loop-byte
invariant-loop-byte l = record {
  count : l.len ≡ l.byte-index;
  is : prefix_len is_word l.line ≡ l.byte-index + prefix_len is_word (drop l.byte-index l.line);
}
