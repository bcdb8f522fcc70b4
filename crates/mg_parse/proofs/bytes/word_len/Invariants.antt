use Rattle.std.proofs.Common.{◌≡◌, ◌+◌, drop}
use Rattle.std.specs.List.{prefix_len}
use Rattle.mg_defs.specs.Parse.{is_word_byte}
use Rattle.mg_parse.proofs.bytes.word_len.Given as goal

abbrev pub invariant-loop-byte : goal.invariant-loop-byte
invariant-loop-byte l = record {
  count : l.len ≡ l.byte-index;
  is : prefix_len is_word_byte l.text ≡ l.byte-index + prefix_len is_word_byte (drop l.byte-index l.text);
}
