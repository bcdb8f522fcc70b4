use Rattle.std.proofs.Common.{◌≡◌, ◌<◌, ◌^◌, drop}
use Rattle.std.specs.List.{list_all}
use Rattle.mg_defs.specs.Commands.{value, is_digit}
use Rattle.mg_reply.proofs.command.most_of.Given as goal

abbrev pub invariant-loop-byte : goal.invariant-loop-byte
invariant-loop-byte l = record {
  value_is : value l.so_far (drop l.byte-index l.word) ≡ value 0 l.word;
  digits : list_all is_digit (drop l.byte-index l.word) ≡ list_all is_digit l.word;
  small : l.so_far < 10 ^ l.byte-index;
}
