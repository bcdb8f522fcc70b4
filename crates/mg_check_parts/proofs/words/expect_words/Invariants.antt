use Rattle.std.proofs.Common.{take, All}
use Rattle.mg_check_parts.specs.Words.{IsWord}
use Rattle.mg_check_parts.proofs.words.expect_words.Given as goal

abbrev pub invariant-loop-symbol : goal.invariant-loop-symbol
invariant-loop-symbol l = All IsWord (take l.symbol l.model.words.pieces)
