use Rattle.std.proofs.Common.{take}
use Rattle.mg_defs.specs.Marks.{code_of}
use Rattle.mg_text.specs.CountedText.{ComeMore}
use Rattle.mg_text.proofs.stream_counts.put_all.Given as goal

abbrev pub invariant-loop-symbol : goal.invariant-loop-symbol
invariant-loop-symbol l = ComeMore (take l.symbol (code_of l.stream l.model).pieces) (take l.symbol l.symbols) l.fn.counts l.counts
