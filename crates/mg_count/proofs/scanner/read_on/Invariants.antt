use Rattle.std.proofs.Common.{take}
use Rattle.mg_count.specs.Scanning.{HasReadOn}
use Rattle.mg_count.proofs.scanner.read_on.Given as goal

abbrev pub invariant-loop-count : goal.invariant-loop-count
invariant-loop-count l = HasReadOn l.fn.reader l.reader (take l.count l.bytes)
