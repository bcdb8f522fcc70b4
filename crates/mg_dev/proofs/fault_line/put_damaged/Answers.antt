use Rattle.mg_dev.specs.FaultLines.{fault_line}
use Rattle.mg_dev.proofs.fault_line.put_damaged.Goals as goal

pub returns-clause-content : goal.returns-clause-content
unfolding fault_line
returns-clause-content g c = rw (← c.name.ensures) c.put_pieces.ensures.content
