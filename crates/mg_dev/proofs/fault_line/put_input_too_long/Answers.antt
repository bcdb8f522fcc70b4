use Rattle.mg_dev.specs.FaultLines.{fault_line}
use Rattle.mg_dev.proofs.fault_line.put_input_too_long.Goals as goal

pub returns-clause-content : goal.returns-clause-content
unfolding fault_line
returns-clause-content g c = c.put_pieces.ensures.content
