use Rattle.mg_defs.proofs.texts.bits_fill_bytes.Goals as goal
use Rattle.mg_defs.proofs.CodedTextLaws.{bits-of_as_bytes, length-as_bytes}

pub returns-clause-bits : goal.returns-clause-bits
returns-clause-bits c = bits-of_as_bytes

pub returns-clause-length : goal.returns-clause-length
returns-clause-length c = length-as_bytes
