use Rattle.mg_defs.proofs.texts.text_has_its_bits.Goals as goal
use Rattle.mg_defs.proofs.TextBitsLaws.{text-bits, text-within}

pub returns-clause-bits : goal.returns-clause-bits
returns-clause-bits c = text-bits

pub returns-clause-bytes : goal.returns-clause-bytes
returns-clause-bytes c = text-within
