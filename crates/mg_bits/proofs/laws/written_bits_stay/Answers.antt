use Rattle.mg_bits.proofs.BitsWritten.{bits_stay, holds_stay}
use Rattle.mg_bits.proofs.laws.written_bits_stay.Goals as goal

pub returns-clause-bits : goal.returns-clause-bits
returns-clause-bits c = bits_stay

pub returns-clause-holds : goal.returns-clause-holds
returns-clause-holds c = holds_stay
