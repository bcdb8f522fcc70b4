use Rattle.mg_bits.proofs.ByteLaws.{bits_are_bytes, bytes_again, same_bytes}
use Rattle.mg_bits.proofs.laws.bits_tell_bytes.Goals as goal

pub returns-clause-same : goal.returns-clause-same
returns-clause-same c = same_bytes

pub returns-clause-made : goal.returns-clause-made
returns-clause-made c = bytes_again

pub returns-clause-bytes : goal.returns-clause-bytes
returns-clause-bytes c = bits_are_bytes
