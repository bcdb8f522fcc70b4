use Rattle.std.proofs.Common.{refl}
use Rattle.mg_defs.specs.Numbers.{four}
use Rattle.mg_runs.specs.Bytes.{bytes_of}
use Rattle.mg_runs.proofs.entry.entry_bytes.Goals as goal

pub returns : goal.returns
unfolding bytes_of four
returns c = rw (c.four_bytes.ensures, c.four_bytes-2.ensures) refl
