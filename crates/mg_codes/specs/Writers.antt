-- What a writer of a code does, by the functions that tell the files, reads and faults of its store.
use Rattle.std.specs.Prelude.{◌≡◌, ℕ, Option, Result, OnOk}
use Rattle.mg_dev.specs.Files.{Files, Reads}
use Rattle.mg_dev.specs.Causes.{HasPutCause}
use Rattle.mg_dev.specs.declared.device.PutErr.{PutErr}
use Rattle.mg_defs.specs.Bits.{Bits}
use Rattle.mg_bits.specs.Writer.{WroteTo}
use Rattle.mg_bits.specs.BitWriting.{BitWriting, Holds, WroteBits}

-- these bits are written, and no others
pub record PutsBits {Store T : Type 0} (code : Bits) (files : Store → Option Files) (reads : Store → Reads)
    (faults : Store → ℕ)
    (old new : BitWriting) (before now : Store) (result : Result T PutErr) : Type 0 where
  -- the writer holds what its place counts
  pub holds : OnOk result (Holds new (files now))
  -- the bits stand behind those that were written before
  pub bits : OnOk result (WroteBits old new (files before) (files now) code)
  -- it is the same file
  pub name : new.name ≡ old.name
  -- no other file is written, and nothing is read
  pub wrote : WroteTo old.name (files before) (files now) (reads before) (reads now)
  -- a refusal has a cause
  pub cause : HasPutCause (faults before) (faults now) result
