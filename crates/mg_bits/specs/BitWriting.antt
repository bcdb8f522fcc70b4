-- What contracts see of a bit writer, and what its calls do.
use Rattle.std.specs.Prelude.{◌≡◌, ◌+◌, ◌%◌, ◌≤◌, ◌<◌, ◌++◌, ℕ, List, [], length, take, OnOk}
use Rattle.std.specs.Option.{IsSome}
use Rattle.std.specs.declared.option.Option.{Option}
use Rattle.std.specs.declared.result.Result.{Result}
use Rattle.mg_dev.specs.Causes.{HasPutCause}
use Rattle.mg_dev.specs.Files.{Files, Reads, bytes_at}
use Rattle.mg_dev.specs.declared.device.PutErr.{PutErr}
use Rattle.mg_defs.specs.Bits.{Bits, bits_of, digits, to_byte}
use Rattle.mg_bits.specs.Writer.{AreBytes, KeepsBytes, WroteTo}

-- a bit writer: the full name of its file, the bits that it still holds, and how many were written
pub record BitWriting : Type 0 where
  pub name : List ℕ
  pub buffered : Bits
  pub place : ℕ

-- the bits that were written: those of the file, and those that the writer holds
abbrev pub bits_put : BitWriting → Option Files → Bits
bits_put w files = bits_of (bytes_at files w.name) ++ w.buffered

-- the bits that were written, with zeros up to a byte
abbrev pub bits_filled : BitWriting → Option Files → Bits
bits_filled w files = bits_put w files ++ digits (to_byte w.place) 0

-- where the files are told, the place is the number of the bits written, and the file's numbers are bytes
pub record Holds (w : BitWriting) (files : Option Files) : Type 0 where
  pub count : IsSome files → length (bits_put w files) ≡ w.place
  pub bytes : IsSome files → AreBytes (bytes_at files w.name)

-- these bits were written
pub record WroteBits (old new : BitWriting) (files_before files_now : Option Files) (bits : Bits) : Type 0 where
  pub name : new.name ≡ old.name
  pub place : new.place ≡ old.place + length bits
  pub told : IsSome files_before → bits_put new files_now ≡ bits_put old files_before ++ bits

-- these bits are held behind the others, and nothing was sent
pub record HoldsMore (old new : BitWriting) (bits : Bits) : Type 0 where
  pub name : new.name ≡ old.name
  pub place : new.place ≡ old.place + length bits
  pub buffered : new.buffered ≡ old.buffered ++ bits
  -- fewer bits than a page has are held
  pub held : length new.buffered < 32768

-- bits with the first of these behind them
pub record GrewBy (old new bits : Bits) : Type 0 where
  pub count : ℕ
  pub within : count ≤ length bits
  pub is : new ≡ old ++ take count bits

-- the bits of the file grew by the first of these
abbrev pub GrewBits : List ℕ → Option Files → Option Files → Bits → Type 0
GrewBits name files_before files_now bits = IsSome files_before →
    GrewBy (bits_of (bytes_at files_before name)) (bits_of (bytes_at files_now name)) bits

-- bits are put behind those that a writer took, or the first of them before the call is refused
pub record PutsBits (old new : BitWriting) (piece : Bits) (result : Result (Unit {0}) PutErr) (files_before files_now : Option Files)
    (reads_before reads_now : Reads) (faults_before faults_now : ℕ) : Type 0
  where
    -- where the call is not refused, they were written
    pub bits : OnOk result (WroteBits old new files_before files_now piece)
    -- whatever it answers, the file grew by the first of the bits that were held or put
    pub grew : GrewBits old.name files_before files_now (old.buffered ++ piece)
    -- fewer bits than a page has are held
    pub held : length new.buffered < 32768
    -- the writer writes to the same file
    pub name : new.name ≡ old.name
    -- where the numbers of that file were bytes, they still are
    pub still : KeepsBytes old.name files_before files_now
    -- no other file changed, and no part was read
    pub wrote : WroteTo old.name files_before files_now reads_before reads_now
    -- a device's failure has a cause
    pub cause : HasPutCause faults_before faults_now result

-- the same, as a caller sees it: what it may write on with
pub record WritesBits (old new : BitWriting) (piece : Bits) (result : Result (Unit {0}) PutErr) (files_before files_now : Option Files)
    (reads_before reads_now : Reads) (faults_before faults_now : ℕ) : Type 0
  where
    -- where the call is not refused, the place tells of what was written, and the file's numbers are bytes
    pub holds : OnOk result (Holds new files_now)
    -- the bits were written then
    pub bits : OnOk result (WroteBits old new files_before files_now piece)
    -- whatever it answers, the file grew by the first of the bits that were held or put
    pub grew : GrewBits old.name files_before files_now (old.buffered ++ piece)
    -- fewer bits than a page has are held
    pub held : length new.buffered < 32768
    -- the writer writes to the same file
    pub name : new.name ≡ old.name
    -- no other file changed, and no part was read
    pub wrote : WroteTo old.name files_before files_now reads_before reads_now
    -- a device's failure has a cause
    pub cause : HasPutCause faults_before faults_now result

-- zero-bits are put to the next byte
pub record FillsByte (old new : BitWriting) (result : Result (Unit {0}) PutErr) (files_before files_now : Option Files)
    (reads_before reads_now : Reads) (faults_before faults_now : ℕ) : Type 0
  where
    -- they are put as other bits are
    pub writes : WritesBits old new (digits (to_byte old.place) 0) result files_before files_now reads_before reads_now
        faults_before faults_now
    pub open writes use *
    -- where the call is not refused, whole bytes were written
    pub whole : OnOk result (new.place % 8 ≡ 0)

-- zero-bits are put to the next byte, and all that is held goes out
pub record EndsFile (old new : BitWriting) (result : Result (Unit {0}) PutErr) (files_before files_now : Option Files)
    (reads_before reads_now : Reads) (faults_before faults_now : ℕ) : Type 0
  where
    -- they are put as other bits are
    pub writes : WritesBits old new (digits (to_byte old.place) 0) result files_before files_now reads_before reads_now
        faults_before faults_now
    pub open writes use *
    -- where the call is not refused, the file holds the bits that were written
    pub file : IsSome files_before → OnOk result (bits_of (bytes_at files_now old.name) ≡ bits_filled old files_before)
    -- and no bits are held
    pub nothing : OnOk result (new.buffered ≡ [])
