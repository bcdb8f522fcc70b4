-- Slots as buffers of a file.
use Rattle.std.specs.Prelude.{◌≡◌, ◌≤◌, ◌<◌, ◌*◌, ℕ, List, [], length, drop, take, slice_index_or, slice_set, IfOk}
use Rattle.std.specs.Option.{IsSome}
use Rattle.std.specs.Simd.{first_chunks}
use Rattle.std.specs.declared.option.Option.{Option}
use Rattle.std.specs.declared.result.Result.{Result}
use Rattle.mg_dev.specs.Causes.{HasCause}
use Rattle.mg_dev.specs.Files.{Files, Reads, bytes_at}
use Rattle.mg_dev.specs.Names.{file_name}
use Rattle.mg_dev.specs.declared.device.Failed.{Failed}
use Rattle.mg_dev.specs.declared.file_ref.FileRef.{FileRef}
use Rattle.mg_dev.specs.declared.part.Part.{Part}
use Rattle.mg_bits.specs.Pages.{Looked}

-- So many bytes of the slot are those of the file from a place on. They are fewer than 64 only at the file's end.
pub record IsFilled (files : Option Files) (name : List ℕ) (at count : ℕ) (slot : List ℕ) : Type 0 where
  pub within : count ≤ 64
  pub told : IsSome files → take count slot ≡ take 64 (drop at (bytes_at files name))

-- the slot was filled from the file's bytes behind a place, with as many as were answered
abbrev pub FillsFrom : {E : Type 0} → FileRef → Option Files → ℕ → List ℕ → Result ℕ E → Type 0
FillsFrom file files at slot result = IfOk result (λ count. IsFilled files (file_name file) at count slot)

-- bytes of this part are read, and nothing else
pub record FillLook {T : Type 0} (part : Part) (result : Result T Failed) (files_before files_now : Option Files)
    (reads_before reads_now : Reads) (faults_before faults_now : ℕ) : Type 0 where
  -- no other part was read
  pub looked : Looked part files_before files_now reads_before reads_now faults_before faults_now
  -- a refusal has a cause
  pub cause : HasCause faults_before faults_now result

-- so many slots of 64 bytes
abbrev pub slots_in : ℕ → List ℕ → List (List ℕ)
slots_in count bytes = first_chunks 64 count bytes

-- the bytes of the slot of this number
abbrev pub slot_at : List (List ℕ) → ℕ → List ℕ
slot_at slots slot = slice_index_or slots slot []

-- no slot but the one of this number has changed
abbrev pub ChangesOneSlot : ℕ → List (List ℕ) → List (List ℕ) → Type 0
ChangesOneSlot slot old new = new ≡ slice_set old slot (slot_at new slot)

-- for each number of slots that the bytes have and that the slot is one of
abbrev pub ForSlots : ℕ → List ℕ → (ℕ → Type 0) → Type 0
ForSlots slot bytes claim = (count : ℕ) → slot < count → 64 * count ≤ length bytes → claim count
