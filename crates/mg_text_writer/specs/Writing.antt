-- A writer of coded documents: what contracts see of it, and which documents it took.
use Rattle.std.specs.Prelude.{◌≡◌, ◌≢◌, ◌≤◌, ◌+◌, ◌-◌, ◌*◌, ◌%◌, ◌^◌, ◌==◌, ◌++◌, ℕ, Bool, true, false, List, [], ◌∷◌, length, map, if◌then◌else◌}
use Rattle.std.specs.List.{flat_map}
use Rattle.std.specs.Option.{IsSome, is_some}
use Rattle.std.specs.declared.option.Option.{Option}
use Rattle.std.specs.declared.result.Result.{Result}
use Rattle.mg_dev.specs.Causes.{HasPutCause}
use Rattle.mg_dev.specs.Files.{Files, Reads, SameReads, bytes_at, file_at, written}
use Rattle.mg_dev.specs.Moments.{Between}
use Rattle.mg_dev.specs.Names.{full_name}
use Rattle.mg_dev.specs.declared.device.PutErr.{PutErr}
use Rattle.mg_dev.specs.declared.part.Part.TheVariants.{Text, Places}
use Rattle.mg_bits.specs.Alike.{WhereSame}
use Rattle.mg_bits.specs.Writer.{Writing, put_to}
use Rattle.mg_bits.specs.BitWriting.{BitWriting, Holds, bits_put}
use Rattle.mg_defs.specs.declared.Stream.{Stream}
use Rattle.mg_defs.specs.declared.Stream.TheVariants.{Words, Others}
use Rattle.mg_defs.specs.Bits.{Bits, bits_of, as_bytes}
use Rattle.mg_defs.specs.CodedText.{running}
use Rattle.mg_defs.specs.Heads.{as_number}
use Rattle.mg_defs.specs.Numbers.{eight}

pub record TextWriting : Type 0 where
  pub base : List ℕ
  pub text : BitWriting
  pub places : Writing
  -- how many documents were begun
  pub docs : ℕ
  -- how many pairs they have
  pub pairs : ℕ
  -- whether the last of them is not ended
  pub is_open : Bool
  -- how many of its pieces are still to come
  pub left : ℕ

-- the files with both parts of a text there and empty
abbrev pub with_empty_text : Option Files → List ℕ → Option Files
with_empty_text files base = written (written files (full_name base Text) []) (full_name base Places) []

-- the bytes of the text of a base
abbrev pub text_at : List ℕ → Option Files → List ℕ
text_at base files = bytes_at files (full_name base Text)

-- a fact where both stores tell alike and hold the same text and places of a base
abbrev pub WhereSameBase : List ℕ → Option Files → Option Files → Type 0 → Type 0
WhereSameBase base one other fact = WhereSame one other (full_name base Text) (full_name base Places) fact

-- the stream of the next piece where so many are still to come: a document has as many words as others, and they alternate
abbrev pub turn : ℕ → Stream
turn left = if left % 2 == 0 then Words else Others

-- ---- documents, by their bits

-- the documents in order, each from a byte on
abbrev pub text_bytes : List Bits → List ℕ
text_bytes docs = flat_map as_bytes docs

-- how many bytes each document has
abbrev pub sizes : List Bits → List ℕ
sizes docs = map (λ (bits : Bits). length (as_bytes bits)) docs

-- where each document begins, the first of them at a place
abbrev pub starts : ℕ → List ℕ → List ℕ
starts at [] = []
starts at (size ∷ sizes) = at ∷ starts (at + size) sizes

-- the places that were written: an open document begins where the documents before end
abbrev pub begun : Bool → List ℕ → List ℕ
begun false sizes = starts 0 sizes
begun true sizes = running 0 sizes

-- the writer stands for these documents, and for these bits of the open one
pub record IsOnText (w : TextWriting) (files : Option Files) (docs : List Bits) (bits : Bits) : Type 0 where
  pub text_name : w.text.name ≡ full_name w.base Text
  pub places_name : w.places.name ≡ full_name w.base Places
  pub holds : Holds w.text files
  pub text : IsSome files → bits_put w.text files ≡ bits_of (text_bytes docs) ++ bits
  pub places : IsSome files → put_to w.places files ≡ flat_map eight (begun w.is_open (sizes docs))
  pub place : w.text.place ≡ 8 * length (text_bytes docs) + length bits
  pub count : w.docs ≡ length docs + as_number w.is_open
  pub none : w.is_open ≡ false → bits ≡ []
  pub nothing_left : w.is_open ≡ false → w.left ≡ 0
  pub few_docs : w.docs ≤ 2 ^ 24
  pub few_pairs : w.pairs ≤ 2 ^ 32 - 1
  pub bound : w.text.place + 48 * w.left ≤ 96 * w.pairs + 96 * w.docs + 7 * length docs

-- whatever documents the writer took, it took these bits of one more, the first of them
abbrev pub TookFirst : TextWriting → TextWriting → Option Files → Option Files → Bits → Type 0
TookFirst old new before now bits = (docs : List Bits) → IsOnText old before docs [] → IsOnText new now docs bits

-- whatever bits of the open document the writer took, it took these too
abbrev pub TookBits : TextWriting → TextWriting → Option Files → Option Files → Bits → Type 0
TookBits old new before now more = (docs : List Bits) (bits : Bits) → IsOnText old before docs bits →
    IsOnText new now docs (bits ++ more)

-- whatever bits of the open document the writer took, they are a document now
abbrev pub TookDoc : TextWriting → TextWriting → Option Files → Option Files → Type 0
TookDoc old new before now = (docs : List Bits) (bits : Bits) → IsOnText old before docs bits →
    IsOnText new now (docs ++ bits ∷ []) []

-- a fact on the documents that a writer took, where the files are told and none is open
abbrev pub WhereClosed : TextWriting → Option Files → (List Bits → Type 0) → Type 0
WhereClosed w files fact = (docs : List Bits) → IsOnText w files docs [] → IsSome files → fact docs

-- a document more was begun, of so many pairs
pub record Began (old new : TextWriting) (count : ℕ) : Type 0 where
  pub docs : new.docs ≡ old.docs + 1
  pub pairs : new.pairs ≡ old.pairs + count
  pub is_open : new.is_open ≡ true
  pub left : new.left ≡ 2 * count

-- a piece more of the open document was put
pub record PutOne (old new : TextWriting) : Type 0 where
  pub docs : new.docs ≡ old.docs
  pub pairs : new.pairs ≡ old.pairs
  pub is_open : new.is_open ≡ old.is_open
  pub left : new.left ≡ old.left - 1

-- the open document was ended
pub record Ended (old new : TextWriting) : Type 0 where
  pub docs : new.docs ≡ old.docs
  pub pairs : new.pairs ≡ old.pairs
  pub is_open : new.is_open ≡ false
  pub left : new.left ≡ 0

-- the parts of a base hold these documents, by their bits and by the bytes that these make, and their places
pub record DocumentsStand (base : List ℕ) (files : Option Files) (docs : List Bits) : Type 0 where
  pub text : bits_of (bytes_at files (full_name base Text)) ≡ bits_of (text_bytes docs)
  pub bytes : bytes_at files (full_name base Text) ≡ text_bytes docs
  pub places : bytes_at files (full_name base Places) ≡ flat_map eight (running 0 (sizes docs))

-- ---- what calls promise

-- each file but that of this name is as before
abbrev pub KeepsBut : List ℕ → Option Files → Option Files → Type 0
KeepsBut name files_before files_now = (n : List ℕ) → n ≢ name → file_at files_now n ≡ file_at files_before n

-- what a call promises that writes on
pub record WritesOn {T : Type 0} (claim change : Type 0) (kept : Option Files → Option Files → Type 0)
    (old new : TextWriting) (result : Result T PutErr) (files_before files_now : Option Files)
    (reads_before reads_now : Reads) (faults_before faults_now : ℕ) : Type 0 where
  -- what the writer took
  pub took : claim
  -- how its numbers changed
  pub numbers : change
  -- it writes under the same base
  pub base : new.base ≡ old.base
  -- other files are as before
  pub others : kept files_before files_now
  -- the store tells its files where it did
  pub told : is_some files_now ≡ is_some files_before
  -- no part is read
  pub reads : SameReads reads_before reads_now
  -- a device's failure has a cause
  pub cause : HasPutCause faults_before faults_now result

-- the same by the functions that tell of a store
abbrev pub Writes : {X T : Type 0} → Type 0 → Type 0 → (Option Files → Option Files → Type 0) → TextWriting →
    TextWriting → Result T PutErr → (X → Option Files) → (X → Reads) → (X → ℕ) → X → X → Type 0
Writes claim change kept old new result files reads faults before now = Between files reads faults before now
    (WritesOn claim change kept old new result)
