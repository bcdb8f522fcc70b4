-- Where a cursor stands in a run.
use Rattle.std.specs.Prelude.{◌≡◌, ◌≤◌, ◌<◌, ◌+◌, ◌*◌, ◌/◌, ◌++◌, ◌^◌, ℕ, List, [], ◌∷◌, length, take, drop}
use Rattle.std.specs.List.{AllByRecursion}
use Rattle.std.specs.declared.result.Result.{Result}
use Rattle.std.specs.Prelude.{Ok, Err}
use Rattle.mg_dev.specs.declared.part_err.PartErr.{PartErr}
use Rattle.mg_dev.specs.declared.part_err.PartErr.TheVariants.{Device, Memory, Bad}
use Rattle.mg_defs.specs.Bits.{Bits, bits_of}
use Rattle.mg_defs.specs.Postings.{AllAfter, RisingByTerm}
use Rattle.mg_defs.specs.RunBits.{postings_bits, run_bits}
use Rattle.mg_defs.specs.declared.TermPosting.{TermPosting}
use Rattle.mg_runs.specs.Decoding.{IsInDocument, IsSmall}
use Rattle.mg_runs.specs.Pooled.{Pooled, slot_bytes}
use Rattle.mg_runs.specs.declared.cursor.Cursor.{Cursor}

-- postings as a run has them
pub record IsRun (xs : List TermPosting) : Type 0 where
  pub rising : RisingByTerm xs
  pub small : AllByRecursion (λ x. IsSmall x) xs

-- The cursor is at a posting, behind whose bits the others' follow. Its slot has the bytes of the file from its start on.
pub record IsAtPosting (cursor : Cursor) (slot file : List ℕ) (x : TermPosting) (xs : List TermPosting) : Type 0 where
  pub posting : cursor.posting ≡ x
  pub left : cursor.left ≡ 1 + length xs
  pub more : Bits
  pub bits : drop cursor.place (bits_of file) ≡ postings_bits x xs ++ more
  pub below : cursor.place ≤ length (bits_of file)
  pub short : length (bits_of file) ≤ 2 ^ 61
  pub near : 8 * cursor.start ≤ cursor.place
  pub within : cursor.count ≤ 64
  pub window : take cursor.count slot ≡ take 64 (drop cursor.start file)
  pub after : AllAfter x xs
  pub run : IsRun xs

-- the next bits begin within the first half of the slot
pub record IsNear (cursor : Cursor) : Type 0 where
  pub low : cursor.start ≤ cursor.place / 8
  pub high : cursor.place / 8 ≤ cursor.start + 32

-- the cursor stands for these postings
abbrev pub IsAt : Cursor → List ℕ → List ℕ → List TermPosting → Type 0
IsAt cursor slot file [] = cursor.left ≡ 0
IsAt cursor slot file (x ∷ xs) = IsAtPosting cursor slot file x xs

-- where postings are left, the cursor is at one with a document and a count
abbrev pub HasPosting : Cursor → Type 0
HasPosting cursor = 1 ≤ cursor.left → IsInDocument cursor.posting

-- a run's bits stand at a place
pub record IsRunAt (file : List ℕ) (place : ℕ) (xs : List TermPosting) : Type 0 where
  pub some : 1 ≤ length xs
  pub few : 1 + length xs < 2 ^ 32
  pub run : IsRun xs
  pub more : Bits
  pub bits : drop place (bits_of file) ≡ run_bits xs ++ more
  pub below : place ≤ length (bits_of file)
  pub short : length (bits_of file) ≤ 2 ^ 61

-- it is no lack of memory
abbrev pub NoMemory : {T : Type 0} → Result T PartErr → Type 0
NoMemory (Ok value) = Unit {0}
NoMemory (Err Device) = Unit {0}
NoMemory (Err Memory) = ⊥
NoMemory (Err (Bad bad)) = Unit {0}

-- it is no damage
abbrev pub NoDamage : {T : Type 0} → Result T PartErr → Type 0
NoDamage (Ok value) = Unit {0}
NoDamage (Err Device) = Unit {0}
NoDamage (Err Memory) = Unit {0}
NoDamage (Err (Bad bad)) = ⊥

-- the answer is as told, and is no damage
abbrev pub Tells : {T : Type 0} → Result T PartErr → (T → Type 0) → Type 0
Tells (Ok value) claim = claim value
Tells (Err Device) claim = Unit {0}
Tells (Err Memory) claim = Unit {0}
Tells (Err (Bad bad)) claim = ⊥

-- the cursor is where it was, and its next bits begin within the first half of the slot
pub record IsKept (old new : Cursor) : Type 0 where
  pub near : IsNear new
  pub left : new.left ≡ old.left
  pub place : new.place ≡ old.place

-- one posting less is left than before, and where some are left the cursor is at one
pub record HasMoved (old new : Cursor) : Type 0 where
  pub left : new.left + 1 ≡ old.left
  pub posting : HasPosting new

-- no more postings are left than a run may have, and where some are left the cursor is at one
pub record IsBegun (cursor : Cursor) : Type 0 where
  pub few : cursor.left < 2 ^ 32
  pub posting : HasPosting cursor

-- for each posting behind the one that the cursor is at, with those after it: by the bytes of the file
abbrev pub ForNextAt : Cursor → List ℕ → (List ℕ → TermPosting → List TermPosting → Type 0) → Type 0
ForNextAt cursor slot claim = (file : List ℕ) (x y : TermPosting) (ys : List TermPosting) →
    IsAtPosting cursor slot file x (y ∷ ys) → claim file y ys

-- for each run that begins at a place, where so many bytes of the slot are its first: by the bytes of the file
abbrev pub ForHeader : ℕ → ℕ → List ℕ → (List ℕ → List TermPosting → Type 0) → Type 0
ForHeader place count slot claim = (file : List ℕ) (xs : List TermPosting) → IsRunAt file place xs → count ≤ 64 →
    take count slot ≡ take 64 (drop (place / 8) file) → claim file xs

-- by a slot of the pool, a cursor is at this posting, with these behind it
abbrev pub IsAtPostingBy : Pooled → ℕ → List ℕ → TermPosting → List TermPosting → Cursor → Type 0
IsAtPostingBy pool slot file x xs cursor = IsAtPosting cursor (slot_bytes pool slot) file x xs

-- by a slot of the pool, a cursor stands for these postings
abbrev pub IsAtBy : Pooled → ℕ → List ℕ → List TermPosting → Cursor → Type 0
IsAtBy pool slot file xs cursor = IsAt cursor (slot_bytes pool slot) file xs
