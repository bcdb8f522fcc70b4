-- How many pages a call reads of a part, and how many places a look-up looks at.
use Rattle.std.specs.Prelude.{◌≡◌, ◌≤◌, ◌+◌, ◌*◌, ◌/◌, ℕ, Bool, true, List, IfOk}
use Rattle.std.specs.Option.{IsSome}
use Rattle.std.specs.Int.{div_ceil}
use Rattle.std.specs.declared.option.Option.{Option}
use Rattle.std.specs.declared.result.Result.{Result}
use Rattle.mg_dev.specs.declared.device.Failed.{Failed}
use Rattle.mg_dev.specs.declared.part.Part.{Part}
use Rattle.mg_dev.specs.Causes.{HasCause}
use Rattle.mg_dev.specs.Files.{Files, Reads, bytes_at}
use Rattle.mg_bits.specs.Feed.{held_after, lacks}
use Rattle.mg_bits.specs.Pages.{Fits, Looked, Paging, SameFile}
use Rattle.mg_defs.specs.Codes.{ceil_log2}

-- A call that read the bytes from one place up to another read at most one page for each page boundary between them, and the page
-- of the first where it was not held. The page that is held now counts for the next byte, and is that of the last byte that was read.
pub record ReadOn (old new : Paging) (before now : Reads) (from to : ℕ) : Type 0 where
  pub pages : now old.part + lacks new.held (to / 4096) + from / 4096
      ≤ before old.part + lacks old.held (from / 4096) + to / 4096
  pub order : from ≤ to
  pub held : new.held ≡ held_after 4096 old.held (8 * from) (8 * to)

-- A call that read no byte past a place, and that may have stopped before it.
pub record ReadTo (old : Paging) (before now : Reads) (from to : ℕ) : Type 0 where
  pub pages : now old.part + from / 4096 ≤ before old.part + lacks old.held (from / 4096) + to / 4096

-- A call that reads a file through its feed, from a place on and no byte past another.
pub record ReadsUpTo {T : Type 0} (old new : Paging) (from to : ℕ) (result : Result T Failed)
    (files_before files_now : Option Files) (reads_before reads_now : Reads) (faults_before faults_now : ℕ) : Type 0
  where
    -- the page that the feed holds agrees with the file
    pub fits : Fits new files_now
    -- it reads the same file
    pub file : SameFile old new
    -- no file changed, and no other part was read
    pub looked : Looked old.part files_before files_now reads_before reads_now faults_before faults_now
    -- no byte past the place was read
    pub read_to : ReadTo old reads_before reads_now from to
    -- a refusal has its cause in the device
    pub cause : HasCause faults_before faults_now result

-- where all of it is answered
abbrev pub OnWhole : Bool → Type 0 → Type 0
OnWhole whole fact = whole ≡ true → fact

-- A call that answers what it read of a file through its feed, from a place on and no byte past another.
pub record ReadsPiece {T : Type 0} (old new : Paging) (from to : ℕ) (result : Result T Failed) (tells : List ℕ → T → Type 0)
    (all : T → Type 0 → Type 0) (files_before files_now : Option Files) (reads_before reads_now : Reads)
    (faults_before faults_now : ℕ) : Type 0
  where
    -- no byte past the place was read, and nothing else
    pub read : ReadsUpTo old new from to result files_before files_now reads_before reads_now faults_before faults_now
    -- the answer is what the bytes of the file tell
    pub told : IsSome files_before → IfOk result (tells (bytes_at files_before old.name))
    -- where it answers all of the piece, it read on to the place
    pub read_on : IfOk result (λ answer. all answer (ReadOn old new reads_before reads_now from to))

-- So many places were looked at: each takes one page of the places, and the four entries at most from it on lie on two pages.
pub record ReadLooks (strings places : Part) (before now : Reads) (looks : ℕ) : Type 0 where
  pub places_read : now places ≤ before places + looks
  pub strings_read : now strings ≤ before strings + 2 * looks

-- how often so many blocks can be halved until none is left: the whole part of their logarithm and one
abbrev pub halvings : ℕ → ℕ
halvings blocks = ceil_log2 (blocks + 1)

-- how many places a look-up among so many entries looks at, at most: one for each halving of the blocks of four, and that of the block that is left
abbrev pub looks : ℕ → ℕ
looks count = halvings (div_ceil count 4) + 1
