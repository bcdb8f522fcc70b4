-- Runs of one file that are joined into a run of another.
use Rattle.std.specs.Prelude.{◌≡◌, ◌≢◌, ◌≤◌, ◌+◌, ◌*◌, ◌++◌, ◌^◌, ℕ, false, List, length, drop, is_some, Some, None}
use Rattle.std.specs.declared.option.Option.{Option}
use Rattle.std.specs.declared.result.Result.{Result}
use Rattle.mg_dev.specs.declared.part.Part.{Part}
use Rattle.mg_dev.specs.declared.part.Part.TheVariants.{Run, MergeA, MergeB}
use Rattle.mg_dev.specs.declared.part_err.PartErr.{PartErr}
use Rattle.mg_dev.specs.Files.{Files, Reads, file_at}
use Rattle.mg_dev.specs.Names.{full_name, number, same_part}
use Rattle.mg_defs.specs.Bits.{Bits, filled}
use Rattle.mg_defs.specs.Postings.{AllAfter, merged}
use Rattle.mg_defs.specs.RunBits.{before_first, postings_bits, run_bits, runs_bits}
use Rattle.mg_defs.specs.declared.TermPosting.{TermPosting}
use Rattle.mg_bits.specs.BitWriting.{BitWriting, WroteBits}
use Rattle.mg_runs.specs.Cursors.{IsRun, Tells}
use Rattle.mg_runs.specs.Fed.{starts}
use Rattle.mg_runs.specs.Rounds.{AreJoined, joined_runs}
use Rattle.mg_runs.specs.Merging.{AreLeft}
use Rattle.mg_runs.specs.declared.cursor.Cursor.{Cursor}
use Rattle.mg_runs.specs.declared.join.Counted.{Counted}
use Rattle.mg_runs.specs.declared.round.Joined.{Joined}

-- calls that read this part alone, and write to the file of this name alone
pub record Passed (part : Part) (name : List ℕ) (files_before files_now : Option Files) (reads_before reads_now : Reads)
    (faults_before faults_now : ℕ) : Type 0 where
  pub told : is_some files_now ≡ is_some files_before
  pub others : (n : List ℕ) → n ≢ name → file_at files_now n ≡ file_at files_before n
  pub later : (p : Part) → reads_before p ≤ reads_now p
  pub reads : (p : Part) → same_part p part ≡ false → reads_now p ≡ reads_before p
  pub faults : faults_before ≤ faults_now

-- Of these bits those up to a posting are written, and those of the postings that are left are not.
pub record IsPutting (slots : List (List ℕ)) (cursors : List Cursor) (file : List ℕ)
    (files_before files_now : Option Files) (old new : BitWriting) (last : TermPosting) (bits : Bits) : Type 0 where
  pub left : List TermPosting
  pub has : AreLeft slots cursors file left
  pub done : Bits
  pub wrote : WroteBits old new files_before files_now done
  pub rest : done ++ postings_bits last left ≡ bits
  pub before : AllAfter last left
  pub run : IsRun left
  pub room : new.place + 256 * length left ≤ 2 ^ 61

-- One more posting is written, or there was none left.
abbrev pub IsPut : List (List ℕ) → List Cursor → List ℕ → Option Files → Option Files → BitWriting → BitWriting →
    Option TermPosting → Bits → Type 0
IsPut slots cursors file files_before files_now old new None bits = WroteBits old new files_before files_now bits
IsPut slots cursors file files_before files_now old new (Some last) bits =
    IsPutting slots cursors file files_before files_now old new last bits

-- so many of the postings that were left are counted
pub record IsCounting (slots : List (List ℕ)) (cursors : List Cursor) (file : List ℕ) (left : List TermPosting)
    (count : ℕ) : Type 0 where
  pub has : AreLeft slots cursors file (drop count left)
  pub within : count ≤ length left

-- The groups of runs before this one are joined behind what was written before: so many bits were written, and the joined runs begin at these places.
pub record IsJoining (width : ℕ) (runs : List (List TermPosting)) (at : ℕ) (places : List ℕ)
    (files_before files_now : Option Files) (old new : BitWriting) : Type 0 where
  pub bits : Bits
  pub joined : AreJoined width runs at bits places
  pub wrote : WroteBits old new files_before files_now bits

-- All groups are joined.
pub record IsJoined (width : ℕ) (runs : List (List TermPosting)) (places : List ℕ)
    (files_before files_now : Option Files) (old new : BitWriting) : Type 0 where
  pub wrote : WroteBits old new files_before files_now (runs_bits (joined_runs width runs))
  pub stand : places ≡ starts 0 (joined_runs width runs)

-- The merge part that the next round writes.
abbrev pub other : Part → Part
other MergeA = MergeB
other part = MergeA

-- Run or a merge part.
pub record IsRunPart (part : Part) : Type 0 where
  pub low : 10 ≤ number part
  pub high : number part ≤ 12

-- calls that read the parts of the runs of a base alone, and write to their files alone
pub record Worked (base : List ℕ) (files_before files_now : Option Files) (reads_before reads_now : Reads)
    (faults_before faults_now : ℕ) : Type 0 where
  pub told : is_some files_now ≡ is_some files_before
  pub others : (n : List ℕ) → n ≢ full_name base Run → n ≢ full_name base MergeA → n ≢ full_name base MergeB →
      file_at files_now n ≡ file_at files_before n
  pub later : (p : Part) → reads_before p ≤ reads_now p
  pub reads : (p : Part) → same_part p Run ≡ false → same_part p MergeA ≡ false → same_part p MergeB ≡ false →
      reads_now p ≡ reads_before p
  pub faults : faults_before ≤ faults_now

-- these postings, the first of a run, were written
abbrev pub WrotePostings : {X : Type 0} → (X → Option Files) → X → X → BitWriting → BitWriting → List TermPosting →
    Type 0
WrotePostings files before now old new xs = WroteBits old new (files before) (files now) (postings_bits before_first xs)

-- these postings were written as a run that ends at a byte, and there is no damage
abbrev pub WritesPostings : {X T : Type 0} → (X → Option Files) → X → X → BitWriting → BitWriting → Result T PartErr →
    List TermPosting → Type 0
WritesPostings files before now old new result xs =
    Tells result (λ _. WroteBits old new (files before) (files now) (filled (run_bits xs)))

-- these runs were written as one, merged, and there is no damage
abbrev pub WritesRun : {X T : Type 0} → (X → Option Files) → X → X → BitWriting → BitWriting → Result T PartErr →
    List (List TermPosting) → Type 0
WritesRun files before now old new result runs = WritesPostings files before now old new result (merged runs)

-- so many postings were counted as these runs have, merged
abbrev pub Counts : Counted → List (List TermPosting) → Type 0
Counts counted runs = counted.count ≡ length (merged runs)

-- the groups of these runs were joined into runs that were written, and begin at the places that were made
abbrev pub GroupsJoined : {X : Type 0} → ℕ → List (List TermPosting) → (X → Option Files) → X → X → BitWriting →
    BitWriting → Joined → Type 0
GroupsJoined width runs files before now old new made = IsJoined width runs made.places.items (files before) (files now)
    old new
