-- Runs in groups, each of which is joined into one run.
use Rattle.std.specs.Prelude.{◌≡◌, ◌≤◌, ◌<◌, ◌+◌, ◌-◌, ◌*◌, ◌/◌, ◌%◌, ◌^◌, ℕ, List, length, map, min, sum_by}
use Rattle.std.specs.List.{All}
use Rattle.std.specs.Simd.{first_chunks}
use Rattle.mg_defs.specs.Bits.{Bits, bits_of}
use Rattle.mg_defs.specs.declared.TermPosting.{TermPosting}
use Rattle.mg_defs.specs.Postings.{merged}
use Rattle.mg_defs.specs.RunBits.{runs_bits}
use Rattle.mg_runs.specs.Cursors.{IsRun}
use Rattle.mg_runs.specs.Fed.{starts}
use Rattle.mg_runs.specs.Merging.{AreRuns}

-- the runs in groups of so many, the last of them maybe of fewer
abbrev pub groups_of : ℕ → List (List TermPosting) → List (List (List TermPosting))
groups_of width runs = first_chunks width ((length runs + width - 1) / width) runs

-- the first so many groups, each joined into one run
abbrev pub first_joined : ℕ → ℕ → List (List TermPosting) → List (List TermPosting)
first_joined width count runs = map (λ group. merged group) (first_chunks width count runs)

-- the runs after a round: each group joined into one
abbrev pub joined_runs : ℕ → List (List TermPosting) → List (List TermPosting)
joined_runs width runs = first_joined width ((length runs + width - 1) / width) runs

-- how many postings they have together
abbrev pub all_postings : List (List TermPosting) → ℕ
all_postings runs = sum_by (λ run. length run) runs

-- a run that can be written and read again: it has a posting, and its header fits
pub record IsWritten (run : List TermPosting) : Type 0 where
  pub some : 1 ≤ length run
  pub short : 1 + length run < 2 ^ 32

-- runs that can
pub record AreWritten (runs : List (List TermPosting)) : Type 0 where
  pub are : AreRuns runs
  pub each : All (λ run. IsWritten run) runs
  pub few : all_postings runs < 2 ^ 32

-- The file has runs, one after another, and nothing else. They begin at these places, and are these postings, merged.
pub record AreStored (file places : List ℕ) (whole : List TermPosting) : Type 0 where
  pub runs : List (List TermPosting)
  pub written : AreWritten runs
  pub bits : bits_of file ≡ runs_bits runs
  pub stand : places ≡ starts 0 runs
  pub same : merged runs ≡ whole

-- The runs before this one are joined in groups of so many: what was written of them, and where each joined run begins.
pub record AreJoined (width : ℕ) (runs : List (List TermPosting)) (at : ℕ) (bits : Bits) (places : List ℕ) : Type 0
  where
    pub count : ℕ
    pub next : at ≡ min (count * width) (length runs)
    pub last : count * width < length runs + width
    pub written : bits ≡ runs_bits (first_joined width count runs)
    pub stand : places ≡ starts 0 (first_joined width count runs)

-- This group of runs may be joined and written as one run behind so many bits.
pub record IsGroupAt (group : List (List TermPosting)) (place : ℕ) : Type 0 where
  pub are : AreRuns group
  pub run : IsRun (merged group)
  pub some : 1 ≤ length (merged group)
  pub few : 1 + length (merged group) < 2 ^ 32
  pub below : place < 2 ^ 41
  pub whole : place % 8 ≡ 0

-- So many groups go up to here, whatever the file says.
pub record AreCounted (width many at count : ℕ) : Type 0 where
  pub next : at ≡ min (count * width) many
  pub last : count * width < many + width
