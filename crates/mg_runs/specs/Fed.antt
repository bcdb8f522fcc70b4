-- What the runs so far, the pool and the file stand for.
use Rattle.std.specs.Prelude.{◌≡◌, ◌≤◌, ◌<◌, ◌+◌, ◌-◌, ◌*◌, ◌/◌, ◌%◌, ◌^◌, ◌++◌, ℕ, max, min, List, [], ◌∷◌, length, map, drop}
use Rattle.std.specs.Option.{IsSome}
use Rattle.std.specs.List.{AllByRecursion}
use Rattle.std.specs.declared.option.Option.{Option}
use Rattle.mg_defs.specs.Limits.{least_budget, greatest_budget}
use Rattle.mg_dev.specs.Files.{Files, bytes_at}
use Rattle.mg_dev.specs.Names.{full_name}
use Rattle.mg_dev.specs.declared.part.Part.TheVariants.{Run}
use Rattle.mg_defs.specs.Bits.{bits_of, filled, as_bytes}
use Rattle.mg_defs.specs.Heads.{run_count}
use Rattle.mg_defs.specs.Postings.{once}
use Rattle.mg_defs.specs.Runs.{first_runs}
use Rattle.mg_runs.specs.FinishedRuns.{finished}
use Rattle.mg_defs.specs.RunBits.{run_bits, run_part_bits, runs_bits}
use Rattle.mg_defs.specs.declared.TermPosting.{TermPosting}
use Rattle.mg_bits.specs.BitWriting.{BitWriting, Holds, bits_put}
use Rattle.mg_runs.specs.Pooled.{Pooled}

-- runs that are being written: the pool, the writer of the file, the places where the runs begin, and the base of the files
pub record Inverting : Type 0 where
  pub pool : Pooled
  pub writer : BitWriting
  pub places : List ℕ
  pub base : List ℕ

-- how many entries go to a run
abbrev pub cap_of : Pooled → ℕ
cap_of pool = pool.limit / 12

-- where each run begins, the first of them at this place
abbrev pub starts : ℕ → List (List TermPosting) → List ℕ
starts at [] = []
starts at (run ∷ runs) = at ∷ starts (at + length (filled (run_bits run))) runs

-- a term and a document, from 1, that fit in 32 bits
pub record IsOccurrence (o : ℕ × ℕ) : Type 0 where
  pub term : o.0 < 2 ^ 32
  pub some : 1 ≤ o.1
  pub doc : o.1 < 2 ^ 32

abbrev pub AreOccurrences : List (ℕ × ℕ) → Type 0
AreOccurrences fed = AllByRecursion (λ (o : ℕ × ℕ). IsOccurrence o) fed

-- These occurrences were taken: the finished runs are written, and the pool has the rest.
pub record IsFed (runs : Inverting) (files : Option Files) (fed : List (ℕ × ℕ)) : Type 0 where
  pub least : least_budget ≤ runs.pool.limit
  pub most : runs.pool.limit ≤ greatest_budget
  pub slots : runs.pool.slots ≡ []
  pub entries : runs.pool.entries ≡ map once (drop (finished (cap_of runs.pool) (length fed) * cap_of runs.pool) fed)
  pub peak : runs.pool.peak ≡ 12 * min (length fed) (cap_of runs.pool)
  pub name : runs.writer.name ≡ full_name runs.base Run
  pub holds : Holds runs.writer files
  pub written : IsSome files → bits_put runs.writer files ≡ runs_bits
      (first_runs (cap_of runs.pool) (finished (cap_of runs.pool) (length fed)) fed)
  pub place : runs.writer.place
      ≡ length (runs_bits (first_runs (cap_of runs.pool) (finished (cap_of runs.pool) (length fed)) fed))
  pub whole : runs.writer.place % 8 ≡ 0
  pub below : runs.writer.place ≤ 512 * (finished (cap_of runs.pool) (length fed) * cap_of runs.pool)
  pub places : runs.places ≡ starts 0 (first_runs (cap_of runs.pool) (finished (cap_of runs.pool) (length fed)) fed)
  pub occurrences : AreOccurrences fed
  pub few : length fed < 2 ^ 32

-- for all occurrences that may have been taken
abbrev pub ForFed : Inverting → Option Files → (List (ℕ × ℕ) → Type 0) → Type 0
ForFed runs files claim = (fed : List (ℕ × ℕ)) → IsFed runs files fed → claim fed

-- one more occurrence was taken than before, whatever these were
abbrev pub TookOne : {X : Type 0} → (X → Option Files) → X → X → Inverting → Inverting → ℕ × ℕ → Type 0
TookOne files before now old new o = (fed : List (ℕ × ℕ)) → length fed < 2 ^ 32 - 1 → IsFed old (files before) fed →
    IsFed new (files now) (fed ++ o ∷ [])

-- Run has the bits of the runs of these occurrences
abbrev pub HasRunBits : Inverting → Option Files → List (ℕ × ℕ) → Type 0
HasRunBits runs files fed = bits_of (bytes_at files (full_name runs.base Run)) ≡ run_part_bits (cap_of runs.pool) fed

-- Run has the bytes of the runs of these occurrences
abbrev pub HasRunBytes : Inverting → Option Files → List (ℕ × ℕ) → Type 0
HasRunBytes runs files fed = bytes_at files (full_name runs.base Run) ≡ as_bytes (run_part_bits (cap_of runs.pool) fed)

-- the greatest use of a pool by so many occurrences, of which so many go to a run, with so many runs merged at a time
abbrev pub peak_of : ℕ → ℕ → ℕ → ℕ
peak_of count cap width = max (12 * min count cap) (64 * min (run_count count cap) width)
