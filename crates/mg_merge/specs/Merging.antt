-- What a merge makes, what it leaves, and why it stops.
use Rattle.std.specs.Prelude.{◌≡◌, ◌⊎◌, ◌<◌, ◌+◌, ◌*◌, ℕ, List, max, if◌then◌else◌}
use Rattle.std.specs.Option.{IsSome}
use Rattle.std.specs.declared.option.Option.{Option}
use Rattle.mg_dev.specs.Files.{Files}
use Rattle.mg_dev.specs.declared.fault.Fault.{Fault}
use Rattle.mg_dev.specs.declared.fault.Fault.TheVariants.{Damaged, Memory, NotBuilt, SameName, StoreFault, TooLarge, TooManyDocuments, TooManyPieces}
use Rattle.mg_defs.specs.Heads as heads
use Rattle.mg_defs.specs.Join.{join}
use Rattle.mg_defs.specs.Limits.{least_budget, occurrence_bytes, version_2}
use Rattle.mg_defs.specs.Marks.{PassesFirst, piece, start}
use Rattle.mg_layout.specs.Stands.{HasNoHead, Stands, StandsIn}
use Rattle.mg_merge.specs.Stops.{AreHeads, TellBeyond}
use Rattle.mg_make.specs.Outcomes.{most_bytes}

-- ---- what it makes

-- the pool of a merge, by the cap of the first set: runs have as many occurrences again
abbrev pub budget_of : ℕ → ℕ
budget_of cap = max least_budget (occurrence_bytes * cap)

-- the bytes of both collections by their heads, with the one that closes the first
abbrev pub joined_size : heads.Head → heads.Head → ℕ
joined_size a b = a.collection + b.collection + (if a.open_end then 1 else 0)

-- Both sets stand, for these collections.
pub record BothStand (files : Option Files) (first second a b : List ℕ) : Type 0 where
  pub first_stands : Stands files first a
  pub second_stands : Stands files second b

-- the heads of both sets tell so many bytes
pub record IsSizeByHeads (files : Option Files) (first second : List ℕ) (size : ℕ) : Type 0 where
  pub a : heads.Head
  pub b : heads.Head
  pub are : AreHeads files first second a b
  pub size_is : size ≡ joined_size a b

-- ---- why it stops

-- the cause of each refusal, by the files as it began and the three bases; over any sets a limit is passed only where the heads tell it
abbrev pub MergeStops : Type 0 → Option Files → List ℕ → List ℕ → List ℕ → Fault → Type 0
MergeStops store_rose files first second new StoreFault = store_rose
MergeStops store_rose files first second new NotBuilt = IsSome files → HasNoHead files first ⊎ HasNoHead files second
MergeStops store_rose files first second new (Damaged bad) = (a b : List ℕ) → BothStand files first second a b → ⊥
MergeStops store_rose files first second new (TooLarge size most) = (most ≡ most_bytes) × (most < size)
    × (IsSome files → IsSizeByHeads files first second size)
MergeStops store_rose files first second new TooManyDocuments = ((a b : List ℕ) → BothStand files first second a b →
    PassesFirst version_2 (join a b) start) × (IsSome files → TellBeyond files first second TooManyDocuments)
MergeStops store_rose files first second new (TooManyPieces stream) = ((a b : List ℕ) →
    BothStand files first second a b → (bytes : List ℕ) × PassesFirst version_2 (join a b) (piece stream bytes))
    × (IsSome files → TellBeyond files first second (TooManyPieces stream))
MergeStops store_rose files first second new Memory = Unit {0}
MergeStops store_rose files first second new SameName = (new ≡ first) ⊎ (new ≡ second)
MergeStops store_rose files first second new _ = ⊥

-- ---- words for contracts

-- this is so of the cap and of the collections in one, for each two collections that the sets of these bases stand for
abbrev pub ForBoth : Option Files → List ℕ → List ℕ → (ℕ → List ℕ → Type 0) → Type 0
ForBoth files first second holds = (version cap : ℕ) (a b : List ℕ) → StandsIn version cap files first a →
    Stands files second b → holds cap (join a b)
