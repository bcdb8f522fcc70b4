-- What a call that makes a set leaves.
use Rattle.std.specs.Prelude.{◌≡◌, ◌⊎◌, ◌<◌, ◌≤◌, ℕ, List, [], length, IfOk, OnOk, Some}
use Rattle.std.specs.declared.option.Option.{Option}
use Rattle.std.specs.declared.result.Result.{Result}
use Rattle.mg_dev.specs.Causes.{Rose}
use Rattle.mg_dev.specs.Files.{Files, Reads, file_at}
use Rattle.mg_dev.specs.Moments.{StoreAt, store_at}
use Rattle.mg_dev.specs.Names.{full_name}
use Rattle.mg_dev.specs.Runs.{IsDone, RefusedFor}
use Rattle.mg_dev.specs.declared.part.Part.TheVariants.{MergeA, MergeB}
use Rattle.mg_dev.specs.declared.fault.Fault.{Fault}
use Rattle.mg_dev.specs.declared.fault.Fault.TheVariants.{NoCollection, NotBuilt, TooLarge, TooManyDocuments, TooManyPieces, NameClash, SameName}
use Rattle.mg_defs.specs.declared.Stream.{Stream}
use Rattle.mg_defs.specs.Limits.{version_2}
use Rattle.mg_defs.specs.WithinLimits.{IsWithinLimits}
use Rattle.mg_defs.specs.Marks.{PassesFirst, piece, start}
use Rattle.mg_defs.specs.Summaries.{run_cap}
use Rattle.mg_layout.specs.Stands.{Stands, StandsForNone, StandsIn}
use Rattle.mg_make.specs.Summaries.{summary_of}
use Rattle.mg_make.specs.declared.summary.Summary.{Summary}

-- the most bytes of a collection of which a set is made
abbrev pub most_bytes : ℕ
most_bytes = version_2.collection

-- a refusal before the first write
abbrev pub IsEarly : Fault → Type 0
IsEarly NoCollection = Unit {0}
IsEarly NotBuilt = Unit {0}
IsEarly (TooLarge size most) = Unit {0}
IsEarly TooManyDocuments = Unit {0}
IsEarly (TooManyPieces stream) = Unit {0}
IsEarly (NameClash part) = Unit {0}
IsEarly SameName = Unit {0}
IsEarly _ = ⊥

-- all files are as before, or a set that stands for no collection, or one that stands for this one
abbrev pub Left : List ℕ → Option Files → Option Files → List ℕ → Type 0
Left base before now collection = (now ≡ before) ⊎ (StandsForNone now base ⊎ Stands now base collection)

-- The set of this base stands for the collection in version 2, with so many occurrences to a run, and its working parts are empty.
pub record AreMadeAnew (files : Option Files) (base collection : List ℕ) (cap : ℕ) : Type 0 where
  pub stands : StandsIn 2 cap files base collection
  pub merge_a : file_at files (full_name base MergeA) ≡ Some []
  pub merge_b : file_at files (full_name base MergeB) ≡ Some []

-- ---- words for contracts of calls that make a set

-- this is so of a store before a call and after it
abbrev pub BetweenMoments : {X : Type 0} → (X → Option Files) → (X → Reads) → (X → ℕ) → X → X →
    (StoreAt → StoreAt → Type 0) → Type 0
BetweenMoments files reads faults before now holds = holds (store_at files reads faults before)
    (store_at files reads faults now)

-- a device failed between a call's begin and its end
abbrev pub Fails : {X : Type 0} → (X → ℕ) → X → X → Type 0
Fails faults before now = Rose (faults before) (faults now)

-- when it is done, the set of a base stands for a collection, as a pool of so many bytes makes it
abbrev pub MakesSet : {T E : Type 0} → ℕ → Option Files → List ℕ → Result T E → List ℕ → Type 0
MakesSet budget files base result collection = OnOk result (StandsIn 2 (run_cap budget) files base collection)

-- the summary has the numbers of a collection, with a pool of so many bytes
abbrev pub HasSummaryOf : {E : Type 0} → ℕ → Result Summary E → List ℕ → Type 0
HasSummaryOf budget result collection = IfOk result (λ (summary : Summary). summary ≡ summary_of budget collection)

-- too many bytes are refused
abbrev pub RefusesSize : {T : Type 0} → Result T Fault → ℕ → Type 0
RefusesSize result size = most_bytes < size → RefusedFor result (TooLarge size most_bytes)

-- bytes that are not too many are refused where it is a document that passes the limits first
abbrev pub RefusesDocuments : {T : Type 0} → Result T Fault → List ℕ → Type 0
RefusesDocuments result bytes = length bytes ≤ most_bytes → PassesFirst version_2 bytes start →
    RefusedFor result TooManyDocuments

-- and where it is this piece
abbrev pub RefusesPieces : {T : Type 0} → Result T Fault → List ℕ → Stream → List ℕ → Type 0
RefusesPieces result bytes stream word = length bytes ≤ most_bytes → PassesFirst version_2 bytes (piece stream word) →
    RefusedFor result (TooManyPieces stream)

-- with bytes within the limits it is done or memory lacks, unless the store fails
abbrev pub Completes : {X T : Type 0} → (X → ℕ) → X → X → Result T Fault → List ℕ → Type 0
Completes faults before now result bytes = IsWithinLimits 2 bytes → ¬ Fails faults before now → IsDone result
