-- What a trial prints, and why it stops.
use Rattle.std.specs.Prelude.{◌≡◌, ◌<◌, ◌≤◌, ℕ, true, List, length, codes, Some, IfErr, IfOk}
use Rattle.std.specs.declared.option.Option.{Option}
use Rattle.std.specs.declared.result.Result.{Result}
use Rattle.mg_dev.specs.Causes.{Rose}
use Rattle.mg_dev.specs.Each.{ForEach}
use Rattle.mg_dev.specs.Files.{Files, file_at}
use Rattle.mg_dev.specs.declared.fault.Fault.{Fault}
use Rattle.mg_dev.specs.declared.fault.Fault.TheVariants.{StoreFault, WriteFault, TooLarge, TooManyDocuments, TooManyPieces, Memory}
use Rattle.mg_dev.specs.declared.store.Store as stores
use Rattle.mg_defs.specs.declared.Stream.{Stream}
use Rattle.mg_defs.specs.Limits.{held_bytes, version_2}
use Rattle.mg_defs.specs.WithinLimits.{IsWithinLimits}
use Rattle.mg_defs.specs.Generator.{made_collection}
use Rattle.mg_defs.specs.Marks.{Mark, PassesFirst, start, piece}
use Rattle.mg_defs.specs.Occurrences.{occurrences}
use Rattle.mg_defs.specs.Replies.{session}
use Rattle.mg_defs.specs.Terms.{dictionary}
use Rattle.mg_layout.specs.Stands.{Stands}
use Rattle.mg_dev.specs.Runs.{IsDone, RefusedFor}
use Rattle.mg_top.specs.declared.comparing.Replies.{Replies}
use Rattle.mg_top.specs.declared.trial_summary.TrialSummary.{TrialSummary}

-- the file of the collection, and the base of its set
abbrev pub text_name : List ℕ
text_name = codes "text"

abbrev pub set_name : List ℕ
set_name = codes "set"

-- The collection is in its file, and the set stands for it.
pub record IsBuilt (files : Option Files) (collection : List ℕ) : Type 0 where
  pub stands : Stands files set_name collection
  pub text : file_at files text_name ≡ Some collection
  pub few : length collection ≤ held_bytes

-- what the replies to a session's input are: from the set and from the text the same
abbrev pub replies_of : List ℕ → List ℕ → Replies
replies_of collection input = record { bytes = length (session collection input); are_same = true }

-- what a trial finds of a collection of so many documents and a session's input: what is compared is the same
abbrev pub trial_summary : ℕ → List ℕ → List ℕ → TrialSummary
trial_summary docs collection input = record {
  documents = docs;
  bytes = length collection;
  terms = length (dictionary collection);
  occurrences = length (occurrences collection);
  replies = length (session collection input);
  is_decoded = true;
  is_answered = true;
}

-- the cause of each refusal where nothing stands in the way: the store failed, or memory was wanting
abbrev pub Lacks : Type 0 → Fault → Type 0
Lacks store_rose StoreFault = store_rose
Lacks store_rose Memory = Unit {0}
Lacks store_rose _ = ⊥

-- a call over a store stops only where that failed or memory was wanting
pub record StopsLacking {X T : Type 0} (result : Result T Fault) (of : stores.Ghosts X) (store store_now : X) : Type 0 where
  pub cause : IfErr result (Lacks (Rose (of.faults store) (of.faults store_now)))
  pub later : of.faults store ≤ of.faults store_now

-- questions are asked over a store, which keeps its files; of each collection that is built there, they stop only so
pub record AsksBuilt {X T : Type 0} (result : Result T Fault) (of : stores.Ghosts X) (store store_now : X) : Type 0 where
  pub files : of.files store_now ≡ of.files store
  pub cause : ForEach (IsBuilt (of.files store))
      (λ collection. IfErr result (Lacks (Rose (of.faults store) (of.faults store_now))))
  pub later : of.faults store ≤ of.faults store_now

-- the cause of each refusal of a trial, by the collection that it makes
abbrev pub TrialStops : Type 0 → Type 0 → List ℕ → Fault → Type 0
TrialStops store_rose output_rose collection StoreFault = store_rose
TrialStops store_rose output_rose collection WriteFault = output_rose
TrialStops store_rose output_rose collection (TooLarge size most) = (most ≡ held_bytes) × (most < size)
    × (length collection ≡ size)
TrialStops store_rose output_rose collection TooManyDocuments = PassesFirst version_2 collection start
TrialStops store_rose output_rose collection (TooManyPieces stream) = (bytes : List ℕ)
    × PassesFirst version_2 collection (piece stream bytes)
TrialStops store_rose output_rose collection Memory = Unit {0}
TrialStops store_rose output_rose collection _ = ⊥

-- why a trial stops, by how often the store and the output failed before it and after it
abbrev pub TrialStopsBy : {X Z T : Type 0} → (X → ℕ) → (Z → ℕ) → X → X → Z → Z → Result T Fault → List ℕ → Type 0
TrialStopsBy store_faults output_faults store store_now out out_now result collection =
    IfErr result (TrialStops (Rose (store_faults store) (store_faults store_now))
    (Rose (output_faults out) (output_faults out_now)) collection)

-- what is answered is a sink that holds these bytes
abbrev pub HoldsText : {Z : Type 0} → (Z → Option (List ℕ)) → Result Z Fault → List ℕ → Type 0
HoldsText written result bytes = IfOk result (λ out. written out ≡ Some bytes)

-- ---- the collection that is made from these numbers

-- its text can be held in memory
abbrev pub IsHeld : ℕ → ℕ → Type 0
IsHeld seed docs = length (made_collection seed docs) ≤ held_bytes

-- it is within the limits of a set
abbrev pub IsAllowed : ℕ → ℕ → Type 0
IsAllowed seed docs = IsWithinLimits 2 (made_collection seed docs)

-- at this mark it first goes beyond one of them
abbrev pub IsBeyondAt : ℕ → ℕ → Mark → Type 0
IsBeyondAt seed docs mark = PassesFirst version_2 (made_collection seed docs) mark

-- a fact where its text can be held, and at this mark it first goes beyond one of them
abbrev pub WhereBeyond : ℕ → ℕ → Mark → Type 0 → Type 0
WhereBeyond seed docs mark fact = IsHeld seed docs → IsBeyondAt seed docs mark → fact

-- a fact where its text can be held, and it is within them
abbrev pub WhereAllowed : ℕ → ℕ → Type 0 → Type 0
WhereAllowed seed docs fact = IsHeld seed docs → IsAllowed seed docs → fact

-- How the work before the first line ends, by whether the store failed, and by what was made.
pub record WorkEnds (store_rose : Type 0) (docs : ℕ) (collection input : List ℕ) (result : Result TrialSummary Fault) :
    Type 0 where
  pub done : IfOk result (λ summary. summary ≡ trial_summary docs collection input)
  pub cause : IfErr result (TrialStops store_rose ⊥ collection)
  pub large : held_bytes < length collection → RefusedFor result (TooLarge (length collection) held_bytes)
  pub documents : length collection ≤ held_bytes → PassesFirst version_2 collection start →
      RefusedFor result TooManyDocuments
  pub pieces : (stream : Stream) (bytes : List ℕ) → length collection ≤ held_bytes →
      PassesFirst version_2 collection (piece stream bytes) → RefusedFor result (TooManyPieces stream)
  pub complete : length collection ≤ held_bytes → IsWithinLimits 2 collection → (store_rose → ⊥) → IsDone result
