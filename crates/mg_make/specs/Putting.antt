-- A set that is being written.
use Rattle.std.specs.Prelude.{◌≡◌, ◌≢◌, ◌⊎◌, ◌<◌, ◌≤◌, ◌^◌, ◌++◌, ℕ, List, [], length, replicate, IfErr, IfOk, OnOk, Some}
use Rattle.std.specs.Option.{IsSome, is_some}
use Rattle.std.specs.declared.option.Option.{Option}
use Rattle.std.specs.declared.result.Result.{Result}
use Rattle.mg_dev.specs.Causes.{Rose}
use Rattle.mg_dev.specs.declared.fault.Fault.{Fault}
use Rattle.mg_dev.specs.declared.part.Part.{Part as AnyPart}
use Rattle.mg_dev.specs.declared.part.Part.TheVariants.{Nonwords, Plain, Run, Words}
use Rattle.mg_dev.specs.declared.part.Part.TheVariants as part
use Rattle.mg_dev.specs.Files.{Files, GrewInPart, bytes_at, file_at, grown}
use Rattle.mg_dev.specs.Names.{full_name}
use Rattle.mg_defs.specs.CodedText.{IsTextCode, TextCode, pieces_part, places_part, text_part}
use Rattle.mg_defs.specs.Bits.{as_bytes}
use Rattle.mg_defs.specs.Heads.{head_bytes}
use Rattle.mg_defs.specs.WithinLimits.{IsWithinLimits}
use Rattle.mg_defs.specs.Marks.{Mark, marks}
use Rattle.mg_defs.specs.Occurrences.{occurrences}
use Rattle.mg_defs.specs.RunBits.{run_part_bits}
use Rattle.mg_defs.specs.Stands.{head_of}
use Rattle.mg_defs.specs.Summaries.{pool_peak, run_cap}
use Rattle.mg_layout.specs.HeadAnswers.{fields_of}
use Rattle.mg_layout.specs.Stands.{Stands, StandsForNone}
use Rattle.mg_layout.specs.declared.head.Head.{Head}
use Rattle.mg_model.specs.Models.{PartsHold}
use Rattle.mg_make.specs.Finishing.{EndsWith, budget_of}
use Rattle.mg_make.specs.Index.{IndexStands}
use Rattle.mg_index.specs.Listing.{ListStops}
use Rattle.mg_count.specs.Plans.{IsPlanOf, Plan}
use Rattle.mg_count.specs.Scanning.{HasMet, Scanning}
use Rattle.mg_make.specs.Second.{HasWritten, Inversion}
use Rattle.mg_make.specs.Changes.{TellsAtEnd, TellsChange}
use Rattle.mg_make.specs.Written.{OfSecond, SecondStops}
use Rattle.mg_make.specs.declared.inverter.Inverted.{Inverted}
use Rattle.mg_defs.specs.Limits.{least_cap, greatest_cap}

-- ---- names

-- no part of a set of this base has this name
abbrev pub IsApart : List ℕ → List ℕ → Type 0
IsApart base name = (p : AnyPart) → p ≢ Plain → name ≢ full_name base p

-- each file that is no part of a set of this base is as before
pub record OthersSame (base : List ℕ) (before now : Option Files) : Type 0 where
  pub told : is_some now ≡ is_some before
  pub others : (name : List ℕ) → IsApart base name → file_at now name ≡ file_at before name

-- all files are as before, or the head is there and empty
abbrev pub IsUnbuilt : List ℕ → Option Files → Option Files → Type 0
IsUnbuilt base before now = (now ≡ before) ⊎ (IsSome before → file_at now (full_name base part.Head) ≡ Some [])

-- the parts that are written before the lists: those of the second pass, and the models
abbrev pub OfPass : AnyPart → Type 0
OfPass Words = Unit {0}
OfPass Nonwords = Unit {0}
OfPass p = OfSecond p

-- ---- the writer

-- the base, the plan and the size of the pool, what was scanned, what was written, the sums of the documents, and the number of bytes
pub record Putting : Type 0 where
  pub base : List ℕ
  pub plan : Plan
  pub limit : ℕ
  pub scanning : Scanning
  pub pass : Inversion
  pub sums : List ℕ
  pub size : ℕ

-- These bytes were put: the head is there and empty, the models are written, and text and runs of what was met in the bytes.
pub record HasPut (w : Putting) (files : Option Files) (fed : List ℕ) : Type 0 where
  pub met : List Mark
  pub scanned : HasMet w.scanning fed met
  pub written : HasWritten w.pass files met
  pub base_is : w.pass.base ≡ w.base
  pub plan_is : w.pass.plan ≡ w.plan
  pub limit_is : budget_of w.pass ≡ w.limit
  pub head : IsSome files → file_at files (full_name w.base part.Head) ≡ Some []
  pub models : IsSome files → PartsHold files w.base w.plan.code
  pub sums_are : w.sums ≡ replicate (length w.plan.pairs) 0
  pub size_is : w.size ≡ length fed

-- ---- what stands

-- the parts of a base are those of a collection, with this code and so many occurrences to a run, but for the head
pub record IsReady (cap : ℕ) (files : Option Files) (base : List ℕ) (code : TextCode) (collection : List ℕ) : Type 0
  where
    pub limits : IsWithinLimits 2 collection
    pub code_is : IsTextCode collection code
    pub words : bytes_at files (full_name base Words) ≡ pieces_part code.words
    pub nonwords : bytes_at files (full_name base Nonwords) ≡ pieces_part code.others
    pub text : bytes_at files (full_name base part.Text) ≡ text_part code collection
    pub places : bytes_at files (full_name base part.Places) ≡ places_part 2 code collection
    pub run : bytes_at files (full_name base Run) ≡ as_bytes (run_part_bits cap (occurrences collection))
    pub index : IndexStands files base collection

-- the store tells its files, all parts but the head are ready, and the head is there and empty
pub record LacksOnlyHead (base collection : List ℕ) (cap : ℕ) (code : TextCode) (files : Option Files) : Type 0 where
  pub told : IsSome files
  pub ready : IsReady cap files base code collection
  pub gone : file_at files (full_name base part.Head) ≡ Some []
  pub low : least_cap ≤ cap
  pub high : cap ≤ greatest_cap

-- ---- what the second pass hands on

-- A pass that wrote all marks of these bytes, by this plan and in a pool of so many bytes, ended so.
pub record IsHanded (plan : Plan) (limit : ℕ) (base fed : List ℕ) (before now : Option Files) (r : Inverted) : Type 0
  where
    pub few : length fed < 2 ^ 32
    pub pass : Inversion
    pub middle : Option Files
    pub written : HasWritten pass middle (marks fed)
    pub ends : EndsWith pass (marks fed) middle now r
    pub plan_is : pass.plan ≡ plan
    pub limit_is : budget_of pass ≡ limit
    pub base_is : pass.base ≡ base
    pub told : is_some middle ≡ is_some before

-- ---- words for its contracts

-- this file is there and empty
abbrev pub IsEmptied : Option Files → List ℕ → AnyPart → Type 0
IsEmptied files base p = file_at files (full_name base p) ≡ Some []

-- this is so of all bytes that were scanned and whose marks were written
abbrev pub ForScanned : Scanning → Inversion → Option Files → (List ℕ → Type 0) → Type 0
ForScanned scanning pass files holds = (fed : List ℕ) (met : List Mark) → HasMet scanning fed met →
    HasWritten pass files met → length fed < 2 ^ 32 → holds fed

-- what the pass ended with is that of these bytes
abbrev pub HandsFor : {E : Type 0} → Inversion → Option Files → Option Files → Result Inverted E → List ℕ → Type 0
HandsFor pass before now result fed = IfOk result (λ (inverted : Inverted).
    IsHanded pass.plan (budget_of pass) pass.base fed before now inverted)

-- for damage or a change, only where the store does not tell its files or this is no plan of the bytes
abbrev pub PlanStops : Type 0 → Plan → Option Files → Fault → List ℕ → Type 0
PlanStops store_rose plan files fault fed = ListStops store_rose (IsSome files × IsPlanOf plan fed) fault

-- this is so of all bytes for which the pass ended with this
abbrev pub ForHanded : Plan → ℕ → List ℕ → Option Files → Inverted → (List ℕ → Type 0) → Type 0
ForHanded plan limit base files inverted holds = (fed : List ℕ) (before : Option Files) →
    IsHanded plan limit base fed before files inverted → holds fed

-- the pass for these bytes can't be ended for such a reason
abbrev pub ScannedRefused : {X T : Type 0} → Scanning → Inversion → (X → Option Files) → (X → ℕ) → X → X →
    Result T Fault → Type 0
ScannedRefused scanning pass files faults before now result =
    IfErr result (λ fault. ForScanned scanning pass (files before)
    (PlanStops (Rose (faults before) (faults now)) pass.plan (files before) fault))

-- and a change is told exactly
abbrev pub ScannedTells : {T : Type 0} → Scanning → Inversion → Option Files → Result T Fault → Type 0
ScannedTells scanning pass files result =
    IfErr result (λ fault. ForScanned scanning pass files (λ fed. TellsChange pass.plan fed fault))

-- what follows the last byte that was put is refused for such a reason
abbrev pub PutRefused : {X T : Type 0} → Putting → (X → Option Files) → (X → ℕ) → X → X → Result T Fault → Type 0
PutRefused w files faults before now result =
    IfErr result (λ fault. (fed : List ℕ) → HasPut w (files before) fed →
    PlanStops (Rose (faults before) (faults now)) w.plan (files before) fault fed)

-- and a change that is told there is told exactly
abbrev pub PutTells : {T : Type 0} → Putting → Option Files → Result T Fault → Type 0
PutTells w files result =
    IfErr result (λ fault. (fed : List ℕ) → HasPut w files fed → TellsAtEnd w.plan fed fault)

-- bytes, behind those that were put and before more, are refused for such a reason
abbrev pub NextRefused : {X T : Type 0} → Putting → (List ℕ → List ℕ) → (X → Option Files) → (X → ℕ) → X → X →
    Result T Fault → Type 0
NextRefused w next files faults before now result =
    IfErr result (λ fault. (fed more : List ℕ) → HasPut w (files before) fed → length (fed ++ next more) < 2 ^ 32
    → SecondStops (Rose (faults before) (faults now)) (IsPlanOf w.plan (fed ++ next more)) fault)

-- and a change that they make is told exactly
abbrev pub NextTells : {T : Type 0} → Putting → (List ℕ → List ℕ) → Option Files → Result T Fault → Type 0
NextTells w next files result =
    IfErr result (λ fault. (fed more : List ℕ) → HasPut w files fed → length (fed ++ next more) < 2 ^ 32
    → TellsChange w.plan (fed ++ next more) fault)

-- where the store tells its files, this is so of the bytes that were put, if the plan is theirs
abbrev pub ForPut : Putting → Option Files → (List ℕ → Type 0) → Type 0
ForPut w files holds = (fed : List ℕ) → IsSome files → HasPut w files fed → IsPlanOf w.plan fed → holds fed

-- the head is that of these bytes, by this plan and with a pool of so many bytes
abbrev pub HasHeadOf : {E : Type 0} → Plan → ℕ → Result (Head × ℕ) E → List ℕ → Type 0
HasHeadOf plan limit result fed = IfOk result (λ made. fields_of made.0 ≡ head_of 2 (run_cap limit) plan.code fed)

-- the greatest use of the pool is that of these bytes
abbrev pub HasPeakOf : {E : Type 0} → ℕ → Result (Head × ℕ) E → List ℕ → Type 0
HasPeakOf limit result fed = IfOk result (λ made. made.1 ≡ pool_peak (length (occurrences fed)) limit)

-- where the store tells its files, it is so if there are so many of the bytes and the plan is theirs
abbrev pub MakesHead : {E : Type 0} → ℕ → Plan → ℕ → Option Files → Result (Head × ℕ) E → List ℕ → Type 0
MakesHead size plan limit files result fed = size ≡ length fed → IsSome files → IsPlanOf plan fed →
    HasHeadOf plan limit result fed

-- all parts but the head are those of the bytes
abbrev pub MakesReady : {T E : Type 0} → Putting → Option Files → Result T E → List ℕ → Type 0
MakesReady w files result fed = OnOk result (IsReady (run_cap w.limit) files w.base w.plan.code fed)

-- the set of this base stands for no collection, or for this one
abbrev pub StandsForNoOther : Option Files → List ℕ → List ℕ → Type 0
StandsForNoOther files base collection = StandsForNone files base ⊎ Stands files base collection

-- the files with the head of a collection appended
abbrev pub with_head : Option Files → List ℕ → ℕ → TextCode → List ℕ → Option Files
with_head files base cap code collection = grown files (full_name base part.Head)
    (head_bytes (head_of 2 cap code collection))

-- the head of a collection was appended in part or not at all
abbrev pub GrewByHead : Option Files → Option Files → List ℕ → ℕ → TextCode → List ℕ → Type 0
GrewByHead before now base cap code collection = GrewInPart before now (full_name base part.Head)
    (head_bytes (head_of 2 cap code collection))

-- this is so between all files that lack only the head of a set, and all other files
abbrev pub WhereHeadLacks : (List ℕ → List ℕ → ℕ → TextCode → Option Files → Option Files → Type 0) → Type 0
WhereHeadLacks holds =
    (base collection : List ℕ) (cap : ℕ) (code : TextCode) (before now : Option Files) →
    LacksOnlyHead base collection cap code before
    → holds base collection cap code before now
