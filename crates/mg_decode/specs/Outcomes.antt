-- Why a call on a whole set stops.
use Rattle.std.specs.Prelude.{◌≡◌, ◌⊎◌, ◌≤◌, ℕ, List, Ok, Err}
use Rattle.std.specs.Option.{IsSome}
use Rattle.std.specs.declared.option.Option.{Option}
use Rattle.std.specs.declared.result.Result.{Result}
use Rattle.mg_dev.specs.Causes.{Rose}
use Rattle.mg_dev.specs.Files.{Files, Reads}
use Rattle.mg_dev.specs.Moments.{NothingWritten, SinkAt, sink_at}
use Rattle.mg_dev.specs.Runs.{IsDone}
use Rattle.mg_dev.specs.Streams.{AfterPut}
use Rattle.mg_dev.specs.Names.{number}
use Rattle.mg_dev.specs.declared.part.Part.{Part}
use Rattle.mg_dev.specs.declared.part.Part.TheVariants.{Text}
use Rattle.mg_dev.specs.declared.fault.Fault.{Fault}
use Rattle.mg_dev.specs.declared.fault.Fault.TheVariants.{Damaged, Memory, NotBuilt, StoreFault, WriteFault}
use Rattle.mg_dev.specs.declared.part_err.PartErr.TheVariants as part
use Rattle.mg_dev.specs.declared.show_err.ShowErr.{ShowErr}
use Rattle.mg_dev.specs.declared.show_err.ShowErr.TheVariants as show
use Rattle.mg_layout.specs.Stands.{ForSetBy, HasNoHead, StandsForNone}
use Rattle.mg_layout.specs.declared.head.Head.{Head}
use Rattle.mg_text.specs.Decoding.{AddsOf}
use Rattle.mg_text.specs.Reading.{ShowIsNotBad}

-- the cause of each refusal of a decoding
abbrev pub DecodeStops : Type 0 → Type 0 → Option Files → List ℕ → Fault → Type 0
DecodeStops store_rose output_rose files base StoreFault = store_rose
DecodeStops store_rose output_rose files base WriteFault = output_rose
DecodeStops store_rose output_rose files base NotBuilt = IsSome files → HasNoHead files base
DecodeStops store_rose output_rose files base (Damaged bad) = StandsForNone files base
DecodeStops store_rose output_rose files base Memory = Unit {0}
DecodeStops store_rose output_rose files base _ = ⊥

-- no page of Text was read
abbrev pub TextUnread : Reads → Reads → Type 0
TextUnread reads reads_now = reads_now Text ≡ reads Text

-- want of memory of its own comes before a page of Text is read and anything is written; else the sink lacked it
abbrev pub LacksEarly : Reads → Reads → SinkAt → SinkAt → Type 0
LacksEarly reads reads_now out out_now =
    (NothingWritten out out_now × TextUnread reads reads_now) ⊎ Rose out.lacks out_now.lacks

-- the cause of each refusal of showing a set
abbrev pub ShowStops : Result (Unit {0}) ShowErr → Reads → Reads → ℕ → ℕ → SinkAt → SinkAt → Type 0
ShowStops (Ok done) r r_now s t out out_now = Unit {0}
ShowStops (Err (show.Part part.Device)) r r_now s t out out_now = Rose s t
ShowStops (Err (show.Part part.Memory)) r r_now s t out out_now = NothingWritten out out_now × TextUnread r r_now
ShowStops (Err (show.Part (part.Bad bad))) r r_now s t out out_now = Unit {0}
ShowStops (Err show.Write) r r_now s t out out_now = Rose out.faults out_now.faults
ShowStops (Err show.Memory) r r_now s t out out_now = Rose out.lacks out_now.lacks

-- the same, by what the store and the sink tell before the call and after it
abbrev pub ShowRefused : {X Y : Type 0} → (X → Reads) → (X → ℕ) → X → X → (Y → Option (List ℕ)) → (Y → ℕ) → (Y → ℕ) →
    Y → Y → Result (Unit {0}) ShowErr → Type 0
ShowRefused reads faults store store_now written failures lacks out out_now result =
    ShowStops result (reads store) (reads store_now) (faults store) (faults store_now)
    (sink_at written failures lacks out) (sink_at written failures lacks out_now)

-- what showing the set with a head does, by what the store and the sink tell before the call and after it
pub record ShowsSet {X Y : Type 0} (head : Head) (base : List ℕ) (files_of : X → Option Files) (reads_of : X → Reads)
    (faults_of : X → ℕ) (store store_now : X) (written : Y → Option (List ℕ)) (failures lacks : Y → ℕ) (out out_now : Y)
    (result : Result (Unit {0}) ShowErr) : Type 0 where
  -- the collection of this head is written, or after a refusal a prefix
  pub content : ForSetBy head (files_of store) base
      (λ _ collection. AfterPut (written out) (written out_now) collection result)
  pub never_bad : ForSetBy head (files_of store) base (λ _ _. ShowIsNotBad result)
  -- whatever the files hold, no more bytes are added than the head tells
  pub added : AddsOf written failures lacks out out_now head.collection 0
  pub cause : ShowRefused reads_of faults_of store store_now written failures lacks out out_now result
  -- no file changes, and of the parts only the models, the text and its places are read
  pub files : files_of store_now ≡ files_of store
  pub reads : (p : Part) → 5 ≤ number p → reads_of store_now p ≡ reads_of store p
  pub later : faults_of store ≤ faults_of store_now

-- it is done, or memory lacks, unless the store or the sink fails
abbrev pub DoneUnlessFails : {X Y T : Type 0} → (X → ℕ) → X → X → (Y → ℕ) → Y → Y → Result T Fault → Type 0
DoneUnlessFails faults store store_now failures out out_now result = ¬ Rose (faults store) (faults store_now) →
    ¬ Rose (failures out) (failures out_now) → IsDone result
