-- What the devices told and counted before a run and after it, and its status.
use Rattle.std.specs.Prelude.{◌≡◌, ◌⊎◌, Ok, Err}
use Rattle.std.specs.declared.result.Result.{Result}
use Rattle.mg_dev.specs.Moments.{StoreAt, SourceAt, SinkAt, StoreRose, SourceRose, SinkRose, KeptFiles, NothingWritten}
use Rattle.mg_dev.specs.declared.fault.Fault.{Fault}
use Rattle.mg_dev.specs.declared.fault.Fault.TheVariants.{StoreFault, Memory}
use Rattle.mg_dev.specs.declared.status.Status.{Status}
use Rattle.mg_dev.specs.declared.status.Status.TheVariants.{Done, Stopped}

-- the status of a run that ends with this answer
abbrev pub status_of : {T : Type 0} → Result T Fault → Status
status_of (Ok value) = Done
status_of (Err fault) = Stopped fault

-- this refusal, unless the store fails or memory lacks
abbrev pub RefusedFor : {T : Type 0} → Result T Fault → Fault → Type 0
RefusedFor result fault = (result ≡ Err fault) ⊎ (result ≡ Err StoreFault) ⊎ (result ≡ Err Memory)

-- it is done, or memory lacks
abbrev pub IsDone : {T : Type 0} → Result T Fault → Type 0
IsDone (Ok value) = Unit {0}
IsDone (Err Memory) = Unit {0}
IsDone (Err _) = ⊥

-- this holds of the fault, if the run stopped
abbrev pub IfStopped : Status → (Fault → Type 0) → Type 0
IfStopped Done holds = Unit {0}
IfStopped (Stopped fault) holds = holds fault

-- it stopped for this fault, unless the store failed or memory was wanting
abbrev pub StoppedFor : Status → Fault → Type 0
StoppedFor status fault = (status ≡ Stopped fault) ⊎ (status ≡ Stopped StoreFault) ⊎ (status ≡ Stopped Memory)

-- a run: its devices before it and after it, and the status
pub record Run : Type 0 where
  pub store : StoreAt
  pub store_now : StoreAt
  pub input : SourceAt
  pub input_now : SourceAt
  pub out : SinkAt
  pub out_now : SinkAt
  pub err : SinkAt
  pub err_now : SinkAt
  pub status : Status

abbrev pub StoreFailed : Run → Type 0
StoreFailed run = StoreRose run.store run.store_now

abbrev pub InputFailed : Run → Type 0
InputFailed run = SourceRose run.input run.input_now

abbrev pub OutputFailed : Run → Type 0
OutputFailed run = SinkRose run.out run.out_now

abbrev pub SaysNothing : Run → Type 0
SaysNothing run = NothingWritten run.out run.out_now

abbrev pub KeepsFiles : Run → Type 0
KeepsFiles run = KeptFiles run.store run.store_now

-- the run stopped for this fault
abbrev pub Stops : Run → Fault → Type 0
Stops run fault = run.status ≡ Stopped fault

-- the same of a run
abbrev pub StopsUnless : Run → Fault → Type 0
StopsUnless run fault = StoppedFor run.status fault
