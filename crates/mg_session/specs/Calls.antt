-- What a call does to the parts that it takes and to its devices, whatever it answers, and why it stops: the moment before it and the one after it.
use Rattle.std.specs.Prelude.{◌≡◌, ℕ, ◌+◌, ◌≤◌, List, ◌*◌}
use Rattle.std.specs.declared.option.Option.{Option}
use Rattle.std.specs.declared.result.Result.{Result}
use Rattle.mg_dev.specs.Causes.{HasLack, HasPutCause}
use Rattle.mg_dev.specs.Files.{Files}
use Rattle.mg_dev.specs.Moments.{SinkAt, StoreAt, StoreStep, sink_at, store_at}
use Rattle.mg_dev.specs.declared.device.PutErr.{PutErr}
use Rattle.mg_dev.specs.declared.part.Part.TheVariants as part
use Rattle.mg_dev.specs.declared.show_err.ShowErr.{ShowErr}
use Rattle.mg_dev.specs.declared.sink.Sink as sinks
use Rattle.mg_dev.specs.declared.store.Store as stores
use Rattle.mg_defs.specs.CodedText.{TextCode}
use Rattle.mg_defs.specs.declared.session.Mode.{Mode}
use Rattle.mg_front.specs.Looks.{looks}
use Rattle.mg_text.specs.Reading.{ShowIsNotBad}
use Rattle.mg_session.specs.Answering.{HasShowCause, HasShowLack}
use Rattle.mg_session.specs.Parts.{LineStepped, ShownIn}
use Rattle.mg_session.specs.Searching.{Opened, SameOpened, SearchFits}
use Rattle.mg_session.specs.Sessions.{ForText}
use Rattle.mg_session.specs.Texts.{SameTexts, Texting, TextsFit}

-- ---- the output alone

-- Bytes were put.
pub record PutStep (out out_now : SinkAt) (result : Result (Unit {0}) PutErr) : Type 0 where
  -- a failure has its cause, and so has want of memory
  pub cause : HasPutCause out.faults out_now.faults result
  pub lack : HasLack out.lacks out_now.lacks result

-- Only the output was written to.
pub record OutputStep (out out_now : SinkAt) (result : Result (Unit {0}) ShowErr) : Type 0 where
  -- no part is bad
  pub sound : ShowIsNotBad result
  -- a failure has its cause, whatever the faults of a store are that stay
  pub cause : (s : ℕ) → HasShowCause result s s out.faults out_now.faults
  -- so has the output's want of memory
  pub lack : HasShowLack out.lacks out_now.lacks result

-- ---- a text

-- A document of this number can be shown.
pub record IsShowable (files : Option Files) (texts : Texting) (number : ℕ) : Type 0 where
  -- what the reader of the text keeps agrees with the files
  pub fits : TextsFit files texts
  -- there is such a document
  pub some : 1 ≤ number
  pub within : number ≤ texts.head.documents

-- So many documents can be shown.
pub record AreShowable (files : Option Files) (texts : Texting) (count : ℕ) : Type 0 where
  -- what the reader of the text keeps agrees with the files
  pub fits : TextsFit files texts
  -- the head tells of so many
  pub all : texts.head.documents ≡ count

-- Documents were shown in a mode, or a part of what that prints.
pub record TextShown (texts texts_now : Texting) (before now : StoreAt) (out out_now : SinkAt)
    (result : Result (Unit {0}) ShowErr) (m : Mode) (IsPrinted : List ℕ → Type 0) (most : TextCode → List ℕ → ℕ) :
    Type 0 where
  -- what the reader keeps agrees with the files, and the text is the same
  pub fits : TextsFit now.files texts_now
  pub same : SameTexts texts texts_now
  -- where the text is that of a collection, this is printed of it
  pub content : ForText texts before.files (λ code. IsPrinted)
  -- no more pages of Text are read
  pub pages : ForText texts before.files (λ code collection. now.reads part.Text
      ≤ before.reads part.Text + most code collection)
  -- and no part is bad
  pub sound : ForText texts before.files (λ code collection. ShowIsNotBad result)
  -- no file changes, and only those parts are read that this mode shows documents from
  pub looked : ShownIn m before.files now.files before.reads now.reads before.faults now.faults
  -- a failure has its cause, and so has the output's want of memory
  pub cause : HasShowCause result before.faults now.faults out.faults out_now.faults
  pub lack : HasShowLack out.lacks out_now.lacks result

-- A text was read and the output written to, and the store is so after it.
pub record TextStep (texts texts_now : Texting) (before now : StoreAt) (out out_now : SinkAt)
    (result : Result (Unit {0}) ShowErr) (IsStep : StoreStep) : Type 0 where
  -- what the reader keeps agrees with the files, and the text is the same
  pub fits : TextsFit now.files texts_now
  pub same : SameTexts texts texts_now
  -- what was done to the store
  pub step : IsStep before.files now.files before.reads now.reads before.faults now.faults
  -- a failure has its cause, and so has the output's want of memory
  pub cause : HasShowCause result before.faults now.faults out.faults out_now.faults
  pub lack : HasShowLack out.lacks out_now.lacks result

-- ---- the parts of a search

-- A line of so many terms was answered in a mode from the open parts.
pub record OpenedStep (opened opened_now : Opened) (before now : StoreAt) (out out_now : SinkAt)
    (result : Result (Unit {0}) ShowErr) (m : Mode) (terms : ℕ) : Type 0 where
  -- what the readers keep agrees with the files, and the parts are the same
  pub fits : SearchFits now.files opened_now
  pub same : SameOpened opened opened_now
  -- no file changes, no part is read that a line in this mode does not read, and of the lexicon what its terms take
  pub step : LineStepped m (terms * looks opened.lex.count) before.files now.files before.reads now.reads before.faults now.faults
  -- a failure has its cause, and so has the output's want of memory
  pub cause : HasShowCause result before.faults now.faults out.faults out_now.faults
  pub lack : HasShowLack out.lacks out_now.lacks result

-- ---- by what the types of the store and the output tell

abbrev pub at_store : {X : Type 0} → stores.Ghosts X → X → StoreAt
at_store of_store store = store_at of_store.files of_store.reads of_store.faults store

abbrev pub at_sink : {Y : Type 0} → sinks.Ghosts Y → Y → SinkAt
at_sink of_out out = sink_at of_out.written of_out.faults of_out.lacks out

-- ---- what a contract says of a call

abbrev pub StepsPut : {Y : Type 0} → sinks.Ghosts Y → Y → Y → Result (Unit {0}) PutErr → Type 0
StepsPut of_out out out_now result = PutStep (at_sink of_out out) (at_sink of_out out_now) result

abbrev pub WritesAlone : {Y : Type 0} → sinks.Ghosts Y → Y → Y → Result (Unit {0}) ShowErr → Type 0
WritesAlone of_out out out_now result = OutputStep (at_sink of_out out)
    (at_sink of_out out_now) result

abbrev pub ShowsText : {X Y : Type 0} → stores.Ghosts X → sinks.Ghosts Y → X → X → Y → Y →
    Result (Unit {0}) ShowErr → Texting → Texting → Mode → (List ℕ → Type 0) → (TextCode → List ℕ → ℕ) → Type 0
ShowsText of_store of_out store store_now out out_now result texts texts_now m IsPrinted most = TextShown texts
    texts_now (at_store of_store store)
    (at_store of_store store_now)
    (at_sink of_out out)
    (at_sink of_out out_now) result m IsPrinted most

abbrev pub StepsText : {X Y : Type 0} → stores.Ghosts X → sinks.Ghosts Y → X → X → Y → Y →
    Result (Unit {0}) ShowErr → Texting → Texting → StoreStep → Type 0
StepsText of_store of_out store store_now out out_now result texts texts_now IsStep = TextStep texts texts_now
    (at_store of_store store)
    (at_store of_store store_now)
    (at_sink of_out out)
    (at_sink of_out out_now) result IsStep

abbrev pub StepsOpened : {X Y : Type 0} → stores.Ghosts X → sinks.Ghosts Y → X → X → Y → Y →
    Result (Unit {0}) ShowErr → Opened → Opened → Mode → ℕ → Type 0
StepsOpened of_store of_out store store_now out out_now result opened opened_now m terms = OpenedStep opened opened_now
    (at_store of_store store)
    (at_store of_store store_now)
    (at_sink of_out out)
    (at_sink of_out out_now) result m terms
