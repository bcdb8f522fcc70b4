-- What a session over files does, whatever its lines ask: the answering of its lines, and its whole run.
use Rattle.std.specs.Prelude.{◌≡◌, ℕ, ◌+◌, ◌≤◌, false, List, [], ◌∷◌, Some, IsSome, IsErrOf, OnOk, IfErr}
use Rattle.std.specs.declared.option.Option.{Option}
use Rattle.std.specs.declared.result.Result.{Result}
use Rattle.mg_dev.specs.Files.{Files, Reads}
use Rattle.mg_dev.specs.Moments.{SinkAt, SinkRose, SourceAt, SourceRose}
use Rattle.mg_dev.specs.Runs.{IfStopped, Run, StoreFailed, InputFailed, OutputFailed, SaysNothing, KeepsFiles, Stops, StopsUnless}
use Rattle.mg_dev.specs.Each.{ForEach}
use Rattle.mg_dev.specs.Streams.{AfterPut, appended, GrewByPrefix}
use Rattle.mg_dev.specs.declared.fault.Fault.{Fault}
use Rattle.mg_dev.specs.declared.fault.Fault.TheVariants.{StoreFault, ReadFault, WriteFault, NotBuilt, Damaged, Memory, InputTooLong}
use Rattle.mg_dev.specs.declared.part.Part.{Part}
use Rattle.mg_dev.specs.declared.part.Part.TheVariants as part
use Rattle.mg_dev.specs.declared.part_err.PartErr.{PartErr}
use Rattle.mg_dev.specs.declared.part_err.PartErr.TheVariants as err
use Rattle.mg_dev.specs.declared.show_err.ShowErr.{ShowErr}
use Rattle.mg_dev.specs.declared.show_err.ShowErr.TheVariants.{Write}
use Rattle.mg_dev.specs.declared.status.Status.TheVariants.{Done}
use Rattle.mg_defs.specs.CodedText.{TextCode}
use Rattle.mg_defs.specs.InputLimit.{is_too_much}
use Rattle.mg_defs.specs.Limits.{input_limit}
use Rattle.mg_defs.specs.Session.{Question, heard_session}
use Rattle.mg_defs.specs.declared.session.Hearing.{Hearing}
use Rattle.mg_defs.specs.declared.session.Settings.{Settings}
use Rattle.mg_layout.specs.Stands.{HasNoHead, Stands, StandsBy}
use Rattle.mg_layout.specs.declared.head.Head.{Head}
use Rattle.mg_reply.specs.Printed.{IsTooLong}
use Rattle.mg_reply.specs.PrintedLines.{AnsweredBroken, InputPrints, PrintRule, RepliedBroken}
use Rattle.mg_reply.specs.Served.{AnsweredSome, LeftEnough, PartStops, PrintedInTurn}
use Rattle.mg_session.specs.Serves.{IsFirst, ServeStops}

-- ---- the lines

-- the cause of each refusal, by the faults of input and output, whether the input is too long, and why a part may be refused
abbrev pub LineStops : Type 0 → Type 0 → Type 0 → (PartErr → Type 0) → Fault → Type 0
LineStops input_rose output_rose long MayStop StoreFault = MayStop err.Device
LineStops input_rose output_rose long MayStop ReadFault = input_rose
LineStops input_rose output_rose long MayStop WriteFault = output_rose
LineStops input_rose output_rose long MayStop (Damaged bad) = MayStop (err.Bad bad)
LineStops input_rose output_rose long MayStop Memory = Unit {0}
LineStops input_rose output_rose long MayStop InputTooLong = long
LineStops input_rose output_rose long MayStop _ = ⊥

-- The lines of an input were answered between two states of an answerer and its device, or some of them.
pub record LinesServed {A : Type 0} (hearing : Hearing) (Answers : A → (Settings → List ℕ → List ℕ) → Type 0)
    (After : A → A → List Question → Type 0) (Prints : A → PrintRule)
    (MayStop : A → A → PartErr → Type 0) (old new : A) (input input_now : SourceAt) (out out_now : SinkAt)
    (result : Result (Unit {0}) Fault) : Type 0 where
  -- the whole session is printed, or a prefix of it, by each reply function that the state answers by
  pub all : (reply : Settings → List ℕ → List ℕ) (given : List ℕ) → Answers old reply → input.left ≡ Some given
      → OnOk result (out_now.written ≡ appended out.written (heard_session hearing reply given))
  pub prefix : (reply : Settings → List ℕ → List ℕ) (given : List ℕ) → Answers old reply → input.left ≡ Some given
      → GrewByPrefix out.written out_now.written (heard_session hearing reply given)
  -- each line was answered, whatever there is to answer from
  pub printed : (given : List ℕ) → input.left ≡ Some given → OnOk result (InputPrints hearing (Prints old)
      out.written out_now.written given)
  -- the input was read to its end, or to a line that ends the session
  pub left : (given : List ℕ) → input.left ≡ Some given → OnOk result (LeftEnough given input_now.left)
  pub within : (given : List ℕ) → input.left ≡ Some given → OnOk result (is_too_much input_limit given ≡ false)
  -- no reply is held back, by each such reply function
  pub in_turn : (reply : Settings → List ℕ → List ℕ) → Answers old reply →
      PrintedInTurn hearing reply input.left input_now.left out.written out_now.written
  -- where the input failed, all whole lines that were taken were replied to, and answered
  pub broken : (reply : Settings → List ℕ → List ℕ) (given : List ℕ) → Answers old reply → input.left ≡ Some given →
      IsErrOf result ReadFault → RepliedBroken hearing reply out.written out_now.written input_now.left given
  pub answered_broken : (given : List ℕ) → input.left ≡ Some given → IsErrOf result ReadFault →
      AnsweredBroken hearing (Prints old) out.written out_now.written input_now.left given
  -- the first of its query lines were answered
  pub answered : AnsweredSome hearing After old new input.left
  -- the cause of each refusal
  pub cause : IfErr result (LineStops (SourceRose input input_now) (SinkRose out out_now) (IsTooLong input.left)
      (MayStop old new))

-- A line was answered between two states of an answerer and its device: what each answerer promises of it.
pub record LineAnswered {A : Type 0} (Fits : A → Type 0) (Answers : A → (Settings → List ℕ → List ℕ) → Type 0)
    (After : A → A → List Question → Type 0) (Prints : A → PrintRule) (MayStop : A → A → PartErr → Type 0)
    (old new : A) (out out_now : SinkAt) (result : Result (Unit {0}) ShowErr) (now : Settings) (line : List ℕ) : Type 0
  where
    -- the state keeps what it has to
    pub fits : Fits new
    -- the reply is printed, or a prefix of it, by each reply function that the state answers by
    pub content : ForEach (Answers old) (λ reply. AfterPut out.written out_now.written (reply now line) result)
    -- that line was answered
    pub after : After old new (record { now = now; line = line } ∷ [])
    -- what is told of the output, whatever there is to answer from
    pub printed : OnOk result (Prints old (record { now = now; line = line }) out.written out_now.written)
    -- the cause of each refusal
    pub later : out.faults ≤ out_now.faults
    pub write : IsErrOf result Write → SinkRose out out_now
    pub part : IfErr result (PartStops (MayStop old new))

-- ---- a run

-- A session prints this text of a collection and an input, hears its lines so and replies this to each, reads no more pages than this,
-- does not read these parts, and counts these rotations.
-- Told of each collection that the files of this name stand for, and for each input that the source tells.
pub record Served (text : List ℕ → List ℕ → List ℕ) (hearing : Hearing) (reply : List ℕ → Settings → List ℕ → List ℕ)
    (IsWithin : TextCode → List ℕ → List ℕ → Reads → Reads → Type 0) (IsUnread : Part → Type 0)
    (IsCounted : Option Files → List ℕ → ℕ → Type 0) (base : List ℕ) (run : Run) : Type 0 where
  -- status 0: the whole session is printed, and the input was read to its end or a line `.quit`
  pub done : (collection given : List ℕ) → Stands run.store.files base collection → run.input.left ≡ Some given →
      run.status ≡ Done
      → run.out_now.written ≡ appended run.out.written (text collection given)
  pub left : (given : List ℕ) → run.input.left ≡ Some given → run.status ≡ Done → LeftEnough given run.input_now.left
  pub within : (given : List ℕ) → run.input.left ≡ Some given → run.status ≡ Done →
      is_too_much input_limit given ≡ false
  -- every status: a prefix of the session is printed; after the statuses 5 and 17 nothing, and the input is not read
  pub prefix : (collection given : List ℕ) → Stands run.store.files base collection → run.input.left ≡ Some given
      → GrewByPrefix run.out.written run.out_now.written (text collection given)
  -- every status: no reply is held back; it is printed before more of the input is taken than a piece behind its line
  pub in_turn : (collection : List ℕ) → Stands run.store.files base collection →
      PrintedInTurn hearing (reply collection) run.input.left run.input_now.left run.out.written run.out_now.written
  -- status 3: all whole lines that were taken of the input were replied to
  pub broken : (collection given : List ℕ) → Stands run.store.files base collection → run.input.left ≡ Some given →
      Stops run ReadFault
      → RepliedBroken hearing (reply collection) run.out.written run.out_now.written run.input_now.left given
  pub silent : (fault : Fault) → IsFirst fault → Stops run fault → SaysNothing run
  pub untouched : (fault : Fault) → IsFirst fault → Stops run fault → run.input_now.left ≡ run.input.left
  -- the cause of every other status; 5 comes exactly where it has it, unless the store fails or memory is wanting
  pub cause : IfStopped run.status (ServeStops IsCounted base (StoreFailed run) (InputFailed run) (OutputFailed run)
      run.store.files run.input.left)
  pub not_built : IsSome run.store.files → HasNoHead run.store.files base → StopsUnless run NotBuilt
  -- no file changes; no more pages are read than the lines allow, and some parts are never read
  pub files : KeepsFiles run
  pub pages : (head : Head) (code : TextCode) (collection given : List ℕ) →
      StandsBy head code run.store.files base collection → run.input.left ≡ Some given
      → IsWithin code collection given run.store.reads run.store_now.reads
  pub unread : (p : Part) → IsUnread p → run.store_now.reads p ≡ run.store.reads p
  -- and of the head at most one page, whatever the files hold
  pub head_page : run.store_now.reads part.Head ≤ run.store.reads part.Head + 1
