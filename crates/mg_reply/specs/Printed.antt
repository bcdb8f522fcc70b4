-- What a call prints and why it stops, by the functions that tell what its devices hold and count.
use Rattle.std.specs.Prelude.{◌≡◌, ℕ, true, List, OnOk, IfErr}
use Rattle.std.specs.Option.{ForSome}
use Rattle.std.specs.declared.option.Option.{Option}
use Rattle.std.specs.declared.result.Result.{Result}
use Rattle.mg_dev.specs.Causes.{Rose}
use Rattle.mg_dev.specs.Files.{Files}
use Rattle.mg_dev.specs.Moments.{SinkAt, sink_at, source_at, store_at}
use Rattle.mg_dev.specs.Runs.{Run, status_of}
use Rattle.mg_dev.specs.Streams.{AfterPut, appended, GrewByPrefix}
use Rattle.mg_dev.specs.declared.fault.Fault.{Fault}
use Rattle.mg_dev.specs.declared.part_err.PartErr.{PartErr}
use Rattle.mg_dev.specs.declared.sink.Sink as sinks
use Rattle.mg_dev.specs.declared.source.Source as sources
use Rattle.mg_dev.specs.declared.store.Store as stores
use Rattle.mg_defs.specs.Commands.{command, command_text}
use Rattle.mg_defs.specs.InputLimit.{is_too_much}
use Rattle.mg_defs.specs.Limits.{input_limit}
use Rattle.mg_defs.specs.Replies.{hit_text}
use Rattle.mg_defs.specs.ShownAnswers.{Shown}
use Rattle.mg_defs.specs.Session.{hears}
use Rattle.mg_defs.specs.Texts.{bad_command}
use Rattle.mg_defs.specs.declared.session.Hearing.{Hearing}
use Rattle.mg_defs.specs.declared.session.Settings.{Settings}
use Rattle.mg_reply.specs.Pending.{AfterPass}
use Rattle.mg_reply.specs.Served.{EndsFor}
use Rattle.mg_reply.specs.declared.serve.ServeErr.{ServeErr}

-- ---- what is printed

-- at `Ok` these bytes were written to the sink, else a prefix of them
abbrev pub Puts : {Y T E : Type 0} → (Y → Option (List ℕ)) → Y → Y → Result T E → List ℕ → Type 0
Puts written before now result bytes = AfterPut (written before) (written now) bytes result

-- at `Ok` these bytes came after those that waited for the sink, else a prefix of all these went to it
abbrev pub Passes : {Y T E : Type 0} → (Y → Option (List ℕ)) → Y → Y → List ℕ → List ℕ → Result T E → List ℕ → Type 0
Passes written before now waited waiting result bytes = AfterPass (written before) (written now) waited waiting bytes
    result

-- at `Ok` the whole text of the input was written, where the input is told; `of` is what the text is made of
abbrev pub PrintsAll : {X Y A T E : Type 0} → (X → Option (List ℕ)) → (Y → Option (List ℕ)) → X → Y → Y → Result T E →
    (A → List ℕ → List ℕ) → A → Type 0
PrintsAll left written input before now result text of = ForSome (left input)
    (λ given. OnOk result (written now ≡ appended (written before) (text of given)))

-- a prefix of it was written
abbrev pub PrintsPrefix : {X Y A : Type 0} → (X → Option (List ℕ)) → (Y → Option (List ℕ)) → X → Y → Y →
    (A → List ℕ → List ℕ) → A → Type 0
PrintsPrefix left written input before now text of = ForSome (left input)
    (λ given. GrewByPrefix (written before) (written now) (text of given))

-- what a line of a session prints, by the reply function
abbrev pub heard_text : Hearing → Settings → List ℕ → (Settings → List ℕ → List ℕ) → List ℕ
heard_text hearing now line reply = command_text reply bad_command now line (hears hearing (command line now))

-- ---- documents of an answer

-- a document with this number and score
abbrev pub at_score : ℕ → Option ℕ → Shown
at_score number score = record { number = number; score = score }

-- what is printed for a document under these settings, after so many of the answer
abbrev pub hit_by : Settings → List ℕ → ℕ → Shown → List ℕ
hit_by now doc total hit = hit_text doc now.mode now.most total hit

-- ---- why a session stops

-- the input has more bytes than a session takes, where it is told
abbrev pub IsTooLong : Option (List ℕ) → Type 0
IsTooLong told = ForSome told (λ given. is_too_much input_limit given ≡ true)

-- each refusal has its cause: the input or the output failed meanwhile, the input is too long, or a part was refused that may be, between the states of an answerer and its device
abbrev pub EndsWhere : {X Y A D S T : Type 0} → (X → Option (List ℕ)) → (X → ℕ) → (Y → ℕ) → (A → D → S) →
    (S → S → PartErr → Type 0)
    → X → X → Y → Y → A → A → D → D → Result T ServeErr → Type 0
EndsWhere left input_faults output_faults state may_stop input input_now out out_now answerer answerer_now dev dev_now
    result =
    IfErr result (EndsFor (Rose (input_faults input) (input_faults input_now))
    (Rose (output_faults out) (output_faults out_now)) (IsTooLong (left input))
    (may_stop (state answerer dev) (state answerer_now dev_now)))

-- what causes a refusal: whether the store, the input and the output failed meanwhile, the files before, and what was left of the input
abbrev pub StopRule : Type 1
StopRule = (store_rose input_rose output_rose : Type 0) (files : Option Files) (input : Option (List ℕ)) → Fault →
    Type 0

-- each refusal has its cause by this rule, by what the types of the devices tell
abbrev pub StopsBy : {X Y Z T : Type 0} → stores.Ghosts X → sources.Ghosts Y → sinks.Ghosts Z → X → X → Y → Y → Z → Z →
    Result T Fault → StopRule → Type 0
StopsBy of_store of_input of_out store store_now input input_now out out_now result rule = IfErr result (rule
    (Rose (of_store.faults store) (of_store.faults store_now))
    (Rose (of_input.faults input) (of_input.faults input_now)) (Rose (of_out.faults out) (of_out.faults out_now))
    (of_store.files store) (of_input.left input))

-- ---- a run

-- the run of a call over a store, an input and an output is so, by what their types tell, whatever the error output is
abbrev pub Runs : {X Y Z T : Type 0} → stores.Ghosts X → sources.Ghosts Y → sinks.Ghosts Z → X → X → Y → Y → Z → Z →
    Result T Fault → (Run → Type 0) → Type 0
Runs of_store of_input of_out store store_now input input_now out out_now result holds = (err err_now : SinkAt) →
    holds (record {
      store = store_at of_store.files of_store.reads of_store.faults store;
      store_now = store_at of_store.files of_store.reads of_store.faults store_now;
      input = source_at of_input.left of_input.faults input;
      input_now = source_at of_input.left of_input.faults input_now;
      out = sink_at of_out.written of_out.faults of_out.lacks out;
      out_now = sink_at of_out.written of_out.faults of_out.lacks out_now;
      err = err;
      err_now = err_now;
      status = status_of result;
    })
