-- What a run of `phrase NAME` does.
use Rattle.std.specs.Prelude.{◌≡◌, ◌⊎◌, ℕ, false, List, Some, IsSome}
use Rattle.mg_dev.specs.declared.fault.Fault.TheVariants.{Memory, ReadFault}
use Rattle.mg_dev.specs.declared.status.Status.TheVariants.{Done}
use Rattle.mg_defs.specs.InputLimit.{is_too_much}
use Rattle.mg_defs.specs.Limits.{input_limit}
use Rattle.mg_defs.specs.PhraseSession.{phrase_reply, phrase_session}
use Rattle.mg_defs.specs.declared.session.Hearing.TheVariants.{Questions}
use Rattle.mg_layout.specs.Stands.{Stands}
use Rattle.mg_reply.specs.PrintedLines.{AnsweredBroken, InputPrints}
use Rattle.mg_session.specs.Decided.{PhrasePrints, PrintsOver}
use Rattle.mg_session.specs.Parts.{NeverRead}
use Rattle.mg_session.specs.PhraseAnswers.{ReadsPhrases}
use Rattle.mg_session.specs.Served.{Served}
use Rattle.mg_session.specs.Serves.{CountsNone}
use Rattle.mg_dev.specs.Runs.{Run, StoreFailed, InputFailed, OutputFailed, Stops}

-- of each collection that the files of this name stand for, and for each input that the source tells
pub record Phrased (base : List ℕ) (run : Run) : Type 0 where
  -- it prints the session of phrases; of the lists and of the text it reads no more pages than the phrases allow, and some parts never
  pub served : Served phrase_session Questions (λ collection now. phrase_reply collection) ReadsPhrases NeverRead
      CountsNone base run
  -- status 0, whatever the files hold: each line was answered, and what is printed is decided by entries and lists that stand
  pub printed : (given : List ℕ) → IsSome run.store.files → run.input.left ≡ Some given → run.status ≡ Done →
      InputPrints Questions (PrintsOver PhrasePrints base run.store.files) run.out.written run.out_now.written given
  -- status 3, whatever the files hold: so was each whole line that was taken of the input
  pub answered_broken : (given : List ℕ) → IsSome run.store.files → run.input.left ≡ Some given → Stops run ReadFault →
      AnsweredBroken Questions (PrintsOver PhrasePrints base run.store.files) run.out.written run.out_now.written run.input_now.left given
  -- where the files stand, the input is not too long and no device fails, it is done, or memory is wanting
  pub complete : (collection given : List ℕ) → Stands run.store.files base collection → run.input.left ≡ Some given →
      is_too_much input_limit given ≡ false
      → ¬ StoreFailed run → ¬ InputFailed run → ¬ OutputFailed run → (run.status ≡ Done) ⊎ Stops run Memory
