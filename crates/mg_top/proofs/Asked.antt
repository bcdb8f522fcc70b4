-- A run that did what its tool is to do did what the words ask.
use Rattle.std.proofs.Common.{◌≡◌, List, Option, Some, None, refl, sym, subst}
use Rattle.mg_dev.specs.declared.fault.Fault.{Fault}
use Rattle.mg_dev.specs.declared.fault.Fault.TheVariants.{Usage}
use Rattle.mg_dev.specs.declared.status.Status.{Status}
use Rattle.mg_args.specs.Plain.{Word}
use Rattle.mg_args.specs.Tasks.{Task, build, query, decode, scan, trial, migrate, check, wild, phrase, merge, task_of, IsRefused}
use Rattle.mg_top.specs.Ends.{ToldWhy}
use Rattle.mg_dev.specs.Runs.{IfStopped, Run, Stops}
use Rattle.mg_build.specs.Made.{Made}
use Rattle.mg_migrate.specs.MadeAnew.{MadeAnew}
use Rattle.mg_merge.specs.Joined.{Joined}
use Rattle.mg_top.specs.Checked.{Finds}
use Rattle.mg_top.specs.Does.{Does, NotUnderstood, Ran}
use Rattle.mg_top.proofs.EndLaws.{never_called}

no_usage : (run : Run) (P : Fault → Type 0) → IfStopped run.status P → (P Usage → ⊥) → Stops run Usage → ⊥
no_usage run P holds never is = never (subst (λ (s : Status). IfStopped s P) is holds)

-- status 1 is no tool's
pub only_wrong_words : (task : Option Task) (run : Run) → Does task run → Stops run Usage → task ≡ None
only_wrong_words None run does is = refl
only_wrong_words (Some (build c n b)) run does is = absurd (never_called (Made c n b run.store run.store_now) run (λ made. made.cause) does.made is)
only_wrong_words (Some (query n)) run does is = absurd (no_usage run _ does.served.cause (λ bad. bad) is)
only_wrong_words (Some (decode n)) run does is = absurd (no_usage run _ does.cause (λ bad. bad) is)
only_wrong_words (Some (scan n)) run does is = absurd (no_usage run _ does.cause (λ bad. bad) is)
only_wrong_words (Some (trial s d)) run does is = absurd (no_usage run _ does.cause (λ bad. bad) is)
only_wrong_words (Some (migrate n m)) run does is = absurd (never_called (MadeAnew n m run.store run.store_now) run (λ made. made.cause) does.made is)
only_wrong_words (Some (check n)) run does is = absurd (never_called (Finds n run.store run.store_now) run (λ found. found.cause) does.found is)
only_wrong_words (Some (wild n)) run does is = absurd (no_usage run _ does.served.cause (λ bad. bad) is)
only_wrong_words (Some (phrase n)) run does is = absurd (no_usage run _ does.served.cause (λ bad. bad) is)
only_wrong_words (Some (merge a b c)) run does is = absurd (never_called (Joined a b c run.store run.store_now) run (λ joined. joined.cause) does.joined is)

-- what the words ask is done
pub ran_by : (words : List Word) (asked : Task) (run : Run) → task_of words ≡ Some asked → Does (Some asked) run
    → ToldWhy run.status run.err.written run.err_now.written run.err.faults run.err_now.faults run.err.lacks run.err_now.lacks → Ran words run
ran_by words asked run is does told = record {
  usage = λ stops. let bad : Some asked ≡ None = only_wrong_words (Some asked) run does stops in cc;
  does = subst (λ (t : Option Task). Does t run) (sym is) does;
  told = told;
}

-- they ask nothing
pub ran_refused : (words : List Word) (run : Run) → None ≡ task_of words → IsRefused words → NotUnderstood run
    → ToldWhy run.status run.err.written run.err_now.written run.err.faults run.err_now.faults run.err.lacks run.err_now.lacks → Ran words run
ran_refused words run is refused untouched told = record {
  usage = λ stops. refused;
  does = subst (λ (t : Option Task). Does t run) is untouched;
  told = told;
}
