-- What a migration answered, and the put of its line, is what the run did.
use Rattle.std.proofs.Common.{◌≡◌, ℕ, List, length, subst}
use Rattle.std.specs.Prelude.{Result, codes}
use Rattle.mg_dev.specs.Causes.{HasLack, HasPutCause}
use Rattle.mg_dev.specs.Runs.{Run, Stops}
use Rattle.mg_dev.specs.Streams.{AfterPut}
use Rattle.mg_dev.specs.declared.device.PutErr.{PutErr}
use Rattle.mg_dev.specs.declared.fault.Fault.{Fault}
use Rattle.mg_dev.specs.declared.status.Status.TheVariants.{Done, Stopped}
use Rattle.mg_defs.specs.Split.{documents}
use Rattle.mg_defs.specs.Summaries.{number_line}
use Rattle.mg_layout.specs.Stands.{Stands}
use Rattle.mg_migrate.specs.MadeAnew.{MadeAnew}
use Rattle.mg_top.specs.Migrated.{Migrated}
use Rattle.mg_top.proofs.EndLaws.{put_called, put_prints, refused_called, refused_prints, status_of_put}

module _ (name new : List ℕ) (run : Run) (input : run.input_now ≡ run.input) where
  pub refused_by : (f : Fault) → Stops run f → run.out_now ≡ run.out → MadeAnew name new run.store run.store_now (Stopped f) → Migrated name new run
  refused_by f is out made = record {
    made = refused_called (MadeAnew name new run.store run.store_now) run f is out made;
    prints = λ collection stands. refused_prints run f _ is out;
    input = input;
  }

  pub made_by : (n : ℕ) (w : Result (Unit {0}) PutErr) → run.status ≡ status_of_put w → MadeAnew name new run.store run.store_now Done
      → ((collection : List ℕ) → Stands run.store.files name collection → n ≡ length (documents collection))
      → AfterPut run.out.written run.out_now.written (number_line (codes "documents") n) w
      → HasPutCause run.out.faults run.out_now.faults w → HasLack run.out.lacks run.out_now.lacks w → Migrated name new run
  made_by n w is made count content has lack = record {
    made = put_called (MadeAnew name new run.store run.store_now) run w is made has lack;
    prints = λ collection stands. put_prints run w _ is
        (subst (λ (k : ℕ). AfterPut run.out.written run.out_now.written (number_line (codes "documents") k) w) (count collection stands) content);
    input = input;
  }
