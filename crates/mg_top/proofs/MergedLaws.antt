-- What a merge answered, and the put of its summary, is what the run did.
use Rattle.std.proofs.Common.{◌≡◌, ℕ, List}
use Rattle.std.specs.Prelude.{Result}
use Rattle.mg_dev.specs.Causes.{HasLack, HasPutCause}
use Rattle.mg_dev.specs.Runs.{Run, Stops}
use Rattle.mg_dev.specs.Streams.{AfterPut}
use Rattle.mg_dev.specs.declared.device.PutErr.{PutErr}
use Rattle.mg_dev.specs.declared.fault.Fault.{Fault}
use Rattle.mg_dev.specs.declared.status.Status.TheVariants.{Done, Stopped}
use Rattle.mg_defs.specs.Join.{join}
use Rattle.mg_layout.specs.Stands.{Stands, StandsIn}
use Rattle.mg_make.specs.Summaries.{summary_of}
use Rattle.mg_make.specs.declared.summary.Summary.{Summary}
use Rattle.mg_merge.specs.Joined.{Joined}
use Rattle.mg_merge.specs.Merging.{budget_of}
use Rattle.mg_top.specs.Lines.{summary_lines}
use Rattle.mg_top.specs.Merged.{Merged}
use Rattle.mg_top.proofs.BuiltLaws.{summary_prints}
use Rattle.mg_top.proofs.EndLaws.{put_called, refused_called, refused_prints, status_of_put}

module _ (first second new : List ℕ) (run : Run) (input : run.input_now ≡ run.input) where
  pub refused_by : (f : Fault) → Stops run f → run.out_now ≡ run.out → Joined first second new run.store run.store_now (Stopped f) → Merged first second new run
  refused_by f is out joined = record {
    joined = refused_called (Joined first second new run.store run.store_now) run f is out joined;
    prints = λ version cap a b one two. refused_prints run f _ is out;
    input = input;
  }

  pub made_by : (s : Summary) (w : Result (Unit {0}) PutErr) → run.status ≡ status_of_put w → Joined first second new run.store run.store_now Done
      → ((version cap : ℕ) (a b : List ℕ) → StandsIn version cap run.store.files first a → Stands run.store.files second b → s ≡ summary_of (budget_of cap) (join a b))
      → AfterPut run.out.written run.out_now.written (summary_lines s) w
      → HasPutCause run.out.faults run.out_now.faults w → HasLack run.out.lacks run.out_now.lacks w → Merged first second new run
  made_by s w is joined numbers content has lack = record {
    joined = put_called (Joined first second new run.store run.store_now) run w is joined has lack;
    prints = λ version cap a b one two. summary_prints run w s (budget_of cap) (join a b) is content (numbers version cap a b one two);
    input = input;
  }
