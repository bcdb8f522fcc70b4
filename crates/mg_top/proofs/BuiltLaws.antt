-- What a build answered, and the put of its summary, is what the run did.
use Rattle.std.proofs.Common.{◌≡◌, ◌∙◌, ℕ, List, IsSome, refl, ap, subst}
use Rattle.std.specs.Prelude.{Result}
use Rattle.mg_dev.specs.Causes.{HasLack, HasPutCause}
use Rattle.mg_dev.specs.Runs.{Run, Stops}
use Rattle.mg_dev.specs.Streams.{AfterPut}
use Rattle.mg_dev.specs.declared.device.PutErr.{PutErr}
use Rattle.mg_dev.specs.declared.fault.Fault.{Fault}
use Rattle.mg_dev.specs.declared.status.Status.TheVariants.{Done, Stopped}
use Rattle.mg_defs.specs.Summaries.{summary_text}
use Rattle.mg_make.specs.Summaries.{summary_of}
use Rattle.mg_make.specs.declared.summary.Summary.{Summary}
use Rattle.mg_build.specs.Made.{Made}
use Rattle.mg_top.specs.Built.{Built, collection_of}
use Rattle.mg_top.specs.Ends.{Prints}
use Rattle.mg_top.specs.Lines.{pool_line, summary_lines}
use Rattle.mg_top.proofs.EndLaws.{put_called, put_prints, refused_called, refused_prints, status_of_put}

text_of_summary : (budget : ℕ) (collection : List ℕ) → summary_lines (summary_of budget collection) ≡ summary_text collection budget
unfolding summary_lines summary_text pool_line
text_of_summary budget collection = refl

-- the numbers of a collection were put
pub summary_prints : (run : Run) (w : Result (Unit {0}) PutErr) (s : Summary) (budget : ℕ) (collection : List ℕ) → run.status ≡ status_of_put w
    → AfterPut run.out.written run.out_now.written (summary_lines s) w → s ≡ summary_of budget collection → Prints (summary_text collection budget) run
summary_prints run w s budget collection is content numbers =
    put_prints run w _ is (subst (λ (text : List ℕ). AfterPut run.out.written run.out_now.written text w) (ap summary_lines numbers ∙ text_of_summary budget collection) content)

module _ (name base : List ℕ) (budget : ℕ) (run : Run) (input : run.input_now ≡ run.input) where
  pub refused_by : (f : Fault) → Stops run f → run.out_now ≡ run.out → Made name base budget run.store run.store_now (Stopped f) → Built name base budget run
  refused_by f is out made = record {
    made = refused_called (Made name base budget run.store run.store_now) run f is out made;
    prints = λ told. refused_prints run f _ is out;
    input = input;
  }

  pub made_by : (s : Summary) (w : Result (Unit {0}) PutErr) → run.status ≡ status_of_put w → Made name base budget run.store run.store_now Done
      → (IsSome run.store.files → s ≡ summary_of budget (collection_of name run)) → AfterPut run.out.written run.out_now.written (summary_lines s) w
      → HasPutCause run.out.faults run.out_now.faults w → HasLack run.out.lacks run.out_now.lacks w → Built name base budget run
  made_by s w is made numbers content has lack = record {
    made = put_called (Made name base budget run.store run.store_now) run w is made has lack;
    prints = λ told. summary_prints run w s budget _ is content (numbers told);
    input = input;
  }
