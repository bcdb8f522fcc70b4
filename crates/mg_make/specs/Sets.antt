-- What the second pass over something that is read makes of its set.
use Rattle.std.specs.Prelude.{◌≤◌, ℕ, List, OnOk}
use Rattle.std.specs.declared.result.Result.{Result}
use Rattle.mg_dev.specs.Each.{ForEach}
use Rattle.mg_dev.specs.Moments.{StoreAt}
use Rattle.mg_dev.specs.declared.fault.Fault.{Fault}
use Rattle.mg_dev.specs.declared.part.Part.TheVariants.{MergeA, MergeB}
use Rattle.mg_make.specs.Outcomes.{HasSummaryOf, Left, MakesSet}
use Rattle.mg_make.specs.Putting.{IsEmptied, OthersSame}
use Rattle.mg_make.specs.declared.summary.Summary.{Summary}

-- It writes the set of each collection for which what is read stands and whose plan it follows, with a pool of so many bytes.
pub record WritesSet (planned : List ℕ → Type 0) (limit : ℕ) (base : List ℕ) (store store_now : StoreAt)
    (result : Result Summary Fault) : Type 0 where
  -- at `Ok` the set stands for it, with its summary, and the working parts are empty
  pub stands : ForEach planned (MakesSet limit store_now.files base result)
  pub summary : ForEach planned (HasSummaryOf limit result)
  pub merge_a : ForEach planned (λ collection. OnOk result (IsEmptied store_now.files base MergeA))
  pub merge_b : ForEach planned (λ collection. OnOk result (IsEmptied store_now.files base MergeB))
  -- whatever the answer: what the files stand for, and that files which are no part of the set stay
  pub left : ForEach planned (Left base store.files store_now.files)
  pub others : OthersSame base store.files store_now.files
  -- the count of failures never falls
  pub later : store.faults ≤ store_now.faults
