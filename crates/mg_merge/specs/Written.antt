-- What the passes over two texts make of their set.
use Rattle.std.specs.Prelude.{◌≡◌, ℕ, List, IfErr, OnOk}
use Rattle.std.specs.declared.result.Result.{Result}
use Rattle.mg_dev.specs.Each.{ForEach}
use Rattle.mg_dev.specs.Faults.{ReadStops}
use Rattle.mg_dev.specs.Moments.{StoreAt, StoreRose}
use Rattle.mg_dev.specs.declared.fault.Fault.{Fault}
use Rattle.mg_defs.specs.WithinLimits.{IsWithinLimits}
use Rattle.mg_make.specs.Outcomes.{IsEarly}
use Rattle.mg_make.specs.Plans.{Plan}
use Rattle.mg_make.specs.Sets.{WritesSet}
use Rattle.mg_make.specs.declared.summary.Summary.{Summary}
use Rattle.mg_merge.specs.Looks.{IsUntouched, reads_index}
use Rattle.mg_merge.specs.Passes.{ArePlanned, IsPlanned}
use Rattle.mg_merge.specs.Stops.{CountingStops}
use Rattle.mg_merge.specs.Texts.{TextsStand, TwoTexts}

-- the second pass, by a plan and in a pool of so many bytes, over the store before it and after it
pub record WritesTexts (plan : Plan) (limit : ℕ) (base : List ℕ) (t : TwoTexts) (store store_now : StoreAt)
    (result : Result Summary Fault) : Type 0 where
  -- it is the set of the collection whose plan it is
  pub written : WritesSet (IsPlanned plan t store.files) limit base store store_now result
  -- no part of an index was read but the runs
  pub index : reads_index store_now.reads ≡ reads_index store.reads
  -- the cause of each refusal
  pub refused : IfErr result (ReadStops (StoreRose store store_now) (ArePlanned plan t store.files))

-- both passes, in a pool of so many bytes
pub record MergesTexts (budget : ℕ) (base : List ℕ) (t : TwoTexts) (store store_now : StoreAt)
    (result : Result Summary Fault) : Type 0 where
  -- it is the set of the collection of the texts
  pub written : WritesSet (TextsStand t store.files) budget base store store_now result
  -- at `Ok` that is within the limits
  pub limits : ForEach (TextsStand t store.files) (λ collection. OnOk result (IsWithinLimits 2 collection))
  -- after a refusal before the first write no file has changed, and none of an index was read
  pub early : IfErr result (λ fault. IsEarly fault → IsUntouched store store_now)
  -- no part of an index was read but the runs
  pub index : reads_index store_now.reads ≡ reads_index store.reads
  -- the cause of each refusal
  pub refused : IfErr result (CountingStops (StoreRose store store_now) (TextsStand t store.files))
