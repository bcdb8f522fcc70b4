-- What the second pass made, from what its writer tells.
use Rattle.std.proofs.Common.{◌≡◌, ◌≤◌, ◌∙◌, ℕ, List, Err, IsSome, refl, sym, subst, inl}
use Rattle.std.specs.Prelude.{IfErr, OnOk, Result}
use Rattle.std.proofs.lemmas.Result.{IfErr-weaker}
use Rattle.mg_dev.specs.Causes.{HasPutCause, Rose}
use Rattle.mg_dev.specs.Faults.{ReadStops, fault_of_store}
use Rattle.mg_dev.specs.Moments.{StoreAt, StoreRose}
use Rattle.mg_dev.specs.declared.device.PutErr.{PutErr}
use Rattle.mg_dev.specs.declared.device.PutErr.TheVariants as put
use Rattle.mg_dev.specs.declared.fault.Fault.{Fault}
use Rattle.mg_dev.specs.declared.part.Part.TheVariants.{MergeA, MergeB}
use Rattle.mg_defs.specs.WithinLimits.{IsWithinLimits}
use Rattle.mg_layout.specs.Stands.{StandsForNone}
use Rattle.mg_make.specs.Outcomes.{HasSummaryOf, Left, MakesSet}
use Rattle.mg_make.specs.Plans.{IsPlanOf, Plan}
use Rattle.mg_make.specs.Putting.{ForPut, HasPut, IsEmptied, OthersSame, Putting, StandsForNoOther}
use Rattle.mg_make.specs.declared.summary.Summary.{Summary}
use Rattle.mg_make.specs.Sets.{WritesSet}
use Rattle.mg_make.proofs.CallerLemmas.{HasAll, others_none, read_for, rose_behind, set_before, set_ended, set_not_written, set_since}
use Rattle.mg_merge.specs.Looks.{IsUntouched, LooksAtTexts, reads_index}
use Rattle.mg_merge.specs.Passes.{AreAllGiven, AreApart, ArePlanned, IsPlanned}
use Rattle.mg_merge.specs.Stops.{CountingStops}
use Rattle.mg_merge.specs.Texts.{SameTexts, TextsStand, TwoTexts}
use Rattle.mg_merge.specs.Written.{MergesTexts, WritesTexts}
use Rattle.mg_merge.proofs.LookLaws.{outside_index}
use Rattle.mg_merge.proofs.MergeLaws.{counts_all, early_all, on_ok}
use Rattle.mg_merge.proofs.PassLaws.{still_told}
use Rattle.mg_merge.proofs.StayLaws.{texts_stay}
use Rattle.mg_merge.proofs.TextLaws.{texts_none, texts_stand_on}

-- ---- nothing was made

pub not_written : (plan : Plan) (limit : ℕ) (base : List ℕ) (t : TwoTexts) (store store_now : StoreAt) (fault : Fault) →
    ((collection : List ℕ) → TextsStand t store.files collection → Left base store.files store_now.files collection) →
    OthersSame base store.files store_now.files → reads_index store_now.reads ≡ reads_index store.reads → store.faults ≤ store_now.faults →
    ReadStops (StoreRose store store_now) (ArePlanned plan t store.files) fault →
    WritesTexts plan limit base t store store_now (Err fault)
not_written plan limit base t store store_now fault left others index later refused =
    record { written = set_not_written (λ collection is. left collection is.0) others later; index = index; refused = refused }

-- ---- the writer was ended

-- all documents were put
module _ (w now : Putting) (t : TwoTexts) (store middle : StoreAt) (fed : List ℕ) (plan : now.plan ≡ w.plan) (given : AreAllGiven t store.files fed)
    (has : HasPut now middle.files fed) (put_others : OthersSame w.base store.files middle.files) where
  all_put : (collection : List ℕ) → TextsStand t store.files collection → fed ≡ collection
  all_put collection stand = given.told collection stand

  -- where the texts stand for a collection of this plan, what was put is told and of the plan
  pub put_plan : (collection : List ℕ) → IsPlanned w.plan t store.files collection → IsSome middle.files × IsPlanOf now.plan fed
  put_plan collection is = (
    still_told store.files middle.files put_others.told is.0.first.told,
    subst (λ p. IsPlanOf p fed) (sym plan) (subst (IsPlanOf w.plan) (sym (all_put collection is.0)) is.1),
  )

  has_all : now.base ≡ w.base → now.limit ≡ w.limit → store.faults ≤ middle.faults → HasAll (IsPlanned w.plan t store.files) w now store middle
  has_all base limit later = record {
    base = base;
    limit = limit;
    told = λ collection is. (put_plan collection is).0;
    put = λ collection is. subst (HasPut now middle.files) (all_put collection is.0) has;
    plan = λ collection is. subst (IsPlanOf now.plan) (all_put collection is.0) (put_plan collection is).1;
    others = put_others;
    later = later;
  }

  -- and then the writer was ended
  pub was_ended : (store_now : StoreAt) (r : Result Summary Fault) → now.base ≡ w.base → now.limit ≡ w.limit → store.faults ≤ middle.faults →
      ForPut now middle.files (MakesSet now.limit store_now.files now.base r) → ForPut now middle.files (HasSummaryOf now.limit r) →
      ForPut now middle.files (λ bytes. OnOk r (IsEmptied store_now.files now.base MergeA)) → ForPut now middle.files (λ bytes. OnOk r (IsEmptied store_now.files now.base MergeB)) →
      ForPut now middle.files (StandsForNoOther store_now.files now.base) → OthersSame now.base middle.files store_now.files →
      reads_index store_now.reads ≡ reads_index store.reads → middle.faults ≤ store_now.faults →
      IfErr r (ReadStops (StoreRose store store_now) (ArePlanned w.plan t store.files)) → WritesTexts w.plan w.limit w.base t store store_now r
  was_ended store_now r base limit later stands summary merge_a merge_b left others index since refused = record {
    written = set_ended (has_all base limit later) stands summary merge_a merge_b left others since;
    index = index;
    refused = refused;
  }

-- ---- earlier

-- what was made from an emptied head on was made from before it
module _ (plan : Plan) (limit : ℕ) (base : List ℕ) (t : TwoTexts) (store middle store_now : StoreAt) (r : Result Summary Fault)
    (apart : AreApart base t) (others : OthersSame base store.files middle.files) (index : reads_index middle.reads ≡ reads_index store.reads) (later : store.faults ≤ middle.faults)
    (none : IsSome middle.files → StandsForNone middle.files base) where
  planned_still : (collection : List ℕ) → IsPlanned plan t store.files collection → IsPlanned plan t middle.files collection
  planned_still collection is = (texts_stay base t t store.files middle.files collection apart (texts_none t) others is.0, is.1)

  pub written_before : WritesTexts plan limit base t middle store_now r → WritesTexts plan limit base t store store_now r
  written_before wrote = record {
    written = set_before others later none (λ collection is. (still_told store.files middle.files others.told is.0.first.told, planned_still collection is)) wrote.written;
    index = wrote.index ∙ index;
    refused = IfErr-weaker r (ReadStops (StoreRose middle store_now) (ArePlanned plan t middle.files)) (ReadStops (StoreRose store store_now) (ArePlanned plan t store.files))
        (λ fault stop. read_for fault (λ rose. rose_behind store.faults middle.faults store_now.faults later rose) (λ some. (some.0, planned_still some.0 some.1)) stop) wrote.refused;
  }

-- by the plan, the pool and the base of a writer
pub by_writer : (w : Putting) (plan : Plan) (limit : ℕ) (base : List ℕ) (t : TwoTexts) (store store_now : StoreAt) (r : Result Summary Fault) →
    w.plan ≡ plan → w.limit ≡ limit → w.base ≡ base → WritesTexts w.plan w.limit w.base t store store_now r → WritesTexts plan limit base t store store_now r
by_writer w plan limit base t store store_now r plan_is limit_is base_is wrote =
    subst (λ p. WritesTexts p limit base t store store_now r) plan_is
    (subst (λ n. WritesTexts w.plan n base t store store_now r) limit_is (subst (λ b. WritesTexts w.plan w.limit b t store store_now r) base_is wrote))

-- a writer that was not started
pub start_stops : {T : Type 0} (s t : ℕ) (whole : Type 0) (refusal : PutErr) (told : Fault) → told ≡ fault_of_store refusal → HasPutCause {T = T} s t (Err refusal) → ReadStops (Rose s t) whole told
start_stops s t whole put.Failed told is cause = subst (ReadStops (Rose s t) whole) (sym is) (cause.failed refl)
start_stops s t whole put.Memory told is cause = subst (ReadStops (Rose s t) whole) (sym is) tt

-- ---- both passes

-- what was written by the plan that was counted
module _ (plan : Plan) (limit budget : ℕ) (base : List ℕ) (t read : TwoTexts) (store middle store_now : StoreAt) (r : Result Summary Fault)
    (same : SameTexts t read) (files : middle.files ≡ store.files) (index : reads_index middle.reads ≡ reads_index store.reads) (later : store.faults ≤ middle.faults) (pool : limit ≡ budget)
    (of : (collection : List ℕ) → TextsStand t store.files collection → IsPlanOf plan collection) where
  stand_counted : (collection : List ℕ) → TextsStand t store.files collection → TextsStand read middle.files collection
  stand_counted collection stand = texts_stand_on t read store.files middle.files collection same files stand

  pub merged : WritesTexts plan limit base read middle store_now r → MergesTexts budget base t store store_now r
  merged wrote = record {
    written = subst (λ n. WritesSet (TextsStand t store.files) n base store store_now r) pool
        (set_since files later (λ collection stand. (stand_counted collection stand, of collection stand)) wrote.written);
    limits = λ collection stand. on_ok r (IsWithinLimits 2 collection) (of collection stand).limits;
    index = wrote.index ∙ index;
    early = early_all r (StoreRose middle store_now) (ArePlanned plan read middle.files) (IsUntouched store store_now) wrote.refused;
    refused = counts_all r (StoreRose middle store_now) (StoreRose store store_now) (ArePlanned plan read middle.files) (TextsStand t store.files)
        (λ rose. rose_behind store.faults middle.faults store_now.faults later rose) (λ collection stand. (collection, (stand_counted collection stand, of collection stand))) wrote.refused;
  }

-- the texts were not counted
pub not_counted : (budget : ℕ) (base : List ℕ) (t : TwoTexts) (store store_now : StoreAt) (fault : Fault) →
    LooksAtTexts store.files store_now.files store.reads store_now.reads store.faults store_now.faults → CountingStops (StoreRose store store_now) (TextsStand t store.files) fault → MergesTexts budget base t store store_now (Err fault)
not_counted budget base t store store_now fault looks refused = record {
  written = set_not_written (λ collection stand. inl looks.files) (others_none base store.files store_now.files looks.files) looks.later;
  limits = λ collection stand. tt;
  index = outside_index _ _ looks.unread;
  early = λ soon. record { files = looks.files; unread = looks.unread };
  refused = refused;
}
