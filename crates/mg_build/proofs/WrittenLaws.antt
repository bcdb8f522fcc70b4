-- What the second pass made, from what its writer tells.
use Rattle.std.proofs.Common.{arith, ◌≡◌, ◌≤◌, ◌∙◌, ℕ, List, Option, Err, IsSome, refl, sym, subst, inl}
use Rattle.std.specs.Prelude.{IfErr, OnOk, Result}
use Rattle.std.proofs.lemmas.Result.{IfErr-weaker}
use Rattle.mg_dev.specs.Causes.{HasPutCause, Rose}
use Rattle.mg_dev.specs.Each.{ForEach}
use Rattle.mg_dev.specs.Faults.{fault_of_store}
use Rattle.mg_dev.specs.Files.{Files, bytes_at}
use Rattle.mg_dev.specs.Moments.{StoreAt, StoreRose}
use Rattle.mg_dev.specs.declared.device.PutErr.{PutErr}
use Rattle.mg_dev.specs.declared.device.PutErr.TheVariants as put
use Rattle.mg_dev.specs.declared.fault.Fault.{Fault}
use Rattle.mg_dev.specs.declared.part.Part.TheVariants as part
use Rattle.mg_layout.specs.Stands.{StandsForNone}
use Rattle.mg_make.specs.Changes.{TellsAtEnd}
use Rattle.mg_make.specs.Outcomes.{HasSummaryOf, Left, MakesSet}
use Rattle.mg_make.specs.Plans.{IsPlanOf, Plan}
use Rattle.mg_make.specs.Putting.{ForPut, HasPut, IsApart, IsEmptied, OthersSame, PlanStops, Putting, StandsForNoOther}
use Rattle.mg_make.specs.declared.summary.Summary.{Summary}
use Rattle.mg_build.specs.Building.{IsPlanAt, IsPlanFor, IsPlanned, TellsRead, WriteStops}
use Rattle.mg_build.specs.Sources.{AreRead, Sourcing}
use Rattle.mg_build.specs.Steps.{WritesOn, WritesSource}
use Rattle.mg_make.proofs.CallerLemmas.{HasAll, set_before, set_ended, set_not_written}
use Rattle.mg_build.proofs.PassLaws.{plan_later, read_all, rose_behind, same_bytes, still_told, tells_end_put, tells_still, write_end_all, write_wider}

-- ---- nothing was made

pub not_written : {plan : Plan} {limit : ℕ} {base : List ℕ} {source : Sourcing} {store store_now : StoreAt} {fault : Fault} →
    ForEach (IsPlanned plan store.files source) (Left base store.files store_now.files) →
    OthersSame base store.files store_now.files → store.reads part.Plain ≤ store_now.reads part.Plain → store.faults ≤ store_now.faults →
    WriteStops (StoreRose store store_now) (IsPlanAt plan store.files source) fault → TellsRead plan store.files source.feed.name source.size fault →
    WritesSource plan limit base source store store_now (Err fault)
not_written left others plain later refused tells =
    record { written = set_not_written left others later; plain = plain; refused = refused; tells = tells }

-- a writer that was not started
pub start_stops : {T : Type 0} (s t : ℕ) (same : Type 0) (refusal : PutErr) (told : Fault) → told ≡ fault_of_store refusal → HasPutCause {T = T} s t (Err refusal) → WriteStops (Rose s t) same told
start_stops s t same put.Failed told is cause = subst (WriteStops (Rose s t) same) (sym is) (cause.failed refl)
start_stops s t same put.Memory told is cause = subst (WriteStops (Rose s t) same) (sym is) tt

-- it tells no change
pub start_tells : (plan : Plan) (files : Option Files) (name : List ℕ) (size : ℕ) (refusal : PutErr) (told : Fault) → told ≡ fault_of_store refusal → TellsRead plan files name size told
start_tells plan files name size put.Failed told is = rw is (inl tt)
start_tells plan files name size put.Memory told is = rw is (inl tt)

-- ---- the writer was ended

-- all bytes were put
module _ (w now : Putting) (source : Sourcing) (store middle store_now : StoreAt) (r : Result Summary Fault) (fed : List ℕ)
    (goes : WritesOn w now store middle) (are : AreRead store.files source.feed.name source.size fed) (has : HasPut now middle.files fed) where
  -- they are those of the collection, where it is planned
  all_put : HasAll (IsPlanned w.plan store.files source) w now store middle
  all_put = record {
    base = goes.base;
    limit = goes.limit;
    told = λ bytes is. still_told store.files middle.files goes.others.told is.0.told;
    put = λ bytes is. subst (HasPut now middle.files) (read_all store.files source.feed.name source.size fed are is.0.told is.0.whole ∙ is.1) has;
    plan = λ bytes is. subst (λ p. IsPlanOf p bytes) (sym goes.plan) (subst (IsPlanOf w.plan) is.1 is.0.counted);
    others = goes.others;
    later = goes.later;
  }

  -- and then the writer was ended
  pub was_ended : ForPut now middle.files (MakesSet now.limit store_now.files now.base r) → ForPut now middle.files (HasSummaryOf now.limit r) →
      ForPut now middle.files (λ bytes. OnOk r (IsEmptied store_now.files now.base part.MergeA)) → ForPut now middle.files (λ bytes. OnOk r (IsEmptied store_now.files now.base part.MergeB)) →
      ForPut now middle.files (StandsForNoOther store_now.files now.base) → OthersSame now.base middle.files store_now.files →
      middle.reads part.Plain ≤ store_now.reads part.Plain → middle.faults ≤ store_now.faults →
      IfErr r (λ fault. (bytes : List ℕ) → HasPut now middle.files bytes → PlanStops (StoreRose middle store_now) now.plan middle.files fault bytes) →
      IfErr r (λ fault. (bytes : List ℕ) → HasPut now middle.files bytes → TellsAtEnd now.plan bytes fault) → WritesSource w.plan w.limit w.base source store store_now r
  was_ended stands summary merge_a merge_b left others plain later refused tells = record {
    written = set_ended all_put stands summary merge_a merge_b left others later;
    plain = omega (arith, goes.plain, plain);
    refused = subst (λ p. IfErr r (WriteStops (StoreRose store store_now) (IsPlanFor p store.files source.feed.name source.size))) goes.plan
        (write_end_all r (λ bytes. HasPut now middle.files bytes) (StoreRose middle store_now) (StoreRose store store_now) now.plan store.files middle.files
        source.feed.name fed source.size (λ rose. rose_behind store.faults middle.faults store_now.faults goes.later rose)
        (λ told. still_told store.files middle.files goes.others.told told) are has refused);
    tells = subst (λ p. IfErr r (TellsRead p store.files source.feed.name source.size)) goes.plan
        (tells_end_put r (λ bytes. HasPut now middle.files bytes) now.plan store.files source.feed.name fed source.size are has tells);
  }

-- ---- from before it on

-- what was made from an emptied head on was made from before it
module _ (plan : Plan) (limit : ℕ) (base : List ℕ) (source : Sourcing) (store middle store_now : StoreAt) (r : Result Summary Fault)
    (apart : IsApart base source.feed.name) (others : OthersSame base store.files middle.files) (plain : store.reads part.Plain ≤ middle.reads part.Plain)
    (later : store.faults ≤ middle.faults) (none : IsSome middle.files → StandsForNone middle.files base) where
  planned_still : IsPlanAt plan store.files source → IsPlanAt plan middle.files source
  planned_still is = plan_later plan store.files middle.files source.feed.name source.size others.told (others.others source.feed.name apart) is

  same : bytes_at middle.files source.feed.name ≡ bytes_at store.files source.feed.name
  same = same_bytes store.files middle.files source.feed.name source.feed.name refl (others.others source.feed.name apart)

  pub written_before : WritesSource plan limit base source middle store_now r → WritesSource plan limit base source store store_now r
  written_before wrote = record {
    written = set_before others later none (λ bytes is. (still_told store.files middle.files others.told is.0.told, (planned_still is.0, same ∙ is.1))) wrote.written;
    plain = omega (arith, plain, wrote.plain);
    refused = IfErr-weaker r (WriteStops (StoreRose middle store_now) (IsPlanAt plan middle.files source)) (WriteStops (StoreRose store store_now) (IsPlanAt plan store.files source))
        (λ fault stop. write_wider (StoreRose middle store_now) (StoreRose store store_now) (IsPlanAt plan middle.files source) (IsPlanAt plan store.files source) fault
        (λ rose. rose_behind store.faults middle.faults store_now.faults later rose) planned_still stop) wrote.refused;
    tells = IfErr-weaker r (TellsRead plan middle.files source.feed.name source.size) (TellsRead plan store.files source.feed.name source.size)
        (λ fault tells. tells_still plan store.files middle.files source.feed.name source.size fault others.told same tells) wrote.tells;
  }

-- by the plan, the pool and the base of a writer
pub by_writer : (w : Putting) {plan : Plan} {limit : ℕ} {base : List ℕ} {source : Sourcing} {store store_now : StoreAt} {r : Result Summary Fault} →
    w.plan ≡ plan → w.limit ≡ limit → w.base ≡ base → WritesSource w.plan w.limit w.base source store store_now r → WritesSource plan limit base source store store_now r
by_writer w {plan} {limit} {base} {source} {store} {store_now} {r} plan_is limit_is base_is wrote =
    subst (λ p. WritesSource p limit base source store store_now r) plan_is
    (subst (λ n. WritesSource w.plan n base source store store_now r) limit_is (subst (λ b. WritesSource w.plan w.limit b source store store_now r) base_is wrote))
