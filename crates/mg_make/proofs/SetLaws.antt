-- A set that is written of something that is read: the ways out.
use Rattle.std.proofs.Common.{arith, ◌≡◌, ◌≤◌, ℕ, List, Err, IsSome, sym, subst, inl, inr}
use Rattle.std.specs.Prelude.{OnOk, Result}
use Rattle.mg_dev.specs.Each.{ForEach}
use Rattle.mg_dev.specs.Moments.{StoreAt}
use Rattle.mg_dev.specs.declared.fault.Fault.{Fault}
use Rattle.mg_dev.specs.declared.part.Part.TheVariants.{MergeA, MergeB}
use Rattle.mg_layout.specs.Stands.{StandsForNone}
use Rattle.mg_count.specs.Plans.{IsPlanOf}
use Rattle.mg_make.specs.Outcomes.{HasSummaryOf, Left, MakesSet}
use Rattle.mg_make.specs.Putting.{ForPut, HasPut, IsEmptied, OthersSame, Putting, StandsForNoOther}
use Rattle.mg_make.specs.Sets.{WritesSet}
use Rattle.mg_make.specs.declared.summary.Summary.{Summary}
use Rattle.mg_make.proofs.OthersLaws.{others_more}

-- nothing was made
pub set_not_written : {planned : List ℕ → Type 0} {limit : ℕ} {base : List ℕ} {store store_now : StoreAt} {fault : Fault} →
    ForEach planned (Left base store.files store_now.files) → OthersSame base store.files store_now.files → store.faults ≤ store_now.faults →
    WritesSet planned limit base store store_now (Err fault)
set_not_written left others later = record {
  stands = λ collection is. tt;
  summary = λ collection is. tt;
  merge_a = λ collection is. tt;
  merge_b = λ collection is. tt;
  left = left;
  others = others;
  later = later;
}

-- what a writer is left with that has all bytes of each collection that is planned
pub record HasAll (planned : List ℕ → Type 0) (w now : Putting) (store middle : StoreAt) : Type 0 where
  pub base : now.base ≡ w.base
  pub limit : now.limit ≡ w.limit
  pub told : (collection : List ℕ) → planned collection → IsSome middle.files
  pub put : (collection : List ℕ) → planned collection → HasPut now middle.files collection
  pub plan : (collection : List ℕ) → planned collection → IsPlanOf now.plan collection
  pub others : OthersSame w.base store.files middle.files
  pub later : store.faults ≤ middle.faults

for_planned : {planned : List ℕ → Type 0} {w now : Putting} {store middle : StoreAt} → HasAll planned w now store middle → (P : List ℕ → Type 0) →
    ForPut now middle.files P → ForEach planned P
for_planned has P holds = λ collection is. holds collection (has.told collection is) (has.put collection is) (has.plan collection is)

-- the writer was ended
pub set_ended : {planned : List ℕ → Type 0} {w now : Putting} {store middle store_now : StoreAt} {r : Result Summary Fault} → HasAll planned w now store middle →
    ForPut now middle.files (MakesSet now.limit store_now.files now.base r) → ForPut now middle.files (HasSummaryOf now.limit r) →
    ForPut now middle.files (λ bytes. OnOk r (IsEmptied store_now.files now.base MergeA)) → ForPut now middle.files (λ bytes. OnOk r (IsEmptied store_now.files now.base MergeB)) →
    ForPut now middle.files (StandsForNoOther store_now.files now.base) → OthersSame now.base middle.files store_now.files → middle.faults ≤ store_now.faults →
    WritesSet planned w.limit w.base store store_now r
set_ended {planned} {w} {now} {store} {middle} {store_now} {r} has stands summary merge_a merge_b left others later =
    subst (λ n. WritesSet planned n w.base store store_now r) has.limit (subst (λ b. WritesSet planned now.limit b store store_now r) has.base (record {
      stands = for_planned has (MakesSet now.limit store_now.files now.base r) stands;
      summary = for_planned has (HasSummaryOf now.limit r) summary;
      merge_a = for_planned has (λ bytes. OnOk r (IsEmptied store_now.files now.base MergeA)) merge_a;
      merge_b = for_planned has (λ bytes. OnOk r (IsEmptied store_now.files now.base MergeB)) merge_b;
      left = λ collection is. inr (for_planned has (StandsForNoOther store_now.files now.base) left collection is);
      others = others_more now.base store.files middle.files store_now.files (subst (λ b. OthersSame b store.files middle.files) (sym has.base) has.others) others;
      later = omega (arith, has.later, later);
    }))

-- what was made from an emptied head on was made from before it
pub set_before : {planned earlier : List ℕ → Type 0} {limit : ℕ} {base : List ℕ} {store middle store_now : StoreAt} {r : Result Summary Fault} →
    OthersSame base store.files middle.files → store.faults ≤ middle.faults → (IsSome middle.files → StandsForNone middle.files base) →
    ((collection : List ℕ) → earlier collection → IsSome middle.files × planned collection) → WritesSet planned limit base middle store_now r →
    WritesSet earlier limit base store store_now r
set_before {base = base} {store} {middle} {store_now} others later none still wrote = record {
  stands = λ collection is. wrote.stands collection (still collection is).1;
  summary = λ collection is. wrote.summary collection (still collection is).1;
  merge_a = λ collection is. wrote.merge_a collection (still collection is).1;
  merge_b = λ collection is. wrote.merge_b collection (still collection is).1;
  left = λ collection is.
      let now = still collection is in
      elim (wrote.left collection now.1) [
        | inl kept ↦ inr (inl (subst (λ f. StandsForNone f base) (sym kept) (none now.0)))
        | inr made ↦ inr made
      ];
  others = others_more base store.files middle.files store_now.files others wrote.others;
  later = omega (arith, later, wrote.later);
}

-- what was made since something was only read was made from before it
pub set_since : {planned earlier : List ℕ → Type 0} {limit : ℕ} {base : List ℕ} {store middle store_now : StoreAt} {r : Result Summary Fault} →
    middle.files ≡ store.files → store.faults ≤ middle.faults → ((collection : List ℕ) → earlier collection → planned collection) →
    WritesSet planned limit base middle store_now r → WritesSet earlier limit base store store_now r
set_since {base = base} {store_now = store_now} files later still wrote = record {
  stands = λ collection is. wrote.stands collection (still collection is);
  summary = λ collection is. wrote.summary collection (still collection is);
  merge_a = λ collection is. wrote.merge_a collection (still collection is);
  merge_b = λ collection is. wrote.merge_b collection (still collection is);
  left = λ collection is. subst (λ f. Left base f store_now.files collection) files (wrote.left collection (still collection is));
  others = subst (λ f. OthersSame base f store_now.files) files wrote.others;
  later = omega (arith, later, wrote.later);
}
