-- From the sums to the first rows, as far as the loop has come: what it keeps, and what each way out of it promises.
use Rattle.std.proofs.Common.{arith, ◌≡◌, ◌+◌, ◌^◌, ◌≤◌, ◌<◌, ℕ, List, [], ◌∷◌, ◌++◌, length, map, take, min, nat_eq}
use Rattle.std.proofs.Common.{refl, sym, subst, ap, ◌∙◌, Option, Some, None, Ok, Err, slice_index_or, Vec, Global}
use Rattle.std.specs.Prelude.{IsSorted}
use Rattle.std.specs.BinaryHeap.{IsHeap}
use Rattle.std.specs.List.Sorted.{IsPermutation}
use Rattle.std.specs.Map.{lookup}
use Rattle.std.specs.Option.{IsSome}
use Rattle.std.proofs.lemmas.List.{take_all}
use Rattle.std.proofs.lemmas.List.Elements.{All-nil}
use Rattle.mg_dev.specs.Files.{Files, Reads, bytes_at}
use Rattle.mg_dev.specs.Names.{full_name}
use Rattle.mg_dev.specs.PartCauses.{HasPartCause}
use Rattle.mg_dev.specs.declared.part.Part.TheVariants as part
use Rattle.mg_dev.specs.declared.part_err.PartErr.{PartErr}
use Rattle.mg_dev.specs.declared.part_err.PartErr.TheVariants as err
use Rattle.mg_dev.proofs.CallerLemmas.{cause_err, cause_ok}
use Rattle.mg_bits.specs.Feed.{lacks}
use Rattle.mg_bits.specs.Pages.{Fits, Looked, Paging, SameFile}
use Rattle.mg_defs.specs.Split.{documents}
use Rattle.mg_defs.specs.Terms.{document}
use Rattle.mg_defs.specs.Weights.{weight}
use Rattle.mg_post.specs.Answers.{AnswersList}
use Rattle.mg_rank.specs.declared.best.Kept.{Kept}
use Rattle.mg_rank.specs.Best.{TakesRow, kept_cmp}
use Rattle.mg_rank.specs.Calls.{AreSums, FindsFirst, FindsIn}
use Rattle.mg_rank.specs.Damages.{IsNotOfLex}
use Rattle.mg_rank.specs.Ranked.{AnswersOr, ForSums, ForWeight, ReadsWeights, SumsFor, WeightsStand}
use Rattle.mg_rank.specs.Rows.{AreNumbered, hit_in, hits_in}
use Rattle.mg_rank.specs.WeightReads.{weight_page}
use Rattle.mg_rank.proofs.AscentLaws.{WeightsRead, read_most, read_next, read_refused, read_start}
use Rattle.mg_rank.proofs.HitLaws.{row_of, same_hits}
use Rattle.mg_rank.proofs.KeptLaws.{are_first, hold_more}
use Rattle.mg_rank.proofs.OrderLaws.{Holds, hold_start}
use Rattle.mg_rank.proofs.RowLaws.{entry_found, entry_sum, entry_within, has_some, numbered, numbered_more, numbered_same, rows_more, weight_small, weight_some, weight_stands}
use Rattle.mg_rank.proofs.WalkLaws.{or_list, or_or, reads_on}

-- the document in a place of the sums, and its sum
pub record EntryAt (all k : ℕ) (sums : List (ℕ × ℕ)) (x : ℕ × ℕ) : Type 0 where
  pub there : k < length sums
  pub is : x ≡ slice_index_or sums k (0, 0)
  pub low : 1 ≤ x.0
  pub high : x.0 ≤ all
  pub found : lookup (nat_eq x.0) sums ≡ Some x.1
  pub small : x.1 < 2 ^ 56

pub entry_at : {all k : ℕ} {sums : List (ℕ × ℕ)} {x : ℕ × ℕ} → AreSums all sums → k < length sums → x ≡ slice_index_or sums k (0, 0) → EntryAt all k sums x
entry_at {all} {k} {sums} {x} are lt is =
    let within = entry_within all sums k (0, 0) are.within lt in
    record {
      there = lt;
      is = is;
      low = omega (arith, ap (λ (y : ℕ × ℕ). y.0) is, within.0);
      high = omega (arith, ap (λ (y : ℕ × ℕ). y.0) is, within.1);
      found = subst (λ (y : ℕ × ℕ). lookup (nat_eq y.0) sums ≡ Some y.1) (sym is) (entry_found sums k (0, 0) are.apart lt);
      small = omega (arith, ap (λ (y : ℕ × ℕ). y.1) is, entry_sum sums k (0, 0) are.apart lt, are.small (slice_index_or sums k (0, 0)).0);
    }

-- nothing was read yet, and memory is wanting
pub rows_lack : {base : List ℕ} {sums : List (ℕ × ℕ)} {all most : ℕ} {f : Option Files} {r : Reads} {n : ℕ} → FindsFirst base sums all most (Err err.Memory) f f r r n n
rows_lack = record {
  answer = λ collection ts stand all_is s. tt;
  range = tt;
  weights = omega arith;
  reads = record { later = λ p. omega arith; others = λ p o. refl };
  files = refl;
  cause = record { later = omega arith; device = tt };
  lexicon = tt;
}

-- no row is wanted, and no weight is read
pub rows_none : {base : List ℕ} {sums : List (ℕ × ℕ)} {all most : ℕ} {f : Option Files} {r : Reads} {n : ℕ} (rows : Vec Kept Global) → rows.items ≡ [] → most ≡ 0 →
    FindsFirst base sums all most (Ok rows) f f r r n n
rows_none {all = all} rows none zero = record {
  answer = λ collection ts stand all_is of. rw (none, zero) refl;
  range = rw none (All-nil (numbered all));
  weights = omega arith;
  reads = record { later = λ p. omega arith; others = λ p o. refl };
  files = refl;
  cause = record { later = omega arith; device = tt };
  lexicon = tt;
}

-- the rows of the documents in so many places were offered
pub record Under (name : List ℕ) (sums : List (ℕ × ℕ)) (all most k : ℕ) (weights : Paging) (best : List Kept) (files_before files_now : Option Files)
    (reads_before reads_now : Reads) (faults_before faults_now : ℕ) : Type 0 where
  pub fits : Fits weights files_now
  pub name_is : weights.name ≡ name
  pub own : weights.part ≡ part.Weights
  pub files : files_now ≡ files_before
  pub reads : ReadsWeights reads_before reads_now
  pub weights_read : WeightsRead all (take k sums) weights.held (reads_before part.Weights) (reads_now part.Weights)
  pub faults : faults_before ≤ faults_now
  pub heap : IsHeap kept_cmp best
  pub size : length best ≡ min most k
  pub numbered : AreNumbered all best
  pub holds : (base : List ℕ) → name ≡ full_name base part.Weights →
      ForSums base files_before all sums (λ collection ts. Holds most (map (row_of collection) (take k sums)) (hits_in best))

pub under_start : {sums : List (ℕ × ℕ)} {all most : ℕ} {weights : Paging} {best : List Kept} {f : Option Files} {r : Reads} {n : ℕ} → Fits weights f →
    weights.part ≡ part.Weights → weights.held ≡ None → best ≡ [] → IsHeap kept_cmp best → Under weights.name sums all most 0 weights best f f r r n n
under_start {sums = sums} {all = all} {most = most} fits own held none heap = record {
  fits = fits;
  name_is = refl;
  own = own;
  files = refl;
  reads = record { later = λ p. omega arith; others = λ p o. refl };
  weights_read = read_start all _ _ sums held;
  faults = omega arith;
  heap = heap;
  size = omega (arith, ap length none);
  numbered = rw none (All-nil (numbered all));
  holds = λ base is collection ts stand all_is of. rw none (hold_start most);
}

module _ {name : List ℕ} {sums : List (ℕ × ℕ)} {all most k : ℕ} {weights : Paging} {best : List Kept} {f g h : Option Files} {r s t : Reads} {l m n : ℕ} {x : ℕ × ℕ}
    (u : Under name sums all most k weights best f g r s l m) (a : EntryAt all k sums x) (looked : Looked weights.part g h s t m n)
    (read : t weights.part ≤ s weights.part + lacks weights.held (weight_page x.0)) where
  own_read : t part.Weights ≤ s part.Weights + lacks weights.held (weight_page x.0)
  own_read = subst (λ p. t p ≤ s p + lacks weights.held (weight_page x.0)) u.own read

  -- where the parts stand, the weight that was read is the document's
  weight_told : {claim : ℕ → Type 0} → (IsSome g → ForWeight weights g x.0 claim) → (base : List ℕ) → name ≡ full_name base part.Weights → (collection : List ℕ) (ts : List (List ℕ)) →
      WeightsStand base f collection → all ≡ length (documents collection) → SumsFor collection ts sums → claim (weight (document collection x.0))
  weight_told told base is collection ts stand all_is of =
      let some = has_some collection ts x.0 x.1 (sym (of.each x.0 a.low) ∙ a.found) in
      let bytes_are = ap (bytes_at g) (u.name_is ∙ is) ∙ ap (λ fs. bytes_at fs (full_name base part.Weights)) u.files ∙ stand.weights in
      told (subst IsSome (sym u.files) stand.lists.told) (weight (document collection x.0)) (weight_some collection ts x.0 stand.lists.short some)
      (weight_small (document collection x.0)) (weight_stands collection _ x.0 bytes_are a.low (omega (arith, a.high, all_is)))

  rows_err : (e : PartErr) → ((base : List ℕ) → name ≡ full_name base part.Weights → ForSums base f all sums (λ collection ts. AnswersOr {T = Vec Kept Global} (Err e) (λ rows. ⊥))) →
      HasPartCause {T = ℕ} m n (Err e) → IsNotOfLex e → FindsIn name sums all most (Err e) f h r t l n
  rows_err e answer cause lexicon = λ base is. record {
    answer = λ collection ts stand all_is of. or_or e _ _ (answer base is collection ts stand all_is of);
    range = tt;
    weights = read_refused all k _ _ _ sums (0, 0) x _ a.there a.is a.low a.high own_read u.weights_read;
    reads = reads_on u.own u.reads looked;
    files = looked.files ∙ u.files;
    cause = cause_err u.faults cause;
    lexicon = lexicon;
  }

  -- the weight was refused
  pub rows_refused : (e : PartErr) → (IsSome g → ForWeight weights g x.0 (λ w. AnswersList (Err e) (λ v. v ≡ w))) → HasPartCause {T = ℕ} m n (Err e) →
      IsNotOfLex e → FindsIn name sums all most (Err e) f h r t l n
  rows_refused e told cause lexicon =
      rows_err e (λ base is collection ts stand all_is of. or_list {B = Vec Kept Global} e _ _ (weight_told told base is collection ts stand all_is of)) cause lexicon

  -- memory was wanting for a row more
  pub rows_short : FindsIn name sums all most (Err err.Memory) f h r t l n
  rows_short = rows_err err.Memory (λ base is collection ts stand all_is of. tt) (record { later = looked.faults; device = tt }) tt

  -- a row was offered
  pub rows_next : {later : Paging} {w : ℕ} {row : Kept} {new : List Kept} → SameFile weights later → Fits later h → later.held ≡ Some (weight_page x.0) →
      (IsSome g → ForWeight weights g x.0 (λ v. w ≡ v)) → row.document ≡ x.0 → ((collection : List ℕ) → w ≡ weight (document collection x.0) → hit_in row ≡ row_of collection x) →
      TakesRow most row best new → Under name sums all most (k + 1) later new f h r t l n
  rows_next {row = row} {new = new} same fits held told document_is hit_is taken = record {
    fits = fits;
    name_is = same.name ∙ u.name_is;
    own = same.part ∙ u.own;
    files = looked.files ∙ u.files;
    reads = reads_on u.own u.reads looked;
    weights_read = read_next all k _ _ _ sums (0, 0) x _ _ a.there a.is a.low a.high own_read held u.weights_read;
    faults = omega (arith, u.faults, looked.faults);
    heap = taken.heap;
    size = omega (arith, taken.len, u.size);
    numbered = numbered_more all row best new u.numbered (omega (arith, document_is, a.low), omega (arith, document_is, a.high)) taken.taken;
    holds = λ base is collection ts stand all_is of.
        let hit = hit_is collection (weight_told told base is collection ts stand all_is of) in
        let more = hold_more most (map (row_of collection) (take k sums)) best new row (u.holds base is collection ts stand all_is of) taken.taken taken.len in
        subst (λ hits. Holds most hits (hits_in new)) (ap (λ last. map (row_of collection) (take k sums) ++ last ∷ []) hit ∙ sym (rows_more collection sums k (0, 0) x a.there a.is)) more;
  }

-- the rows of all documents were offered
pub rows_found : {name : List ℕ} {sums : List (ℕ × ℕ)} {all most k : ℕ} {weights : Paging} {best : List Kept} {f g : Option Files} {r s : Reads} {l m : ℕ} (rows : Vec Kept Global) →
    AreSums all sums → Under name sums all most k weights best f g r s l m → length sums ≤ k → IsPermutation best rows.items → IsSorted kept_cmp rows.items →
    FindsIn name sums all most (Ok rows) f g r s l m
rows_found {sums = sums} {all = all} {most = most} {k = k} {best = best} rows are u whole same sorted = λ base is. record {
  answer = λ collection ts stand all_is of.
      let holds = subst (λ some. Holds most (map (row_of collection) some) (hits_in best)) (take_all k sums whole) (u.holds base is collection ts stand all_is of) in
      are_first collection ts most (map (row_of collection) sums) best rows.items (same_hits collection ts all sums of are.within) holds (omega (arith, u.size)) same sorted;
  range = numbered_same all best rows.items u.numbered same;
  weights = read_most all k _ _ sums _ u.weights_read;
  reads = u.reads;
  files = u.files;
  cause = cause_ok u.faults;
  lexicon = tt;
}
