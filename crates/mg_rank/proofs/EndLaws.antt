-- From the lists of all terms to the answer.
use Rattle.std.proofs.Common.{arith, ◌≡◌, ◌≢◌, ◌+◌, ◌≤◌, ◌<◌, ℕ, Bool, List, [], ◌∷◌, ◌++◌, length, map, filter, take, get_or, sum_by, refl, sym, ap, subst}
use Rattle.std.proofs.Common.{◌∙◌, slice_index_or, Err}
use Rattle.std.specs.Prelude.{Result, Ok}
use Rattle.std.specs.List.{All, enumerate_from, list_any, IsDistinct}
use Rattle.std.specs.Str.{bytes_eq}
use Rattle.std.proofs.lemmas.List.{get_or_default, length-map, take_more, take_all}
use Rattle.std.proofs.lemmas.List.FromFn.{length-enumerate_from}
use Rattle.std.proofs.lemmas.List.Sums.{count_by-le-length, length-filter, sum_by-append, sum_by-cons, sum_by-take-le}
use Rattle.std.proofs.lemmas.List.Elements.{All-nil, All-cons, All-head, All-tail}
use Rattle.mg_dev.specs.Files.{Reads}
use Rattle.mg_dev.specs.PartCauses.{HasPartCause}
use Rattle.mg_dev.specs.declared.part_err.PartErr.{PartErr}
use Rattle.mg_dev.specs.declared.part_err.PartErr.TheVariants as part
use Rattle.mg_defs.specs.Split.{documents}
use Rattle.mg_defs.specs.Weights.{Hit, by_score, hits, hits_over, has_term, score_over}
use Rattle.mg_defs.proofs.FirstLaws.{hits_of_distinct}
use Rattle.mg_layout.specs.Infos.{IsInfoOf}
use Rattle.mg_layout.specs.declared.term_info.TermInfo.{TermInfo}
use Rattle.mg_defs.specs.PageBounds.{list_pages, ranked_bound}
use Rattle.mg_defs.specs.Lists.{block_count}
use Rattle.mg_post.specs.Cursor.{Cursoring, SameList, skip_pages}
use Rattle.mg_post.specs.Finding.{entries_pages}
use Rattle.mg_post.specs.TermLists.{ReadsLists}
use Rattle.mg_rank.specs.declared.best.Kept.{Kept}
use Rattle.mg_rank.specs.Ranked.{AnswersOr, AnswersTop, AreTold, IsNumbered, Ranking, ReadsRanked, ReadsWeights, SumsFor, list_entries}
use Rattle.mg_rank.specs.Rows.{AreNumbered, hit_in, hits_in}
use Rattle.mg_rank.specs.Sums.{AreWithin}
use Rattle.mg_rank.proofs.HitLaws.{row_of, same_hits}
use Rattle.mg_rank.proofs.OrderLaws.{length_same}
use Rattle.mg_rank.proofs.RowLaws.{numbered}

pub sums_end : (collection : List ℕ) (ts : List (List ℕ)) (k : ℕ) (sums : List (ℕ × ℕ)) → SumsFor collection (take k ts) sums → length ts ≤ k → SumsFor collection ts sums
sums_end collection ts k sums s le = subst (λ us. SumsFor collection us sums) (take_all k ts le) s

pub sums_start : (collection : List ℕ) (ts : List (List ℕ)) → SumsFor collection (take 0 ts) []
sums_start collection ts = record { each = λ d some. refl; apart = tt }

pub sums_next : (collection : List ℕ) (ts : List (List ℕ)) (k : ℕ) (sums : List (ℕ × ℕ)) → k < length ts →
    SumsFor collection (take k ts ++ get_or ts k [] ∷ []) sums → SumsFor collection (take (k + 1) ts) sums
sums_next collection ts k sums lt s = subst (λ us. SumsFor collection us sums) (sym (take_more ts k [] lt)) s

pub info_at : (collection : List ℕ) (ts : List (List ℕ)) (infos : List TermInfo) (k : ℕ) (d : TermInfo) → AreTold collection ts infos → k < length infos →
    (k < length ts) × IsInfoOf collection (get_or ts k []) (slice_index_or infos k d)
info_at collection ts infos k d told lt =
    let l : k < length ts = omega (arith, lt, told.size) in
    (l, told.each k (slice_index_or infos k d) l (get_or_default infos k (slice_index_or infos k d) d lt))

pub post_end : (collection : List ℕ) (ts : List (List ℕ)) (k before now : ℕ) → now ≤ before + sum_by (list_pages collection) (take k ts) → now ≤ before + ranked_bound collection ts
unfolding ranked_bound
post_end collection ts k before now a = omega (arith, a, sum_by-take-le (list_pages collection) ts k)

-- any bound on each list
pub once_next : (f : List ℕ → ℕ) (ts : List (List ℕ)) (k before mid now : ℕ) → k < length ts → mid ≤ before + sum_by f (take k ts) →
    now ≤ mid + f (get_or ts k []) → now ≤ before + sum_by f (take (k + 1) ts)
once_next f ts k before mid now lt a b =
    omega (arith, a, b, ap (sum_by f) (take_more ts k [] lt), sum_by-append f (take k ts) (get_or ts k [] ∷ []), sum_by-cons f (get_or ts k []) [])

pub once_end : (f : List ℕ → ℕ) (ts : List (List ℕ)) (k before now : ℕ) → now ≤ before + sum_by f (take k ts) → now ≤ before + sum_by f ts
once_end f ts k before now a = omega (arith, a, sum_by-take-le f ts k)

pub lists_on : {a b c : Reads} → ReadsLists a b → ReadsLists b c → ReadsLists a c
lists_on first then = record {
  later = λ p. omega (arith, first.later p, then.later p);
  others = λ p x y. then.others p x y ∙ first.others p x y;
}

-- the pages of Skip that a cursor over a list has read
pub list_third : (info : TermInfo) (c v : Cursoring) → c.skip_at ≡ info.skip_at → c.docs ≡ info.docs → SameList c v →
    skip_pages v ≤ entries_pages v.skip_at (block_count v.docs) → skip_pages v ≤ list_entries info
list_third info c v at docs same third = rw (same.skip_at, at, same.docs, docs) at third

-- and of all of them
pub skips_next : (infos : List TermInfo) (k before mid now : ℕ) (info d : TermInfo) → k < length infos → info ≡ slice_index_or infos k d →
    mid ≤ before + sum_by list_entries (take k infos) → now ≤ mid + list_entries info → now ≤ before + sum_by list_entries (take (k + 1) infos)
skips_next infos k before mid now info d lt is a b =
    let more : take (k + 1) infos ≡ take k infos ++ info ∷ [] = take_more infos k d lt ∙ ap (λ x. take k infos ++ x ∷ []) (sym is) in
    omega (arith, a, b, ap (sum_by list_entries) more, sum_by-append list_entries (take k infos) (info ∷ []), sum_by-cons list_entries info [])

pub skips_end : (infos : List TermInfo) (k before now : ℕ) → now ≤ before + sum_by list_entries (take k infos) → now ≤ before + sum_by list_entries infos
skips_end infos k before now a = omega (arith, a, sum_by-take-le list_entries infos k)

-- ---- how many documents

pub hits_few : (collection : List ℕ) (ts : List (List ℕ)) → length (hits_over collection ts) ≤ length (documents collection)
hits_few collection ts = omega (
  arith,
  length-map (filter (met ts) (enumerate_from 1 (documents collection))) (hit collection ts),
  length-filter (met ts) (enumerate_from 1 (documents collection)),
  count_by-le-length (met ts) (enumerate_from 1 (documents collection)),
  length-enumerate_from 1 (documents collection),
)
  where
    met : List (List ℕ) → ℕ × List ℕ → Bool
    met ts d = list_any (has_term d.1) ts

    hit : List ℕ → List (List ℕ) → ℕ × List ℕ → Hit
    hit collection ts d = record { number = d.0; score = score_over collection ts d.1 }

pub counted : (collection : List ℕ) (ts : List (List ℕ)) (all : ℕ) (sums : List (ℕ × ℕ)) → SumsFor collection ts sums → AreWithin all sums → length sums ≡ length (hits_over collection ts)
counted collection ts all sums s within = sym (length_same (hits_over collection ts) (map (row_of collection) sums) (same_hits collection ts all sums s within) ∙ length-map sums (row_of collection))

-- ---- refusals and reads

pub top_err : {A : Type 0} (e : PartErr) (f : A → Type 0) (collection : List ℕ) (ts : List (List ℕ)) (most : ℕ) → AnswersOr {T = A} (Err e) f → AnswersTop (Err e) collection ts most
top_err part.Device f collection ts most got = tt
top_err part.Memory f collection ts most got = tt
top_err (part.Bad bad) f collection ts most got = absurd got

-- the terms are distinct, so that their list is the query
pub top_over : (collection : List ℕ) (ts : List (List ℕ)) (most : ℕ) (result : Result Ranking PartErr) → IsDistinct bytes_eq ts →
    AnswersOr result (λ r. (r.rows ≡ take most (by_score (hits_over collection ts))) × (r.total ≡ length (hits_over collection ts))) → AnswersTop result collection ts most
top_over collection ts most (Ok r) apart got =
    let once : hits_over collection ts ≡ hits collection ts = sym (hits_of_distinct collection ts apart) in
    (got.0 ∙ ap (λ hs. take most (by_score hs)) once, got.1 ∙ ap length once)
top_over collection ts most (Err part.Device) apart got = tt
top_over collection ts most (Err part.Memory) apart got = tt
top_over collection ts most (Err (part.Bad bad)) apart got = absurd got

-- a refusal that no device made
pub calm_cause : {T : Type 0} (e : PartErr) {m n : ℕ} → e ≢ part.Device → m ≤ n → HasPartCause {T = T} m n (Err e)
calm_cause part.Device calm later = absurd (calm refl)
calm_cause part.Memory calm later = record { later = later; device = tt }
calm_cause (part.Bad bad) calm later = record { later = later; device = tt }

pub ranked_lists : {a b : Reads} → ReadsLists a b → ReadsRanked a b
ranked_lists r = record { later = r.later; others = λ p x y z. r.others p x y }

pub ranked_both : {a b c : Reads} → ReadsLists a b → ReadsWeights b c → ReadsRanked a c
ranked_both r w = record {
  later = λ p. omega (arith, r.later p, w.later p);
  others = λ p x y z. w.others p z ∙ r.others p x y;
}

pub numbered_hits : (all : ℕ) (rows : List Kept) → AreNumbered all rows → All (IsNumbered all) (hits_in rows)
numbered_hits all [] h = All-nil (IsNumbered all)
numbered_hits all (r ∷ rows) h = All-cons (IsNumbered all) (hit_in r) (hits_in rows) (All-head (numbered all) r rows h) (numbered_hits all rows (All-tail (numbered all) r rows h))
