-- The sums of documents, as the lists of terms are gone through.
use Rattle.std.proofs.Common.{arith, ◌≡◌, ◌+◌, ◌-◌, ◌*◌, ◌^◌, ◌≤◌, ◌<◌, ℕ, Bool, true, false, List, [], ◌∷◌, ◌++◌}
use Rattle.std.proofs.Common.{length, take, drop, refl, sym, ap, subst, ◌∙◌, inl, inr, Some, None, nat_eq, unwrap_or, sum_by, filter, if◌then◌else◌}
use Rattle.std.specs.Prelude.{◌||◌, nat_lt}
use Rattle.std.specs.List.{list_any}
use Rattle.std.specs.Map.{lookup}
use Rattle.std.proofs.lemmas.Bool.{cases_Bool, cases_lt, cases_eq, eq-eqb, ne_eqb, false≢true, or_left, or_right}
use Rattle.std.proofs.lemmas.List.Folds.{list_any-append}
use Rattle.std.proofs.lemmas.List.Elements.{filter-append}
use Rattle.std.proofs.lemmas.List.Sums.{sum_by-append, sum_by-cons}
use Rattle.std.proofs.Math.ListN.{get_or-eq_default}
use Rattle.mg_defs.specs.declared.Posting.{Posting}
use Rattle.mg_defs.specs.Split.{documents}
use Rattle.mg_defs.specs.Parse.{parse}
use Rattle.mg_defs.specs.Terms.{document, freq_in}
use Rattle.mg_defs.specs.Weights.{has_term, wd, wt, weight_in_doc}
use Rattle.mg_defs.specs.Lists.{postings, from_doc, Rises, Follows}
use Rattle.mg_defs.proofs.ListLaws.{from_here, from_next}
use Rattle.mg_defs.proofs.TermLaws.{document_is}
use Rattle.mg_post.specs.Cursor.{head_of}
use Rattle.mg_post.proofs.CallerLemmas.{has_at, later}
use Rattle.mg_laws.proofs.LedLists.{list_from, from_front, docs_from, length_front, some_freq}
use Rattle.mg_rank.specs.Ranked.{SumsFor, part_sum, so_far}
use Rattle.mg_rank.specs.Sums.{sum_of, with_more, AreApart}
use Rattle.mg_rank.proofs.Adding.{found_same, found_other, apart_more, sum_same, sum_other}

-- ---- the head of a list from a document on

pub head_sound : (all before d : ℕ) (ps : List Posting) (p : Posting) → Rises all before ps → head_of (from_doc d ps) ≡ Some p → (d ≤ p.doc) × (p.doc ≤ all) × (1 ≤ p.freq)
unfolding Rises from_doc
head_sound all before d [] p rises is = absurd cc
head_sound all before d (q ∷ ps) p rises is =
    elim (cases_lt q.doc d) [
      | inl below ↦ head_sound all q.doc d ps p rises.1 (sym (ap head_of (from_next d q ps below)) ∙ is)
      | inr above ↦ (
          let e : Some q ≡ Some p = sym (ap head_of (from_here d q ps above)) ∙ is in
          let same : q ≡ p = cc in
          let f : Follows all before q = rises.0 in
          let doc_is : q.doc ≡ p.doc = ap (λ (x : Posting). x.doc) same in
          let freq_is : q.freq ≡ p.freq = ap (λ (x : Posting). x.freq) same in
          (omega (arith, doc_is, above), omega (arith, doc_is, f.within), omega (arith, freq_is, f.some)))
    ]

pub none_in : (t : List ℕ) → has_term [] t ≡ false
unfolding parse
none_in t = refl

pub out_at : (collection t : List ℕ) (d : ℕ) → length (documents collection) < d → has_term (document collection d) t ≡ false
out_at collection t d lt = ap (λ doc. has_term doc t) (get_or-eq_default ([] ∷ documents collection) [] (omega (arith, lt))) ∙ none_in t

-- the count of a posting is the document's
head_list : (t : List ℕ) (n : ℕ) (doc : List ℕ) (ds : List (List ℕ)) (p : Posting) → has_term doc t ≡ true → head_of (list_from t n (doc ∷ ds)) ≡ Some p → p.freq ≡ freq_in doc t
head_list t n doc ds p h is =
    let e = some_freq doc t ∙ h in
    let first : Some (record { doc = n; freq = freq_in doc t }) ≡ Some p = sym (front e) ∙ is in
    let same : p ≡ record { doc = n; freq = freq_in doc t } = cc in
    ap (λ (x : Posting). x.freq) same
  where
    posting : Posting
    posting = record { doc = n; freq = freq_in doc t }

    front : nat_lt 0 (freq_in doc t) ≡ true → head_of (list_from t n (doc ∷ ds)) ≡ Some posting
    front e = rw e refl

pub freq_is : (collection t : List ℕ) (p : Posting) → 1 ≤ p.doc → p.doc ≤ length (documents collection) →
    head_of (from_doc p.doc (postings collection t)) ≡ Some p → has_term (document collection p.doc) t ≡ true → p.freq ≡ freq_in (document collection p.doc) t
freq_is collection t p some le is h =
    let ds = documents collection in
    let d = p.doc - 1 in
    let one = document collection p.doc in
    let split : ds ≡ take d ds ++ one ∷ drop (d + 1) ds = docs_from ds d (omega (arith, some, le)) ∙ ap (λ x. take d ds ++ x ∷ drop (d + 1) ds) (sym (document_is collection p.doc some)) in
    let at : p.doc ≡ 1 + length (take d ds) = omega (arith, length_front ds d (omega (arith, le)), some) in
    let from : from_doc p.doc (list_from t 1 ds) ≡ list_from t p.doc (one ∷ drop (d + 1) ds) = ap (λ l. from_doc p.doc (list_from t 1 l)) split
    ∙ from_front t 1 p.doc (take d ds) (one ∷ drop (d + 1) ds) at in
    head_list t p.doc one (drop (d + 1) ds) p h (sym (ap head_of from) ∙ is)

pub head_freq : (collection t : List ℕ) (last : ℕ) (p : Posting) → head_of (from_doc (last + 1) (postings collection t)) ≡ Some p → last < p.doc →
    p.doc ≤ length (documents collection) → p.freq ≡ freq_in (document collection p.doc) t
head_freq collection t last p is low le =
    freq_is collection t p (omega (arith, low)) le (later last p.doc (postings collection t) p is low (omega arith))
    (has_at collection t last p.doc p is low (omega arith) le ∙ eq-eqb p.doc p.doc refl)

-- ---- one term more

abbrev one : List ℕ → ℕ → List ℕ → ℕ
one collection d t = wd (document collection d) t * wt collection t

none_part : (collection : List ℕ) (done : List (List ℕ)) (d : ℕ) → list_any (has_term (document collection d)) done ≡ false → part_sum collection done d ≡ 0
none_part collection [] d none = refl
none_part collection (u ∷ done) d none =
    elim (cases_Bool (has_term (document collection d) u)) [
      | inl hit ↦ absurd (false≢true (sym none ∙ or_left (has_term (document collection d) u) (list_any (has_term (document collection d)) done) hit))
      | inr miss ↦ (
          let rest : list_any (has_term (document collection d)) done ≡ false = sym (ap (λ b. b || list_any (has_term (document collection d)) done) miss) ∙ none in
          let shorter : filter (has_term (document collection d)) (u ∷ done) ≡ filter (has_term (document collection d)) done = rw miss refl in
          ap (sum_by (one collection d)) shorter ∙ none_part collection done d rest)
    ]

sum_so_far : (collection : List ℕ) (done : List (List ℕ)) (d : ℕ) → unwrap_or (so_far collection done d) 0 ≡ part_sum collection done d
sum_so_far collection done d =
    elim (cases_Bool (list_any (has_term (document collection d)) done)) [
      | inl some ↦ ap (λ b. unwrap_or (if b then Some (part_sum collection done d) else None) 0) some
      | inr none ↦ ap (λ b. unwrap_or (if b then Some (part_sum collection done d) else None) 0) none ∙ sym (none_part collection done d none)
    ]

part_more : (collection : List ℕ) (done : List (List ℕ)) (t : List ℕ) (d : ℕ) → part_sum collection (done ++ t ∷ []) d
    ≡ part_sum collection done d + sum_by (one collection d) (filter (has_term (document collection d)) (t ∷ []))
part_more collection done t d = ap (sum_by (one collection d)) (filter-append (has_term (document collection d)) done (t ∷ []))
    ∙ sum_by-append (one collection d) (filter (has_term (document collection d)) done) (filter (has_term (document collection d)) (t ∷ []))

pub so_far_hit : (collection : List ℕ) (done : List (List ℕ)) (t : List ℕ) (d : ℕ) → has_term (document collection d) t ≡ true →
    so_far collection (done ++ t ∷ []) d ≡ Some (unwrap_or (so_far collection done d) 0 + wd (document collection d) t * wt collection t)
so_far_hit collection done t d hit =
    let p = has_term (document collection d) in
    let any : list_any p (done ++ t ∷ []) ≡ true = list_any-append p done (t ∷ []) ∙ or_right (list_any p done) (list_any p (t ∷ [])) (or_left (p t) false hit) in
    let only : filter p (t ∷ []) ≡ t ∷ [] = rw hit refl in
    let sum : part_sum collection (done ++ t ∷ []) d ≡ unwrap_or (so_far collection done d) 0 + one collection d t =
    omega (arith, part_more collection done t d, ap (sum_by (one collection d)) only, sum_by-cons (one collection d) t [], sum_so_far collection done d) in
    ap (λ b. if b then Some (part_sum collection (done ++ t ∷ []) d) else None) any ∙ ap (λ n. Some n) sum

pub so_far_miss : (collection : List ℕ) (done : List (List ℕ)) (t : List ℕ) (d : ℕ) → has_term (document collection d) t ≡ false → so_far collection (done ++ t ∷ []) d ≡ so_far collection done d
so_far_miss collection done t d miss =
    let p = has_term (document collection d) in
    let none : filter p (t ∷ []) ≡ [] = rw miss refl in
    let any : list_any p (done ++ t ∷ []) ≡ list_any p done = list_any-append p done (t ∷ []) ∙ ap (λ b. list_any p done || (b || false)) miss ∙ or_false (list_any p done) in
    let sum : part_sum collection (done ++ t ∷ []) d ≡ part_sum collection done d = omega (arith, part_more collection done t d, ap (sum_by (one collection d)) none) in
    ap (λ b. if b then Some (part_sum collection (done ++ t ∷ []) d) else None) any ∙ ap (λ n. if list_any p done then Some n else None) sum
  where
    or_false : (b : Bool) → (b || false) ≡ b
    or_false true = refl
    or_false false = refl

-- ---- while a list is gone through

pub record Walking (collection : List ℕ) (done : List (List ℕ)) (t : List ℕ) (last : ℕ) (sums : List (ℕ × ℕ)) : Type 0 where
  pub near : (d : ℕ) → 1 ≤ d → d ≤ last → lookup (nat_eq d) sums ≡ so_far collection (done ++ t ∷ []) d
  pub far : (d : ℕ) → 1 ≤ d → last < d → lookup (nat_eq d) sums ≡ so_far collection done d
  pub apart : AreApart sums

pub walk_start : (collection : List ℕ) (done : List (List ℕ)) (t : List ℕ) (sums : List (ℕ × ℕ)) → SumsFor collection done sums → Walking collection done t 0 sums
walk_start collection done t sums s = record {
  near = λ d low high. absurd (omega (arith, low, high));
  far = λ d low high. s.each d low;
  apart = s.apart;
}

pub walk_next : (collection : List ℕ) (done : List (List ℕ)) (t : List ℕ) (last : ℕ) (sums : List (ℕ × ℕ)) (p : Posting) (w : ℕ) →
    Walking collection done t last sums → head_of (from_doc (last + 1) (postings collection t)) ≡ Some p → last < p.doc →
    p.doc ≤ length (documents collection) → w ≡ wt collection t →
    Walking collection done t p.doc (with_more p.doc (weight_in_doc p.freq * w) sums)
walk_next collection done t last sums p w walk is low le weight = record {
  near = λ d some high. elim (cases_eq p.doc d) [
    | inl same ↦ here d same
    | inr other ↦ elim (cases_lt last d) [
      | inl behind ↦ found_other p.doc (weight_in_doc p.freq * w) d sums other ∙ walk.far d some behind
          ∙ sym (so_far_miss collection done t d (has_at collection t last d p is behind high (omega (arith, high, le)) ∙ ne_eqb p.doc d other))
      | inr before ↦ found_other p.doc (weight_in_doc p.freq * w) d sums other ∙ walk.near d some before
    ]
  ];
  far = λ d some above. found_other p.doc (weight_in_doc p.freq * w) d sums (λ e. omega (arith, e, above)) ∙ walk.far d some (omega (arith, low, above));
  apart = apart_more p.doc (weight_in_doc p.freq * w) sums walk.apart;
}
  where
    there : lookup (nat_eq p.doc) (with_more p.doc (weight_in_doc p.freq * w) sums) ≡ so_far collection (done ++ t ∷ []) p.doc
    there =
        let hit : has_term (document collection p.doc) t ≡ true = has_at collection t last p.doc p is low (omega arith) le ∙ eq-eqb p.doc p.doc refl in
        let before : sum_of p.doc sums ≡ unwrap_or (so_far collection done p.doc) 0 = ap (λ o. unwrap_or o 0) (walk.far p.doc (omega (arith, low)) low) in
        let product : weight_in_doc p.freq * w ≡ wd (document collection p.doc) t * wt collection t =
        ap (λ f. weight_in_doc f * w) (head_freq collection t last p is low le) ∙ ap (λ v. wd (document collection p.doc) t * v) weight in
        found_same p.doc (weight_in_doc p.freq * w) sums ∙ ap (λ n. Some (n + weight_in_doc p.freq * w)) before
        ∙ ap (λ n. Some (unwrap_or (so_far collection done p.doc) 0 + n)) product ∙ sym (so_far_hit collection done t p.doc hit)

    here : (d : ℕ) → p.doc ≡ d → lookup (nat_eq d) (with_more p.doc (weight_in_doc p.freq * w) sums) ≡ so_far collection (done ++ t ∷ []) d
    here d same = subst (λ x. lookup (nat_eq x) (with_more p.doc (weight_in_doc p.freq * w) sums) ≡ so_far collection (done ++ t ∷ []) x) same there

-- where no document is left
pub walk_end : (collection : List ℕ) (done : List (List ℕ)) (t : List ℕ) (last : ℕ) (sums : List (ℕ × ℕ)) → Walking collection done t last sums →
    ((d : ℕ) → last < d → d ≤ length (documents collection) → has_term (document collection d) t ≡ false) → SumsFor collection (done ++ t ∷ []) sums
walk_end collection done t last sums walk none = record {
  each = λ d some. elim (cases_lt last d) [
    | inl behind ↦ walk.far d some behind ∙ sym (so_far_miss collection done t d (elim (cases_lt (length (documents collection)) d) [
      | inl out ↦ out_at collection t d out
      | inr within ↦ none d behind within
    ]))
    | inr before ↦ walk.near d some before
  ];
  apart = walk.apart;
}

-- ---- how great a sum becomes

pub record Bounded (n last : ℕ) (sums : List (ℕ × ℕ)) : Type 0 where
  pub each : (d : ℕ) → sum_of d sums ≤ n + 2 ^ 29
  pub far : (d : ℕ) → last < d → sum_of d sums ≤ n

pub bounded_start : (n : ℕ) (sums : List (ℕ × ℕ)) → ((d : ℕ) → sum_of d sums ≤ n) → Bounded n 0 sums
bounded_start n sums small = record { each = λ d. omega (arith, small d); far = λ d lt. small d }

pub bounded_next : (n last doc more : ℕ) (sums : List (ℕ × ℕ)) → Bounded n last sums → last < doc → more ≤ 2 ^ 29 → Bounded n doc (with_more doc more sums)
bounded_next n last doc more sums b low few = record {
  each = λ d. elim (cases_eq doc d) [
    | inl same ↦ subst (λ x. sum_of x (with_more doc more sums) ≤ n + 2 ^ 29) same (omega (arith, sum_same doc more sums, b.far doc low, few))
    | inr other ↦ omega (arith, sum_other doc more d sums other, b.each d)
  ];
  far = λ d above. omega (arith, sum_other doc more d sums (λ e. omega (arith, e, above)), b.far d (omega (arith, low, above)));
}
