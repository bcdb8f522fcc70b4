-- What the bounds on pages come to.
use Rattle.std.proofs.Common.{arith, ◌≡◌, ◌+◌, ◌*◌, ◌≤◌, ◌<◌, ◌^◌, ℕ, zero, suc, Bool, true, false, List, [], ◌∷◌, length, map, take, drop, sum_by, refl, sym, ap, subst, ◌∙◌, inl, inr, Some}
use Rattle.std.specs.Prelude.{nat_le}
use Rattle.std.specs.List.{list_any, enumerate_from}
use Rattle.std.proofs.lemmas.Bool.{cases_lt, or_left, or_right, le-leb}
use Rattle.std.proofs.lemmas.List.{take-append-drop, length-take, length-drop}
use Rattle.std.proofs.lemmas.List.Sums.{sum_by-cons}
use Rattle.mg_defs.specs.declared.Posting.{Posting}
use Rattle.mg_defs.specs.Split.{documents}
use Rattle.mg_defs.specs.Terms.{docs}
use Rattle.mg_defs.specs.Sat.{Query, term, both}
use Rattle.mg_defs.specs.QueryTerms.{query_terms}
use Rattle.mg_defs.specs.Lists.{InRange, Rises, block_count, block_of, doc_before, last_doc, postings}
use Rattle.mg_defs.specs.PageBounds.{all_numbers, asked_by_leader, asked_of, boolean_bound, in_range, is_met, leading, leftmost_fewest, list_bit, list_pages, met_pages, numbers_in, pages_for, parameter_of, whole_pages}
use Rattle.mg_defs.proofs.ListLaws.{block_last, last_above, last_within, list_rises, rises_left, rises_right}
use Rattle.mg_laws.proofs.BoundLaws.{met_hit, met_none, range_true, whole_more, whole_none}
use Rattle.mg_laws.proofs.MetBlocks.{own_met}

-- ---- a list whose blocks are all met is read whole

met_is_whole : (asked : List ℕ) (b at n : ℕ) (ps : List Posting) → ((k : ℕ) → k < n → is_met asked ps k ≡ true) → met_pages asked b at n ps ≡ whole_pages b at n ps
met_is_whole asked b at zero ps met = met_none asked b at ps ∙ sym (whole_none b at ps)
met_is_whole asked b at (suc n) ps met =
    let e : suc n ≡ n + 1 = omega arith in
    rw e (omega (arith, met_hit asked b at n ps (met n (omega arith)), whole_more b at n ps, met_is_whole asked b at n ps (λ k lt. met k (omega (arith, lt)))))

last_behind : (all d : ℕ) (ps : List Posting) → 0 < length ps → Rises all d ps → d < last_doc d ps
unfolding Rises last_doc
last_behind all d [] some h = absurd (omega (arith, some))
last_behind all d (p ∷ ps) some h = omega (arith, h.0.after, last_above all p.doc ps h.1)

block_rises : (all k : ℕ) (ps : List Posting) → Rises all 0 ps → Rises all (doc_before (64 * k) ps) (block_of k ps)
unfolding block_of doc_before
block_rises all k ps h =
    let rest : Rises all (last_doc 0 (take (64 * k) ps)) (drop (64 * k) ps) = rises_right all 0 (take (64 * k) ps) (drop (64 * k) ps) (subst (Rises all 0) (sym (take-append-drop (64 * k) ps)) h) in
    rises_left all (last_doc 0 (take (64 * k) ps)) (take 64 (drop (64 * k) ps)) (drop 64 (drop (64 * k) ps))
    (subst (Rises all (last_doc 0 (take (64 * k) ps))) (sym (take-append-drop 64 (drop (64 * k) ps))) rest)

block_some : (k : ℕ) (ps : List Posting) → k < block_count (length ps) → 0 < length (block_of k ps)
unfolding block_of
block_some k ps lt = omega (arith, lt, length-take 64 (drop (64 * k) ps), length-drop (64 * k) ps)

-- a block's last document lies in its range
last_in : (all k : ℕ) (ps : List Posting) → Rises all 0 ps → k < block_count (length ps) → InRange k ps (doc_before (64 * (k + 1)) ps)
last_in all k ps rises lt = record {
  after = omega (arith, last_behind all (doc_before (64 * k) ps) (block_of k ps) (block_some k ps lt) (block_rises all k ps rises), block_last k ps);
  within = omega arith;
}

-- each block of a list holds a document of it
own_block : (all k : ℕ) (ps : List Posting) → Rises all 0 ps → k < block_count (length ps) → is_met (numbers_in ps) ps k ≡ true
own_block all k ps rises lt = own_met all k (doc_before (64 * (k + 1)) ps) ps rises (last_in all k ps rises lt)

-- the document is one of those with these numbers
pub number_there : (f : ℕ → Bool) (n doc : ℕ) (ds : List (List ℕ)) → n ≤ doc → doc < n + length ds → f doc ≡ true → list_any f (map (λ (d : ℕ × List ℕ). d.0) (enumerate_from n ds)) ≡ true
number_there f n doc [] low high met = absurd (omega (arith, low, high))
number_there f n doc (d ∷ ds) low high met =
    elim (cases_lt n doc) [
      | inl past ↦ or_right (f n) (list_any f (map (λ (d : ℕ × List ℕ). d.0) (enumerate_from (n + 1) ds))) (number_there f (n + 1) doc ds (omega (arith, past)) (omega (arith, high)) met)
      | inr here ↦ (let e : n ≡ doc = omega (arith, low, here) in or_left (f n) (list_any f (map (λ (d : ℕ × List ℕ). d.0) (enumerate_from (n + 1) ds))) (ap f e ∙ met))
    ]

before_within : (all n : ℕ) (ps : List Posting) → Rises all 0 ps → doc_before n ps ≤ all
unfolding doc_before
before_within all n ps h = last_within all 0 (take n ps) (omega arith) (rises_left all 0 (take n ps) (drop n ps) (subst (Rises all 0) (sym (take-append-drop n ps)) h))

any_block : (collection : List ℕ) (k : ℕ) (ps : List Posting) → Rises (length (documents collection)) 0 ps → k < block_count (length ps) → is_met (all_numbers collection) ps k ≡ true
any_block collection k ps rises lt =
    let all = length (documents collection) in
    let doc = doc_before (64 * (k + 1)) ps in
    let in_it : InRange k ps (doc_before (64 * (k + 1)) ps) = last_in (length (documents collection)) k ps rises lt in
    number_there (in_range k ps) 1 (doc_before (64 * (k + 1)) ps) (documents collection) (omega (arith, in_it.after))
    (omega (arith, before_within (length (documents collection)) (64 * (k + 1)) ps rises)) (range_true k ps (doc_before (64 * (k + 1)) ps) in_it)

pub own_pages : (collection t : List ℕ) → length collection < 2 ^ 32 → list_pages collection t ≡ pages_for collection (numbers_in (postings collection t)) t
unfolding list_pages pages_for
own_pages collection t short =
    let ps = postings collection t in
    sym (met_is_whole (numbers_in (postings collection t)) (parameter_of collection t) (list_bit collection t) (block_count (length (postings collection t)))
    (postings collection t) (λ k lt. own_block (length (documents collection)) k (postings collection t) (list_rises collection t short) lt))

pub any_pages : (collection t : List ℕ) → length collection < 2 ^ 32 → list_pages collection t ≡ pages_for collection (all_numbers collection) t
unfolding list_pages pages_for
any_pages collection t short =
    sym (met_is_whole (all_numbers collection) (parameter_of collection t) (list_bit collection t) (block_count (length (postings collection t)))
    (postings collection t) (λ k lt. any_block collection k (postings collection t) (list_rises collection t short) lt))

-- ---- queries

one_sum : (f : List ℕ → ℕ) (t : List ℕ) → sum_by f (t ∷ []) ≡ f t
one_sum f t = omega (arith, sum_by-cons f t [])

two_sum : (f : List ℕ → ℕ) (s t : List ℕ) → sum_by f (s ∷ t ∷ []) ≡ f s + f t
two_sum f s t = omega (arith, sum_by-cons f s (t ∷ []), one_sum f t)

pub word_bound : (collection t : List ℕ) → length collection < 2 ^ 32 → boolean_bound collection (term t) ≡ list_pages collection t
unfolding boolean_bound asked_of
word_bound collection t short = one_sum (pages_for collection (numbers_in (postings collection t))) t ∙ sym (own_pages collection t short)

not_le : (a b : ℕ) → b < a → nat_le a b ≡ false
not_le a b lt = grind arith

pub first_bound : (collection s t : List ℕ) → length collection < 2 ^ 32 → docs collection s ≤ docs collection t →
    boolean_bound collection (both (term s) (term t)) ≡ list_pages collection s + pages_for collection (numbers_in (postings collection s)) t
unfolding boolean_bound asked_of
first_bound collection s t short le =
    let first : nat_le (docs collection s) (docs collection t) ≡ true = le-leb (docs collection s) (docs collection t) le in
    let lead : leftmost_fewest collection (s ∷ t ∷ []) ≡ Some s = rw first refl in
    ap (λ l. sum_by (pages_for collection (asked_by_leader collection l)) (s ∷ t ∷ [])) lead ∙ two_sum (pages_for collection (numbers_in (postings collection s))) s t
    ∙ ap (λ n. n + pages_for collection (numbers_in (postings collection s)) t) (sym (own_pages collection s short))

pub second_bound : (collection s t : List ℕ) → length collection < 2 ^ 32 → docs collection t < docs collection s →
    boolean_bound collection (both (term s) (term t)) ≡ pages_for collection (numbers_in (postings collection t)) s + list_pages collection t
unfolding boolean_bound asked_of
second_bound collection s t short lt =
    let second : nat_le (docs collection s) (docs collection t) ≡ false = not_le (docs collection s) (docs collection t) lt in
    let lead : leftmost_fewest collection (s ∷ t ∷ []) ≡ Some t = rw second refl in
    ap (λ l. sum_by (pages_for collection (asked_by_leader collection l)) (s ∷ t ∷ [])) lead ∙ two_sum (pages_for collection (numbers_in (postings collection t))) s t
    ∙ ap (λ n. pages_for collection (numbers_in (postings collection t)) s + n) (sym (own_pages collection t short))

sums_same : (f g : List ℕ → ℕ) (ts : List (List ℕ)) → ((t : List ℕ) → f t ≡ g t) → sum_by f ts ≡ sum_by g ts
sums_same f g [] same = refl
sums_same f g (t ∷ ts) same = omega (arith, sum_by-cons f t ts, sum_by-cons g t ts, same t, sums_same f g ts same)

pub unled_bound : (collection : List ℕ) (q : Query) → length collection < 2 ^ 32 → leading q ≡ [] → boolean_bound collection q ≡ sum_by (list_pages collection) (query_terms q)
unfolding boolean_bound asked_of
unled_bound collection q short none =
    ap (λ l. sum_by (pages_for collection (asked_by_leader collection (leftmost_fewest collection l))) (query_terms q)) none
    ∙ sums_same (pages_for collection (all_numbers collection)) (list_pages collection) (query_terms q) (λ t. sym (any_pages collection t short))
