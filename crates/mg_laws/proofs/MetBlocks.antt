-- Laws of a list of postings that is gone through, and of the terms of a collection.
use Rattle.std.proofs.Common.{arith, ◌≡◌, ◌+◌, ◌*◌, ◌-◌, ◌/◌, ◌≤◌, ◌<◌, ℕ, zero, suc, Bool, true, cond, List, [], ◌∷◌, ◌++◌, length, take, drop, refl, sym, ap, subst, ◌∙◌, inl, inr, Some, nat_lt, get_or}
use Rattle.std.specs.Prelude.{slice_get, count_by}
use Rattle.std.specs.List.{list_any, flat_map}
use Rattle.std.specs.Str.{bytes_eq}
use Rattle.std.proofs.lemmas.Bool.{cases_Bool, cases_lt, or_cases, or_left, or_right, false≢true, cond_both, ltb-true}
use Rattle.std.proofs.lemmas.List.{take-append-drop, take_all}
use Rattle.std.proofs.lemmas.List.Folds.{list_any-append}
use Rattle.std.proofs.lemmas.List.Sums.{sum_by-cons}
use Rattle.mg_defs.specs.declared.Posting.{Posting}
use Rattle.mg_defs.specs.Split.{documents}
use Rattle.mg_defs.specs.Terms.{terms, same_term, docs, dictionary, all_terms, term_number}
use Rattle.mg_defs.specs.Lists.{from_doc, Rises, Follows, InRange, doc_before, last_doc, bits_after, bits_before, block_pages, block_count}
use Rattle.mg_defs.specs.PagesOf.{pages}
use Rattle.mg_defs.proofs.ListLaws.{from_here, from_next, last_above, rises_left}
use Rattle.mg_defs.proofs.SortedLaws.{has-sorted, sorted-rising, number-at, same-refl}
use Rattle.mg_defs.specs.PageBounds.{is_met, in_range, numbers_in, met_pages}
use Rattle.mg_laws.proofs.BoundLaws.{range_true, met_rises, met_hit, met_miss}
use Rattle.mg_laws.proofs.LedLists.{first_of}

pub from_zero : (ps : List Posting) → from_doc 0 ps ≡ ps
unfolding from_doc
from_zero [] = refl
from_zero (p ∷ ps) = from_here 0 p ps (omega arith) ∙ ap (λ l. p ∷ l) (from_zero ps)

from_same : (d : ℕ) (p : Posting) (ps qs : List Posting) → from_doc d ps ≡ from_doc d qs → from_doc d (p ∷ ps) ≡ from_doc d (p ∷ qs)
from_same d p ps qs same =
    elim (cases_lt p.doc d) [
      | inl below ↦ from_next d p ps below ∙ same ∙ sym (from_next d p qs below)
      | inr above ↦ from_here d p ps above ∙ ap (λ l. p ∷ l) same ∙ sym (from_here d p qs above)
    ]

pub from_from : (c d : ℕ) (ps : List Posting) → c ≤ d → from_doc d (from_doc c ps) ≡ from_doc d ps
unfolding from_doc
from_from c d [] le = refl
from_from c d (p ∷ ps) le =
    elim (cases_lt p.doc c) [
      | inl below ↦ ap (from_doc d) (from_next c p ps below) ∙ from_from c d ps le ∙ sym (from_next d p ps (omega (arith, below, le)))
      | inr above ↦ ap (from_doc d) (from_here c p ps above) ∙ from_same d p (from_doc c ps) ps (from_from c d ps le)
    ]

pub few_postings : (all before : ℕ) (ps : List Posting) → before ≤ all → Rises all before ps → length ps + before ≤ all
unfolding Rises
few_postings all before [] within rises = omega (arith, within)
few_postings all before (p ∷ ps) within rises =
    let f : Follows all before p = rises.0 in
    omega (arith, few_postings all p.doc ps f.within rises.1, f.after)

-- ---- the first posting from a document on is in the block whose range holds the document

first_low : (doc : ℕ) (ps : List Posting) (m : ℕ) → first_of (from_doc doc ps) ≡ Some m → doc ≤ m
unfolding from_doc
first_low doc [] m is = absurd cc
first_low doc (p ∷ ps) m is =
    elim (cases_lt p.doc doc) [
      | inl below ↦ first_low doc ps m (sym (ap first_of (from_next doc p ps below)) ∙ is)
      | inr above ↦ (let e : Some p.doc ≡ Some m = sym (ap first_of (from_here doc p ps above)) ∙ is in let same : p.doc ≡ m = cc in omega (arith, same, above))
    ]

-- a front whose last document is not before the one asked for has the first from it on
first_high : (all d doc : ℕ) (a b : List Posting) (m : ℕ) → Rises all d a → d < doc → doc ≤ last_doc d a → first_of (from_doc doc (a ++ b)) ≡ Some m → m ≤ last_doc d a
unfolding Rises last_doc from_doc
first_high all d doc [] b m rises lt le is = absurd (omega (arith, lt, le))
first_high all d doc (p ∷ a) b m rises lt le is =
    elim (cases_lt p.doc doc) [
      | inl below ↦ first_high all p.doc doc a b m rises.1 below le (sym (ap first_of (from_next doc p (a ++ b) below)) ∙ is)
      | inr above ↦ (let e : Some p.doc ≡ Some m = sym (ap first_of (from_here doc p (a ++ b) above)) ∙ is in let same : p.doc ≡ m = cc in omega (arith, same, last_above all p.doc a rises.1))
    ]

first_within : (all k doc : ℕ) (ps : List Posting) (m : ℕ) → Rises all 0 ps → 0 < doc → doc ≤ doc_before (64 * (k + 1)) ps → first_of (from_doc doc ps) ≡ Some m → m ≤ doc_before (64 * (k + 1)) ps
unfolding doc_before
first_within all k doc ps m rises some le is =
    let two : ps ≡ take (64 * (k + 1)) ps ++ drop (64 * (k + 1)) ps = sym (take-append-drop (64 * (k + 1)) ps) in
    let front : Rises all 0 (take (64 * (k + 1)) ps) = rises_left all 0 (take (64 * (k + 1)) ps) (drop (64 * (k + 1)) ps) (subst (Rises all 0) two rises) in
    first_high all 0 doc (take (64 * (k + 1)) ps) (drop (64 * (k + 1)) ps) m front some le (sym (ap (λ l. first_of (from_doc doc l)) two) ∙ is)

some_first : (all d doc : ℕ) (a b : List Posting) → Rises all d a → d < doc → doc ≤ last_doc d a → (m : ℕ) × (first_of (from_doc doc (a ++ b)) ≡ Some m)
unfolding Rises last_doc from_doc
some_first all d doc [] b rises lt le = absurd (omega (arith, lt, le))
some_first all d doc (p ∷ a) b rises lt le =
    elim (cases_lt p.doc doc) [
      | inl below ↦ (let more = some_first all p.doc doc a b rises.1 below le in (more.0, ap first_of (from_next doc p (a ++ b) below) ∙ more.1))
      | inr above ↦ (p.doc, ap first_of (from_here doc p (a ++ b) above))
    ]

there_first : (all k doc : ℕ) (ps : List Posting) → Rises all 0 ps → 0 < doc → doc ≤ doc_before (64 * (k + 1)) ps → (m : ℕ) × (first_of (from_doc doc ps) ≡ Some m)
unfolding doc_before
there_first all k doc ps rises some le =
    let two : ps ≡ take (64 * (k + 1)) ps ++ drop (64 * (k + 1)) ps = sym (take-append-drop (64 * (k + 1)) ps) in
    let front : Rises all 0 (take (64 * (k + 1)) ps) = rises_left all 0 (take (64 * (k + 1)) ps) (drop (64 * (k + 1)) ps) (subst (Rises all 0) two rises) in
    let one = some_first all 0 doc (take (64 * (k + 1)) ps) (drop (64 * (k + 1)) ps) front some le in
    (one.0, ap (λ l. first_of (from_doc doc l)) two ∙ one.1)

pub first_in : (doc m : ℕ) (ps : List Posting) (f : ℕ → Bool) → first_of (from_doc doc ps) ≡ Some m → f m ≡ true → list_any f (numbers_in ps) ≡ true
unfolding from_doc
first_in doc m [] f is met = absurd cc
first_in doc m (p ∷ ps) f is met =
    elim (cases_lt p.doc doc) [
      | inl below ↦ or_right (f p.doc) (list_any f (numbers_in ps)) (first_in doc m ps f (sym (ap first_of (from_next doc p ps below)) ∙ is) met)
      | inr above ↦ (let e : Some p.doc ≡ Some m = sym (ap first_of (from_here doc p ps above)) ∙ is in let same : p.doc ≡ m = cc in or_left (f p.doc) (list_any f (numbers_in ps)) (ap f same ∙ met))
    ]

-- a block whose range holds a document that is asked of the list itself has a document of the list
pub own_met : (all k doc : ℕ) (ps : List Posting) → Rises all 0 ps → InRange k ps doc → is_met (numbers_in ps) ps k ≡ true
own_met all k doc ps rises in_it =
    let some : 0 < doc = omega (arith, in_it.after) in
    let one = there_first all k doc ps rises some in_it.within in
    let low : doc ≤ one.0 = first_low doc ps one.0 one.1 in
    let there : InRange k ps one.0 = record { after = omega (arith, in_it.after, low); within = first_within all k doc ps one.0 rises some in_it.within one.1 } in
    first_in doc one.0 ps (in_range k ps) one.1 (range_true k ps one.0 there)

-- ---- the terms of a collection

abbrev has : List (List ℕ) → List ℕ → Bool
has strings s = list_any (bytes_eq s) strings

got_there : (strings : List (List ℕ)) (n : ℕ) (t : List ℕ) → slice_get strings n ≡ Some t → has strings t ≡ true
got_there [] n t is = absurd cc
got_there (s ∷ strings) zero t is = let e : t ≡ s = cc in or_left (bytes_eq t s) (has strings t) (subst (λ (x : List ℕ). bytes_eq t x ≡ true) e (same-refl t))
got_there (s ∷ strings) (suc n) t is = or_right (bytes_eq t s) (has strings t) (got_there strings n t is)

got_place : (strings : List (List ℕ)) (n : ℕ) (t : List ℕ) → slice_get strings n ≡ Some t → (n < length strings) × (get_or strings n [] ≡ t)
got_place [] n t is = absurd cc
got_place (s ∷ strings) zero t is = (omega arith, let e : s ≡ t = cc in e)
got_place (s ∷ strings) (suc n) t is = let more = got_place strings n t is in (omega (arith, more.0), more.1)

-- a term's number is its place
pub number_is : (collection : List ℕ) (n : ℕ) (t : List ℕ) → slice_get (dictionary collection) n ≡ Some t → term_number collection t ≡ n
number_is collection n t is =
    let place = got_place (dictionary collection) n t is in
    ap (term_number collection) (sym place.1) ∙ number-at (dictionary collection) n [] (sorted-rising (all_terms collection)) place.0

count_some : (t : List ℕ) (ds : List (List ℕ)) → has (flat_map terms ds) t ≡ true → 1 ≤ count_by (λ doc. list_any (same_term t) (terms doc)) ds
count_some t [] h = absurd (false≢true h)
count_some t (doc ∷ ds) h =
    let step = sum_by-cons (λ d. cond (list_any (same_term t) (terms d)) 1 0) doc ds in
    elim (or_cases (has (terms doc) t) (has (flat_map terms ds) t) (sym (list_any-append (bytes_eq t) (terms doc) (flat_map terms ds)) ∙ h)) [
      | inl here ↦ omega (arith, step, ap {B = ℕ} (λ b. cond b 1 0) here)
      | inr there ↦ omega (arith, step, count_some t ds there)
    ]

-- some document has it
pub term_some : (collection : List ℕ) (n : ℕ) (t : List ℕ) → slice_get (dictionary collection) n ≡ Some t → 1 ≤ docs collection t
term_some collection n t is = count_some t (documents collection) (sym (has-sorted (all_terms collection) t) ∙ got_there (dictionary collection) n t is)

-- ---- behind the last block there are no pages

take_beyond : (n : ℕ) (ps : List Posting) → block_count (length ps) ≤ n → take (64 * n) ps ≡ ps
take_beyond n ps le = take_all (64 * n) ps (omega (arith, le))

beyond : (b at n : ℕ) (ps : List Posting) → block_count (length ps) ≤ n → block_pages b at n ps ≡ 0
unfolding block_pages bits_before
beyond b at n ps le =
    let here : take (64 * n) ps ≡ ps = take_beyond n ps le in
    let next : take (64 * (n + 1)) ps ≡ ps = take_beyond (n + 1) ps (omega (arith, le)) in
    let from : at + length (bits_after b 0 (take (64 * n) ps)) ≡ at + length (bits_after b 0 ps) = ap (λ l. at + length (bits_after b 0 l)) here in
    let to : at + length (bits_after b 0 (take (64 * (n + 1)) ps)) ≡ at + length (bits_after b 0 ps) = ap (λ l. at + length (bits_after b 0 l)) next in
    ap (λ x. pages x (at + length (bits_after b 0 (take (64 * (n + 1)) ps)))) from ∙ ap (pages (at + length (bits_after b 0 ps))) to ∙ none (at + length (bits_after b 0 ps))
  where
    none : (x : ℕ) → pages x x ≡ 0
    none x = cond_both (nat_lt x x) ((x - 1) / 32768 - x / 32768 + 1) 0 (λ n. n ≡ 0) (λ h. absurd (let lt = ltb-true x x h in omega (arith, lt))) (λ _. refl)

pub met_all : (asked : List ℕ) (b at n : ℕ) (ps : List Posting) → met_pages asked b at n ps ≤ met_pages asked b at (block_count (length ps)) ps
met_all asked b at zero ps = met_rises asked b at 0 (block_count (length ps)) ps (omega arith)
met_all asked b at (suc n) ps =
    let e : suc n ≡ n + 1 = omega arith in
    elim (cases_lt n (block_count (length ps))) [
      | inl below ↦ met_rises asked b at (suc n) (block_count (length ps)) ps (omega (arith, below))
      | inr past ↦ rw e (elim (cases_Bool (is_met asked ps n)) [
        | inl hit ↦ omega (arith, met_hit asked b at n ps hit, beyond b at n ps past, met_all asked b at n ps)
        | inr miss ↦ omega (arith, met_miss asked b at n ps miss, met_all asked b at n ps)
      ])
    ]
