-- Laws of the list of a term and the documents that have it.
use Rattle.std.proofs.Common.{arith, ◌≡◌, ◌+◌, ◌-◌, ◌≤◌, ◌<◌, ℕ, Bool, true, false, List, [], ◌∷◌, ◌++◌, length, take, drop, refl, sym, ap, subst, ◌∙◌, inl, inr, add-one, Option, Some, None, get_or}
use Rattle.std.specs.Prelude.{◌==◌}
use Rattle.std.specs.List.{AllByRecursion}
use Rattle.std.proofs.lemmas.Bool.{cases_Bool, cond_both, false≢true, ne_eqb, eq-eqb, and_parts}
use Rattle.std.proofs.lemmas.List.{take-append-drop, length-take}
use Rattle.std.proofs.Math.Seq.{drop-cons}
use Rattle.mg_defs.specs.declared.Posting.{Posting}
use Rattle.mg_defs.specs.Split.{documents}
use Rattle.mg_defs.specs.Weights.{has_term}
use Rattle.mg_defs.specs.Lists.{postings, from_doc}
use Rattle.mg_defs.specs.Sat.{Query, term, both, either, without, satisfies}
use Rattle.mg_defs.specs.ShownAnswers.{found}
use Rattle.mg_defs.proofs.ListLaws.{from_here, from_next}
use Rattle.mg_defs.proofs.ReplyLaws.{found-miss}
use Rattle.mg_defs.specs.PageBounds.{leading, leftmost_fewest, fewer}
use Rattle.mg_defs.specs.Terms.{document}
use Rattle.mg_defs.proofs.TermLaws.{document_is}
pub use Rattle.mg_laws.proofs.InOrderLaws.{posting_in, list_from, list_hit, list_miss, some_freq, length_postings}

abbrev pub first_of : List Posting → Option ℕ
first_of [] = None
first_of (p ∷ ps) = Some p.doc

-- ---- from a document on

from_least : (t : List ℕ) (n m : ℕ) (ds : List (List ℕ)) → n ≤ m → from_doc n (list_from t m ds) ≡ list_from t m ds
unfolding from_doc
from_least t n m [] le = refl
from_least t n m (doc ∷ ds) le =
    elim (cases_Bool (has_term doc t)) [
      | inl hit ↦ rw (list_hit t m doc ds hit) (from_here n (posting_in t (m, doc)) (list_from t (m + 1) ds) le ∙ ap (λ ps. posting_in t (m, doc) ∷ ps) (from_least t n (m + 1) ds (omega (arith, le))))
      | inr miss ↦ rw (list_miss t m doc ds miss) (from_least t n (m + 1) ds (omega (arith, le)))
    ]

-- the list from a document on is that of the documents from it on
pub from_front : (t : List ℕ) (n d : ℕ) (front rest : List (List ℕ)) → d ≡ n + length front → from_doc d (list_from t n (front ++ rest)) ≡ list_from t d rest
from_front t n d [] rest e = let same : d ≡ n = omega (arith, e) in rw same (from_least t n n rest (omega arith))
from_front t n d (doc ∷ front) rest e =
    let low : n < d = omega (arith, e) in
    let next : d ≡ n + 1 + length front = omega (arith, e) in
    elim (cases_Bool (has_term doc t)) [
      | inl hit ↦ ap (from_doc d) (list_hit t n doc (front ++ rest) hit) ∙ from_next d (posting_in t (n, doc)) (list_from t (n + 1) (front ++ rest)) low ∙ from_front t (n + 1) d front rest next
      | inr miss ↦ ap (from_doc d) (list_miss t n doc (front ++ rest) miss) ∙ from_front t (n + 1) d front rest next
    ]

-- no document of it is before the first
pub first_after : (t : List ℕ) (n m : ℕ) (ds : List (List ℕ)) → first_of (list_from t n ds) ≡ Some m → n ≤ m
first_after t n m [] is = absurd cc
first_after t n m (doc ∷ ds) is =
    elim (cases_Bool (has_term doc t)) [
      | inl hit ↦ (let e : Some n ≡ Some m = sym (ap first_of (list_hit t n doc ds hit)) ∙ is in let same : n ≡ m = cc in omega (arith, same))
      | inr miss ↦ omega (arith, first_after t (n + 1) m ds (sym (ap first_of (list_miss t n doc ds miss)) ∙ is))
    ]

abbrev pub is_number : Option ℕ → ℕ → Bool
is_number None doc = false
is_number (Some m) doc = m == doc

isnt_first : (t : List ℕ) (n m : ℕ) (ds : List (List ℕ)) (o : Option ℕ) → m < n → first_of (list_from t n ds) ≡ o → is_number o m ≡ false
isnt_first t n m ds None lt is = refl
isnt_first t n m ds (Some k) lt is = ne_eqb k m (λ e. omega (arith, e, lt, first_after t n k ds is))

-- the list from a document on begins with it exactly where the document has the term
pub first_is : (t : List ℕ) (n : ℕ) (doc : List ℕ) (ds : List (List ℕ)) → is_number (first_of (list_from t n (doc ∷ ds))) n ≡ has_term doc t
first_is t n doc ds =
    elim (cases_Bool (has_term doc t)) [
      | inl hit ↦ ap (λ l. is_number (first_of l) n) (list_hit t n doc ds hit) ∙ eq-eqb n n refl ∙ sym hit
      | inr miss ↦ ap (λ l. is_number (first_of l) n) (list_miss t n doc ds miss) ∙ isnt_first t (n + 1) n ds (first_of (list_from t (n + 1) ds)) (omega arith) refl ∙ sym miss
    ]

-- ---- a leading term is in every document that satisfies the query

pub all-append : {X : Type 0} (P : X → Type 0) (xs ys : List X) → AllByRecursion P xs → AllByRecursion P ys → AllByRecursion P (xs ++ ys)
all-append P [] ys h k = k
all-append P (x ∷ xs) ys h k = (h.0, all-append P xs ys h.1 k)

pub leading_there : (q : Query) (doc : List ℕ) → satisfies q doc ≡ true → AllByRecursion (λ t. has_term doc t ≡ true) (leading q)
leading_there (term t) doc h = (h, tt)
leading_there (both p q) doc h =
    let parts = and_parts (satisfies p doc) (satisfies q doc) h in
    all-append (λ t. has_term doc t ≡ true) (leading p) (leading q) (leading_there p doc parts.0) (leading_there q doc parts.1)
leading_there (either p q) doc h = tt
leading_there (without q) doc h = tt

fewer_one : (P : List ℕ → Type 0) (collection t : List ℕ) (o : Option (List ℕ)) → P t → ((u : List ℕ) → o ≡ Some u → P u) → P (fewer collection t o)
fewer_one P collection t None h k = h
fewer_one P collection t (Some u) h k = cond_both _ t u P (λ _. h) (λ _. k u refl)

pub fewest_one : (P : List ℕ → Type 0) (collection : List ℕ) (ts : List (List ℕ)) (r : List ℕ) → AllByRecursion P ts → leftmost_fewest collection ts ≡ Some r → P r
fewest_one P collection [] r h is = absurd cc
fewest_one P collection (t ∷ ts) r h is =
    let e : fewer collection t (leftmost_fewest collection ts) ≡ r = cc in
    subst P e (fewer_one P collection t (leftmost_fewest collection ts) h.0 (λ u more. fewest_one P collection ts u h.1 more))

lacks_it : (q : Query) (collection doc r : List ℕ) → leftmost_fewest collection (leading q) ≡ Some r → has_term doc r ≡ false → satisfies q doc ≡ false
lacks_it q collection doc r lead miss =
    elim (cases_Bool (satisfies q doc)) [
      | inl sat ↦ absurd (false≢true (sym miss ∙ fewest_one (λ t. has_term doc t ≡ true) collection (leading q) r (leading_there q doc sat) lead))
      | inr isnt ↦ isnt
    ]

-- ---- the next document of a leading term

pub record Skips (q : Query) (n m : ℕ) (ds : List (List ℕ)) : Type 0 where
  pub front : List (List ℕ)
  pub rest : List (List ℕ)
  pub whole : ds ≡ front ++ rest
  pub size : m ≡ n + length front
  pub some : 0 < length rest
  pub same : found q n ds ≡ found q m rest

pub lead_skips : (q : Query) (collection r : List ℕ) (n m : ℕ) (ds : List (List ℕ)) → leftmost_fewest collection (leading q) ≡ Some r → first_of (list_from r n ds) ≡ Some m → Skips q n m ds
lead_skips q collection r n m [] lead is = absurd cc
lead_skips q collection r n m (doc ∷ ds) lead is =
    elim (cases_Bool (has_term doc r)) [
      | inl hit ↦ (
          let e : Some n ≡ Some m = sym (ap first_of (list_hit r n doc ds hit)) ∙ is in
          let here : m ≡ n = cc in
          record { front = []; rest = doc ∷ ds; whole = refl; size = omega (arith, here); some = omega arith; same = ap (λ k. found q k (doc ∷ ds)) (sym here) })
      | inr miss ↦ (
          let more : Skips q (n + 1) m ds = lead_skips q collection r (n + 1) m ds lead (sym (ap first_of (list_miss r n doc ds miss)) ∙ is) in
          record {
            front = doc ∷ more.front;
            rest = more.rest;
            whole = ap (λ l. doc ∷ l) more.whole;
            size = omega (arith, more.size);
            some = more.some;
            same = found-miss q n doc ds (lacks_it q collection doc r lead miss) ∙ more.same;
          })
    ]

pub lead_ends : (q : Query) (collection r : List ℕ) (n : ℕ) (ds : List (List ℕ)) → leftmost_fewest collection (leading q) ≡ Some r → first_of (list_from r n ds) ≡ None → found q n ds ≡ []
unfolding found
lead_ends q collection r n [] lead is = refl
lead_ends q collection r n (doc ∷ ds) lead is =
    elim (cases_Bool (has_term doc r)) [
      | inl hit ↦ absurd (let e : Some n ≡ None = sym (ap first_of (list_hit r n doc ds hit)) ∙ is in cc)
      | inr miss ↦ found-miss q n doc ds (lacks_it q collection doc r lead miss) ∙ lead_ends q collection r (n + 1) ds lead (sym (ap first_of (list_miss r n doc ds miss)) ∙ is)
    ]

-- the documents from one on
pub docs_from : (ds : List (List ℕ)) (d : ℕ) → d < length ds → ds ≡ take d ds ++ get_or ds d [] ∷ drop (d + 1) ds
docs_from ds d lt = sym (take-append-drop d ds) ∙ ap (λ l. take d ds ++ l) (drop-cons ds d [] lt ∙ ap (λ k. get_or ds d [] ∷ drop k ds) (sym (add-one d)))

pub length_front : (ds : List (List ℕ)) (d : ℕ) → d ≤ length ds → length (take d ds) ≡ d
length_front ds d le = omega (arith, length-take d ds)

-- a list has a posting of the document exactly where the document has the term
pub posting_is : (collection t : List ℕ) (doc : ℕ) → 1 ≤ doc → doc ≤ length (documents collection) →
    is_number (first_of (from_doc doc (postings collection t))) doc ≡ has_term (document collection doc) t
posting_is collection t doc some le =
    let ds = documents collection in
    let d = doc - 1 in
    let one = document collection doc in
    let split : ds ≡ take d ds ++ one ∷ drop (d + 1) ds = docs_from ds d (omega (arith, some, le)) ∙ ap (λ x. take d ds ++ x ∷ drop (d + 1) ds) (sym (document_is collection doc some)) in
    let at : doc ≡ 1 + length (take d ds) = omega (arith, length_front ds d (omega (arith, le)), some) in
    let from : from_doc doc (list_from t 1 ds) ≡ list_from t doc (one ∷ drop (d + 1) ds) = ap (λ l. from_doc doc (list_from t 1 l)) split
    ∙ from_front t 1 doc (take d ds) (one ∷ drop (d + 1) ds) at in
    ap (λ l. is_number (first_of l) doc) from ∙ first_is t doc one (drop (d + 1) ds)
