-- The next document of a query of one word.
use Rattle.std.proofs.Common.{arith, ◌≡◌, ◌+◌, ◌-◌, ◌≤◌, ◌<◌, ℕ, zero, suc, true, List, [], ◌∷◌, drop, get_or, refl, sym, ap, subst, ◌∙◌, Option, Some, None, inl, inr, length}
use Rattle.std.proofs.lemmas.Bool.{cases_Bool}
use Rattle.std.specs.Prelude.{IfSome, slice_set, unwrap_or}
use Rattle.std.proofs.lemmas.List.{get_or-drop}
use Rattle.mg_dev.specs.Files.{Files, Reads}
use Rattle.mg_defs.specs.Split.{documents}
use Rattle.mg_defs.specs.Terms.{document}
use Rattle.mg_defs.specs.Lists.{postings, from_doc}
use Rattle.mg_defs.specs.Sat.{Query, term}
use Rattle.mg_defs.specs.QueryTerms.{query_terms}
use Rattle.mg_defs.specs.PageBounds.{asked_of}
use Rattle.mg_defs.specs.Weights.{has_term}
use Rattle.mg_defs.proofs.TermLaws.{document_is}
use Rattle.mg_post.specs.TermLists.{PagesWithin}
use Rattle.mg_laws.proofs.LedLists.{first_after, first_of, list_from, list_hit, list_miss}
use Rattle.mg_bool.specs.Places.{AnswersPlace, IsInRange, Place}
use Rattle.mg_bool.specs.Matches.{GoesOn, GoesOver, PlacesOver, left_in, query_bound}
use Rattle.mg_bool.proofs.AskLaws.{first_number, places_later}
use Rattle.mg_bool.proofs.NextLaws.{LeadAsked, all_over, decided_hit, decided_over, lead_answer, lead_from, none_goes}

-- the first document of a list has its term
first_has : (t : List ℕ) (n m : ℕ) (ds : List (List ℕ)) → first_of (list_from t n ds) ≡ Some m → has_term (get_or ds (m - n) []) t ≡ true
first_has t n m [] is = absurd cc
first_has t n m (doc ∷ ds) is =
    elim (cases_Bool (has_term doc t)) [
      | inl hit ↦ (
          let e : Some n ≡ Some m = sym (ap first_of (list_hit t n doc ds hit)) ∙ is in
          let same : n ≡ m = cc in
          let none : m - n ≡ 0 = omega (arith, same) in
          rw none hit
          )
      | inr miss ↦ (
          let later : first_of (list_from t (n + 1) ds) ≡ Some m = sym (ap first_of (list_miss t n doc ds miss)) ∙ is in
          let place : m - n ≡ suc (m - (n + 1)) = omega (arith, first_after t (n + 1) m ds later) in
          rw place (first_has t (n + 1) m ds later)
          )
    ]

word_has : (collection t : List ℕ) (d m : ℕ) → d ≤ length (documents collection) → first_of (from_doc (d + 1) (postings collection t)) ≡ Some m → has_term (document collection m) t ≡ true
word_has collection t d m le is =
    let ds = documents collection in
    let first : first_of (list_from t (d + 1) (drop d ds)) ≡ Some m = sym (ap first_of (lead_from collection t d le)) ∙ is in
    let place : d + (m - (d + 1)) ≡ m - 1 = omega (arith, first_after t (d + 1) m (drop d ds) first) in
    let some : 1 ≤ m = omega (arith, first_after t (d + 1) m (drop d ds) first) in
    ap (λ (doc : List ℕ). has_term doc t) (document_is collection m some)
    ∙ ap (λ doc. has_term doc t) (sym (get_or-drop d ds (m - (d + 1)) [] ∙ ap (λ k. get_or ds k []) place)) ∙ first_has t (d + 1) m (drop d ds) first

-- the only list leads
its_term : (base collection t : List ℕ) (files : Option Files) (places : List Place) (place decided : ℕ) → LeadAsked base collection (term t) files places place decided → get_or (t ∷ []) place [] ≡ t
its_term base collection t files places zero decided l = refl
its_term base collection t files places (suc k) decided l = absurd (omega (arith, l.there))

-- the next document of the query, or none; then it is decided, or all are
abbrev pub WordFound : List ℕ → List ℕ → List ℕ → ℕ → ℕ → ℕ → List Place → Option ℕ → Type 0
WordFound base collection t place all decided ps found =
    GoesOn (left_in collection (term t) decided) (left_in collection (term t) (unwrap_or found all)) found × PlacesOver base collection (term t) ps (Some place) all (unwrap_or found all)

-- what it answered is the next document that satisfies the query
pub word_answer : (base collection t : List ℕ) (files : Option Files) (places : List Place) (place all decided : ℕ) (v : Place) (found : Option ℕ) → decided < all →
    GoesOver base collection (term t) files places (Some place) all decided → LeadAsked base collection (term t) files places place decided →
    AnswersPlace base collection (asked_of collection (term t)) (get_or (query_terms (term t)) place []) (decided + 1) found v →
    GoesOn (left_in collection (term t) decided) (left_in collection (term t) (unwrap_or found all)) found
    × PlacesOver base collection (term t) (slice_set places place v) (Some place) all (unwrap_or found all)
word_answer base collection t files places place all decided v None more goes l a =
    let next = lead_answer base collection (term t) files places (Some place) place all decided v None goes l a in (
      none_goes collection (term t) decided all goes.over.all_is next.0,
      all_over base collection (term t) places (slice_set places place v) (Some place) all decided goes.over next.1,
    )
word_answer base collection t files places place all decided v (Some doc) more goes l a =
    let next = lead_answer base collection (term t) files places (Some place) place all decided v (Some doc) goes l a in
    let same : get_or (t ∷ []) place [] ≡ t = its_term base collection t files places place decided l in
    let first : first_of (from_doc (decided + 1) (postings collection t)) ≡ Some doc =
    ap (λ u. first_of (from_doc (decided + 1) (postings collection u))) (sym same)
    ∙ sym (a.found_is ∙ first_number (from_doc (decided + 1) (postings collection (get_or (query_terms (term t)) place [])))) in
    let there : has_term (document collection doc) t ≡ true = word_has collection t decided doc (omega (arith, more, goes.over.all_is)) first in (
      decided_hit collection (term t) decided doc next.0 there,
      decided_over base collection (term t) places (slice_set places place v) (Some place) all decided doc goes.over next.0
          (places_later base collection (asked_of collection (term t)) (query_terms (term t)) (decided + 1) doc (slice_set places place v) (omega (arith, next.0.later)) next.1),
    )

-- a query of one word, whose only place leads
pub word_goes : (base collection t : List ℕ) (q : Query) (files : Option Files) (places : List Place) (lead : Option ℕ) (place all decided : ℕ) → q ≡ term t → lead ≡ Some place →
    GoesOver base collection q files places lead all decided → GoesOver base collection (term t) files places (Some place) all decided
word_goes base collection t q files places lead place all decided is led goes =
    subst (λ (r : Query). GoesOver base collection r files places (Some place) all decided) is (subst (λ (l : Option ℕ). GoesOver base collection q files places l all decided) led goes)

pub word_pages : (collection t : List ℕ) (q : Query) (old now : ℕ) (before after : Reads) → q ≡ term t →
    PagesWithin (query_bound collection (term t)) old now before after → PagesWithin (query_bound collection q) old now before after
word_pages collection t q old now before after is pages = subst (λ (r : Query). PagesWithin (query_bound collection r) old now before after) (sym is) pages

pub word_found : (base collection t : List ℕ) (q : Query) (places : List Place) (lead : Option ℕ) (place all decided n m : ℕ) (found : Option ℕ) → q ≡ term t → lead ≡ Some place → n ≡ m →
    GoesOn (left_in collection (term t) decided) (left_in collection (term t) m) found × PlacesOver base collection (term t) places (Some place) all m →
    GoesOn (left_in collection q decided) (left_in collection q n) found × PlacesOver base collection q places lead all n
word_found base collection t q places lead place all decided n m found is led same said =
    subst (λ (k : ℕ). GoesOn (left_in collection q decided) (left_in collection q k) found × PlacesOver base collection q places lead all k) (sym same)
    (subst (λ (l : Option ℕ). GoesOn (left_in collection q decided) (left_in collection q m) found × PlacesOver base collection q places l all m) (sym led)
    (subst (λ (r : Query). GoesOn (left_in collection r decided) (left_in collection r m) found × PlacesOver base collection r places (Some place) all m) (sym is) said))

-- how many are decided with its answer
pub word_range : (found : Option ℕ) (d all n : ℕ) → d < all → IfSome found (IsInRange (d + 1) all) → n ≡ unwrap_or found all →
    (n ≤ all) × (d ≤ n) × IfSome found (λ doc. (d < doc) × (doc ≤ all) × (n ≡ doc)) × (found ≡ None → n ≡ all)
word_range None d all n more range is = (omega (arith, is), omega (arith, is, more), tt, λ _. is)
word_range (Some doc) d all n more range is = (omega (arith, is, range.1), omega (arith, is, range.0), (omega (arith, range.0), range.1, is), λ no. absurd cc)
