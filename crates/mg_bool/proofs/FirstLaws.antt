-- The first document that the list of any place has.
use Rattle.std.proofs.Common.{arith, ◌≡◌, ◌+◌, ◌-◌, ◌≤◌, ◌<◌, ℕ, Bool, true, false, List, [], ◌∷◌, length, drop, get_or, refl, sym, ap, subst, ◌∙◌, inl, inr, Option, Some, None}
use Rattle.std.specs.Prelude.{IfSome, slice_index_or, slice_set}
use Rattle.std.proofs.lemmas.Bool.{cases_lt, cases_Bool, ltb-false}
use Rattle.std.proofs.lemmas.List.{get_or-set_same, get_or-set_other, length-drop}
use Rattle.std.proofs.lemmas.List.Sums.{sum_by-set}
use Rattle.mg_dev.specs.Files.{Reads}
use Rattle.mg_dev.specs.declared.part.Part.TheVariants.{Post}
use Rattle.mg_defs.specs.declared.Posting.{Posting}
use Rattle.mg_defs.specs.Split.{documents}
use Rattle.mg_defs.specs.Terms.{document}
use Rattle.mg_defs.specs.Weights.{has_term}
use Rattle.mg_defs.specs.Lists.{postings, from_doc}
use Rattle.mg_defs.proofs.ListLaws.{from_here}
use Rattle.mg_laws.proofs.LedLists.{first_after, first_of, is_number, list_from, list_hit, list_miss, posting_is}
use Rattle.mg_laws.proofs.MetBlocks.{from_from}
use Rattle.mg_query.specs.Holds.{AreThere}
use Rattle.mg_bool.specs.Places.{AnswersFirst, FirstOf, IsNoLater, Place, PlaceFor, PlacesFor, comes_sooner, first_from, is_first, pages_read, place_pages}
use Rattle.mg_bool.proofs.AskLaws.{asked_one, first_number, is_same}
use Rattle.mg_bool.proofs.NextLaws.{lead_from}

-- ---- one more document is found

pub clear_next : (there : List Bool) (i : ℕ) → i < length there → ((k : ℕ) → k < i → get_or there k true ≡ false) → (k : ℕ) → k < i + 1 → get_or (slice_set there i false) k true ≡ false
clear_next there i within none k below =
    elim (cases_lt k i) [
      | inl less ↦ get_or-set_other there i k false true (λ e. omega (arith, e, less)) ∙ none k less
      | inr same ↦ (let e : k ≡ i = omega (arith, same, below) in rw e (get_or-set_same there i false true within))
    ]

not_sooner : (first found : Option ℕ) → comes_sooner found first ≡ false → IsNoLater first found
not_sooner None None isnt = refl
not_sooner (Some n) None isnt = tt
not_sooner None (Some d) isnt = absurd cc
not_sooner (Some n) (Some d) isnt = ltb-false d n isnt

pub take_other : (documents : ℕ → Option ℕ) (i : ℕ) (found first : Option ℕ) (old : List Bool) (b : Bool) → comes_sooner found first ≡ false → i < length old → b ≡ is_first first found →
    documents i ≡ found → FirstOf documents i first old → FirstOf documents (i + 1) first (slice_set old i b)
take_other documents i found first old b isnt within flag is f = record { least = least; one = one first f.one; told = told }
  where
    least : (k : ℕ) → k < i + 1 → IsNoLater first (documents k)
    least k below =
        elim (cases_lt k i) [
          | inl less ↦ f.least k less
          | inr same ↦ (let e : k ≡ i = omega (arith, same, below) in rw e (subst (IsNoLater first) (sym is) (not_sooner first found isnt)))
        ]

    one : (o : Option ℕ) → IfSome o (λ n. (k : ℕ) × (k < i) × (documents k ≡ Some n)) → IfSome o (λ n. (k : ℕ) × (k < i + 1) × (documents k ≡ Some n))
    one None h = tt
    one (Some n) h = (h.0, omega (arith, h.1), h.2)

    told : (k : ℕ) → k < i + 1 → get_or (slice_set old i b) k true ≡ is_first first (documents k)
    told k below =
        elim (cases_lt k i) [
          | inl less ↦ get_or-set_other old i k b true (λ e. omega (arith, e, less)) ∙ f.told k less
          | inr same ↦ (let e : k ≡ i = omega (arith, same, below) in rw e (get_or-set_same old i b true within ∙ flag ∙ ap (is_first first) (sym is)))
        ]

-- ---- the loop over the places

-- those below i were asked
pub record AskingFirst (base collection asked : List ℕ) (ts : List (List ℕ)) (doc i : ℕ) (first : Option ℕ) (old now : List Place) (there : List Bool) (before after : Reads) : Type 0 where
  pub places_for : PlacesFor base collection asked ts doc now
  pub so_far : FirstOf (λ k. first_from collection doc (get_or ts k [])) i first there
  pub post : after Post + pages_read old ≤ before Post + pages_read now

pub asking_first_start : (base collection asked : List ℕ) (ts : List (List ℕ)) (doc : ℕ) (places : List Place) (there : List Bool) (before : Reads) →
    PlacesFor base collection asked ts doc places → AskingFirst base collection asked ts doc 0 None places places there before before
asking_first_start base collection asked ts doc places there before f = record {
  places_for = f;
  so_far = record { least = λ k lt. absurd (omega (arith, lt)); one = tt; told = λ k lt. absurd (omega (arith, lt)) };
  post = omega arith;
}

pub asking_first_next : (base collection asked : List ℕ) (ts : List (List ℕ)) (doc i : ℕ) (first first_now : Option ℕ) (old now : List Place)
    (there there_now : List Bool) (v : Place) (before mid after : Reads) →
    AskingFirst base collection asked ts doc i first old now there before mid → i < length ts → PlaceFor base collection asked (get_or ts i []) doc v →
    FirstOf (λ k. first_from collection doc (get_or ts k [])) (i + 1) first_now there_now → after Post + place_pages (slice_index_or now i None) ≤ mid Post + place_pages v →
    AskingFirst base collection asked ts doc (i + 1) first_now old (slice_set now i v) there_now before after
asking_first_next base collection asked ts doc i first first_now old now there there_now v before mid after a lt place f step = record {
  places_for = asked_one base collection asked ts doc i now v a.places_for lt place;
  so_far = f;
  post = omega (arith, sum_by-set place_pages now i v None (omega (arith, lt, a.places_for.size)), step, a.post);
}

-- ---- which terms the first document has

-- a list from a document on has the same first one, where that is not before it
here : (n : ℕ) (ps : List Posting) → IfSome (first_of ps) (λ m. n ≤ m) → first_of (from_doc n ps) ≡ first_of ps
unfolding from_doc
here n [] le = refl
here n (p ∷ ps) le = ap first_of (from_here n p ps le)

has_first : (collection t : List ℕ) (doc n : ℕ) → 1 ≤ doc → doc ≤ n → n ≤ length (documents collection) → IsNoLater (Some n) (first_from collection doc t) →
    is_first (Some n) (first_from collection doc t) ≡ has_term (document collection n) t
has_first collection t doc n some le within least =
    let number : first_from collection doc t ≡ first_of (from_doc doc (postings collection t)) = first_number (from_doc doc (postings collection t)) in
    let same : first_of (from_doc n (postings collection t)) ≡ first_of (from_doc doc (postings collection t)) =
    ap first_of (sym (from_from doc n (postings collection t) le)) ∙ here n (from_doc doc (postings collection t)) (subst (λ (o : Option ℕ). IfSome o (λ m. n ≤ m)) number least) in
    is_same n (first_from collection doc t) ∙ ap (λ o. is_number o n) number ∙ ap (λ o. is_number o n) (sym same) ∙ posting_is collection t n (omega (arith, some, le)) within

-- ---- where the first document of a list stands

first_before : (t : List ℕ) (n m : ℕ) (ds : List (List ℕ)) → first_of (list_from t n ds) ≡ Some m → m < n + length ds
first_before t n m [] is = absurd cc
first_before t n m (doc ∷ ds) is =
    elim (cases_Bool (has_term doc t)) [
      | inl hit ↦ (let e : Some n ≡ Some m = sym (ap first_of (list_hit t n doc ds hit)) ∙ is in let same : n ≡ m = cc in omega (arith, same))
      | inr miss ↦ omega (arith, first_before t (n + 1) m ds (sym (ap first_of (list_miss t n doc ds miss)) ∙ is))
    ]

-- the first document of the list from a document on, among the documents behind
pub first_among : (collection t : List ℕ) (d : ℕ) → d ≤ length (documents collection) → first_from collection (d + 1) t ≡ first_of (list_from t (d + 1) (drop d (documents collection)))
first_among collection t d le = first_number (from_doc (d + 1) (postings collection t)) ∙ ap first_of (lead_from collection t d le)

pub first_bounds : (collection t : List ℕ) (doc n : ℕ) → 1 ≤ doc → doc ≤ length (documents collection) → first_from collection doc t ≡ Some n → (doc ≤ n) × (n ≤ length (documents collection))
first_bounds collection t doc n some le is =
    let e : doc ≡ doc - 1 + 1 = omega (arith, some) in
    let at : first_of (list_from t (doc - 1 + 1) (drop (doc - 1) (documents collection)))
    ≡ Some n = sym (first_among collection t (doc - 1) (omega (arith, le))) ∙ ap (λ k. first_from collection k t) (sym e) ∙ is in (
      omega (arith, first_after t (doc - 1 + 1) n (drop (doc - 1) (documents collection)) at, e),
      omega (arith, first_before t (doc - 1 + 1) n (drop (doc - 1) (documents collection)) at, e, le, length-drop (doc - 1) (documents collection)),
    )

-- ---- all places were asked

pub asking_first_end : (base collection asked : List ℕ) (ts : List (List ℕ)) (doc i : ℕ) (first : Option ℕ) (old now : List Place) (there : List Bool)
    (before after : Reads) → 1 ≤ doc → doc ≤ length (documents collection) →
    AskingFirst base collection asked ts doc i first old now there before after → i ≡ length ts → length there ≡ length ts → AnswersFirst base collection asked ts doc first there now
asking_first_end base collection asked ts doc i first old now there before after some le a is size = record {
  places_for = a.places_for;
  least = λ k lt. a.so_far.least k (omega (arith, lt, is));
  one = one first a.so_far.one;
  are_there = are_there first a.so_far.one (λ k lt. a.so_far.least k (omega (arith, lt, is))) (λ k lt. a.so_far.told k (omega (arith, lt, is)));
}
  where
    one : (o : Option ℕ) → IfSome o (λ n. (k : ℕ) × (k < i) × (first_from collection doc (get_or ts k []) ≡ Some n)) →
        IfSome o (λ n. (k : ℕ) × (k < length ts) × (first_from collection doc (get_or ts k []) ≡ Some n))
    one None h = tt
    one (Some n) h = (h.0, omega (arith, h.1, is), h.2)

    are_there : (o : Option ℕ) → IfSome o (λ n. (k : ℕ) × (k < i) × (first_from collection doc (get_or ts k []) ≡ Some n)) →
        ((k : ℕ) → k < length ts → IsNoLater o (first_from collection doc (get_or ts k []))) →
        ((k : ℕ) → k < length ts → get_or there k true ≡ is_first o (first_from collection doc (get_or ts k []))) →
        IfSome o (λ n. AreThere (document collection n) ts there)
    are_there None h least told = tt
    are_there (Some n) h least told =
        let b = first_bounds collection (get_or ts h.0 []) doc n some le h.2 in
        record { size = size; each = λ k lt. told k lt ∙ has_first collection (get_or ts k []) doc n some b.0 b.1 (least k lt) }
