-- A document that is asked of all places.
use Rattle.std.proofs.Common.{arith, ◌≡◌, ◌+◌, ◌≤◌, ◌<◌, ℕ, suc, Bool, true, List, [], ◌∷◌, ◌++◌, length, sum_by, get_or, refl, sym, ap, subst, ◌∙◌, inl, inr, Option, Some, None, Ok, Err}
use Rattle.std.specs.Prelude.{Result, slice_index_or, slice_set}
use Rattle.std.proofs.lemmas.Bool.{cases_lt, cases_eq}
use Rattle.std.proofs.lemmas.List.{get_or-set_same, get_or-set_other, get_or_default, get_or_append_left, get_or_at, get_or_past, length-set, length-append}
use Rattle.std.proofs.lemmas.List.Sums.{sum_by-set, sum_by-cons}
use Rattle.mg_dev.specs.Files.{Files, Reads}
use Rattle.mg_dev.specs.declared.part.Part.TheVariants.{Post}
use Rattle.mg_dev.specs.declared.part_err.PartErr.{PartErr}
use Rattle.mg_dev.specs.declared.part_err.PartErr.TheVariants as part
use Rattle.mg_layout.specs.declared.term_info.TermInfo.{TermInfo}
use Rattle.mg_defs.specs.declared.Posting.{Posting}
use Rattle.mg_defs.specs.Split.{documents}
use Rattle.mg_defs.specs.Terms.{document, docs}
use Rattle.mg_defs.specs.Weights.{has_term}
use Rattle.mg_defs.specs.Lists.{postings, from_doc}
use Rattle.mg_laws.proofs.LedLists.{first_of, is_number, length_postings, posting_is}
use Rattle.mg_post.proofs.CallerLemmas.{cursor_later}
use Rattle.mg_post.specs.PagesOnce.{span_pages}
use Rattle.mg_post.specs.Answers.{AnswersList}
use Rattle.mg_post.specs.Cursor.{Cursoring, head_of, post_pages}
use Rattle.mg_post.specs.TermLists.{CursorFor, ListsStand, PagesWithin}
use Rattle.mg_bool.specs.Places.{AnswersAll, AnswersPlace, AreInfos, AsksAll, AsksPlace, Asking, IsToldOf, Place, PlaceFits, PlaceFor}
use Rattle.mg_bool.specs.Places.{PlaceOn, PlacesFit, PlacesFor, PlacesOn, SamePlace, SamePlaces, number_in, pages_read, place_bound, place_pages, is_first}
use Rattle.mg_bool.specs.Calls.{SkipsWithin, place_skips, skips_read}
use Rattle.mg_bool.specs.Shown.{IsListOf, PlaceStands}

-- a refusal is a device's, whatever the answer is about
pub err_answer : {A B : Type 0} (e : PartErr) (f : A → Type 0) (h : B → Type 0) → AnswersList {T = A} (Err e) f → AnswersList {T = B} (Err e) h
err_answer part.Device f h got = tt
err_answer part.Memory f h got = absurd got
err_answer (part.Bad bad) f h got = absurd got

pub answers_more : {A : Type 0} (r : Result A PartErr) (f h : A → Type 0) → ((x : A) → f x → h x) → AnswersList r f → AnswersList r h
answers_more (Ok x) f h more a = more x a
answers_more (Err part.Device) f h more a = tt
answers_more (Err part.Memory) f h more a = absurd a
answers_more (Err (part.Bad bad)) f h more a = absurd a

none_first : (collection t : List ℕ) (doc : ℕ) → postings collection t ≡ [] → number_in (head_of (from_doc doc (postings collection t))) ≡ None
unfolding from_doc
none_first collection t doc none = ap (λ ps. number_in (head_of (from_doc doc ps))) none

pub none_asked : (base collection asked t : List ℕ) (doc : ℕ) (files : Option Files) (p : Place) → p ≡ None → AsksPlace base collection asked t doc files p →
    AnswersPlace base collection asked t doc None p
none_asked base collection asked t doc files None is a = record { found_is = sym (none_first collection t doc a.place); place = a.place }
none_asked base collection asked t doc files (Some c) is a = absurd cc

pub no_postings : (collection t : List ℕ) → docs collection t ≡ 0 → postings collection t ≡ []
no_postings collection t none = empty (postings collection t) (length_postings collection t ∙ none)
  where
    empty : (ps : List Posting) → length ps ≡ 0 → ps ≡ []
    empty [] e = refl
    empty (p ∷ ps) e = absurd (omega (arith, e))

pub same_refl : (p : Place) → SamePlace p p
same_refl None = tt
same_refl (Some c) = record { post = refl; skip = refl; post_at = refl; skip_at = refl; docs = refl; all = refl; parameter = refl }

same_more : (p q r : Place) → SamePlace p q → SamePlace q r → SamePlace p r
same_more None None None a b = tt
same_more None None (Some v) a b = absurd b
same_more None (Some d) r a b = absurd a
same_more (Some c) None r a b = absurd a
same_more (Some c) (Some d) None a b = absurd b
same_more (Some c) (Some d) (Some v) a b = record {
  post = b.post ∙ a.post;
  skip = b.skip ∙ a.skip;
  post_at = b.post_at ∙ a.post_at;
  skip_at = b.skip_at ∙ a.skip_at;
  docs = b.docs ∙ a.docs;
  all = b.all ∙ a.all;
  parameter = b.parameter ∙ a.parameter;
}

on_same : (base : List ℕ) (all : ℕ) (p q : Place) → SamePlace p q → PlaceOn base all p → PlaceOn base all q
on_same base all None None same on = tt
on_same base all None (Some v) same on = absurd same
on_same base all (Some c) None same on = absurd same
on_same base all (Some c) (Some v) same on = record { post = same.post ∙ on.post; skip = same.skip ∙ on.skip; all_is = same.all ∙ on.all_is }

-- ---- one of many places

pub old_is : (xs : List Place) (i : ℕ) (old : Place) → i < length xs → old ≡ slice_index_or xs i old → slice_index_or xs i None ≡ old
old_is xs i old lt value = get_or_default xs i None old lt ∙ sym value

pub set_self : (xs : List Place) (i : ℕ) (v : Place) → i < length xs → slice_index_or (slice_set xs i v) i None ≡ v
set_self xs i v lt = get_or-set_same xs i v None lt

pub old_asks : (base collection asked t : List ℕ) (doc : ℕ) (files : Option Files) (xs : List Place) (i : ℕ) (old : Place) → i < length xs →
    old ≡ slice_index_or xs i old → AsksPlace base collection asked t doc files (slice_index_or xs i None) → AsksPlace base collection asked t doc files old
old_asks base collection asked t doc files xs i old lt value f = subst (AsksPlace base collection asked t doc files) (old_is xs i old lt value) f

pub old_on : (base : List ℕ) (all : ℕ) (xs : List Place) (i : ℕ) (old : Place) → i < length xs → old ≡ slice_index_or xs i old → PlaceOn base all (slice_index_or xs i None) → PlaceOn base all old
old_on base all xs i old lt value f = subst (PlaceOn base all) (old_is xs i old lt value) f

pub new_answer : (base collection asked t : List ℕ) (doc : ℕ) (xs : List Place) (i : ℕ) (v : Place) (r : Result (Option ℕ) PartErr) → i < length xs →
    AnswersList r (λ found. AnswersPlace base collection asked t doc found v) →
    AnswersList r (λ found. AnswersPlace base collection asked t doc found (slice_index_or (slice_set xs i v) i None))
new_answer base collection asked t doc xs i v r lt a = subst (λ p. AnswersList r (λ found. AnswersPlace base collection asked t doc found p)) (sym (set_self xs i v lt)) a

pub new_pages : (bound : ℕ) (before now : Reads) (xs : List Place) (i : ℕ) (old v : Place) → i < length xs → old ≡ slice_index_or xs i old →
    PagesWithin bound (place_pages old) (place_pages v) before now →
    PagesWithin bound (place_pages (slice_index_or xs i None)) (place_pages (slice_index_or (slice_set xs i v) i None)) before now
new_pages bound before now xs i old v lt value p = record {
  within = omega (arith, p.within, ap place_pages (set_self xs i v lt));
  post = omega (arith, p.post, ap place_pages (old_is xs i old lt value), ap place_pages (set_self xs i v lt));
}

pub new_same : (xs : List Place) (i : ℕ) (old v : Place) → i < length xs → old ≡ slice_index_or xs i old → SamePlace old v → SamePlaces xs (slice_set xs i v)
new_same xs i old v lt value same = record { size = length-set xs i v; each = at }
  where
    at : (k : ℕ) → SamePlace (slice_index_or xs k None) (slice_index_or (slice_set xs i v) k None)
    at k =
        elim (cases_eq k i) [
          | inl here ↦ rw here (subst (λ p. SamePlace p (slice_index_or (slice_set xs i v) i None)) (sym (old_is xs i old lt value)) (subst (SamePlace old) (sym (set_self xs i v lt)) same))
          | inr other ↦ subst (SamePlace (slice_index_or xs k None)) (sym (get_or-set_other xs i k v None other)) (same_refl (slice_index_or xs k None))
        ]

pub same_all : (xs : List Place) → SamePlaces xs xs
same_all xs = record { size = refl; each = λ k. same_refl (slice_index_or xs k None) }

pub same_then : (xs ys zs : List Place) → SamePlaces xs ys → SamePlaces ys zs → SamePlaces xs zs
same_then xs ys zs a b = record { size = b.size ∙ a.size; each = λ k. same_more (slice_index_or xs k None) (slice_index_or ys k None) (slice_index_or zs k None) (a.each k) (b.each k) }

pub on_still : (base : List ℕ) (all : ℕ) (xs ys : List Place) → SamePlaces xs ys → PlacesOn base all xs → PlacesOn base all ys
on_still base all xs ys same on = record { each = λ k. on_same base all (slice_index_or xs k None) (slice_index_or ys k None) (same.each k) (on.each k) }

-- ---- the places later on

place_later : (base collection asked t : List ℕ) (m n : ℕ) (p : Place) → m ≤ n → PlaceFor base collection asked t m p → PlaceFor base collection asked t n p
place_later base collection asked t m n None le f = f
place_later base collection asked t m n (Some c) le f = cursor_later base collection asked t m n c le f

pub places_later : (base collection asked : List ℕ) (ts : List (List ℕ)) (m n : ℕ) (places : List Place) → m ≤ n → PlacesFor base collection asked ts m places →
    PlacesFor base collection asked ts n places
places_later base collection asked ts m n places le f = record { size = f.size; each = λ k lt. place_later base collection asked (get_or ts k []) m n (slice_index_or places k None) le (f.each k lt) }

-- one place was asked, and the others stand as they stood
pub asked_one : (base collection asked : List ℕ) (ts : List (List ℕ)) (n i : ℕ) (now : List Place) (v : Place) → PlacesFor base collection asked ts n now →
    i < length ts → PlaceFor base collection asked (get_or ts i []) n v → PlacesFor base collection asked ts n (slice_set now i v)
asked_one base collection asked ts n i now v f lt one = record { size = length-set now i v ∙ f.size; each = at }
  where
    at : (k : ℕ) → k < length ts → PlaceFor base collection asked (get_or ts k []) n (slice_index_or (slice_set now i v) k None)
    at k inside =
        elim (cases_eq k i) [
          | inl same ↦ rw same (subst (PlaceFor base collection asked (get_or ts i []) n) (sym (set_self now i v (omega (arith, lt, f.size)))) one)
          | inr other ↦ subst (PlaceFor base collection asked (get_or ts k []) n) (sym (get_or-set_other now i k v None other)) (f.each k inside)
        ]

-- ---- the loop over the places

pub asking_start : (base collection asked : List ℕ) (ts : List (List ℕ)) (doc : ℕ) (files : Option Files) (places : List Place) (there : List Bool)
    (before : Reads) → AsksAll base collection asked ts doc files places → Asking base collection asked ts doc 0 places places there before before
asking_start base collection asked ts doc files places there before a = record {
  places_for = a.places_for;
  found = λ k lt within. absurd (omega (arith, lt));
  post = omega arith;
}

-- one of the places may be asked
pub asks_one : (base collection asked : List ℕ) (ts : List (List ℕ)) (doc i : ℕ) (files now_files : Option Files) (now old : List Place) → now_files ≡ files →
    AsksAll base collection asked ts doc files old → PlacesFor base collection asked ts doc now → i < length ts →
    AsksPlace base collection asked (get_or ts i []) doc now_files (slice_index_or now i None)
asks_one base collection asked ts doc i files now_files now old same a f lt = record {
  stand = subst (λ fs. ListsStand base fs collection) (sym same) a.stand;
  place = f.each i lt;
  among = a.among (get_or ts i []);
}

pub asking_next : (base collection asked : List ℕ) (ts : List (List ℕ)) (doc i : ℕ) (old now : List Place) (there : List Bool) (v : Place) (b : Bool)
    (before mid after : Reads) → Asking base collection asked ts doc i old now there before mid → i < length ts → i < length there →
    PlaceFor base collection asked (get_or ts i []) doc v → b ≡ has_term (document collection doc) (get_or ts i []) →
    after Post + place_pages (slice_index_or now i None) ≤ mid Post + place_pages v →
    Asking base collection asked ts doc (i + 1) old (slice_set now i v) (slice_set there i b) before after
asking_next base collection asked ts doc i old now there v b before mid after a lt within place found step =
    let here : i < length now = omega (arith, lt, a.places_for.size) in
    record {
      places_for = asked_one base collection asked ts doc i now v a.places_for lt place;
      found = flag;
      post = omega (arith, sum_by-set place_pages now i v None here, step, a.post);
    }
  where
    flag : (k : ℕ) → k < i + 1 → k < length ts → get_or (slice_set there i b) k true ≡ has_term (document collection doc) (get_or ts k [])
    flag k below inside =
        elim (cases_lt k i) [
          | inl less ↦ get_or-set_other there i k b true (λ e. omega (arith, e, less)) ∙ a.found k less inside
          | inr same ↦ (let e : k ≡ i = omega (arith, same, below) in rw e (get_or-set_same there i b true within ∙ found))
        ]

pub asking_end : (base collection asked : List ℕ) (ts : List (List ℕ)) (doc i : ℕ) (old now : List Place) (there : List Bool) (before after : Reads) →
    Asking base collection asked ts doc i old now there before after → length ts ≤ i → length there ≡ length ts →
    AnswersAll base collection asked ts doc there now
asking_end base collection asked ts doc i old now there before after a le size = record {
  places_for = a.places_for;
  are_there = record { size = size; each = λ k lt. a.found k (omega (arith, lt, le)) lt };
}

-- ---- how many pages

pub place_within : (base collection asked t : List ℕ) (n : ℕ) (p : Place) → PlaceFor base collection asked t n p →
    ((c : Cursoring) → CursorFor base collection asked t n c → post_pages c ≤ place_bound collection asked t) → place_pages p ≤ place_bound collection asked t
place_within base collection asked t n None f law = omega arith
place_within base collection asked t n (Some c) f law = law c f

pub sums_within : (g : Place → ℕ) (f : List ℕ → ℕ) (places : List Place) (ts : List (List ℕ)) → length places ≡ length ts →
    ((k : ℕ) → k < length ts → g (slice_index_or places k None) ≤ f (get_or ts k [])) → sum_by g places ≤ sum_by f ts
sums_within g f [] [] size each = omega arith
sums_within g f [] (t ∷ ts) size each = absurd (omega (arith, size))
sums_within g f (p ∷ places) [] size each = absurd (omega (arith, size))
sums_within g f (p ∷ places) (t ∷ ts) size each =
    omega (arith, sum_by-cons g p places, sum_by-cons f t ts, each 0 (omega arith), sums_within g f places ts (omega (arith, size)) (λ k lt. each (suc k) (omega (arith, lt))))

place_span : (base collection asked t : List ℕ) (n : ℕ) (p : Place) → PlaceFor base collection asked t n p →
    ((c : Cursoring) → CursorFor base collection asked t n c → post_pages c ≤ span_pages collection t) → place_pages p ≤ span_pages collection t
place_span base collection asked t n None f law = omega arith
place_span base collection asked t n (Some c) f law = law c f

-- the pages on which their lists lie, where mg_post says so of one cursor
pub places_span : (base collection asked : List ℕ) (ts : List (List ℕ)) (n : ℕ) (places : List Place) →
    ((base collection asked t : List ℕ) (n : ℕ) (c : Cursoring) → CursorFor base collection asked t n c → post_pages c ≤ span_pages collection t) →
    PlacesFor base collection asked ts n places → pages_read places ≤ sum_by (span_pages collection) ts
places_span base collection asked ts n places law f = sums_within place_pages (span_pages collection) places ts f.size
    (λ k lt. place_span base collection asked (get_or ts k []) n (slice_index_or places k None) (f.each k lt) (law base collection asked (get_or ts k []) n))

-- what mg_post says of the pages of one cursor
abbrev pub CursorsWithin : Type 0
CursorsWithin = (base collection asked t : List ℕ) (n : ℕ) (c : Cursoring) → CursorFor base collection asked t n c → post_pages c ≤ place_bound collection asked t

pub places_bound : (base collection asked : List ℕ) (ts : List (List ℕ)) (n : ℕ) (places : List Place) → CursorsWithin →
    PlacesFor base collection asked ts n places → pages_read places ≤ sum_by (place_bound collection asked) ts
places_bound base collection asked ts n places law f = sums_within place_pages (place_bound collection asked) places ts f.size
    (λ k lt. place_within base collection asked (get_or ts k []) n (slice_index_or places k None) (f.each k lt) (law base collection asked (get_or ts k []) n))

pub set_bound : (base collection asked : List ℕ) (ts : List (List ℕ)) (n i : ℕ) (now : List Place) (v : Place) → CursorsWithin →
    PlacesFor base collection asked ts n now → i < length ts → place_pages v ≤ place_bound collection asked (get_or ts i []) →
    pages_read (slice_set now i v) ≤ sum_by (place_bound collection asked) ts
set_bound base collection asked ts n i now v law f lt le = sums_within place_pages (place_bound collection asked) (slice_set now i v) ts (length-set now i v ∙ f.size) each
  where
    each : (k : ℕ) → k < length ts → place_pages (slice_index_or (slice_set now i v) k None) ≤ place_bound collection asked (get_or ts k [])
    each k inside =
        elim (cases_eq k i) [
          | inl same ↦ rw same (omega (arith, ap place_pages (set_self now i v (omega (arith, lt, f.size))), le))
          | inr other ↦ omega (
            arith,
            ap place_pages (get_or-set_other now i k v None other),
            place_within base collection asked (get_or ts k []) n (slice_index_or now k None) (f.each k inside) (law base collection asked (get_or ts k []) n),
          )
        ]

-- one place was asked, whatever it answered
pub asked_pages : (base collection asked : List ℕ) (ts : List (List ℕ)) (n i : ℕ) (old now : List Place) (v : Place) (before mid after : Reads) →
    CursorsWithin → PlacesFor base collection asked ts n now → i < length ts → mid Post + pages_read old ≤ before Post + pages_read now →
    PagesWithin (place_bound collection asked (get_or ts i [])) (place_pages (slice_index_or now i None)) (place_pages v) mid after →
    PagesWithin (sum_by (place_bound collection asked) ts) (pages_read old) (pages_read (slice_set now i v)) before after
asked_pages base collection asked ts n i old now v before mid after law f lt so_far step = record {
  within = set_bound base collection asked ts n i now v law f lt step.within;
  post = omega (arith, sum_by-set place_pages now i v None (omega (arith, lt, f.size)), so_far, step.post);
}

pub first_number : (ps : List Posting) → number_in (head_of ps) ≡ first_of ps
first_number [] = refl
first_number (p ∷ ps) = refl

-- ---- one document asked of one place: what is left there

pub is_same : (n : ℕ) (found : Option ℕ) → is_first (Some n) found ≡ is_number found n
is_same n None = refl
is_same n (Some doc) = refl

pub found_is : (collection t : List ℕ) (doc : ℕ) (found : Option ℕ) (b : Bool) → 1 ≤ doc → doc ≤ length (documents collection) →
    found ≡ number_in (head_of (from_doc doc (postings collection t))) → b ≡ is_first (Some doc) found → b ≡ has_term (document collection doc) t
found_is collection t doc found b some le is flag = flag ∙ is_same doc found ∙ ap (λ o. is_number o doc)
    (is ∙ first_number (from_doc doc (postings collection t))) ∙ posting_is collection t doc some le

-- ---- one place after another is made

pub record PlaceMade (base : List ℕ) (all : ℕ) (info : Option TermInfo) (p : Place) : Type 0 where
  pub over : (collection asked t : List ℕ) (n : ℕ) → IsToldOf collection t info → all ≡ length (documents collection) → PlaceFor base collection asked t n p
  pub on : PlaceOn base all p
  pub fits : (files : Option Files) → PlaceFits files p
  pub list : IsListOf base info all p
  pub stands : (files : Option Files) (n : ℕ) → PlaceStands p files n
  pub nothing : place_pages p ≡ 0
  pub unread : place_skips p ≡ 0

pub record PlacesMade (base : List ℕ) (all : ℕ) (infos : List (Option TermInfo)) (count : ℕ) (places : List Place) : Type 0 where
  pub size : length places ≡ count
  pub each : (k : ℕ) → k < count → PlaceMade base all (slice_index_or infos k None) (slice_index_or places k None)

pub made_next : (base : List ℕ) (all : ℕ) (infos : List (Option TermInfo)) (count : ℕ) (places : List Place) (p : Place) →
    PlacesMade base all infos count places → PlaceMade base all (slice_index_or infos count None) p → PlacesMade base all infos (count + 1) (places ++ p ∷ [])
made_next base all infos count places p m one = record { size = omega (arith, length-append places (p ∷ []), m.size); each = λ k lt. at k lt }
  where
    at : (k : ℕ) → k < count + 1 → PlaceMade base all (slice_index_or infos k None) (slice_index_or (places ++ p ∷ []) k None)
    at k lt =
        elim (cases_lt k count) [
          | inl below ↦ subst (PlaceMade base all (slice_index_or infos k None)) (sym (get_or_append_left places (p ∷ []) None k (omega (arith, below, m.size)))) (m.each k below)
          | inr here ↦ (let e : k ≡ count = omega (arith, here, lt) in rw e (subst (PlaceMade base all (slice_index_or infos count None)) (sym (get_or_at places p [] None count m.size)) one))
        ]

pub made_over : (base : List ℕ) (all : ℕ) (infos : List (Option TermInfo)) (count : ℕ) (places : List Place) → PlacesMade base all infos count places →
    length infos ≡ count → (collection asked : List ℕ) (ts : List (List ℕ)) (n : ℕ) → AreInfos collection ts infos → all ≡ length (documents collection) →
    PlacesFor base collection asked ts n places
made_over base all infos count places m whole collection asked ts n a all_is = record {
  size = m.size ∙ sym whole ∙ a.size;
  each = λ k lt. (m.each k (omega (arith, lt, a.size, whole))).over collection asked (get_or ts k []) n (a.each k lt) all_is;
}

pub made_fits : (base : List ℕ) (all : ℕ) (infos : List (Option TermInfo)) (count : ℕ) (places : List Place) → PlacesMade base all infos count places → (files : Option Files) → PlacesFit files places
made_fits base all infos count places m files = record { each = λ k lt. (m.each k (omega (arith, lt, m.size))).fits files }

pub made_on : (base : List ℕ) (all : ℕ) (infos : List (Option TermInfo)) (count : ℕ) (places : List Place) → PlacesMade base all infos count places → PlacesOn base all places
made_on base all infos count places m = record { each = at }
  where
    at : (k : ℕ) → PlaceOn base all (slice_index_or places k None)
    at k =
        elim (cases_lt k count) [
          | inl below ↦ (m.each k below).on
          | inr past ↦ subst (PlaceOn base all) (sym (get_or_past places k None (omega (arith, past, m.size)))) tt
        ]

none_read : (places : List Place) → ((k : ℕ) → k < length places → place_pages (slice_index_or places k None) ≡ 0) → pages_read places ≡ 0
none_read [] none = refl
none_read (p ∷ places) none = omega (arith, sum_by-cons place_pages p places, none 0 (omega arith), none_read places (λ k lt. none (suc k) (omega (arith, lt))))

pub made_unread : (base : List ℕ) (all : ℕ) (infos : List (Option TermInfo)) (count : ℕ) (places : List Place) → PlacesMade base all infos count places → skips_read places ≡ 0
made_unread base all infos count places m = none_skipped places (λ k lt. (m.each k (omega (arith, lt, m.size))).unread)
  where
    none_skipped : (ps : List Place) → ((k : ℕ) → k < length ps → place_skips (slice_index_or ps k None) ≡ 0) → skips_read ps ≡ 0
    none_skipped [] none = refl
    none_skipped (p ∷ ps) none = omega (arith, sum_by-cons place_skips p ps, none 0 (omega arith), none_skipped ps (λ k lt. none (suc k) (omega (arith, lt))))

pub made_within : (base : List ℕ) (all : ℕ) (infos : List (Option TermInfo)) (count : ℕ) (places : List Place) → PlacesMade base all infos count places → SkipsWithin places
made_within base all infos count places m = λ k lt. omega (arith, (m.each k (omega (arith, lt, m.size))).unread)

pub made_nothing : (base : List ℕ) (all : ℕ) (infos : List (Option TermInfo)) (count : ℕ) (places : List Place) → PlacesMade base all infos count places → pages_read places ≡ 0
made_nothing base all infos count places m = none_read places (λ k lt. (m.each k (omega (arith, lt, m.size))).nothing)
