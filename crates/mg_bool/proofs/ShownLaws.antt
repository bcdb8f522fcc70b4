-- What a walk decides is shown by the parts of its lists.
use Rattle.std.proofs.Common.{arith, ◌≡◌, ◌+◌, ◌≤◌, ◌<◌, ℕ, zero, suc, Bool, true, false, not, ◌&&◌, ◌||◌, List, []}
use Rattle.std.proofs.Common.{◌∷◌, length, drop, get_or, refl, sym, ap, subst, ◌∙◌, inl, inr, Option, Some, None, Ok, Err}
use Rattle.std.specs.Prelude.{IfOk, IfSome, Result, ◌==◌, if◌then◌else◌, slice_index_or, slice_set, unwrap_or}
use Rattle.std.proofs.Math.Seq.{drop-nil}
use Rattle.std.proofs.lemmas.Bool.{cases_lt, cases_eq, eq-eqb, ne_eqb}
use Rattle.std.proofs.lemmas.List.{get_or-set_same, get_or-set_other, get_or-drop, get_or_past}
use Rattle.mg_dev.specs.Files.{Files}
use Rattle.mg_dev.specs.declared.part_err.PartErr.{PartErr}
use Rattle.mg_layout.specs.declared.term_info.TermInfo.{TermInfo}
use Rattle.mg_defs.specs.declared.Posting.{Posting}
use Rattle.mg_defs.specs.Sat.{Query, term, both, either, without}
use Rattle.mg_defs.specs.QueryTerms.{query_terms}
use Rattle.mg_query.specs.Holds.{holds}
use Rattle.mg_post.specs.Cursor.{Cursoring, SameList}
use Rattle.mg_post.proofs.CallerLemmas.{first_low, first_same, stands_later}
use Rattle.mg_bool.specs.Places.{FirstOf, IsInRange, IsNoLater, Place, SamePlace, SamePlaces, TakesFound, is_first, nth_place, number_in}
use Rattle.mg_bool.specs.Matches.{Matching}
use Rattle.mg_bool.specs.Shown.{AllAsked, AnswersShown, AreLists, DecidesShown, FirstAsked, IsPassed, IsShown, PlaceAsked}
use Rattle.mg_bool.specs.Shown.{PlaceShows, PlaceStands, PlacesStand, ShowsCandidate, ShowsFirstOf, ShowsWhether, WalkStands}
use Rattle.mg_bool.proofs.AskLaws.{PlacesMade, old_is, set_self}

-- ---- one place

list_back : (c v : Cursoring) → SameList c v → SameList v c
list_back c v s = record {
  post = sym s.post;
  skip = sym s.skip;
  post_at = sym s.post_at;
  skip_at = sym s.skip_at;
  docs = sym s.docs;
  all = sym s.all;
  parameter = sym s.parameter;
}

-- over the same list
shows_back : (p v : Place) (files : Option Files) (doc : ℕ) (found : Option ℕ) → SamePlace p v → PlaceShows v files doc found → PlaceShows p files doc found
shows_back None None files doc found same h = h
shows_back None (Some v) files doc found same h = absurd same
shows_back (Some c) None files doc found same h = absurd same
shows_back (Some c) (Some v) files doc found same h = (h.0, first_same files doc h.0 (list_back c v same) h.1, h.2)

whether_back : (p v : Place) (f g : Option Files) (doc : ℕ) (b : Bool) → SamePlace p v → g ≡ f → ShowsWhether v g doc b → ShowsWhether p f doc b
whether_back p v f g doc b same files w = record {
  from = w.from;
  early = w.early;
  first = w.first;
  shown = shows_back p v f w.from w.first same (subst (λ h. PlaceShows v h w.from w.first) files w.shown);
  later = w.later;
  told = w.told;
}

place_later : (p : Place) (files : Option Files) (m n : ℕ) → m ≤ n → PlaceStands p files m → PlaceStands p files n
place_later None files m n le s = tt
place_later (Some c) files m n le s = stands_later le s

number_low : (p : Option Posting) (doc : ℕ) → IfSome p (λ x. doc ≤ x.doc) → IfSome (number_in p) (λ n. doc ≤ n)
number_low None doc low = tt
number_low (Some p) doc low = low

-- what is shown is not before the document
shows_low : (p : Place) (files : Option Files) (doc : ℕ) (found : Option ℕ) → PlaceShows p files doc found → IfSome found (λ n. doc ≤ n)
shows_low None files doc found h = subst (λ o. IfSome o (λ n. doc ≤ n)) (sym h) tt
shows_low (Some c) files doc found h = subst (λ o. IfSome o (λ n. doc ≤ n)) (sym h.2) (number_low h.0 doc (first_low c files doc h.0 h.1))

-- whether the list has the document that was asked for
whether_at : (p : Place) (files : Option Files) (doc : ℕ) (found : Option ℕ) (b : Bool) → PlaceShows p files doc found → b ≡ is_first (Some doc) found → ShowsWhether p files doc b
whether_at p files doc found b shown told = record { from = doc; early = omega arith; first = found; shown = shown; later = shows_low p files doc found shown; told = told }

behind_is : (found : Option ℕ) (doc : ℕ) → IfSome found (λ n. doc < n) → IfSome found (λ n. doc ≤ n) × (false ≡ is_first (Some doc) found)
behind_is None doc lt = (tt, refl)
behind_is (Some n) doc lt = (omega (arith, lt), sym (ne_eqb n doc (λ e. omega (arith, e, lt))))

-- it has none before the first one
whether_before : (p : Place) (files : Option Files) (from doc : ℕ) (found : Option ℕ) → PlaceShows p files from found → from ≤ doc → IfSome found (λ n. doc < n) → ShowsWhether p files doc false
whether_before p files from doc found shown le lt =
    let b = behind_is found doc lt in
    record { from = from; early = le; first = found; shown = shown; later = b.0; told = b.1 }

-- ---- all places

pub places_later : {files : Option Files} {places : List Place} {m n : ℕ} → m ≤ n → PlacesStand files places m → PlacesStand files places n
places_later {files} {places} {m} {n} le s = record { each = λ k. place_later (nth_place places k) files m n le (s.each k) }

-- one of them was asked
pub stand_set : (f g : Option Files) (places : List Place) (i n : ℕ) (v : Place) → i < length places → g ≡ f → PlacesStand f places n → PlaceStands v g n → PlacesStand g (slice_set places i v) n
stand_set f g places i n v lt same s one = record { each = at }
  where
    at : (k : ℕ) → PlaceStands (nth_place (slice_set places i v) k) g n
    at k =
        elim (cases_eq k i) [
          | inl here ↦ rw here (subst (λ p. PlaceStands p g n) (sym (set_self places i v lt)) one)
          | inr other ↦ subst (λ p. PlaceStands p g n) (sym (get_or-set_other places i k v None other)) (subst (λ h. PlaceStands (nth_place places k) h n) (sym same) (s.each k))
        ]

-- those that were made
pub made_stands : (base : List ℕ) (all : ℕ) (infos : List (Option TermInfo)) (count : ℕ) (places : List Place) → PlacesMade base all infos count places → (files : Option Files) (n : ℕ) →
    PlacesStand files places n
made_stands base all infos count places m files n = record { each = at }
  where
    at : (k : ℕ) → PlaceStands (nth_place places k) files n
    at k =
        elim (cases_lt k count) [
          | inl below ↦ (m.each k below).stands files n
          | inr past ↦ subst (λ p. PlaceStands p files n) (sym (get_or_past places k None (omega (arith, past, m.size)))) tt
        ]

pub made_lists : (base : List ℕ) (all : ℕ) (infos : List (Option TermInfo)) (count : ℕ) (places : List Place) → PlacesMade base all infos count places → length infos ≡ count →
    AreLists base infos all places
made_lists base all infos count places m whole = record { size = m.size ∙ sym whole; each = λ k lt. (m.each k (omega (arith, lt, whole))).list }

-- a term that no document has
pub none_shown : (p : Place) (f g : Option Files) (doc : ℕ) → p ≡ None → PlaceAsked p p f g doc (Ok None)
none_shown None f g doc is stands = (refl, tt)
none_shown (Some c) f g doc is stands = absurd cc

-- the place of a number is asked
pub new_asked : (f g : Option Files) (doc : ℕ) (xs : List Place) (i : ℕ) (old v : Place) → i < length xs → old ≡ slice_index_or xs i old → (r : Result (Option ℕ) PartErr) →
    PlaceAsked old v f g doc r → PlaceAsked (slice_index_or xs i None) (slice_index_or (slice_set xs i v) i None) f g doc r
new_asked f g doc xs i old v lt value r asked =
    subst (λ p. PlaceAsked p (slice_index_or (slice_set xs i v) i None) f g doc r) (sym (old_is xs i old lt value))
    (subst (λ p. PlaceAsked old p f g doc r) (sym (set_self xs i v lt)) asked)

-- and it leads
pub candidate_asked : {f g : Option Files} {old now : List Place} (d : ℕ) (v : Place) (r : Result (Option ℕ) PartErr) (led : Option ℕ) (place : ℕ) → led ≡ Some place → place < length old → g ≡ f →
    now ≡ slice_set old place v → PlaceAsked (nth_place old place) v f g (d + 1) r → PlacesStand f old (d + 1) →
    IfOk r (λ found. ShowsCandidate f old led d found × PlacesStand g now (d + 1))
candidate_asked {f} {g} {old} {now} d v (Ok found) led place is lt same set asked stands =
    let one = asked (stands.each place) in
    (subst (λ l. ShowsCandidate f old l d found) (sym is) one.0, subst (λ ps. PlacesStand g ps (d + 1)) (sym set) (stand_set f g old place (d + 1) v lt same stands one.1))
candidate_asked d v (Err refusal) led place is lt same set asked stands = tt

-- ---- a document is asked of one place after another

pub record AskingShown (old now : List Place) (before after : Option Files) (doc i : ℕ) (there : List Bool) : Type 0 where
  pub stands : PlacesStand after now doc
  pub each : (k : ℕ) → k < i → ShowsWhether (nth_place old k) before doc (get_or there k true)

pub asking_shown_start : {places : List Place} {files : Option Files} {doc : ℕ} {there : List Bool} → PlacesStand files places doc → AskingShown places places files files doc 0 there
asking_shown_start s = record { stands = s; each = λ k lt. absurd (omega (arith, lt)) }

pub asking_shown_next : {old now : List Place} {f g h : Option Files} {doc i : ℕ} {there : List Bool} (v : Place) (found : Option ℕ) (b : Bool) →
    i < length now → i < length there → SamePlaces old now → g ≡ f → h ≡ g → AskingShown old now f g doc i there →
    PlaceAsked (nth_place now i) v g h doc (Ok found) → b ≡ is_first (Some doc) found → AskingShown old (slice_set now i v) f h doc (i + 1) (slice_set there i b)
asking_shown_next {old} {now} {f} {g} {h} {doc} {i} {there} v found b lt within same e1 e2 a asked flag =
    let one = asked (a.stands.each i) in
    record { stands = stand_set g h now i doc v lt e2 a.stands one.1; each = each one.0 }
  where
    each : PlaceShows (nth_place now i) g doc found → (k : ℕ) → k < i + 1 → ShowsWhether (nth_place old k) f doc (get_or (slice_set there i b) k true)
    each shown k below =
        elim (cases_lt k i) [
          | inl less ↦ subst (ShowsWhether (nth_place old k) f doc) (sym (get_or-set_other there i k b true (λ e. omega (arith, e, less)))) (a.each k less)
          | inr here ↦ (let e : k ≡ i = omega (arith, here, below) in
              let back = shows_back (nth_place old i) (nth_place now i) f doc found (same.each i) (subst (λ x. PlaceShows (nth_place now i) x doc found) e1 shown) in
              rw e (subst (ShowsWhether (nth_place old i) f doc) (sym (get_or-set_same there i b true within)) (whether_at (nth_place old i) f doc found b back flag)))
        ]

-- ---- the first document of all lists

put_at : (ℕ → Option ℕ) → ℕ → Option ℕ → ℕ → Option ℕ
put_at found i got k = if k == i then got else found k

put_same : (found : ℕ → Option ℕ) (i : ℕ) (got : Option ℕ) → put_at found i got i ≡ got
unfolding put_at
put_same found i got = let e : (i == i) ≡ true = eq-eqb i i refl in ap (λ c. if c then got else found i) e

put_other : (found : ℕ → Option ℕ) (i : ℕ) (got : Option ℕ) (k : ℕ) → k < i → put_at found i got k ≡ found k
unfolding put_at
put_other found i got k lt = let e : (k == i) ≡ false = ne_eqb k i (λ is. omega (arith, is, lt)) in ap (λ c. if c then got else found k) e

first_alike : (f g : ℕ → Option ℕ) (count : ℕ) (first : Option ℕ) (there : List Bool) → ((k : ℕ) → k < count → g k ≡ f k) → FirstOf f count first there → FirstOf g count first there
first_alike f g count first there e h = record {
  least = λ k lt. subst (IsNoLater first) (sym (e k lt)) (h.least k lt);
  one = one first h.one;
  told = λ k lt. h.told k lt ∙ ap (is_first first) (sym (e k lt));
}
  where
    one : (o : Option ℕ) → IfSome o (λ n. (k : ℕ) × (k < count) × (f k ≡ Some n)) → IfSome o (λ n. (k : ℕ) × (k < count) × (g k ≡ Some n))
    one None x = tt
    one (Some n) x = (x.0, x.1, e x.0 x.1 ∙ x.2)

pub record AskingFirstShown (old now : List Place) (before after : Option Files) (doc i : ℕ) (first : Option ℕ) (there : List Bool) : Type 0 where
  pub stands : PlacesStand after now doc
  pub found : ℕ → Option ℕ
  pub shown : (k : ℕ) → k < i → PlaceShows (nth_place old k) before doc (found k)
  pub least : FirstOf found i first there

pub asking_first_shown_start : {places : List Place} {files : Option Files} {doc : ℕ} {there : List Bool} → PlacesStand files places doc →
    AskingFirstShown places places files files doc 0 None there
asking_first_shown_start s = record {
  stands = s;
  found = λ k. None;
  shown = λ k lt. absurd (omega (arith, lt));
  least = record { least = λ k lt. absurd (omega (arith, lt)); one = tt; told = λ k lt. absurd (omega (arith, lt)) };
}

pub asking_first_shown_next : {old now : List Place} {f g h : Option Files} {doc i : ℕ} {first : Option ℕ} {there : List Bool} (v : Place) (got first_now : Option ℕ) (there_now : List Bool) →
    i < length now → SamePlaces old now → g ≡ f → h ≡ g → AskingFirstShown old now f g doc i first there →
    PlaceAsked (nth_place now i) v g h doc (Ok got) → TakesFound got i first there first_now there_now → AskingFirstShown old (slice_set now i v) f h doc (i + 1) first_now there_now
asking_first_shown_next {old} {now} {f} {g} {h} {doc} {i} {first} {there} v got first_now there_now lt same e1 e2 a asked takes =
    let one = asked (a.stands.each i) in
    record {
      stands = stand_set g h now i doc v lt e2 a.stands one.1;
      found = put_at a.found i got;
      shown = shown one.0;
      least = takes (put_at a.found i got) (put_same a.found i got) (first_alike a.found (put_at a.found i got) i first there (put_other a.found i got) a.least);
    }
  where
    shown : PlaceShows (nth_place now i) g doc got → (k : ℕ) → k < i + 1 → PlaceShows (nth_place old k) f doc (put_at a.found i got k)
    shown here k below =
        elim (cases_lt k i) [
          | inl less ↦ subst (PlaceShows (nth_place old k) f doc) (sym (put_other a.found i got k less)) (a.shown k less)
          | inr past ↦ (let e : k ≡ i = omega (arith, past, below) in
              let back = shows_back (nth_place old i) (nth_place now i) f doc got (same.each i) (subst (λ x. PlaceShows (nth_place now i) x doc got) e1 here) in
              rw e (subst (PlaceShows (nth_place old i) f doc) (sym (put_same a.found i got)) back))
        ]

pub asking_first_shown_end : {old now : List Place} {f g : Option Files} {doc i : ℕ} {first : Option ℕ} {there : List Bool} → length old ≡ i → AskingFirstShown old now f g doc i first there →
    ShowsFirstOf f old doc first there × PlacesStand g now doc
asking_first_shown_end {first = first} {there = there} is a = (
  record { found = a.found; shown = λ k lt. a.shown k (omega (arith, lt, is)); least = subst (λ n. FirstOf a.found n first there) (sym is) a.least },
  a.stands,
)

-- ---- a document of a query

-- over the same lists
shown_back : (q : Query) (ps vs : List Place) (f g : Option Files) (doc : ℕ) (b : Bool) → SamePlaces ps vs → g ≡ f → IsShown q g vs doc b → IsShown q f ps doc b
shown_back q ps vs f g doc b same files s = record {
  there = s.there;
  size = s.size ∙ same.size;
  each = λ k lt. whether_back (nth_place ps k) (nth_place vs k) f g doc (get_or s.there k true) (same.each k) files (s.each k (omega (arith, lt, same.size)));
  holds_so = s.holds_so;
}

passed_back : (q : Query) (led : Option ℕ) (ps vs : List Place) (f g : Option Files) (doc : ℕ) → SamePlaces ps vs → g ≡ f → IsPassed q g vs led doc → IsPassed q f ps led doc
passed_back q None ps vs f g doc same files s = shown_back q ps vs f g doc false same files s
passed_back q (Some place) ps vs f g doc same files (inl w) = inl (whether_back (nth_place ps place) (nth_place vs place) f g doc false (same.each place) files w)
passed_back q (Some place) ps vs f g doc same files (inr s) = inr (shown_back q ps vs f g doc false same files s)

passed_of : (q : Query) (led : Option ℕ) (places : List Place) (files : Option Files) (doc : ℕ) → IsShown q files places doc false → IsPassed q files places led doc
passed_of q None places files doc s = s
passed_of q (Some place) places files doc s = inr s

-- ---- as far as a walk has come

pub stands_now : {q : Query} {files g : Option Files} {old now : List Place} {d n : ℕ} → WalkStands q files old d → length now ≡ length old → PlacesStand g now (n + 1) → WalkStands q g now n
stands_now w size each = record { size = size ∙ w.size; each = each }

-- from one moment of a walk to the next: the places stand, and the documents between were passed
pub record PassedTo (q : Query) (led : Option ℕ) (f g : Option Files) (old now : List Place) (d e : ℕ) : Type 0 where
  pub stands : WalkStands q g now e
  pub passed : (doc : ℕ) → d < doc → doc ≤ e → IsPassed q f old led doc

abbrev pub Passes : Query → Option ℕ → Option Files → Option Files → List Place → List Place → ℕ → ℕ → Type 0
Passes q led f g old now d e = WalkStands q f old d → PassedTo q led f g old now d e

-- from where it stands a walk decides one more document: those before it are passed, and this value is shown of it
pub record DecidesNext (q : Query) (led : Option ℕ) (f g : Option Files) (old now : List Place) (d doc : ℕ) (b : Bool) : Type 0 where
  pub stands : WalkStands q g now doc
  pub passed : (e : ℕ) → d < e → e < doc → IsPassed q f old led e
  pub shown : IsShown q f old doc b

abbrev pub NextShown : Query → Option ℕ → Option Files → Option Files → List Place → List Place → ℕ → ℕ → Bool → Type 0
NextShown q led f g old now d doc b = WalkStands q f old d → DecidesNext q led f g old now d doc b

pub passes_start : {q : Query} {led : Option ℕ} {files : Option Files} {places : List Place} {d : ℕ} → Passes q led files files places places d d
passes_start stands = record { stands = stands; passed = λ doc lt le. absurd (omega (arith, lt, le)) }

module _ {q : Query} {led : Option ℕ} {f g h : Option Files} {old mid now : List Place} {d e : ℕ} (same : SamePlaces old mid) (files : g ≡ f) where
  pub passes_on : {k : ℕ} → Passes q led f g old mid d e → Passes q led g h mid now e k → Passes q led f h old now d k
  passes_on one two stands =
      let a = one stands in
      let b = two a.stands in
      record {
        stands = b.stands;
        passed = λ doc lt le. elim (cases_lt e doc) [
          | inl later ↦ passed_back q led old mid f g doc same files (b.passed doc later le)
          | inr early ↦ a.passed doc lt early
        ];
      }

  -- the document that was decided doesn't satisfy the query
  pub passes_miss : {doc : ℕ} {b : Bool} → Passes q led f g old mid d e → NextShown q led g h mid now e doc b → b ≡ false → Passes q led f h old now d doc
  passes_miss {doc} {b} one two miss = passes_on one (λ stands.
      let n = two stands in
      record {
        stands = n.stands;
        passed = λ k lt le. elim (cases_lt k doc) [
          | inl before ↦ n.passed k lt before
          | inr here ↦ (let same_doc : doc ≡ k = omega (arith, here, le) in
              subst (IsPassed q g mid led) same_doc (passed_of q led mid g doc (subst (IsShown q g mid doc) miss n.shown)))
        ];
      })

  -- or it does, and is answered
  pub shown_hit : {all doc : ℕ} {b : Bool} → Passes q led f g old mid d e → NextShown q led g h mid now e doc b → b ≡ true → WalkStands q f old d →
      DecidesShown q f old led all d (Some doc) × WalkStands q h now doc
  shown_hit {all} {doc} {b} one two hit stands =
      let a = one stands in
      let n = two a.stands in (
        record {
          between = λ k lt le before. elim (cases_lt e k) [
            | inl later ↦ passed_back q led old mid f g k same files (n.passed k later before)
            | inr early ↦ a.passed k lt early
          ];
          answered = shown_back q old mid f g doc true same files (subst (IsShown q g mid doc) hit n.shown);
        },
        n.stands,
      )

-- none is left
pub shown_end : {q : Query} {led : Option ℕ} {f g : Option Files} {old now : List Place} {all d e : ℕ} → all ≤ e → Passes q led f g old now d e → WalkStands q f old d →
    DecidesShown q f old led all d None × WalkStands q g now e
shown_end le one stands =
    let a = one stands in
    (record { between = λ k lt most any. a.passed k lt (omega (arith, most, le)); answered = tt }, a.stands)

-- ---- a candidate is asked of all places

-- the documents before the candidate are not in the list that leads
candidate_passes : (q : Query) (led : Option ℕ) (files : Option Files) (places : List Place) (d : ℕ) (found : Option ℕ) → ShowsCandidate files places led d found →
    (doc : ℕ) → d < doc → IfSome found (λ n. doc < n) → IsPassed q files places led doc
candidate_passes q None files places d None c doc lt before = absurd cc
candidate_passes q None files places d (Some n) c doc lt before = (let e : n ≡ d + 1 = cc in absurd (omega (arith, e, before, lt)))
candidate_passes q (Some place) files places d found c doc lt before = inl (whether_before (nth_place places place) files (d + 1) doc found c (omega (arith, lt)) before)

pub candidate_none : {q : Query} {led : Option ℕ} {f g : Option Files} {old now : List Place} {d all : ℕ} → d ≤ all → SamePlaces old now →
    (PlacesStand f old (d + 1) → ShowsCandidate f old led d None × PlacesStand g now (d + 1)) → Passes q led f g old now d all
candidate_none {q} {led} {f} {g} {old} {now} {d} le same asked stands =
    let a = asked stands.each in
    record { stands = stands_now stands same.size (places_later (omega (arith, le)) a.1); passed = λ doc lt most. candidate_passes q led f old d None a.0 doc lt tt }

pub candidate_next : {q : Query} {led : Option ℕ} {f g h : Option Files} {old mid now : List Place} {d doc : ℕ} {b : Bool} (there : List Bool) → d < doc → SamePlaces old mid → SamePlaces mid now →
    g ≡ f → length there ≡ length old → (PlacesStand f old (d + 1) → ShowsCandidate f old led d (Some doc) × PlacesStand g mid (d + 1)) →
    AllAsked {T = Unit {0}} mid now g h doc there (Ok tt) → b ≡ holds q there → NextShown q led f h old now d doc b
candidate_next {q} {led} {f} {g} {h} {old} {mid} {now} {d} {doc} {b} there lt one two files size asked all is stands =
    let a = asked stands.each in
    let t = all (places_later (omega (arith, lt)) a.1) in
    record {
      stands = stands_now stands (two.size ∙ one.size) (places_later (omega arith) t.1);
      passed = λ k less before. candidate_passes q led f old d (Some doc) a.0 k less before;
      shown = record {
        there = there;
        size = size;
        each = λ k less. whether_back (nth_place old k) (nth_place mid k) f g doc (get_or there k true) (one.each k) files (t.0 k (omega (arith, less, one.size)));
        holds_so = sym is;
      };
    }

-- ---- the first document of all lists is asked for

none_there : ℕ → List Bool
none_there zero = []
none_there (suc n) = false ∷ none_there n

length_none : (n : ℕ) → length (none_there n) ≡ n
unfolding none_there
length_none zero = refl
length_none (suc n) = ap suc (length_none n)

none_at : (n k : ℕ) → k < n → get_or (none_there n) k true ≡ false
unfolding none_there
none_at zero k lt = absurd (omega (arith, lt))
none_at (suc n) zero lt = refl
none_at (suc n) (suc k) lt = none_at n k (omega (arith, lt))

none_in : (n k : ℕ) → get_or (none_there n) k false ≡ false
unfolding none_there
none_in zero k = refl
none_in (suc n) zero = refl
none_in (suc n) (suc k) = none_in n k

-- a query of which no term is there holds as with none told
none_holds : (q : Query) (there : List Bool) → ((k : ℕ) → get_or there k false ≡ false) → holds q there ≡ holds q []
none_holds (term t) there none = none 0
none_holds (both p q) there none =
    let n = length (query_terms p) in
    let right : holds q (drop n there) ≡ holds q (drop n []) =
    none_holds q (drop n there) (λ k. get_or-drop n there k false ∙ none (n + k)) ∙ ap (holds q) (sym (drop-nil n)) in
    ap (λ b. b && holds q (drop (length (query_terms p)) there)) (none_holds p there none) ∙ ap (λ b. holds p [] && b) right
none_holds (either p q) there none =
    let n = length (query_terms p) in
    let right : holds q (drop n there) ≡ holds q (drop n []) =
    none_holds q (drop n there) (λ k. get_or-drop n there k false ∙ none (n + k)) ∙ ap (holds q) (sym (drop-nil n)) in
    ap (λ b. b || holds q (drop (length (query_terms p)) there)) (none_holds p there none) ∙ ap (λ b. holds p [] || b) right
none_holds (without q) there none = ap not (none_holds q there none)

before_first : (first found : Option ℕ) (doc : ℕ) → IsNoLater first found → IfSome first (λ n. doc < n) → IfSome found (λ n. doc < n)
before_first None found doc least lt = subst (λ o. IfSome o (λ n. doc < n)) (sym least) tt
before_first (Some n) None doc least lt = tt
before_first (Some n) (Some m) doc least lt = omega (arith, least, lt)

-- a document before the first one of all lists is in none
first_passes : (q : Query) (led : Option ℕ) (files : Option Files) (places : List Place) (d : ℕ) (first : Option ℕ) (there : List Bool) → holds q [] ≡ false →
    ShowsFirstOf files places (d + 1) first there → (doc : ℕ) → d < doc → IfSome first (λ n. doc < n) → IsPassed q files places led doc
first_passes q led files places d first there needs s doc lt before = passed_of q led places files doc (record {
  there = none_there (length places);
  size = length_none (length places);
  each = λ k less. subst (ShowsWhether (nth_place places k) files doc) (sym (none_at (length places) k less))
      (whether_before (nth_place places k) files (d + 1) doc (s.found k) (s.shown k less) (omega (arith, lt)) (before_first first (s.found k) doc (s.least.least k less) before));
  holds_so = none_holds q (none_there (length places)) (none_in (length places)) ∙ needs;
})

pub first_none : {q : Query} {led : Option ℕ} {f g : Option Files} {old now : List Place} {d all : ℕ} {there : List Bool} → holds q [] ≡ false → d ≤ all → SamePlaces old now →
    FirstAsked old now f g (d + 1) there (Ok None) → Passes q led f g old now d all
first_none {q} {led} {f} {g} {old} {now} {d} {all} {there} needs le same asked stands =
    let a = asked stands.each in
    record { stands = stands_now stands same.size (places_later (omega (arith, le)) a.1); passed = λ doc lt most. first_passes q led f old d None there needs a.0 doc lt tt }

pub first_next : {q : Query} {led : Option ℕ} {f g : Option Files} {old now : List Place} {d doc : ℕ} {there : List Bool} {b : Bool} → holds q [] ≡ false → d < doc → SamePlaces old now →
    length there ≡ length old → FirstAsked old now f g (d + 1) there (Ok (Some doc)) → b ≡ holds q there → NextShown q led f g old now d doc b
first_next {q} {led} {f} {g} {old} {now} {d} {doc} {there} {b} needs lt same size asked is stands =
    let a = asked stands.each in
    let s = a.0 in
    record {
      stands = stands_now stands same.size (places_later (omega (arith, lt)) a.1);
      passed = λ k less before. first_passes q led f old d (Some doc) there needs s k less before;
      shown = record {
        there = there;
        size = size;
        each = λ k less. record {
          from = d + 1;
          early = omega (arith, lt);
          first = s.found k;
          shown = s.shown k less;
          later = s.least.least k less;
          told = s.least.told k less;
        };
        holds_so = sym is;
      };
    }

-- ---- one word

-- the only list leads
word_answered : (t : List ℕ) (files : Option Files) (places : List Place) (place d : ℕ) (found : Option ℕ) → length places ≡ 1 → place < 1 →
    PlaceShows (nth_place places place) files (d + 1) found → IfSome found (λ n. IsShown (term t) files places n true)
word_answered t files places place d None size lt shown = tt
word_answered t files places place d (Some n) size lt shown = record {
  there = true ∷ [];
  size = sym size;
  each = λ k less. (let e : k ≡ place = omega (arith, less, size, lt) in let z : place ≡ 0 = omega (arith, lt) in
      rw e (rw z (record {
        from = d + 1;
        early = shows_low (nth_place places place) files (d + 1) (Some n) shown;
        first = Some n;
        shown = subst (λ i. PlaceShows (nth_place places i) files (d + 1) (Some n)) z shown;
        later = omega arith;
        told = sym (eq-eqb n n refl);
      })));
  holds_so = refl;
}

pub word_shown : {f g : Option Files} {old now : List Place} {d all n : ℕ} (t : List ℕ) (q : Query) (led : Option ℕ) (place : ℕ) (found : Option ℕ) → q ≡ term t → led ≡ Some place →
    place < length old → d < all → n ≡ unwrap_or found all → IfSome found (IsInRange (d + 1) all) → SamePlaces old now →
    (PlacesStand f old (d + 1) → ShowsCandidate f old (Some place) d found × PlacesStand g now (d + 1)) →
    WalkStands q f old d → DecidesShown q f old led all d found × WalkStands q g now n
word_shown {f} {g} {old} {now} {d} {all} {n} t q led place found is leads there more decided later same asked stands =
    let a = asked stands.each in
    let size : length old ≡ 1 = stands.size ∙ ap (λ r. length (query_terms r)) is in (
      record {
        between = λ doc lt most before. candidate_passes q led f old d found (subst (λ l. ShowsCandidate f old l d found) (sym leads) a.0) doc lt before;
        answered = subst (λ r. IfSome found (λ m. IsShown r f old m true)) (sym is) (word_answered t f old place d found size (omega (arith, there, size)) a.0);
      },
      stands_now stands same.size (places_later (omega (arith, decided, low found later)) a.1),
    )
  where
    low : (o : Option ℕ) → IfSome o (IsInRange (d + 1) all) → d ≤ unwrap_or o all
    low None l = omega (arith, more)
    low (Some m) l = omega (arith, l.0)

-- all documents were decided
pub ended_shown : (m : Matching) (files : Option Files) → m.decided ≡ m.all → AnswersShown files files m m (Ok None)
ended_shown m files all stands = (record { between = λ doc lt le any. absurd (omega (arith, lt, le, all)); answered = tt }, stands)
