-- The next document where no list leads, and only documents of some list satisfy the query.
use Rattle.std.proofs.Common.{arith, ◌≡◌, ◌+◌, ◌-◌, ◌≤◌, ◌<◌, ℕ, Bool, true, false, not, ◌&&◌, ◌||◌, List, [], ◌∷◌}
use Rattle.std.proofs.Common.{◌++◌, length, drop, get_or, refl, sym, ap, subst, ◌∙◌, inl, inr, Option, Some, None, length-append}
use Rattle.std.specs.Prelude.{IfSome, is_some}
use Rattle.std.proofs.Math.Seq.{drop-nil}
use Rattle.std.proofs.lemmas.Bool.{cases_Bool, cases_lt}
use Rattle.std.proofs.lemmas.List.{get_or_append_left, get_or-append-add, drop-drop, length-drop}
use Rattle.mg_dev.specs.Files.{Files}
use Rattle.mg_defs.specs.Split.{documents}
use Rattle.mg_defs.specs.Weights.{has_term}
use Rattle.mg_defs.specs.Sat.{Query, term, both, either, without, satisfies}
use Rattle.mg_defs.specs.QueryTerms.{query_terms}
use Rattle.mg_defs.specs.ShownAnswers.{found}
use Rattle.mg_defs.proofs.ReplyLaws.{found-miss}
use Rattle.mg_defs.specs.PageBounds.{asked_of, leading}
use Rattle.mg_laws.proofs.LedLists.{Skips, first_of, list_from, list_hit, list_miss}
use Rattle.mg_query.specs.Holds.{holds}
use Rattle.mg_bool.specs.Places.{AnswersFirst, AsksAll, IsNoLater, Place, first_from}
use Rattle.mg_bool.specs.Matches.{GoesOver, IsNext}
use Rattle.mg_bool.proofs.FirstLaws.{first_among, first_bounds}
use Rattle.mg_bool.proofs.NextLaws.{any_asked, drop_front}

-- ---- a document without terms

-- it has none of these terms
abbrev pub LacksAll : List ℕ → List (List ℕ) → Type 0
LacksAll doc ts = (k : ℕ) → k < length ts → has_term doc (get_or ts k []) ≡ false

lacks_left : (doc : List ℕ) (xs ys : List (List ℕ)) → LacksAll doc (xs ++ ys) → LacksAll doc xs
lacks_left doc xs ys h k lt = ap (has_term doc) (sym (get_or_append_left xs ys [] k lt)) ∙ h k (omega (arith, lt, length-append xs ys))

lacks_right : (doc : List ℕ) (xs ys : List (List ℕ)) → LacksAll doc (xs ++ ys) → LacksAll doc ys
lacks_right doc xs ys h k lt = ap (has_term doc) (sym (get_or-append-add xs ys k [])) ∙ h (length xs + k) (omega (arith, lt, length-append xs ys))

-- a document that has none of the query's terms satisfies it exactly where it holds with none there
pub lacking_holds : (q : Query) (doc : List ℕ) → LacksAll doc (query_terms q) → satisfies q doc ≡ holds q []
lacking_holds (term t) doc h = h 0 (omega arith)
lacking_holds (both p q) doc h =
    let right : satisfies q doc ≡ holds q (drop (length (query_terms p)) []) = lacking_holds q doc (lacks_right doc (query_terms p) (query_terms q) h)
    ∙ ap (holds q) (sym (drop-nil (length (query_terms p)))) in
    ap (λ b. b && satisfies q doc) (lacking_holds p doc (lacks_left doc (query_terms p) (query_terms q) h)) ∙ ap (λ b. holds p [] && b) right
lacking_holds (either p q) doc h =
    let right : satisfies q doc ≡ holds q (drop (length (query_terms p)) []) = lacking_holds q doc (lacks_right doc (query_terms p) (query_terms q) h)
    ∙ ap (holds q) (sym (drop-nil (length (query_terms p)))) in
    ap (λ b. b || satisfies q doc) (lacking_holds p doc (lacks_left doc (query_terms p) (query_terms q) h)) ∙ ap (λ b. holds p [] || b) right
lacking_holds (without q) doc h = ap not (lacking_holds q doc h)

-- ---- no document before the first of all lists satisfies the query

-- in the lists of these terms none of these documents stands before the first
abbrev pub NoneSooner : Option ℕ → List (List ℕ) → ℕ → List (List ℕ) → Type 0
NoneSooner first ts n ds = (k : ℕ) → k < length ts → IsNoLater first (first_of (list_from (get_or ts k []) n ds))

none_here : (first : Option ℕ) (n m : ℕ) → IsNoLater first (Some n) → IfSome first (λ m. n < m) → ⊥
none_here None n m least later = cc
none_here (Some d) n m least later = omega (arith, least, later)

first_lacks : (first : Option ℕ) (ts : List (List ℕ)) (n : ℕ) (doc : List ℕ) (ds : List (List ℕ)) → NoneSooner first ts n (doc ∷ ds) → IfSome first (λ m. n < m) → LacksAll doc ts
first_lacks first ts n doc ds least later k lt =
    elim (cases_Bool (has_term doc (get_or ts k []))) [
      | inl hit ↦ absurd (none_here first n n (subst (IsNoLater first) (ap first_of (list_hit (get_or ts k []) n doc ds hit)) (least k lt)) later)
      | inr miss ↦ miss
    ]

behind : (first : Option ℕ) (ts : List (List ℕ)) (n : ℕ) (doc : List ℕ) (ds : List (List ℕ)) → LacksAll doc ts → NoneSooner first ts n (doc ∷ ds) → NoneSooner first ts (n + 1) ds
behind first ts n doc ds lacks least k lt = subst (IsNoLater first) (ap first_of (list_miss (get_or ts k []) n doc ds (lacks k lt))) (least k lt)

any_ends : (q : Query) (n : ℕ) (ds : List (List ℕ)) → holds q [] ≡ false → NoneSooner None (query_terms q) n ds → found q n ds ≡ []
unfolding found
any_ends q n [] needs least = refl
any_ends q n (doc ∷ ds) needs least =
    let lacks = first_lacks None (query_terms q) n doc ds least tt in
    found-miss q n doc ds (lacking_holds q doc lacks ∙ needs) ∙ any_ends q (n + 1) ds needs (behind None (query_terms q) n doc ds lacks least)

any_skips : (q : Query) (n m : ℕ) (ds : List (List ℕ)) → holds q [] ≡ false → n ≤ m → m < n + length ds → NoneSooner (Some m) (query_terms q) n ds → Skips q n m ds
any_skips q n m [] needs le lt least = absurd (omega (arith, le, lt))
any_skips q n m (doc ∷ ds) needs le lt least =
    elim (cases_lt n m) [
      | inl later ↦ (
          let lacks = first_lacks (Some m) (query_terms q) n doc ds least later in
          let more : Skips q (n + 1) m ds = any_skips q (n + 1) m ds needs (omega (arith, later)) (omega (arith, lt)) (behind (Some m) (query_terms q) n doc ds lacks least) in
          record {
            front = doc ∷ more.front;
            rest = more.rest;
            whole = ap (λ l. doc ∷ l) more.whole;
            size = omega (arith, more.size);
            some = more.some;
            same = found-miss q n doc ds (lacking_holds q doc lacks ∙ needs) ∙ more.same;
          })
      | inr past ↦ (
          let here : m ≡ n = omega (arith, past, le) in
          record { front = []; rest = doc ∷ ds; whole = refl; size = omega (arith, here); some = omega arith; same = ap (λ k. found q k (doc ∷ ds)) (sym here) })
    ]

-- ---- the next one

none_sooner : (collection : List ℕ) (ts : List (List ℕ)) (d : ℕ) (first : Option ℕ) → d ≤ length (documents collection) →
    ((k : ℕ) → k < length ts → IsNoLater first (first_from collection (d + 1) (get_or ts k []))) → NoneSooner first ts (d + 1) (drop d (documents collection))
none_sooner collection ts d first le least k lt = subst (IsNoLater first) (first_among collection (get_or ts k []) d le) (least k lt)

-- the first document of all lists behind those decided is the next one that may satisfy the query
pub first_is_next : (base collection : List ℕ) (q : Query) (d : ℕ) (first : Option ℕ) (there : List Bool) (places : List Place) →
    d < length (documents collection) → leading q ≡ [] → holds q [] ≡ false →
    AnswersFirst base collection (asked_of collection q) (query_terms q) (d + 1) first there places → IsNext collection q d first
first_is_next base collection q d None there places lt none needs a =
    any_ends q (d + 1) (drop d (documents collection)) needs (none_sooner collection (query_terms q) d None (omega (arith, lt)) a.least)
first_is_next base collection q d (Some m) there places lt none needs a =
    let b = first_bounds collection (get_or (query_terms q) a.one.0 []) (d + 1) m (omega arith) (omega (arith, lt)) a.one.2 in
    let s : Skips q (d + 1) m (drop d (documents collection)) =
    any_skips q (d + 1) m (drop d (documents collection)) needs b.0 (omega (arith, b.1, length-drop d (documents collection), lt))
    (none_sooner collection (query_terms q) d (Some m) (omega (arith, lt)) a.least) in
    let place : m - 1 ≡ d + length s.front = omega (arith, s.size) in
    let rest : drop (m - 1) (documents collection) ≡ s.rest = ap (λ k. drop k (documents collection)) place
    ∙ sym (drop-drop (length s.front) d (documents collection)) ∙ ap (drop (length s.front)) s.whole ∙ drop_front s.front s.rest in
    record {
      later = omega (arith, s.size);
      within = b.1;
      same = s.same ∙ ap (found q m) (sym rest);
      among = any_asked collection q m none (omega (arith, b.0)) b.1;
    }

-- all places may be asked for the document behind those decided
pub any_asks : (base collection : List ℕ) (q : Query) (files : Option Files) (places : List Place) (all d : ℕ) → d < all →
    GoesOver base collection q files places None all d → AsksAll base collection (asked_of collection q) (query_terms q) (d + 1) files places
any_asks base collection q files places all d lt goes = record {
  stand = goes.stand;
  places_for = goes.over.each;
  within = omega (arith, lt, goes.over.all_is);
  among = any_asked collection q (d + 1) goes.over.leads (omega arith) (omega (arith, lt, goes.over.all_is));
}

-- ---- whether a list leads

pub none_leading : (lead : Option ℕ) (b : Bool) → is_some lead ≡ not b → b ≡ true → lead ≡ None
none_leading None b is test = refl
none_leading (Some place) true is test = absurd cc
none_leading (Some place) false is test = absurd cc
