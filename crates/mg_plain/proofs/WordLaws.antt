-- Laws of words that are compared, collected, sorted and counted.
use Rattle.std.proofs.Common.{◌≡◌, ℕ, zero, suc, ◌+◌, ◌<◌, ◌≤◌, Bool, true, false, ◌==◌, List, [], ◌∷◌, ◌++◌, length, drop, get_or, Option, None, Some, unwrap_or, refl, sym, ◌∙◌, ap, subst, arith, append_assoc, append-nil}
use Rattle.std.specs.Prelude.{slice_get}
use Rattle.std.specs.Borrow.{Bor}
use Rattle.std.specs.List.Sorted.{IsSortedBy}
use Rattle.std.specs.Cmp.Lexicographic.{slice_cmp}
use Rattle.std.specs.declared.cmp.Ordering.{Ordering}
use Rattle.std.specs.declared.cmp.Ordering.TheVariants.{Less, Equal, Greater}
use Rattle.std.specs.Ordering.{nat_cmp, is_lt, is_gt, is_eq, ordering_reverse}
use Rattle.std.proofs.Math.Seq.{drop-cons}
use Rattle.std.proofs.lemmas.Bool.{ne_eqb, false≢true}
use Rattle.std.proofs.lemmas.Cmp.{nat_list_cmp_total}
use Rattle.std.proofs.lemmas.List.{map-append}
use Rattle.std.proofs.lemmas.Map.Text.{is_eq-slice_cmp}
use Rattle.std.specs.Str.{bytes_eq}
use Rattle.mg_defs.specs.Parse.{Pair, parse}
use Rattle.mg_defs.specs.Terms.{folded, is_empty, terms}
use Rattle.mg_plain.specs.EqualTerms.{terms_of, terms_in, Ascends, goes_on}

-- ---- two words are compared

drop-end : (i : ℕ) (xs : List ℕ) → length xs ≤ i → drop i xs ≡ []
drop-end zero [] le = refl
drop-end (suc i) [] le = refl
drop-end zero (x ∷ xs) le = absurd (omega (arith, le))
drop-end (suc i) (x ∷ xs) le = drop-end i xs (omega (arith, le))

pub left_longer : (a b : List ℕ) (i : ℕ) (o : Ordering) → i < length a → length b ≤ i → slice_cmp nat_cmp (folded (drop i a)) (folded (drop i b)) ≡ o → Greater ≡ o
left_longer a b i o lt le e = rw (drop-cons a i 0 lt, drop-end i b le) at e

pub right_longer : (a b : List ℕ) (i : ℕ) (o : Ordering) → length a ≤ i → i < length b → slice_cmp nat_cmp (folded (drop i a)) (folded (drop i b)) ≡ o → Less ≡ o
right_longer a b i o le lt e = rw (drop-end i a le, drop-cons b i 0 lt) at e

-- ---- the words of a document

empty_test : (w : List ℕ) → is_empty w ≡ (length w == 0)
empty_test [] = refl
empty_test (b ∷ w) = sym (ne_eqb (length (b ∷ w)) 0 (λ e. omega (arith, e)))

in-word : (p : Pair) (pairs : List Pair) → is_empty p.word ≡ false → terms_in (p ∷ pairs) ≡ folded p.word ∷ terms_in pairs
unfolding terms_in
in-word p pairs some = rw some refl

in-empty : (p : Pair) (pairs : List Pair) → is_empty p.word ≡ true → terms_in (p ∷ pairs) ≡ terms_in pairs
unfolding terms_in
in-empty p pairs none = rw none refl

pub none_taken : (doc : List ℕ) (pairs : List Pair) (xs : List (Bor (List ℕ))) → pairs ≡ parse doc → xs ≡ [] → terms_of xs ++ terms_in pairs ≡ terms doc
unfolding terms_in
none_taken doc pairs xs e none = rw (e, none) refl

pub all_taken : (doc : List ℕ) (pairs : List Pair) (xs : List (Bor (List ℕ))) → pairs ≡ [] → terms_of xs ++ terms_in pairs ≡ terms doc → terms_of xs ≡ terms doc
unfolding terms_in
all_taken doc pairs xs e sum = sym (append-nil (terms_of xs)) ∙ subst (λ ps. terms_of xs ++ terms_in ps ≡ terms doc) e sum

pub word_taken : (xs ys : List (Bor (List ℕ))) (w : Bor (List ℕ)) (p : Pair) (pairs rest : List Pair) (all : List (List ℕ)) (none : Bool) → pairs ≡ p ∷ rest →
    w.now ≡ p.word → none ≡ (length p.word == 0) → none ≡ false → ys ≡ xs ++ w ∷ [] → terms_of xs ++ terms_in pairs ≡ all → terms_of ys ++ terms_in rest ≡ all
word_taken xs ys w p pairs rest all none e is test some pushed sum =
    let step : terms_in pairs ≡ folded w.now ∷ terms_in rest = ap terms_in e ∙ in-word p rest (empty_test p.word ∙ sym test ∙ some) ∙ ap (λ (x : List ℕ). folded x ∷ terms_in rest) (sym is) in
    let long : terms_of ys ≡ terms_of xs ++ folded w.now ∷ [] = ap terms_of pushed ∙ map-append (λ (x : Bor (List ℕ)). folded x.now) xs (w ∷ []) in
    ap (λ ts. ts ++ terms_in rest) long ∙ append_assoc (terms_of xs) (folded w.now ∷ []) (terms_in rest) ∙ ap (λ ts. terms_of xs ++ ts) (sym step) ∙ sum

pub empty_passed : (xs : List (Bor (List ℕ))) (p : Pair) (pairs rest : List Pair) (all : List (List ℕ)) (none : Bool) → pairs ≡ p ∷ rest →
    none ≡ (length p.word == 0) → none ≡ true → terms_of xs ++ terms_in pairs ≡ all → terms_of xs ++ terms_in rest ≡ all
empty_passed xs p pairs rest all none e test is_none sum =
    let step : terms_in pairs ≡ terms_in rest = ap terms_in e ∙ in-empty p rest (empty_test p.word ∙ sym test ∙ is_none) in
    ap (λ ts. terms_of xs ++ ts) (sym step) ∙ sum

-- ---- words are sorted

abbrev pub by_term : Bor (List ℕ) → Bor (List ℕ) → Bool
by_term x y = is_lt (slice_cmp nat_cmp (folded x.now) (folded y.now))

not_above : (a b : List ℕ) → is_lt (slice_cmp nat_cmp b a) ≡ false → is_gt (slice_cmp nat_cmp a b) ≡ false
not_above a b h = by (slice_cmp nat_cmp b a) (nat_list_cmp_total.antisymm a b) h
  where
    by : (o : Ordering) → slice_cmp nat_cmp a b ≡ ordering_reverse o → is_lt o ≡ false → is_gt (slice_cmp nat_cmp a b) ≡ false
    by Less e h = absurd (false≢true (sym h))
    by Equal e h = ap is_gt e
    by Greater e h = ap is_gt e

later : (x : Bor (List ℕ)) (xs : List (Bor (List ℕ))) → IsSortedBy by_term (x ∷ xs) → IsSortedBy by_term xs
later x xs h k d low lt =
    let e : suc k + 1 ≡ suc (k + 1) = omega arith in
    subst (λ n. by_term (get_or (x ∷ xs) n d) (get_or xs k d) ≡ false) e (h (suc k) d (omega arith) (omega (arith, lt)))

pub ascends : (xs : List (Bor (List ℕ))) → IsSortedBy by_term xs → Ascends (terms_of xs)
ascends [] h = tt
ascends (x ∷ []) h = tt
ascends (x ∷ y ∷ xs) h = (not_above (folded x.now) (folded y.now) (h 0 x (omega arith) (omega arith)), ascends (y ∷ xs) (later x (y ∷ xs) h))

-- ---- a word is counted

abbrev is_there : Option (Bor (List ℕ)) → Bool
is_there None = false
is_there (Some x) = true

pub followed : (word : List ℕ) (xs : List (Bor (List ℕ))) (next : Bor (List ℕ)) (o : Ordering) (b : Bool) → Some next ≡ slice_get xs 0 →
    o ≡ slice_cmp nat_cmp (folded word) (folded next.now) → b ≡ is_eq o → b ≡ goes_on (folded word) (terms_of xs)
followed word [] next o b item e is = absurd (false≢true (sym (ap is_there item)))
followed word (x ∷ xs) next o b item e is =
    let same : next ≡ x = ap (λ m. unwrap_or m next) item in
    is ∙ ap is_eq e ∙ is_eq-slice_cmp (folded word) (folded next.now) ∙ ap (λ (y : Bor (List ℕ)). bytes_eq (folded word) (folded y.now)) same

pub length-terms_of : (xs : List (Bor (List ℕ))) → length (terms_of xs) ≡ length xs
length-terms_of [] = refl
length-terms_of (x ∷ xs) = ap suc (length-terms_of xs)
