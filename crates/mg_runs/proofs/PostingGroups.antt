-- The postings of a list in order, one group of like entries after the other.
use Rattle.std.proofs.Common.{◌≡◌, ℕ, zero, suc, ◌+◌, ◌*◌, ◌^◌, ◌<◌, ◌≤◌, false, List, [], ◌∷◌, length, refl, sym, ap, ◌∙◌, subst, arith, get_or, map}
use Rattle.std.specs.List.{AllByRecursion}
use Rattle.std.specs.Ordering.{is_lt, nat_cmp}
use Rattle.std.proofs.lemmas.Bool.Decides.{nat_tests}
use Rattle.mg_defs.specs.declared.TermPosting.{TermPosting}
use Rattle.mg_defs.specs.Postings.{IsBefore, AllAfter, with_count, added, gathered}
use Rattle.mg_runs.specs.PostingOrder.{NoLater, NotFalling, added_times}
use Rattle.mg_defs.proofs.Gathering.{added-cases, AllAfter-added}

NoLater-trans : (x y z : TermPosting) → NoLater x y → NoLater y z → NoLater x z
NoLater-trans x y z a b = record { term = omega arith; doc = λ e. omega arith }

NoLater-all : (x y : TermPosting) → NoLater x y → (xs : List TermPosting) → AllByRecursion (λ z. NoLater y z) xs → AllByRecursion (λ z. NoLater x z) xs
NoLater-all x y h [] all = tt
NoLater-all x y h (z ∷ xs) all = (NoLater-trans x y z h all.0, NoLater-all x y h xs all.1)

-- from neighbours
pub not_falling : {X : Type 0} (f : X → TermPosting) (xs : List X) → ((k : ℕ) (d : X) → k + 1 < length xs → NoLater (f (get_or xs k d)) (f (get_or xs (k + 1) d))) → NotFalling (map f xs)
not_falling f [] h = tt
not_falling f (x ∷ []) h = (tt, tt)
not_falling {X} f (x ∷ y ∷ xs) h =
    let rest
    = not_falling f (y ∷ xs)
    (λ k d q. let one : k + 1 + 1 ≡ suc (k + 1) = omega arith in let two : k + 1 ≡ suc k = omega arith in
    subst (λ n. NoLater (f (get_or (x ∷ y ∷ xs) n d)) (f (get_or (y ∷ xs) (k + 1) d))) two
    (subst (λ n. NoLater (f (get_or (x ∷ y ∷ xs) (k + 1) d)) (f (get_or (x ∷ y ∷ xs) n d))) one (h (k + 1) d (omega arith))))
    in
    let first : NoLater (f x) (f y) = h 0 x (omega arith) in
    ((first, NoLater-all (f x) (f y) first (map f xs) rest.0), rest)

-- the test of a sort by a number
le_from_test : (m n : ℕ) → is_lt (nat_cmp n m) ≡ false → m ≤ n
le_from_test m n h = grind (arith, nat_tests)

-- a key of term and document orders as these do, since a document is below the weight of a term
pub no_later-from_key : (x y : TermPosting) → x.doc < 2 ^ 32 → y.doc < 2 ^ 32 → is_lt (nat_cmp (y.term * 2 ^ 32 + y.doc) (x.term * 2 ^ 32 + x.doc)) ≡ false → NoLater x y
no_later-from_key x y small next h =
    let le : x.term * 2 ^ 32 + x.doc ≤ y.term * 2 ^ 32 + y.doc = le_from_test _ _ h in
    record { term = omega arith; doc = λ e. omega arith }

-- what follows one that is later
pub AllAfter-no_later : (x y : TermPosting) → IsBefore x y → (xs : List TermPosting) → AllByRecursion (λ z. NoLater y z) xs → AllAfter x xs
AllAfter-no_later x y h [] all = tt
AllAfter-no_later x y h (z ∷ xs) all =
    let k : NoLater y z = all.0 in
    (record { term = omega arith; doc = λ e. omega arith }, AllAfter-no_later x y h xs all.1)

pub AllAfter-gathered : (x : TermPosting) (xs : List TermPosting) → AllAfter x xs → AllAfter x (gathered xs)
AllAfter-gathered x [] all = tt
AllAfter-gathered x (y ∷ xs) all = AllAfter-added x y (gathered xs) all.0 (AllAfter-gathered x xs all.1)

pub added_times-end : (n : ℕ) (x : TermPosting) (xs : List TermPosting) → added_times n x (added x xs) ≡ added_times (suc n) x xs
added_times-end zero x xs = refl
added_times-end (suc n) x xs = ap (λ t. added x t) (added_times-end n x xs)

added-front : (x : TermPosting) (xs : List TermPosting) → AllAfter x xs → added x xs ≡ x ∷ xs
added-front x [] all = refl
added-front x (y ∷ xs) all =
    let h : IsBefore x y = all.0 in
    added-cases x y xs (λ t. t ≡ x ∷ y ∷ xs) (λ b. refl)
    (λ b. let ht = h.term in let bt = b.term in let e : x.term ≡ y.term = omega arith in let hd = h.doc e in let bd = b.doc (sym e) in absurd (omega arith))
    (λ p q. let hd = h.doc p in absurd (omega arith))

added-same : (x : TermPosting) (n : ℕ) (xs : List TermPosting) → added x (with_count x n ∷ xs) ≡ with_count x (x.count + n) ∷ xs
added-same x n xs =
    added-cases x (with_count x n) xs (λ t. t ≡ with_count x (x.count + n) ∷ xs) (λ b. absurd (let d = b.doc refl in omega arith)) (λ b. absurd (let d = b.doc refl in omega arith)) (λ p q. refl)

-- a group of like entries, each of which counts one
pub group-count : (n : ℕ) (x : TermPosting) (xs : List TermPosting) → x.count ≡ 1 → AllAfter x xs → added_times (suc n) x xs ≡ with_count x (suc n) ∷ xs
group-count zero x xs one all = added-front x xs all ∙ ap (λ k. with_count x k ∷ xs) one
group-count (suc n) x xs one all =
    let e : x.count + suc n ≡ suc (suc n) = omega arith in
    ap (λ t. added x t) (group-count n x xs one all) ∙ added-same x (suc n) xs ∙ ap (λ k. with_count x k ∷ xs) e
