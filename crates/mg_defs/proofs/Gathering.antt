-- What `gathered` gives, and that only one list is such.
use Rattle.std.proofs.Common.{◌≡◌, ℕ, ◌+◌, ◌<◌, ◌≤◌, true, false, cond, List, [], ◌∷◌, refl, sym, ap, ◌∙◌, arith}
use Rattle.std.specs.Prelude.{nat_lt}
use Rattle.std.proofs.lemmas.Bool.Decides.{nat_tests}
use Rattle.mg_defs.specs.declared.TermPosting.{TermPosting}
use Rattle.mg_defs.specs.Postings.{IsBefore, AllAfter, RisingByTerm, AllCount, part_at, times, with_count, added, merged_two, gathered, ArePostings}

pub times-added : (t d : ℕ) (e : TermPosting) (xs : List TermPosting) → times t d (added e xs) ≡ part_at t d e + times t d xs
times-added t d e [] = omega arith
times-added t d e (x ∷ xs) = grind (arith, nat_tests, times-added t d e xs)

before-trans : (x y z : TermPosting) → IsBefore x y → IsBefore y z → IsBefore x z
before-trans x y z a b = record { term = omega arith; doc = λ e. omega arith }

pub AllAfter-earlier : (x y : TermPosting) → IsBefore x y → (xs : List TermPosting) → AllAfter y xs → AllAfter x xs
AllAfter-earlier x y h [] all = tt
AllAfter-earlier x y h (z ∷ xs) all = (before-trans x y z h all.0, AllAfter-earlier x y h xs all.1)

-- where a term and a document come before all of them, they are not counted
pub times-none : (x : TermPosting) (xs : List TermPosting) → AllAfter x xs → times x.term x.doc xs ≡ 0
times-none x [] all = refl
times-none x (y ∷ xs) all =
    let b : IsBefore x y = all.0 in
    let t = b.term in
    let d = b.doc in
    let r : times x.term x.doc xs ≡ 0 = times-none x xs all.1 in
    grind (arith, nat_tests)

lt-true : (a b : ℕ) → nat_lt a b ≡ true → a < b
lt-true a b e = grind (arith, nat_tests)

lt-false : (a b : ℕ) → nat_lt a b ≡ false → b ≤ a
lt-false a b e = grind (arith, nat_tests)

-- the three cases of `added`
pub added-cases : (e x : TermPosting) (xs : List TermPosting) (P : List TermPosting → Type 0) → (IsBefore e x → P (e ∷ x ∷ xs)) →
    (IsBefore x e → P (x ∷ added e xs)) → (e.term ≡ x.term → e.doc ≡ x.doc → P (with_count x (e.count + x.count) ∷ xs)) → P (added e (x ∷ xs))
added-cases e x xs P first later same =
    let rest_in : List TermPosting = x ∷ added e xs in
    let here : List TermPosting = with_count x (e.count + x.count) ∷ xs in
    elim (nat_lt e.term x.term) as (λ a. nat_lt e.term x.term ≡ a →
    P (cond a (e ∷ x ∷ xs) (cond (nat_lt x.term e.term) rest_in (cond (nat_lt e.doc x.doc) (e ∷ x ∷ xs) (cond (nat_lt x.doc e.doc) rest_in here))))) [
      | true ↦ λ p. let h : e.term < x.term = lt-true _ _ p in first (record { term = omega arith; doc = λ q. absurd (omega arith) })
      | false ↦ λ p. elim (nat_lt x.term e.term) as (λ b. nat_lt x.term e.term ≡ b → P (cond b rest_in (cond (nat_lt e.doc x.doc) (e ∷ x ∷ xs) (cond (nat_lt x.doc e.doc) rest_in here)))) [
        | true ↦ λ q. let h : x.term < e.term = lt-true _ _ q in later (record { term = omega arith; doc = λ r. absurd (omega arith) })
        | false ↦ λ q.
            let hp : x.term ≤ e.term = lt-false _ _ p in
            let hq : e.term ≤ x.term = lt-false _ _ q in
            elim (nat_lt e.doc x.doc) as (λ c. nat_lt e.doc x.doc ≡ c → P (cond c (e ∷ x ∷ xs) (cond (nat_lt x.doc e.doc) rest_in here))) [
              | true ↦ λ r. let h : e.doc < x.doc = lt-true _ _ r in first (record { term = omega arith; doc = λ t. omega arith })
              | false ↦ λ r. elim (nat_lt x.doc e.doc) as (λ d. nat_lt x.doc e.doc ≡ d → P (cond d rest_in here)) [
                | true ↦ λ t. let h : x.doc < e.doc = lt-true _ _ t in later (record { term = omega arith; doc = λ u. omega arith })
                | false ↦ λ t.
                    let hr : x.doc ≤ e.doc = lt-false _ _ r in
                    let ht : e.doc ≤ x.doc = lt-false _ _ t in
                    same (omega arith) (omega arith)
              ] refl
            ] refl
      ] refl
    ] refl

pub AllAfter-added : (y e : TermPosting) (xs : List TermPosting) → IsBefore y e → AllAfter y xs → AllAfter y (added e xs)
AllAfter-added y e [] h all = (h, tt)
AllAfter-added y e (x ∷ xs) h all =
    added-cases e x xs (λ t. AllAfter y t)
    (λ b. (h, (all.0, all.1)))
    (λ b. (all.0, AllAfter-added y e xs h all.1))
    (λ p q. let k : IsBefore y x = all.0 in (record { term = k.term; doc = k.doc }, all.1))

AllAfter-count : (x : TermPosting) (n : ℕ) (xs : List TermPosting) → AllAfter x xs → AllAfter (with_count x n) xs
AllAfter-count x n [] all = tt
AllAfter-count x n (y ∷ xs) all =
    let k : IsBefore x y = all.0 in
    (record { term = k.term; doc = k.doc }, AllAfter-count x n xs all.1)

pub Rising-added : (e : TermPosting) (xs : List TermPosting) → RisingByTerm xs → RisingByTerm (added e xs)
Rising-added e [] up = (tt, tt)
Rising-added e (x ∷ xs) up =
    added-cases e x xs (λ t. RisingByTerm t)
    (λ b. ((b, AllAfter-earlier e x b xs up.0), up))
    (λ b. (AllAfter-added x e xs b up.0, Rising-added e xs up.1))
    (λ p q. (AllAfter-count x (e.count + x.count) xs up.0, up.1))

pub AllCount-added : (e : TermPosting) (xs : List TermPosting) → 1 ≤ e.count → AllCount xs → AllCount (added e xs)
AllCount-added e [] h all = (h, tt)
AllCount-added e (x ∷ xs) h all =
    added-cases e x xs (λ t. AllCount t)
    (λ b. (h, all))
    (λ b. (all.0, AllCount-added e xs h all.1))
    (λ p q. (omega arith, all.1))

pub Rising-gathered : (xs : List TermPosting) → RisingByTerm (gathered xs)
Rising-gathered [] = tt
Rising-gathered (x ∷ xs) = Rising-added x (gathered xs) (Rising-gathered xs)

pub AllCount-gathered : (xs : List TermPosting) → AllCount xs → AllCount (gathered xs)
AllCount-gathered [] all = tt
AllCount-gathered (x ∷ xs) all = AllCount-added x (gathered xs) all.0 (AllCount-gathered xs all.1)

pub times-gathered : (t d : ℕ) (xs : List TermPosting) → times t d (gathered xs) ≡ times t d xs
times-gathered t d [] = refl
times-gathered t d (x ∷ xs) = times-added t d x (gathered xs) ∙ ap (λ n. part_at t d x + n) (times-gathered t d xs)

pub Rising-joined : (xs ys : List TermPosting) → RisingByTerm ys → RisingByTerm (merged_two xs ys)
Rising-joined [] ys up = up
Rising-joined (x ∷ xs) ys up = Rising-added x (merged_two xs ys) (Rising-joined xs ys up)

pub AllCount-joined : (xs ys : List TermPosting) → AllCount xs → AllCount ys → AllCount (merged_two xs ys)
AllCount-joined [] ys a b = b
AllCount-joined (x ∷ xs) ys a b = AllCount-added x (merged_two xs ys) a.0 (AllCount-joined xs ys a.1 b)

pub times-joined : (t d : ℕ) (xs ys : List TermPosting) → times t d (merged_two xs ys) ≡ times t d xs + times t d ys
times-joined t d [] ys = omega arith
times-joined t d (x ∷ xs) ys =
    let r : times t d (merged_two xs ys) ≡ times t d xs + times t d ys = times-joined t d xs ys in
    omega (arith, times-added t d x (merged_two xs ys))

same_posting : (x y : TermPosting) → x.term ≡ y.term → x.doc ≡ y.doc → x.count ≡ y.count → x ≡ y
same_posting x y p q r =
    let mk : ℕ → ℕ → ℕ → TermPosting = λ t d n. record { term = t; doc = d; count = n } in
    ap (λ t. mk t x.doc x.count) p ∙ ap (λ d. mk y.term d x.count) q ∙ ap (λ n. mk y.term y.doc n) r

part-self : (x : TermPosting) → part_at x.term x.doc x ≡ x.count
part-self x = grind (arith, nat_tests)

-- a posting before all of a list counts there alone
part-before : (x y : TermPosting) → IsBefore x y → part_at x.term x.doc y ≡ 0
part-before x y b = let t = b.term in let d = b.doc in grind (arith, nat_tests)

part-after : (x y : TermPosting) → IsBefore x y → part_at y.term y.doc x ≡ 0
part-after x y b = let t = b.term in let d = b.doc in grind (arith, nat_tests)

part-same : (x y : TermPosting) (t d : ℕ) → x ≡ y → part_at t d x ≡ part_at t d y
part-same x y t d e = ap (λ z. part_at t d z) e

-- which comes first, or neither
pub data Order (x y : TermPosting) : Type 0 where
  earlier : IsBefore x y → Order x y
  later : IsBefore y x → Order x y
  level : x.term ≡ y.term → x.doc ≡ y.doc → Order x y

-- three cases, by a list of one
pub order_of : (x y : TermPosting) → Order x y
order_of x y =
    elim (nat_lt x.term y.term) as (λ a. nat_lt x.term y.term ≡ a → Order x y) [
      | true ↦ λ p. let h : x.term < y.term = lt-true _ _ p in earlier (record { term = omega arith; doc = λ q. absurd (omega arith) })
      | false ↦ λ p. elim (nat_lt y.term x.term) as (λ b. nat_lt y.term x.term ≡ b → Order x y) [
        | true ↦ λ q. let h : y.term < x.term = lt-true _ _ q in later (record { term = omega arith; doc = λ r. absurd (omega arith) })
        | false ↦ λ q.
            let hp : y.term ≤ x.term = lt-false _ _ p in
            let hq : x.term ≤ y.term = lt-false _ _ q in
            elim (nat_lt x.doc y.doc) as (λ c. nat_lt x.doc y.doc ≡ c → Order x y) [
              | true ↦ λ r. let h : x.doc < y.doc = lt-true _ _ r in earlier (record { term = omega arith; doc = λ t. h })
              | false ↦ λ r. elim (nat_lt y.doc x.doc) as (λ d. nat_lt y.doc x.doc ≡ d → Order x y) [
                | true ↦ λ t. let h : y.doc < x.doc = lt-true _ _ t in later (record { term = omega arith; doc = λ u. h })
                | false ↦ λ t.
                    let hr : y.doc ≤ x.doc = lt-false _ _ r in
                    let ht : x.doc ≤ y.doc = lt-false _ _ t in
                    level (omega arith) (omega arith)
              ] refl
            ] refl
      ] refl
    ] refl

-- a posting that comes first in a rising list has its whole count there
pub times-first : (x : TermPosting) (xs : List TermPosting) → AllAfter x xs → times x.term x.doc (x ∷ xs) ≡ x.count
times-first x xs all =
    let a : part_at x.term x.doc x ≡ x.count = part-self x in
    let b : times x.term x.doc xs ≡ 0 = times-none x xs all in
    omega arith

-- a rising list is known by its counts
pub only_one : (xs ys : List TermPosting) → RisingByTerm xs → RisingByTerm ys → AllCount xs → AllCount ys → ((t d : ℕ) → times t d xs ≡ times t d ys) → xs ≡ ys
only_one [] [] a b c e same = refl
only_one [] (y ∷ ys) a b c e same =
    let h : times y.term y.doc (y ∷ ys) ≡ y.count = times-first y ys b.0 in
    let k : 0 ≡ times y.term y.doc (y ∷ ys) = same y.term y.doc in
    let some : 1 ≤ y.count = e.0 in
    absurd (omega arith)
only_one (x ∷ xs) [] a b c e same =
    let h : times x.term x.doc (x ∷ xs) ≡ x.count = times-first x xs a.0 in
    let k : times x.term x.doc (x ∷ xs) ≡ 0 = same x.term x.doc in
    let some : 1 ≤ x.count = c.0 in
    absurd (omega arith)
only_one (x ∷ xs) (y ∷ ys) a b c e same =
    elim (order_of x y) as (λ _. x ∷ xs ≡ y ∷ ys) [
      | earlier first ↦
          let h : times x.term x.doc (x ∷ xs) ≡ x.count = times-first x xs a.0 in
          let k : times x.term x.doc (y ∷ ys) ≡ 0 = times-none x (y ∷ ys) (first, AllAfter-earlier x y first ys b.0) in
          let s : times x.term x.doc (x ∷ xs) ≡ times x.term x.doc (y ∷ ys) = same x.term x.doc in
          let some : 1 ≤ x.count = c.0 in
          absurd (omega arith)
      | later first ↦
          let h : times y.term y.doc (y ∷ ys) ≡ y.count = times-first y ys b.0 in
          let k : times y.term y.doc (x ∷ xs) ≡ 0 = times-none y (x ∷ xs) (first, AllAfter-earlier y x first xs a.0) in
          let s : times y.term y.doc (x ∷ xs) ≡ times y.term y.doc (y ∷ ys) = same y.term y.doc in
          let some : 1 ≤ y.count = e.0 in
          absurd (omega arith)
      | level p q ↦
          let h : times x.term x.doc (x ∷ xs) ≡ x.count = times-first x xs a.0 in
          let k : times y.term y.doc (y ∷ ys) ≡ y.count = times-first y ys b.0 in
          let s : times x.term x.doc (x ∷ xs) ≡ times x.term x.doc (y ∷ ys) = same x.term x.doc in
          let m : times x.term x.doc (y ∷ ys) ≡ times y.term y.doc (y ∷ ys) = cc in
          let n : x.count ≡ y.count = omega arith in
          let head : x ≡ y = same_posting x y p q n in
          let rest : xs ≡ ys = only_one xs ys a.1 b.1 c.1 e.1 (λ t d. let w : times t d (x ∷ xs) ≡ times t d (y ∷ ys) = same t d in
          let v : part_at t d x ≡ part_at t d y = part-same x y t d head in omega arith) in
          cc
    ]

-- `gathered` gives the list that `ArePostings` tells
pub gathered-are : (xs : List TermPosting) → AllCount xs → ArePostings xs (gathered xs)
gathered-are xs all = record { rising = Rising-gathered xs; some = AllCount-gathered xs all; counted = λ t d. times-gathered t d xs }

pub gathered-only : (xs found : List TermPosting) → AllCount xs → ArePostings xs found → found ≡ gathered xs
gathered-only xs found all are =
    only_one found (gathered xs) are.rising (Rising-gathered xs) are.some (AllCount-gathered xs all) (λ t d. are.counted t d ∙ sym (times-gathered t d xs))
