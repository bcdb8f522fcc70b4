-- Sums of squared weights, one posting and one list after the other.
use Rattle.std.proofs.Common.{arith, zero, suc, ◌≢◌, length-set, get_or-set_other, ◌≡◌, ◌≤◌, ◌<◌, ◌+◌, ◌-◌, ◌*◌, ◌^◌, ℕ, List, [], ◌∷◌, ◌++◌, length, get_or, set, min, cond, sum_by, refl, sym, ap, ◌∙◌, inl, inr}
use Rattle.std.specs.Prelude.{replicate}
use Rattle.std.proofs.lemmas.Bool.{eq-eqb, ne_eqb, cases_eq}
use Rattle.std.proofs.lemmas.Grind.{get_or-set_at}
use Rattle.std.proofs.lemmas.List.{same_lists, get_or-map, get_or_default, length-map}
use Rattle.std.proofs.lemmas.List.Sums.{sum_by-append, sum_by_push}
use Rattle.mg_defs.specs.declared.Posting.{Posting}
use Rattle.mg_defs.specs.Squares.{numbers_from, square_at, squares, squares_to}
use Rattle.mg_defs.specs.Weights.{weight_in_doc}
use Rattle.mg_index.specs.Listing.{AreSquares, SquaresFit}

pub squares_push : (doc : ℕ) (done : List (List Posting)) (ps : List Posting) → squares doc (done ++ ps ∷ []) ≡ squares doc done + sum_by (square_at doc) ps
squares_push doc done ps = sum_by_push (λ qs. sum_by (square_at doc) qs) done ps

squares_more : (doc : ℕ) (done : List (List Posting)) (ps : List Posting) (p : Posting) → squares doc (done ++ (ps ++ p ∷ []) ∷ []) ≡ squares doc (done ++ ps ∷ []) + square_at doc p
squares_more doc done ps p = omega (arith, squares_push doc done (ps ++ p ∷ []), squares_push doc done ps, sum_by_push (square_at doc) ps p)

-- no posting of the next list adds nothing
pub summed_begun : (sums : List ℕ) (done : List (List Posting)) → AreSquares sums done → AreSquares sums (done ++ [] ∷ [])
summed_begun sums done are = record { each = λ k lt. are.each k lt ∙ omega (arith, squares_push (k + 1) done []) }

square_here : (doc : ℕ) (p : Posting) → p.doc ≡ doc → square_at doc p ≡ weight_in_doc p.freq * weight_in_doc p.freq
square_here doc p is = ap (λ b. cond b (weight_in_doc p.freq * weight_in_doc p.freq) 0) (eq-eqb p.doc doc is)

square_else : (doc : ℕ) (p : Posting) → p.doc ≢ doc → square_at doc p ≡ 0
square_else doc p isnt = ap (λ b. cond b (weight_in_doc p.freq * weight_in_doc p.freq) 0) (ne_eqb p.doc doc isnt)

-- a posting adds to the sum of its document alone
pub summed_more : (sums : List ℕ) (at value : ℕ) (done : List (List Posting)) (ps : List Posting) (p : Posting) → p.doc ≡ at + 1 → at < length sums →
    value ≡ min (get_or sums at 0 + weight_in_doc p.freq * weight_in_doc p.freq) (2 ^ 64 - 1) →
    SquaresFit (done ++ (ps ++ p ∷ []) ∷ []) → AreSquares sums (done ++ ps ∷ []) → AreSquares (set sums at value) (done ++ (ps ++ p ∷ []) ∷ [])
summed_more sums at value done ps p doc_is within value_is fit are = record { each = λ k lt. elim (cases_eq k at) [ inl same ↦ here k lt same | inr other ↦ else k lt other ] }
  where
    here : (k : ℕ) → k < length (set sums at value) → k ≡ at → get_or (set sums at value) k 0 ≡ squares (k + 1) (done ++ (ps ++ p ∷ []) ∷ [])
    here k lt same =
        let more = squares_more (k + 1) done ps p in
        let square = square_here (k + 1) p (omega (arith, doc_is, same)) in
        let old = are.each k (omega (arith, within, same)) in
        let old_at : get_or sums k 0 ≡ get_or sums at 0 = ap (λ i. get_or sums i 0) same in
        get_or-set_at sums at k value 0 same within ∙ omega (arith, value_is, more, square, old, old_at, fit (k + 1))

    else : (k : ℕ) → k < length (set sums at value) → k ≢ at → get_or (set sums at value) k 0 ≡ squares (k + 1) (done ++ (ps ++ p ∷ []) ∷ [])
    else k lt other =
        let more = squares_more (k + 1) done ps p in
        let square = square_else (k + 1) p (λ e. other (omega (arith, e, doc_is))) in
        let old = are.each k (omega (arith, lt, length-set sums at value)) in
        get_or-set_other sums at k value 0 other ∙ omega (arith, more, square, old)

get_or_zeros : (n k : ℕ) → get_or (replicate n 0) k 0 ≡ zero
get_or_zeros zero k = refl
get_or_zeros (suc n) zero = refl
get_or_zeros (suc n) (suc k) = get_or_zeros n k

-- the first postings of a list weigh no more than all of it
pub squares_front : (doc : ℕ) (done : List (List Posting)) (ps left : List Posting) → squares doc (done ++ ps ∷ []) ≤ squares doc (done ++ (ps ++ left) ∷ [])
squares_front doc done ps left = omega (arith, squares_push doc done ps, squares_push doc done (ps ++ left), sum_by-append (square_at doc) ps left)

-- the first lists weigh no more than all
pub squares_first : (doc : ℕ) (done more : List (List Posting)) → squares doc done ≤ squares doc (done ++ more)
squares_first doc done more = omega (arith, sum_by-append (λ ps. sum_by (square_at doc) ps) done more)

-- sums of nothing
pub summed_none : (sums : List ℕ) → sums ≡ replicate (length sums) 0 → AreSquares sums []
summed_none sums zeros = record { each = λ k lt. ap (λ xs. get_or xs k 0) zeros ∙ get_or_zeros (length sums) k }

numbers_long : (n count : ℕ) → length (numbers_from n count) ≡ count
numbers_long n zero = refl
numbers_long n (suc count) = ap (λ m. suc m) (numbers_long (n + 1) count)

number_at : (n count k : ℕ) → k < count → get_or (numbers_from n count) k 0 ≡ n + k
number_at n zero k lt = absurd (omega (arith, lt))
number_at n (suc count) zero lt = omega arith
number_at n (suc count) (suc k) lt = number_at (n + 1) count k (omega (arith, lt)) ∙ omega arith

-- the sums of all documents, where each is that of its squared weights
pub summed_all : (sums : List ℕ) (count : ℕ) (lists : List (List Posting)) → length sums ≡ count → AreSquares sums lists → sums ≡ squares_to count lists
summed_all sums count lists long are =
    same_lists sums (squares_to count lists) (long ∙ sym (length-map (numbers_from 1 count) (λ doc. squares doc lists) ∙ numbers_long 1 count)) (λ k d lt.
    let lt' : k < count = omega (arith, lt, long) in
    let there : k < length (numbers_from 1 count) = omega (arith, lt', numbers_long 1 count) in
    get_or_default sums k d 0 lt ∙ are.each k lt
    ∙ sym (get_or-map (λ doc. squares doc lists) (numbers_from 1 count) k 0 d there ∙ ap (λ doc. squares doc lists) (number_at 1 count k lt' ∙ omega arith)))
