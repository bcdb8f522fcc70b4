-- Whatever occurrences were counted, the lengths of lists are within what the writers of lists take.
use Rattle.std.proofs.Common.{arith, ◌≡◌, ◌≤◌, ◌<◌, ◌+◌, ◌^◌, ◌==◌, ℕ, zero, suc, Bool, cond, List, [], ◌∷◌, length, take, get_or, refl, sym, ap, add-one}
use Rattle.std.specs.Prelude.{nat_lt, sum, count_by}
use Rattle.std.proofs.lemmas.Bool.Decides.{nat_tests}
use Rattle.std.proofs.lemmas.List.{take_all}
use Rattle.std.proofs.lemmas.List.Sums.{count_by-le-length, sum_by-cons, sum_by_more}
use Rattle.mg_defs.proofs.Gathering.{added-cases}
use Rattle.mg_defs.specs.declared.TermPosting.{TermPosting}
use Rattle.mg_defs.specs.DocCounts.{NeverFall, docs_with, last_with}
use Rattle.mg_defs.specs.Postings.{added, once, term_postings}
use Rattle.mg_count.specs.DocCounting.{AreDocCounts, DocCounting}
use Rattle.mg_index.specs.Listing.{AreListSizes}

length_added : (e : TermPosting) (xs : List TermPosting) → length (added e xs) ≤ length xs + 1
length_added e [] = omega arith
length_added e (x ∷ xs) = added-cases e x xs (λ l. length l ≤ length (x ∷ xs) + 1) (λ first. omega arith) (λ later. omega (arith, length_added e xs)) (λ term doc. omega arith)

length_postings : (fed : List (ℕ × ℕ)) → length (term_postings fed) ≤ length fed
length_postings [] = omega arith
length_postings (o ∷ fed) = omega (arith, length_added (once o) (term_postings fed), length_postings fed)

abbrev is_of : ℕ → TermPosting → Bool
is_of term x = x.term == term

abbrev is_under : ℕ → TermPosting → Bool
is_under n x = nat_lt x.term n

one_more : (n term : ℕ) → cond (nat_lt term (n + 1)) 1 0 ≡ cond (nat_lt term n) 1 0 + cond (term == n) 1 0
one_more n term = grind (arith, nat_tests)

under_more : (n : ℕ) (xs : List TermPosting) → count_by (is_under (n + 1)) xs ≡ count_by (is_under n) xs + count_by (is_of n) xs
under_more n [] = refl
under_more n (x ∷ xs) =
    omega (
      arith,
      sum_by-cons (λ y. cond (is_under (n + 1) y) 1 0) x xs,
      sum_by-cons (λ y. cond (is_under n y) 1 0) x xs,
      sum_by-cons (λ y. cond (is_of n y) 1 0) x xs,
      one_more n x.term,
      under_more n xs,
    )

under_none : (xs : List TermPosting) → count_by (is_under 0) xs ≡ 0
under_none [] = refl
under_none (x ∷ xs) = omega (arith, sum_by-cons (λ y. cond (is_under 0 y) 1 0) x xs, none x.term, under_none xs)
  where
    none : (term : ℕ) → cond (nat_lt term 0) 1 0 ≡ zero
    none term = grind (arith, nat_tests)

sum_first : (docs : List ℕ) (fed : List (ℕ × ℕ)) (n : ℕ) → n ≤ length docs → ((k : ℕ) → k < length docs → get_or docs k 0 ≡ docs_with k fed) →
    sum (take n docs) ≡ count_by (is_under n) (term_postings fed)
sum_first docs fed zero le each = sym (under_none (term_postings fed))
sum_first docs fed (suc n) le each =
    omega (
      arith,
      sum_by_more (λ x. x) docs n 0 (omega (arith, le)),
      sum_first docs fed n (omega (arith, le)) each,
      each n (omega (arith, le)),
      under_more n (term_postings fed),
      ap (λ m. sum (take m docs)) (add-one n),
      ap (λ m. count_by (is_under m) (term_postings fed)) (add-one n),
    )

-- together the terms have no more documents than occurrences
pub together : (c : DocCounting) (terms : ℕ) (fed : List (ℕ × ℕ)) → AreDocCounts c terms fed → sum c.docs ≤ length fed
together c terms fed are =
    omega (
      arith,
      ap (λ xs. sum xs) (take_all (length c.docs) c.docs (omega arith)),
      sum_first c.docs fed (length c.docs) (omega arith) (λ k lt. are.docs k (omega (arith, lt, are.doc_size))),
      count_by-le-length (is_under (length c.docs)) (term_postings fed),
      length_postings fed,
    )

pub sizes_of_counts :
    ((term doc : ℕ) (fed : List (ℕ × ℕ)) → NeverFall 0 fed doc → last_with term 0 fed ≤ doc) →
    (c : DocCounting) (terms all : ℕ) (fed : List (ℕ × ℕ)) → AreDocCounts c terms fed → NeverFall 0 fed all → length fed < 2 ^ 32 → all ≤ 2 ^ 24 → AreListSizes c.docs terms all
sizes_of_counts low c terms all fed are order short few = record {
  each = are.doc_size;
  within = λ k lt. omega (arith, are.few k lt, are.last k lt, low k all fed order);
  total = omega (arith, together c terms fed are, short);
  documents = few;
}

-- documents that never fall up to one never fall up to a later one
pub never_fall_to : (before : ℕ) (fed : List (ℕ × ℕ)) (after later : ℕ) → after ≤ later → NeverFall before fed after → NeverFall before fed later
never_fall_to before [] after later le h = omega (arith, le, h)
never_fall_to before (o ∷ fed) after later le h = (h.0, never_fall_to o.1 fed after later le h.1)
