-- Postings of occurrences.
use Rattle.std.specs.Prelude.{◌≡◌, ◌≤◌, ◌<◌, ◌+◌, ◌==◌, ℕ, cond, nat_lt, List, [], ◌∷◌, map}
use Rattle.std.specs.List.{AllByRecursion}
use Rattle.mg_defs.specs.declared.TermPosting.{TermPosting}

-- one occurrence, a term and a document
abbrev pub once : ℕ × ℕ → TermPosting
once o = record { term = o.0; doc = o.1; count = 1 }

-- first by term, then by document
pub record IsBefore (x y : TermPosting) : Type 0 where
  pub term : x.term ≤ y.term
  pub doc : x.term ≡ y.term → x.doc < y.doc

abbrev pub AllAfter : TermPosting → List TermPosting → Type 0
AllAfter x xs = AllByRecursion (λ y. IsBefore x y) xs

abbrev pub RisingByTerm : List TermPosting → Type 0
RisingByTerm [] = Unit {0}
RisingByTerm (x ∷ xs) = AllAfter x xs × RisingByTerm xs

abbrev pub AllCount : List TermPosting → Type 0
AllCount xs = AllByRecursion (λ x. 1 ≤ x.count) xs

-- what one of them counts for a term and a document
abbrev pub part_at : ℕ → ℕ → TermPosting → ℕ
part_at term doc x = cond (x.term == term) (cond (x.doc == doc) x.count 0) 0

-- how often the term stands in the document
abbrev pub times : ℕ → ℕ → List TermPosting → ℕ
times term doc [] = 0
times term doc (x ∷ xs) = part_at term doc x + times term doc xs

abbrev pub with_count : TermPosting → ℕ → TermPosting
with_count x n = record { term = x.term; doc = x.doc; count = n }

-- one posting goes to its place, or its count to the posting of its term and document
abbrev pub added : TermPosting → List TermPosting → List TermPosting
added e [] = e ∷ []
added e (x ∷ xs) =
    cond (nat_lt e.term x.term) (e ∷ x ∷ xs)
    (cond (nat_lt x.term e.term) (x ∷ added e xs)
    (cond (nat_lt e.doc x.doc) (e ∷ x ∷ xs)
    (cond (nat_lt x.doc e.doc) (x ∷ added e xs)
    (with_count x (e.count + x.count) ∷ xs))))

-- two lists in one, with counts added at equal terms and documents
abbrev pub merged_two : List TermPosting → List TermPosting → List TermPosting
merged_two [] ys = ys
merged_two (x ∷ xs) ys = added x (merged_two xs ys)

abbrev pub gathered : List TermPosting → List TermPosting
gathered [] = []
gathered (x ∷ xs) = added x (gathered xs)

-- each term and document of these occurrences, with its count
abbrev pub term_postings : List (ℕ × ℕ) → List TermPosting
term_postings occurrences = gathered (map once occurrences)

-- the list that says how often each term stands in each document
pub record ArePostings (xs found : List TermPosting) : Type 0 where
  pub rising : RisingByTerm found
  pub some : AllCount found
  pub counted : (term doc : ℕ) → times term doc found ≡ times term doc xs

-- any number of lists in one
abbrev pub merged : List (List TermPosting) → List TermPosting
merged [] = []
merged (run ∷ runs) = merged_two run (merged runs)
