-- What a small collection amounts to, computed.
use Rattle.std.proofs.Common.{◌≡◌, ◌++◌, ◌∷◌, ℕ, List, [], refl}
use Rattle.std.specs.Prelude.{codes}
use Rattle.mg_defs.specs.declared.TermPosting.{TermPosting}
use Rattle.mg_defs.specs.declared.Stream.TheVariants.{Words, Others}
use Rattle.mg_defs.specs.DocCounts.{docs_with}
use Rattle.mg_defs.specs.PostingLists.{by_terms}
use Rattle.mg_defs.specs.Lists.{inverted}
use Rattle.mg_defs.specs.Marks.{marks, start, piece, stop, pair_counts, piece_count_from, terms_from}
use Rattle.mg_defs.specs.Occurrences.{occurrences}
use Rattle.mg_defs.specs.Parse.{parse}
use Rattle.mg_defs.specs.Squares.{squares_to}
use Rattle.mg_defs.specs.Terms.{dictionary}
use Rattle.mg_defs.specs.Weights.{weight_in_doc}
use Rattle.mg_defs.specs.Fixed.{lg, digits_of, digit, next}

-- 'a B,' and an empty document, and then 'b A b' with an open end
abbrev few : List ℕ
few = codes "a B," ++ (2 ∷ 2 ∷ codes "b A b")

few_marks : marks (codes "a B," ++ 2 ∷ 2 ∷ []) ≡ start ∷ piece Words (codes "a") ∷ piece Others (codes " ") ∷ piece Words (codes "B") ∷ piece Others (codes ",") ∷ stop ∷ start ∷ stop ∷ []
unfolding parse
few_marks = refl

-- a word at the end has an empty other behind it
last_mark : marks (codes "b") ≡ start ∷ piece Words (codes "b") ∷ piece Others [] ∷ stop ∷ []
unfolding parse
last_mark = refl

few_pairs : pair_counts few ≡ 2 ∷ 0 ∷ 3 ∷ []
unfolding parse
few_pairs = refl

-- three pieces of the last document came
open_pieces : piece_count_from 0 (start ∷ stop ∷ start ∷ piece Words (codes "b") ∷ piece Others (codes " ") ∷ piece Words (codes "A") ∷ []) ≡ 3
open_pieces = refl

abbrev of : ℕ → ℕ → ℕ → TermPosting
of term doc count = record { term = term; doc = doc; count = count }

few_in_order : by_terms 0 (inverted few) ≡ of 0 1 1 ∷ of 0 3 1 ∷ of 1 1 1 ∷ of 1 3 2 ∷ []
unfolding parse
few_in_order = refl

few_terms : terms_from (dictionary few) 0 (marks few) ≡ (0, 1) ∷ (1, 1) ∷ (1, 3) ∷ (0, 3) ∷ (1, 3) ∷ []
unfolding parse
few_terms = refl

few_docs : docs_with 1 (occurrences few) ≡ 2
unfolding parse
few_docs = refl

-- twice 256 squared, none, and once 256 squared and 512 squared
few_squares : squares_to 3 (inverted few) ≡ 131072 ∷ 0 ∷ 327680 ∷ []
unfolding parse weight_in_doc lg digits_of digit next
few_squares = refl
