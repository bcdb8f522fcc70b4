-- Words in the order of their terms, and the weight of the runs of equal terms.
use Rattle.std.specs.Prelude.{◌≡◌, ℕ, ◌+◌, ◌*◌, Bool, false, if◌then◌else◌, List, [], ◌∷◌, map}
use Rattle.std.specs.Str.{bytes_eq}
use Rattle.mg_defs.specs.Parse.{Pair}
use Rattle.mg_defs.specs.Terms.{folded, terms_of_words}
use Rattle.mg_defs.specs.Weights.{weight_in_doc}
use Rattle.std.specs.Borrow.{Bor}
use Rattle.std.specs.Cmp.Lexicographic.{slice_cmp}
use Rattle.std.specs.Ordering.{nat_cmp, is_gt}

-- the terms of words that are borrowed
abbrev pub terms_of : List (Bor (List ℕ)) → List (List ℕ)
terms_of words = map (λ (w : Bor (List ℕ)). folded w.now) words

-- the terms of a document's pairs
unfoldable pub terms_in : List Pair → List (List ℕ)
terms_in pairs = terms_of_words (map (λ (p : Pair). p.word) pairs)

-- none is above the next
abbrev pub Ascends : List (List ℕ) → Type 0
Ascends [] = Unit {0}
Ascends (t ∷ []) = Unit {0}
Ascends (t ∷ u ∷ terms) = (is_gt (slice_cmp nat_cmp t u) ≡ false) × Ascends (u ∷ terms)

-- whether the term stands at the front
abbrev pub goes_on : List ℕ → List (List ℕ) → Bool
goes_on t [] = false
goes_on t (u ∷ terms) = bytes_eq t u

abbrev pub square : ℕ → ℕ
square freq = weight_in_doc freq * weight_in_doc freq

-- the sum of the squares over the runs of equal terms, so many of the first run counted already
abbrev pub squares : ℕ → List (List ℕ) → ℕ
squares count [] = 0
squares count (t ∷ terms) = if goes_on t terms then squares (count + 1) terms else square (count + 1) + squares 0 terms
