-- The terms of a ranked line, and where a line is refused.
use Rattle.std.specs.Prelude.{◌≡◌, ◌≤◌, ℕ, List, [], ◌∷◌, length, Contains}
use Rattle.std.specs.List.{flat_map}
use Rattle.mg_defs.specs.Limits.{piece_bytes, ranked_terms}
use Rattle.mg_defs.specs.FirstAppearances.{first_appearances}
use Rattle.mg_defs.specs.Terms.{folded}
use Rattle.mg_defs.specs.Tokens.{Token, word, bar, amp, bang, opening, closing, PlacedToken, tokens}
use Rattle.mg_defs.specs.Refusals.{Refusal, syntax, too_deep, too_long, too_many}
use Rattle.mg_defs.specs.FirstRefusal.{NoneRefused, IsFirstRefusal}
use Rattle.mg_defs.specs.BooleanLines.{IsLongWord}

-- the folded word, where the token is one
abbrev pub term_of : Token → List (List ℕ)
term_of (word w) = folded w ∷ []
term_of bar = []
term_of amp = []
term_of bang = []
term_of opening = []
term_of closing = []

-- the folded words, in order
abbrev pub folded_words : List PlacedToken → List (List ℕ)
folded_words ts = flat_map (λ (t : PlacedToken). term_of t.token) ts

-- each of them once
abbrev pub distinct_terms : List PlacedToken → List (List ℕ)
distinct_terms ts = first_appearances (folded_words ts)

-- a word that is not too long and whose term is none of these
abbrev pub IsNewTerm : List (List ℕ) → Token → Type 0
IsNewTerm terms (word w) = (length w ≤ piece_bytes) × (Contains terms (folded w) → ⊥)
IsNewTerm terms bar = ⊥
IsNewTerm terms amp = ⊥
IsNewTerm terms bang = ⊥
IsNewTerm terms opening = ⊥
IsNewTerm terms closing = ⊥

-- The token is refused at its place, after those before it: it is a long word, or a new term after as many distinct ones as there may be.
abbrev pub IsTermRefusedAfter : List PlacedToken → PlacedToken → Refusal → Type 0
IsTermRefusedAfter before t (syntax at) = ⊥
IsTermRefusedAfter before t (too_deep at) = ⊥
IsTermRefusedAfter before t (too_long at) = (at ≡ t.at) × IsLongWord t.token
IsTermRefusedAfter before t (too_many at) = (at ≡ t.at) × IsNewTerm (distinct_terms before) t.token
    × (ranked_terms ≤ length (distinct_terms before))

-- The line's distinct terms, where none of its tokens is refused.
pub record IsTermList (line : List ℕ) (terms : List (List ℕ)) : Type 0 where
  pub is : terms ≡ distinct_terms (tokens line)
  pub allowed : NoneRefused IsTermRefusedAfter [] (tokens line)

-- The line is refused at its first token that is.
abbrev pub IsTermRefusal : List ℕ → Refusal → Type 0
IsTermRefusal line why = IsFirstRefusal IsTermRefusedAfter (tokens line) why
