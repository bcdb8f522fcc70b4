-- Which lines are Boolean queries, and where any other line is refused.
use Rattle.std.specs.Prelude.{◌≡◌, ◌≤◌, ◌<◌, ℕ, ◌-◌, Bool, true, false, List, [], ◌∷◌, ◌++◌, length, count_by}
use Rattle.mg_defs.specs.Limits.{piece_bytes, open_parentheses}
use Rattle.mg_defs.specs.Sat.{Query}
use Rattle.mg_defs.specs.Tokens.{Token, word, bar, amp, bang, opening, closing, PlacedToken, tokens, bare}
use Rattle.mg_defs.specs.Grammar.{ReadsAs, BeginsQuery}
use Rattle.mg_defs.specs.Refusals.{Refusal, syntax, too_deep, too_long, too_many}
use Rattle.mg_defs.specs.FirstRefusal.{NoneRefused, IsFirstRefusal}

abbrev pub is_opening : Token → Bool
is_opening opening = true
is_opening _ = false

abbrev pub is_closing : Token → Bool
is_closing closing = true
is_closing _ = false

-- how many parentheses are open after the tokens
abbrev pub open_count : List Token → ℕ
open_count ts = count_by is_opening ts - count_by is_closing ts

-- a word of more bytes than a piece may have
abbrev pub IsLongWord : Token → Type 0
IsLongWord (word w) = piece_bytes < length w
IsLongWord bar = ⊥
IsLongWord amp = ⊥
IsLongWord bang = ⊥
IsLongWord opening = ⊥
IsLongWord closing = ⊥

-- The token is refused at its place, after those before it: with it they begin no query, or it opens a parenthesis where as many are open as may be, or it is a long word.
abbrev pub IsRefusedAfter : List PlacedToken → PlacedToken → Refusal → Type 0
IsRefusedAfter before t (syntax at) = (at ≡ t.at) × (BeginsQuery (bare before ++ t.token ∷ []) → ⊥)
IsRefusedAfter before t (too_deep at) = (at ≡ t.at) × (t.token ≡ opening)
    × (open_parentheses ≤ open_count (bare before))
IsRefusedAfter before t (too_long at) = (at ≡ t.at) × IsLongWord t.token
IsRefusedAfter before t (too_many at) = ⊥

-- none of the tokens is refused after those before it
abbrev pub AreAllowed : List PlacedToken → Type 0
AreAllowed ts = NoneRefused IsRefusedAfter [] ts

-- The line's tokens read as the query, and none of them is refused.
pub record IsAccepted (line : List ℕ) (q : Query) : Type 0 where
  pub reads : ReadsAs (bare (tokens line)) q
  pub allowed : NoneRefused IsRefusedAfter [] (tokens line)

-- The line is refused at its first token that is; or, where none is and the tokens are no query, at the line's length.
pub data IsRefusal (line : List ℕ) (why : Refusal) : Type 0 where
  at_a_token : IsFirstRefusal IsRefusedAfter (tokens line) why → IsRefusal line why
  at_the_end : NoneRefused IsRefusedAfter [] (tokens line) → ((q : Query) → ReadsAs (bare (tokens line)) q → ⊥) →
      why ≡ syntax (length line) → IsRefusal line why
