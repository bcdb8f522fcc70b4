-- The first token of a list that is refused, where a relation says which tokens are refused after which others, and why.
use Rattle.std.specs.Prelude.{◌≡◌, List, [], ◌∷◌, ◌++◌}
use Rattle.mg_defs.specs.Tokens.{PlacedToken}
use Rattle.mg_defs.specs.Refusals.{Refusal}

-- No token is refused, each after those before it. The first list stands before the second.
abbrev pub NoneRefused : (List PlacedToken → PlacedToken → Refusal → Type 0) → List PlacedToken → List PlacedToken →
    Type 0
NoneRefused Refuses before [] = Unit {0}
NoneRefused Refuses before (t ∷ ts) = ((why : Refusal) → Refuses before t why → ⊥)
    × NoneRefused Refuses (before ++ t ∷ []) ts

-- A token is refused, and none before it.
pub record IsFirstRefusal (Refuses : List PlacedToken → PlacedToken → Refusal → Type 0) (ts : List PlacedToken)
    (why : Refusal) : Type 0 where
  pub before : List PlacedToken
  pub token : PlacedToken
  pub after : List PlacedToken
  pub whole : ts ≡ before ++ token ∷ after
  pub none : NoneRefused Refuses [] before
  pub refused : Refuses before token why

-- two causes for which a token is refused are one
abbrev pub OneCause : (List PlacedToken → PlacedToken → Refusal → Type 0) → List PlacedToken → PlacedToken → Refusal →
    Refusal → Type 0
OneCause Refuses before t why other = Refuses before t why → Refuses before t other → why ≡ other
