-- What the tokens ahead begin with.
use Rattle.std.specs.Prelude.{◌≡◌, ◌≢◌, List, [], ◌∷◌}
use Rattle.mg_defs.specs.Grammar.{Level, or_level, and_level, not_level}
use Rattle.mg_defs.specs.Tokens.{Token, word, bar, amp, bang, opening, closing, PlacedToken}

abbrev pub EndsAnd : Token → Type 0
EndsAnd bar = Unit {0}
EndsAnd closing = Unit {0}
EndsAnd (word w) = ⊥
EndsAnd amp = ⊥
EndsAnd bang = ⊥
EndsAnd opening = ⊥

-- what may follow a list on level and: the end, a sign | or a closing parenthesis
abbrev pub StopsAnd : List PlacedToken → Type 0
StopsAnd [] = Unit {0}
StopsAnd (t ∷ ts) = EndsAnd t.token

abbrev pub EndsOr : Token → Type 0
EndsOr closing = Unit {0}
EndsOr bar = ⊥
EndsOr (word w) = ⊥
EndsOr amp = ⊥
EndsOr bang = ⊥
EndsOr opening = ⊥

-- what may follow a list on level or: the end or a closing parenthesis
abbrev pub StopsOr : List PlacedToken → Type 0
StopsOr [] = Unit {0}
StopsOr (t ∷ ts) = EndsOr t.token

-- what may follow a list on a level
abbrev pub StopsOn : Level → List PlacedToken → Type 0
StopsOn or_level ts = StopsOr ts
StopsOn and_level ts = StopsAnd ts
StopsOn not_level ts = Unit {0}

-- the first token, if there is one, is another
abbrev pub IsNotAhead : Token → List PlacedToken → Type 0
IsNotAhead sign [] = Unit {0}
IsNotAhead sign (t ∷ ts) = t.token ≢ sign

abbrev pub JoinsBy : Token → PlacedToken → List PlacedToken → List PlacedToken → Type 0
JoinsBy amp t ts after = after ≡ ts
JoinsBy (word w) t ts after = after ≡ t ∷ ts
JoinsBy bang t ts after = after ≡ t ∷ ts
JoinsBy opening t ts after = after ≡ t ∷ ts
JoinsBy bar t ts after = ⊥
JoinsBy closing t ts after = ⊥

-- One more operand of an and begins with the tokens after: at once, or after a sign &.
abbrev pub JoinsTo : List PlacedToken → List PlacedToken → Type 0
JoinsTo [] after = ⊥
JoinsTo (t ∷ ts) after = JoinsBy t.token t ts after
