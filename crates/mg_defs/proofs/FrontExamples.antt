-- The worked example: car, card, care, cat, dog, with no field.
use Rattle.std.proofs.Common.{◌≡◌, ◌++◌, List, [], ◌∷◌, refl}
use Rattle.std.specs.Prelude.{codes}
use Rattle.mg_defs.specs.Numbers.{four}
use Rattle.mg_defs.specs.Front.{Entry, front, whole_at, front_from, entry_bytes, shared, places_from}

words : List Entry
words = record { string = codes "car"; field = [] } ∷ record { string = codes "card"; field = [] } ∷ record { string = codes "care"; field = [] } ∷
    record { string = codes "cat"; field = [] } ∷ record { string = codes "dog"; field = [] } ∷ []

bytes : front words ≡ 3 ∷ codes "car" ++ 3 ∷ 1 ∷ codes "d" ++ 3 ∷ 1 ∷ codes "e" ++ 2 ∷ 1 ∷ codes "t" ++ 3 ∷ codes "dog"
unfolding front_from entry_bytes shared words
bytes = refl

places : whole_at words ≡ 0 ∷ 0 ∷ 0 ∷ 0 ∷ 0 ∷ 0 ∷ 0 ∷ 13 ∷ []
unfolding places_from four entry_bytes shared words
places = refl
