-- Where a phrase has begun, by a flag for each of its words.
use Rattle.std.specs.Prelude.{ℕ, Bool, if◌then◌else◌, List, [], ◌∷◌}

-- what of the phrase is still to come behind each word whose flag is set
unfoldable pub to_come : List (List ℕ) → List Bool → List (List (List ℕ))
to_come [] flags = []
to_come (w ∷ ws) [] = []
to_come (w ∷ ws) (flag ∷ flags) = if flag then ws ∷ to_come ws flags else to_come ws flags
