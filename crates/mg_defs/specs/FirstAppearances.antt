-- Strings of bytes in order of first appearance, each once.
use Rattle.std.specs.Prelude.{ℕ, not, List, [], ◌∷◌, filter}
use Rattle.std.specs.Str.{bytes_eq}

abbrev pub first_appearances : List (List ℕ) → List (List ℕ)
first_appearances [] = []
first_appearances (s ∷ strings) = s ∷ filter (λ other. not (bytes_eq s other)) (first_appearances strings)
