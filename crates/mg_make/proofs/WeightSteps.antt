-- Weights, one after the other, and those of a collection.
use Rattle.std.proofs.Common.{◌≡◌, ℕ, List, [], ◌∷◌, ◌++◌, length, map, refl, ap, ◌∙◌}
use Rattle.std.specs.List.{flat_map}
use Rattle.mg_defs.specs.Fixed.{isqrt}
use Rattle.mg_defs.specs.Lists.{inverted}
use Rattle.mg_defs.specs.Numbers.{four}
use Rattle.mg_defs.specs.Split.{documents}
use Rattle.mg_defs.specs.Squares.{squares_to}
use Rattle.mg_defs.specs.Stands.{weights_part}
use Rattle.mg_defs.specs.Weights.{weight}

-- the root of a sum in four bytes
abbrev pub root_bytes : ℕ → List ℕ
root_bytes sum = four (isqrt sum)

roots_map : (sums : List ℕ) → flat_map root_bytes sums ≡ flat_map four (map isqrt sums)
roots_map [] = refl
roots_map (sum ∷ sums) = ap (λ bytes. root_bytes sum ++ bytes) (roots_map sums)

-- the law that roots of sums are weights
abbrev pub SquaresWeigh : Type 0
SquaresWeigh = (collection : List ℕ) → map isqrt (squares_to (length (documents collection)) (inverted collection)) ≡ map weight (documents collection)

pub weights_are : SquaresWeigh → (collection : List ℕ) (sums : List ℕ) → sums ≡ squares_to (length (documents collection)) (inverted collection) → flat_map root_bytes sums ≡ weights_part collection
weights_are weigh collection sums is =
    ap (λ xs. flat_map root_bytes xs) is ∙ roots_map (squares_to (length (documents collection)) (inverted collection)) ∙ ap (λ ws. flat_map four ws) (weigh collection)
