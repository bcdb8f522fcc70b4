-- The test of two lists of bytes.
use Rattle.std.proofs.Common.{◌≡◌, ℕ, List, [], ◌∷◌, refl, ap, ◌&&◌, ◌==◌}
use Rattle.std.specs.Str.{bytes_eq}
use Rattle.mg_defs.specs.Terms.{same_term}

pub same_bytes : (a b : List ℕ) → bytes_eq a b ≡ same_term a b
same_bytes [] [] = refl
same_bytes [] (c ∷ b) = refl
same_bytes (c ∷ a) [] = refl
same_bytes (c ∷ a) (d ∷ b) = ap (λ r. (c == d) && r) (same_bytes a b)
