-- What is printed of a list is what is printed of its first, and then of the others.
use Rattle.std.proofs.Common.{◌≡◌, suc, ◌-◌, ◌≤◌, ◌++◌, ℕ, List, [], ◌∷◌, length, take, drop, get_or, ap, ◌∙◌, arith}
use Rattle.std.proofs.Math.Seq.{take-length}
use Rattle.std.specs.List.{flat_map}

pub first_and_rest : {A : Type 0} (text : A → List ℕ) (xs : List A) (d : A) → 1 ≤ length xs → text (get_or xs 0 d) ++ flat_map text (take (length xs - 1) (drop 1 xs)) ≡ flat_map text xs
first_and_rest text [] d some = absurd (omega arith)
first_and_rest text (x ∷ xs) d some =
    let others : suc (length xs) - 1 ≡ length xs = omega arith in
    ap (λ r. text x ++ flat_map text r) (ap (λ n. take n xs) others ∙ take-length xs)
