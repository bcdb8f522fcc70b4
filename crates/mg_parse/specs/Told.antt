-- Pieces that vectors hold.
use Rattle.std.specs.Prelude.{ℕ, List, map, Vec}
use Rattle.std.proofs.Common.{Global}

abbrev pub lists : List (Vec ℕ Global) → List (List ℕ)
lists pieces = map (λ (piece : Vec ℕ Global). piece.items) pieces
