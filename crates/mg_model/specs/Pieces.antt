-- The pieces of a stream, however they are kept.
use Rattle.std.specs.Prelude.{ℕ, List, map}
use Rattle.mg_model.specs.declared.pieces.Pieces.{Pieces}
use Rattle.mg_model.specs.declared.pieces.Pieces.TheVariants.{Counted, Loaded}

abbrev pub pieces_in : Pieces → List (List ℕ)
pieces_in (Counted vocab) = map (λ e. e.0) vocab
pieces_in (Loaded block) = block
