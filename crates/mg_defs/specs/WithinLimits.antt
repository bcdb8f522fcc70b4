-- Which collections are not too large.
use Rattle.std.specs.Prelude.{ℕ, ◌≤◌, List, length}
use Rattle.mg_defs.specs.declared.Stream.TheVariants.{Words, Others}
use Rattle.mg_defs.specs.Limits.{limits}
use Rattle.mg_defs.specs.Split.{documents}
use Rattle.mg_defs.specs.Vocabulary.{sorted_pieces}

-- The collection is within the limits of version 1 or 2.
pub record IsWithinLimits (version : ℕ) (collection : List ℕ) : Type 0 where
  pub bytes : length collection ≤ (limits version).collection
  pub documents : length (documents collection) ≤ (limits version).documents
  pub words : length (sorted_pieces Words collection) ≤ (limits version).pieces
  pub others : length (sorted_pieces Others collection) ≤ (limits version).pieces
