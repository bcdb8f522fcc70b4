-- The rows of a ranked answer: as hits, as they are shown, and where their documents begin.
use Rattle.std.specs.Prelude.{◌≡◌, ◌≤◌, ℕ, List, Some, map, flat_map, length, take, drop}
use Rattle.std.specs.List.{prefix_len}
use Rattle.mg_defs.specs.ShownAnswers.{Shown, shown}
use Rattle.mg_defs.specs.Terms.{document}
use Rattle.mg_defs.specs.Weights.{Hit}
use Rattle.mg_defs.specs.declared.session.Mode.{Mode}
use Rattle.mg_plain.specs.Inside.{is_inside}
use Rattle.mg_plain.specs.declared.order.Row.{Row}

abbrev pub hit_of : Row → Hit
hit_of r = record { number = r.number; score = r.score }

abbrev pub hits_of : List Row → List Hit
hits_of rows = map hit_of rows

abbrev pub shown_of : Row → Shown
shown_of r = record { number = r.number; score = Some r.score }

abbrev pub shown_rows : List Row → List Shown
shown_rows rows = map shown_of rows

-- what is printed for them
unfoldable pub rows_text : List ℕ → Mode → List Row → List ℕ
rows_text collection mode rows = flat_map (shown collection mode) (shown_rows rows)

-- The document of the row begins at its place.
pub record IsPlaced (collection : List ℕ) (r : Row) : Type 0 where
  pub within : r.place ≤ length collection
  pub document : document collection r.number ≡ take (prefix_len is_inside (drop r.place collection))
      (drop r.place collection)
