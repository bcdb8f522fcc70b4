-- What every vocabulary keeps, and its columns.
use Rattle.std.specs.Prelude.{ℕ, ◌^◌, ◌<◌, ◌≤◌, ◌+◌, if◌then◌else◌, List, [], ◌∷◌, length, map}
use Rattle.std.specs.List.{AllByRecursion, IsDistinct}
use Rattle.std.specs.Map.{keys_of}
use Rattle.std.specs.Str.{bytes_eq}
use Rattle.mg_defs.specs.Vocabulary.{total}
use Rattle.mg_model.specs.declared.piece_key.PieceKey.{PieceKey}
use Rattle.mg_model.specs.Keys.{Longer, IsKeyOf, piece_in}

-- the entries of a map from keys to counts
abbrev pub entries_of : Longer → List (PieceKey × ℕ) → List (List ℕ × ℕ)
entries_of longer counts = map (λ (e : PieceKey × ℕ). (piece_in longer e.0.entry, e.1)) counts

-- a key is that of its piece
abbrev pub IsKey : Longer → PieceKey → Type 0
IsKey longer key = IsKeyOf longer key.entry (piece_in longer key.entry)

abbrev pub pieces_of : List (List ℕ × ℕ) → List (List ℕ)
pieces_of entries = map (λ e. e.0) entries

-- a vocabulary after a piece came so many times more: its count rises by them, or it is added last
abbrev pub counted_times : List ℕ → ℕ → List (List ℕ × ℕ) → List (List ℕ × ℕ)
counted_times piece times [] = (piece, times) ∷ []
counted_times piece times (e ∷ entries) =
    if bytes_eq piece e.0 then (e.0, e.1 + times) ∷ entries else e ∷ counted_times piece times entries

-- The pieces are distinct, each has at most 255 bytes and came at least once, and there are no more pieces, and they came no more often, than a vocabulary may hold.
pub record IsVocabulary (entries : List (List ℕ × ℕ)) : Type 0 where
  pub distinct : IsDistinct bytes_eq (pieces_of entries)
  pub few : length entries ≤ 2 ^ 22
  pub total : total entries < 2 ^ 32
  pub counted : AllByRecursion (λ (e : List ℕ × ℕ). 1 ≤ e.1) entries
  pub short : AllByRecursion (λ (e : List ℕ × ℕ). length e.0 ≤ 255) entries

-- the keys of a map are those of their pieces, and its entries are a vocabulary
pub record IsKept (longer : Longer) (counts : List (PieceKey × ℕ)) : Type 0 where
  pub keys : AllByRecursion (IsKey longer) (keys_of counts)
  pub vocabulary : IsVocabulary (entries_of longer counts)

abbrev pub entry_counts : List (List ℕ × ℕ) → List ℕ
entry_counts entries = map (λ e. e.1) entries
