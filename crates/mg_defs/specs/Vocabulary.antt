-- The pieces of a stream, the words or the others of all documents: which there are, and how often each comes.
use Rattle.std.specs.Prelude.{ℕ, ◌+◌, Bool, if◌then◌else◌, List, [], ◌∷◌, map, count_by, sum_by}
use Rattle.std.specs.List.{flat_map, list_any}
use Rattle.std.specs.Str.{bytes_eq}
use Rattle.mg_defs.specs.declared.Stream.{Stream}
use Rattle.mg_defs.specs.declared.Stream.TheVariants.{Words, Others}
use Rattle.mg_defs.specs.Split.{documents}
use Rattle.mg_defs.specs.Parse.{Pair, parse}
use Rattle.mg_defs.specs.FirstAppearances.{first_appearances}
use Rattle.mg_defs.specs.Sorted.{sorted_distinct}

-- a pair's piece of the stream
abbrev pub piece_of_pair : Stream → Pair → List ℕ
piece_of_pair Words p = p.word
piece_of_pair Others p = p.other

-- the pieces of the stream in a document, in order
abbrev pub pieces_in : Stream → List ℕ → List (List ℕ)
pieces_in kind doc = map (piece_of_pair kind) (parse doc)

-- the pieces of the stream in all documents, in reading order
abbrev pub all_pieces : Stream → List ℕ → List (List ℕ)
all_pieces kind collection = flat_map (pieces_in kind) (documents collection)

-- how often a piece comes
abbrev pub count_in : List (List ℕ) → List ℕ → ℕ
count_in pieces piece = count_by (bytes_eq piece) pieces

-- each piece with its count, in order of first appearance
abbrev pub vocabulary : List (List ℕ) → List (List ℕ × ℕ)
vocabulary pieces = map (λ p. (p, count_in pieces p)) (first_appearances pieces)

-- whether a piece is an entry of a vocabulary
abbrev pub has_piece : List (List ℕ × ℕ) → List ℕ → Bool
has_piece entries piece = list_any (λ e. bytes_eq piece e.0) entries

-- a vocabulary after one piece more: its count rises by one, or it is added last
abbrev pub counted : List ℕ → List (List ℕ × ℕ) → List (List ℕ × ℕ)
counted piece [] = (piece, 1) ∷ []
counted piece (e ∷ entries) = if bytes_eq piece e.0 then (e.0, e.1 + 1) ∷ entries else e ∷ counted piece entries

-- the count of a piece in a vocabulary, 0 where it is no entry
abbrev pub entry_count : List (List ℕ × ℕ) → List ℕ → ℕ
entry_count [] piece = 0
entry_count (e ∷ entries) piece = if bytes_eq piece e.0 then e.1 else entry_count entries piece

abbrev pub total : List (List ℕ × ℕ) → ℕ
total entries = sum_by (λ e. e.1) entries

-- the distinct pieces of a vocabulary in the order of their bytes, and the count of each: a symbol is a place in these lists
abbrev pub sorted_of : List (List ℕ × ℕ) → List (List ℕ)
sorted_of entries = sorted_distinct (map (λ e. e.0) entries)

abbrev pub counts_of : List (List ℕ × ℕ) → List ℕ
counts_of entries = map (entry_count entries) (sorted_of entries)

-- the distinct pieces of a collection's stream in the order of their bytes, and how often each comes
abbrev pub sorted_pieces : Stream → List ℕ → List (List ℕ)
sorted_pieces kind collection = sorted_distinct (all_pieces kind collection)

abbrev pub piece_counts : Stream → List ℕ → List ℕ
piece_counts kind collection = map (count_in (all_pieces kind collection)) (sorted_pieces kind collection)
