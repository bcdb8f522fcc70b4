-- How many bits the coded text of a collection has, but for the bits that fill its last bytes.
use Rattle.std.specs.Prelude.{ℕ, ◌+◌, ◌/◌, List, length, sum_by}
use Rattle.mg_defs.specs.declared.Stream.TheVariants.{Words, Others}
use Rattle.mg_defs.specs.Split.{documents, document_count}
use Rattle.mg_defs.specs.Parse.{parse}
use Rattle.mg_defs.specs.Codes.{gamma}
use Rattle.mg_defs.specs.Cost.{huffman_cost}
use Rattle.mg_defs.specs.Vocabulary.{piece_counts}

-- the bits of the number of pairs, at the head of each document
abbrev pub head_bits : List ℕ → ℕ
head_bits collection = sum_by (λ doc. length (gamma (length (parse doc) + 1))) (documents collection)

-- Huffman's cost of the words, of the others, and the heads
abbrev pub text_bits : List ℕ → ℕ
text_bits collection = huffman_cost (piece_counts Words collection) + huffman_cost (piece_counts Others collection)
    + head_bits collection

-- the most bytes that the text takes: those bits, and less than a byte more for each document
abbrev pub most_text_bytes : List ℕ → ℕ
most_text_bytes collection = text_bits collection / 8 + document_count collection
