-- When the parts of a set stand for a collection.
use Rattle.std.specs.Prelude.{◌≡◌, ◌⊎◌, ◌≤◌, ℕ, List, length, map, flat_map}
use Rattle.mg_defs.specs.declared.Stream.TheVariants.{Words, Others}
use Rattle.mg_defs.specs.Split.{documents, has_open_end}
use Rattle.mg_defs.specs.Vocabulary.{sorted_pieces}
use Rattle.mg_defs.specs.Terms.{dictionary}
use Rattle.mg_defs.specs.Occurrences.{occurrences}
use Rattle.mg_defs.specs.Weights.{weight}
use Rattle.mg_defs.specs.Numbers.{four}
use Rattle.mg_defs.specs.Heads.{Head, head_bytes, run_count}
use Rattle.mg_defs.specs.Limits.{least_cap, greatest_cap}
use Rattle.mg_defs.specs.WithinLimits.{IsWithinLimits}
use Rattle.mg_defs.specs.CodedText.{TextCode, IsTextCode, pieces_part, text_part, places_part}
use Rattle.mg_defs.specs.Bits.{as_bytes}
use Rattle.mg_defs.specs.Lexicon.{lex_part, lex_at_part}
use Rattle.mg_defs.specs.Lists.{inverted, lists_entries, post_bits, skip_bits}
use Rattle.mg_defs.specs.RunBits.{run_part_bits}

-- the bytes of the parts of a set; a missing part has none
pub record Parts : Type 0 where
  pub head : List ℕ
  pub words : List ℕ
  pub nonwords : List ℕ
  pub text : List ℕ
  pub places : List ℕ
  pub lex : List ℕ
  pub lex_at : List ℕ
  pub post : List ℕ
  pub skip : List ℕ
  pub weights : List ℕ
  pub run : List ℕ

-- the weight of each document, in four bytes
abbrev pub weights_part : List ℕ → List ℕ
weights_part collection = flat_map four (map weight (documents collection))

abbrev pub post_part : List ℕ → List ℕ
post_part collection = as_bytes (post_bits collection)

-- how many skip entries all lists have
abbrev pub skip_count : List ℕ → ℕ
skip_count collection = length (lists_entries (length (documents collection)) (inverted collection))

-- the numbers of a collection and of its parts
abbrev pub head_of : ℕ → ℕ → TextCode → List ℕ → Head
head_of version cap code collection = record {
  version = version;
  documents = length (documents collection);
  words = length (sorted_pieces Words collection);
  others = length (sorted_pieces Others collection);
  terms = length (dictionary collection);
  cap = cap;
  open_end = has_open_end collection;
  collection = length collection;
  occurrences = length (occurrences collection);
  runs = run_count (length (occurrences collection)) cap;
  text_bytes = length (text_part code collection);
  post_bytes = length (post_part collection);
  skip_count = skip_count collection;
}

-- The collection is within the limits of the version, and the parts are its own, with these codes and so many occurrences to a run.
pub record AreParts (version cap : ℕ) (code : TextCode) (parts : Parts) (collection : List ℕ) : Type 0 where
  pub version_is : (version ≡ 1) ⊎ (version ≡ 2)
  pub limits : IsWithinLimits version collection
  pub cap_low : least_cap ≤ cap
  pub cap_high : cap ≤ greatest_cap
  pub code_is : IsTextCode collection code
  pub head : parts.head ≡ head_bytes (head_of version cap code collection)
  pub words : parts.words ≡ pieces_part code.words
  pub nonwords : parts.nonwords ≡ pieces_part code.others
  pub text : parts.text ≡ text_part code collection
  pub places : parts.places ≡ places_part version code collection
  pub lex : parts.lex ≡ lex_part collection
  pub lex_at : parts.lex_at ≡ lex_at_part collection
  pub post : parts.post ≡ post_part collection
  pub skip : parts.skip ≡ as_bytes (skip_bits collection)
  pub weights : parts.weights ≡ weights_part collection
  pub run : parts.run ≡ as_bytes (run_part_bits cap (occurrences collection))

-- The parts stand for the collection: in version 1 or 2, with some cap and some codes of Huffman's cost.
pub record Stand (parts : Parts) (collection : List ℕ) : Type 0 where
  pub version : ℕ
  pub cap : ℕ
  pub code : TextCode
  pub are : AreParts version cap code parts collection
