-- What stood in Text and Places for the pairs of a document, whatever else the parts hold.
use Rattle.std.specs.Prelude.{ℕ, ◌-◌, ◌*◌, ◌≤◌, List, drop}
use Rattle.mg_defs.specs.Bits.{Begins, bits_of}
use Rattle.mg_defs.specs.CodedText.{TextCode}
use Rattle.mg_defs.specs.Parse.{Pair, text}
use Rattle.mg_text.specs.Decoding.{PairsIn, numbered_pairs}
use Rattle.mg_text.specs.Places.{NumberStands, place_width}

-- Places tells where the document begins, within so many bytes; from there on Text has the number of these pairs and the
-- codewords of their pieces.
pub record PairsTold (code : TextCode) (version size : ℕ) (place_bytes text_bytes : List ℕ) (number : ℕ)
    (pairs : List Pair) : Type 0 where
  pub place : ℕ
  pub place_stands : NumberStands (place_width version) (number - 1) place place_bytes
  pub within : place ≤ size
  pub there : PairsIn code pairs
  pub bits_are : Begins (numbered_pairs code pairs) (drop (8 * place) (bits_of text_bytes))

-- They tell of some pairs, and this is so of the bytes that they join to.
pub record DocumentTold (code : TextCode) (version size : ℕ) (place_bytes text_bytes : List ℕ) (number : ℕ)
    (fact : List ℕ → Type 0) : Type 0 where
  pub pairs : List Pair
  pub told : PairsTold code version size place_bytes text_bytes number pairs
  pub is : fact (text pairs)
