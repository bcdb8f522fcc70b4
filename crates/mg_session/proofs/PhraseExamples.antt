-- Bounds of worked lines of phrases, computed.
use Rattle.std.proofs.Common.{◌≡◌, ℕ, List, [], ◌∷◌, ◌++◌, refl}
use Rattle.std.specs.Prelude.{codes}
use Rattle.mg_defs.specs.Bits.{as_bytes, digits, filled}
use Rattle.mg_defs.specs.CodedText.{TextCode}
use Rattle.mg_defs.specs.Codes.{gamma, golomb, unary, ones, short, shorter, ceil_log2}
use Rattle.mg_defs.specs.Lists.{posting_bits, bits_after, last_doc, doc_before, bits_before, block_pages, lists_bits}
use Rattle.mg_defs.specs.PageBounds.{numbers, met_pages, whole_pages, pages_for, list_pages, asked_of, boolean_bound}
use Rattle.mg_defs.specs.Parse.{parse}
use Rattle.mg_defs.specs.Phrases.{phrase_of}
use Rattle.mg_defs.specs.ShownAnswers.{found}
use Rattle.mg_defs.specs.Tokens.{sign_of}
use Rattle.mg_session.specs.PhraseAnswers.{candidate_pages, joined_bound, line_lists, line_pages}

-- 'y x', 'x' and 'y'
abbrev three : List ℕ
three = codes "y x" ++ 2 ∷ codes "x" ++ 2 ∷ codes "y" ++ 2 ∷ []

-- each codeword is one bit, so each document is of a byte
abbrev bits : TextCode
bits = record {
  words = record { pieces = codes "x" ∷ codes "y" ∷ []; lengths = 1 ∷ 1 ∷ [] };
  others = record { pieces = [] ∷ codes " " ∷ []; lengths = 1 ∷ 1 ∷ [] };
}

-- one page of Text for each document that has all terms, in whichever order they come
texts : (line_pages bits three (codes "x y") ≡ 1) × (line_pages bits three (codes "x") ≡ 2)
    × (line_pages bits three (codes "x z") ≡ 0) × (line_pages bits three [] ≡ 0)
unfolding as_bytes golomb unary ones short shorter ceil_log2 gamma parse digits filled found phrase_of sign_of candidate_pages
texts = (refl, refl, refl, refl)

-- one page of Post for each term that some document has
lists : (line_lists three (codes "x y") ≡ 2) × (line_lists three (codes "x") ≡ 1) × (line_lists three (codes "z x") ≡ 0)
    × (line_lists three [] ≡ 0)
unfolding golomb unary ones short shorter ceil_log2 gamma parse digits filled found phrase_of sign_of joined_bound posting_bits bits_after last_doc doc_before
    bits_before block_pages lists_bits numbers met_pages whole_pages pages_for list_pages asked_of boolean_bound
lists = (refl, refl, refl, refl)
