-- Bounds of worked rows, computed.
use Rattle.std.proofs.Common.{◌≡◌, ℕ, List, [], ◌∷◌, ◌++◌, refl}
use Rattle.std.specs.Prelude.{codes}
use Rattle.std.specs.List.{repeat}
use Rattle.mg_defs.specs.Sat.{Query, term, both, without}
use Rattle.mg_defs.specs.Codes.{gamma, golomb, unary, ones, short, shorter, ceil_log2}
use Rattle.mg_defs.specs.Parse.{parse}
use Rattle.mg_defs.specs.Bits.{as_bytes, digits, filled}
use Rattle.mg_defs.specs.Lists.{posting_bits, bits_after, last_doc, doc_before, bits_before, block_pages, lists_bits}
use Rattle.mg_defs.specs.CodedText.{TextCode}
use Rattle.mg_defs.specs.Commands.{command, words, dot_of, set_query, set_mode, set_most, set_of, value, is_most}
use Rattle.mg_defs.specs.Read.{boolean, ranked, query_of}
use Rattle.mg_defs.specs.Session.{after_line, asked, ends, heard_questions, questions}
use Rattle.mg_defs.specs.ShownAnswers.{found}
use Rattle.mg_defs.specs.TextBounds.{answer_of, line_text_bound, session_text_bound}
use Rattle.mg_defs.specs.Tokens.{sign_of}
use Rattle.mg_defs.specs.PageBounds.{numbers, met_pages, whole_pages, pages_for, list_pages, leading, asked_of, boolean_bound, ranked_bound}

-- 'y x' and then 200 of one x
abbrev many : List ℕ
many = codes "y x" ++ 2 ∷ repeat 200 (120 ∷ 2 ∷ [])

abbrev y : Query
y = term (codes "y")

abbrev x : Query
x = term (codes "x")

leads : leading (both y (without x)) ≡ codes "y" ∷ []
leads = refl

asks : asked_of many (both y (without x)) ≡ 1 ∷ []
unfolding parse asked_of
asks = refl

-- one page for y, and that of the first block of x; of all four blocks where nothing leads
bounds : (boolean_bound many (both y (without x)) ≡ 2) × (boolean_bound many (without x) ≡ 4) × (ranked_bound many (codes "x" ∷ codes "z" ∷ []) ≡ 4)
unfolding golomb unary ones short shorter ceil_log2 gamma parse digits posting_bits bits_after filled last_doc doc_before bits_before block_pages lists_bits
    numbers met_pages whole_pages pages_for list_pages asked_of boolean_bound ranked_bound
bounds = (refl, refl, refl)

-- ---- pages of Text

-- 'y x', 'x' and 'y'
abbrev three : List ℕ
three = codes "y x" ++ 2 ∷ codes "x" ++ 2 ∷ codes "y" ++ 2 ∷ []

-- each codeword is one bit, so each document is of a byte
abbrev bits : TextCode
bits = record {
  words = record { pieces = codes "x" ∷ codes "y" ∷ []; lengths = 1 ∷ 1 ∷ [] };
  others = record { pieces = [] ∷ codes " " ∷ []; lengths = 1 ∷ 1 ∷ [] };
}

-- a page for each document that a line shows, and none for a line that counts or is refused
texts : session_text_bound bits three (codes "x\n.set mode text\nx\nx & y\n.set maxdocs 1\nx\n(x\n") ≡ 4
unfolding as_bytes golomb unary ones short shorter ceil_log2 gamma parse digits filled command words dot_of set_query set_mode set_most set_of value is_most
    boolean ranked query_of after_line asked ends heard_questions questions found answer_of line_text_bound session_text_bound sign_of
texts = refl
