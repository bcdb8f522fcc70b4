-- What worked lines allow, computed.
use Rattle.std.proofs.Common.{◌≡◌, ℕ, List, [], ◌∷◌, ◌++◌, refl}
use Rattle.std.specs.Prelude.{codes}
use Rattle.std.specs.List.{repeat}
use Rattle.mg_defs.specs.Bits.{digits, filled}
use Rattle.mg_defs.specs.Codes.{gamma, golomb, unary, ones, short, shorter, ceil_log2}
use Rattle.mg_defs.specs.Commands.{command, words, dot_of, set_query, set_mode, set_most, set_of, value, is_most}
use Rattle.mg_defs.specs.Lists.{posting_bits, bits_after, last_doc, doc_before, bits_before, block_pages, lists_bits, lists_entries, entries_to}
use Rattle.mg_defs.specs.PageBounds.{numbers, met_pages, whole_pages, pages_for, list_pages, asked_of, boolean_bound, line_bound, ranked_bound, session_bound}
use Rattle.mg_defs.specs.Parse.{parse}
use Rattle.mg_defs.specs.Patterns.{pattern_of, without_end_blanks}
use Rattle.mg_defs.specs.Read.{boolean, ranked, query_of}
use Rattle.mg_defs.specs.Session.{after_line, asked, ends, heard_questions, questions}
use Rattle.mg_defs.specs.Phrases.{phrase_of}
use Rattle.mg_defs.specs.PlainSession.{asked_plainly, plain_questions}
use Rattle.mg_defs.specs.Tokens.{sign_of}
use Rattle.mg_bool.specs.Matches.{query_bound}
use Rattle.mg_bool.specs.Places.{place_bound, term_entries}
use Rattle.mg_session.specs.PagesAllowed.{line_allows, session_allows}
use Rattle.mg_session.specs.PhraseAnswers.{joined_bound, line_lists}
use Rattle.mg_session.specs.PhrasesAllowed.{phrase_line_allows, phrases_allow}
use Rattle.mg_session.specs.WildAnswers.{pattern_blocks, pattern_pages, patterns_pages, wild_blocks}

-- 'y x' and then 200 of one x
abbrev many : List ℕ
many = codes "y x" ++ 2 ∷ repeat 200 (120 ∷ 2 ∷ [])

-- of Boolean lines one page of Post and one of Skip for each term that some document has; of ranked ones the same, and one of
-- Weights for each term, unless only the count is shown
allows : session_allows many (codes "!x\ny & !x\n.set query ranked\nx z\n.set mode count\nx z\n(\n") ≡ record { post = 5; skip = 5; weights = 2 }
unfolding golomb unary ones short shorter ceil_log2 gamma parse digits filled command words dot_of set_query set_mode set_most set_of value is_most
    boolean ranked query_of after_line asked ends heard_questions questions sign_of posting_bits bits_after last_doc doc_before bits_before block_pages
    lists_bits lists_entries entries_to numbers met_pages pages_for asked_of query_bound place_bound term_entries line_allows session_allows
allows = refl

-- the bound by blocks of the same lines: x has four
blocks : session_bound many (codes "!x\ny & !x\n.set query ranked\nx z\n.set mode count\nx z\n(\n") ≡ 14
unfolding golomb unary ones short shorter ceil_log2 gamma parse digits filled command words dot_of set_query set_mode set_most set_of value is_most
    boolean ranked query_of after_line asked ends heard_questions questions sign_of posting_bits bits_after last_doc doc_before bits_before block_pages
    lists_bits numbers met_pages whole_pages pages_for list_pages asked_of boolean_bound line_bound ranked_bound session_bound
blocks = refl

-- ---- phrases

-- one page of Skip for each word that some document has, and where each word of a line is such a one, one of Post
phrases : phrases_allow many (codes "x\ny x\nx z\n(\n") ≡ record { post = 3; skip = 4; weights = 0 }
unfolding golomb unary ones short shorter ceil_log2 gamma parse digits filled sign_of phrase_of posting_bits bits_after last_doc doc_before bits_before block_pages
    lists_bits lists_entries entries_to numbers met_pages pages_for asked_of query_bound place_bound term_entries phrase_line_allows phrases_allow plain_questions asked_plainly
    ends command words dot_of set_query set_mode set_most set_of value is_most
phrases = refl

-- the bounds by blocks of the first two: x has four
phrase_blocks : (line_lists many (codes "x") ≡ 4) × (line_lists many (codes "y x") ≡ 2)
unfolding golomb unary ones short shorter ceil_log2 gamma parse digits filled sign_of phrase_of posting_bits bits_after last_doc doc_before bits_before block_pages
    lists_bits numbers met_pages whole_pages pages_for list_pages asked_of boolean_bound joined_bound
phrase_blocks = (refl, refl)

-- ---- patterns

-- one page of Post for the list of each term that matches
patterns : patterns_pages many (codes "x*\n*\nz*\n(\n") ≡ 3
unfolding golomb unary ones short shorter ceil_log2 gamma parse digits filled pattern_of without_end_blanks posting_bits bits_after last_doc doc_before bits_before
    lists_bits pattern_pages patterns_pages plain_questions asked_plainly
    ends command words dot_of set_query set_mode set_most set_of value is_most
patterns = refl

-- those of the lists' blocks of the first two
pattern_by_blocks : (wild_blocks many (codes "x*") ≡ 4) × (wild_blocks many (codes "*") ≡ 5)
unfolding golomb unary ones short shorter ceil_log2 gamma parse digits filled pattern_of without_end_blanks posting_bits bits_after last_doc doc_before bits_before block_pages
    lists_bits numbers whole_pages list_pages ranked_bound pattern_blocks
pattern_by_blocks = (refl, refl)
