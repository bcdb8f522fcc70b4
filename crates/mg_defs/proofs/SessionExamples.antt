-- Whole sessions, computed.
use Rattle.std.proofs.Common.{◌≡◌, ℕ, List, [], ◌∷◌, ◌++◌, refl}
use Rattle.std.specs.Prelude.{codes, replicate, true, false}
use Rattle.std.specs.Fmt.{digits}
use Rattle.mg_defs.specs.Parse.{parse}
use Rattle.mg_defs.specs.Sat.{term, both, either, without}
use Rattle.mg_defs.specs.Tokens.{sign_of}
use Rattle.mg_defs.specs.Fixed.{lg, isqrt, digits_of, digit, next, root_from}
use Rattle.mg_defs.specs.Weights.{weight_of_term, weight_in_doc, weight, score_of}
use Rattle.mg_defs.specs.Texts.{row, header, close, count, bad_command, line_too_long}
use Rattle.mg_defs.specs.Commands.{first_settings, command, words, dot_of, set_query, set_mode, set_most, set_of, value, is_most}
use Rattle.mg_defs.specs.ShownAnswers.{answer_text, found}
use Rattle.mg_defs.specs.Session.{heard_session, replies, line_text, after_line, ends, asked, questions, heard_questions, questions_of}
use Rattle.mg_defs.specs.InputLimit.{ended_lines, has_quit, is_too_much}
use Rattle.mg_defs.specs.Read.{boolean, ranked, query_of}
use Rattle.mg_defs.specs.Refusals.{reads}
use Rattle.mg_defs.specs.Replies.{refusal, reply, session}

abbrev line : List ℕ → List ℕ
line bytes = bytes ++ 10 ∷ []

abbrev k : List ℕ
k = line (codes "the cat sat") ++ 2 ∷ line (codes "the dog") ++ 2 ∷ line (codes "Cat, cat & dog!") ++ 2 ∷ []

reading : boolean (codes "!(a b | !c) & d | e")
    ≡ reads (either (both (without (either (both (term (codes "a")) (term (codes "b"))) (without (term (codes "c"))))) (term (codes "d"))) (term (codes "e")))
unfolding boolean query_of sign_of
reading = refl

rows : session k (codes "cat & !the\ncat dog | sat\ncat & (dog\ncat ) dog\ncat & | dog\n!zebra\nzebra\n") ≡ codes "3\n= 1\n1\n3\n= 2\n? syntax at 10\n? syntax at 4\n? syntax at 6\n1\n2\n3\n= 3\n= 0\n"
unfolding boolean query_of sign_of refusal reply session heard_session replies line_text after_line ends command words dot_of set_query set_mode set_most set_of
    value is_most answer_text found row count digits parse
rows = refl

ranked_rows : session k (codes ".set query ranked\ncat CAT cat\n.set maxdocs 1\ncat\nzebra\n\n,\n") ≡ codes "3 77451\n1 50002\n= 2\n3 77451\n= 2\n= 0\n= 0\n"
unfolding ranked sign_of refusal reply session heard_session replies line_text after_line ends command words dot_of set_query set_mode set_most set_of value
    is_most answer_text found row count digits parse lg isqrt digits_of digit next root_from weight_of_term weight_in_doc weight score_of
ranked_rows = refl

commands : session k
    (codes "cat\r\n  \n.set  query   ranked\n.set\tquery boolean \t\nsat\n.set maxdocs 0\n.set maxdocs 1048577\n.set maxdocs 00000001\n.cat\n.quit now\n .quit\n.set maxdocs 0000001\ncat\n.set mode count\ncat\n.set mode text\n.set maxdocs all\nsat\n .set mode count\n.quit \ncat\n")
    ≡ codes "1\n3\n= 2\n1\n= 1\n? bad command\n? bad command\n? bad command\n? bad command\n? bad command\n= 0\n1\n= 2\n= 2\n-- 1\nthe cat sat\n" ++ 2 ∷ codes "\n= 1\n= 0\n"
unfolding boolean query_of sign_of refusal reply session heard_session replies line_text after_line ends command words dot_of set_query set_mode set_most set_of
    value is_most answer_text found row header close count bad_command digits parse
commands = refl

returns : session k (codes "cat\r\r\n") ≡ session k (codes "cat\n")
unfolding boolean query_of sign_of refusal reply session heard_session replies line_text after_line ends command words dot_of set_query set_mode set_most set_of
    value is_most answer_text found row count digits parse
returns = refl

-- a line of 1,024 bytes before its end is no line too long, one of 1,025 is, also where its last byte is a carriage return
long_lines : (session [] (replicate 1024 32 ++ codes "\nx\n") ≡ codes "= 0\n")
    × (session [] (replicate 1025 32 ++ codes "\nx\n") ≡ codes "? line too long\n= 0\n") ×
    (session [] (replicate 1024 32 ++ codes "\r\nx\n") ≡ codes "? line too long\n= 0\n")
unfolding boolean query_of sign_of refusal reply session heard_session replies line_text after_line ends command words dot_of set_query set_mode set_most set_of
    value is_most answer_text found row count line_too_long digits parse
long_lines = (refl, refl, refl)

asks : questions_of (codes "cat\n\n.set query ranked\n.x\ndog\n.quit\nox\n") ≡ record { now = first_settings; line = codes "cat" } ∷
    record { now = record first_settings { ranked = true }; line = codes "dog" } ∷ []
unfolding heard_questions questions asked after_line ends command words dot_of set_query set_of
asks = refl

-- up to seven bytes: the seventh ends a line, the last line has no end in them
limits : (is_too_much 7 (codes ".quit\na") ≡ false) × (is_too_much 7 (codes ".quit\nab") ≡ false) × (is_too_much 5 (codes ".quit\nab") ≡ true)
    × (is_too_much 7 (codes "quit\nabc") ≡ true) × (is_too_much 7 (codes "\n.quit") ≡ false) × (is_too_much 6 (codes "\n.quit\n") ≡ true)
unfolding is_too_much has_quit ended_lines ends command words dot_of set_query set_mode set_most set_of value is_most
limits = (refl, refl, refl, refl, refl, refl)
