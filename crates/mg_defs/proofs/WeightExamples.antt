-- The worked rows, computed.
use Rattle.std.proofs.Common.{◌≡◌, ℕ, List, [], ◌∷◌, ◌++◌, length, refl, ◌^◌, ◌-◌}
use Rattle.std.specs.Prelude.{codes}
use Rattle.mg_defs.specs.Parse.{parse}
use Rattle.mg_defs.specs.Sat.{term}
use Rattle.mg_defs.specs.Terms.{document}
use Rattle.mg_defs.specs.Fixed.{lg, isqrt, digits_of, digit, next, root_from}
use Rattle.mg_defs.specs.Weights.{weight_of_term, weight_in_doc, weight, score_of, wt, wd, hits, by_score}
use Rattle.mg_defs.specs.Texts.{row, header, close, count, bad_command}
use Rattle.mg_defs.specs.Commands.{first_settings, command, words, dot_of, set_query, set_mode, set_most, set_of, value, is_most}
use Rattle.mg_defs.specs.declared.session.Mode.TheVariants.{Text}
use Rattle.mg_defs.specs.declared.session.Settings.{Settings}
use Rattle.mg_defs.specs.ShownAnswers.{answer_text, satisfying, ranking, found}
use Rattle.mg_defs.specs.Session.{session_of, heard_session, replies, line_text, after_line, ends}
use Rattle.std.specs.Fmt.{digits}

lg_rows : (lg 1 ≡ 0) × (lg 2 ≡ 256) × (lg 3 ≡ 405) × (lg 10 ≡ 850) × (lg 163840 ≡ 4434) × (lg (2 ^ 64 - 1) ≡ 16383)
unfolding lg digits_of digit next
lg_rows = (refl, refl, refl, refl, refl, refl)

root_rows : (isqrt 0 ≡ 0) × (isqrt 196608 ≡ 443) × (isqrt (2 ^ 64 - 1) ≡ 4294967295)
unfolding isqrt root_from
root_rows = (refl, refl, refl)

abbrev line : List ℕ → List ℕ
line bytes = bytes ++ 10 ∷ []

-- three documents, all closed
abbrev k : List ℕ
k = line (codes "the cat sat") ++ 2 ∷ line (codes "the dog") ++ 2 ∷ line (codes "Cat, cat & dog!") ++ 2 ∷ []

k_weights : (wt k (codes "cat") ≡ 338) × (wd (document k 3) (codes "cat") ≡ 512) × (weight (document k 3) ≡ 572) × (weight (document k 1) ≡ 443) × (weight (document k 2) ≡ 362)
unfolding parse weight_of_term weight_in_doc weight lg digits_of digit next isqrt root_from
k_weights = (refl, refl, refl, refl, refl)

k_top : (by_score (hits k (codes "cat" ∷ [])) ≡ record { number = 3; score = 77451 } ∷ record { number = 1; score = 50002 } ∷ []) × (length (hits k (codes "cat" ∷ [])) ≡ 2)
unfolding parse weight_of_term weight_in_doc weight lg digits_of digit next isqrt root_from score_of
k_top = (refl, refl)

-- a term counts once
k_twice : hits k (codes "cat" ∷ codes "cat" ∷ []) ≡ hits k (codes "cat" ∷ [])
unfolding parse weight_of_term weight_in_doc weight lg digits_of digit next isqrt root_from score_of
k_twice = refl

k_ranked : answer_text k first_settings (ranking k (codes "cat" ∷ [])) ≡ codes "3 77451\n1 50002\n= 2\n"
unfolding parse weight_of_term weight_in_doc weight lg digits_of digit next isqrt root_from score_of answer_text row count digits
k_ranked = refl

k_shown : answer_text k (record first_settings { mode = Text }) (satisfying k (term (codes "sat"))) ≡ codes "-- 1\nthe cat sat\n" ++ 2 ∷ codes "\n= 1\n"
unfolding parse found answer_text row header close count digits
k_shown = refl

-- a session whose query lines are single words
abbrev word_reply : Settings → List ℕ → List ℕ
word_reply now w = answer_text k now (satisfying k (term w))

k_session : session_of word_reply (codes "cat\r\n  \n.set  mode\tcount\ncat\n.set maxdocs 0\n.quit \ncat\n") ≡ codes "1\n3\n= 2\n= 2\n? bad command\n"
unfolding parse found answer_text row count digits bad_command heard_session replies line_text after_line ends command words dot_of set_query set_mode set_most set_of value is_most
k_session = refl
