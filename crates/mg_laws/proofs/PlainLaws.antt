-- A session without commands is one whose commands are questions.
use Rattle.std.proofs.Common.{◌≡◌, ℕ, ◌≤◌, Bool, true, false, cond, List, [], ◌∷◌, length, map, refl, sym, ◌∙◌, inl, inr}
use Rattle.std.specs.Prelude.{if◌then◌else◌, codes}
use Rattle.std.proofs.lemmas.Bool.{cases_Bool, false≢true, le-ltb, ltb-false, eqb-true}
use Rattle.std.proofs.lemmas.List.{map-append}
use Rattle.mg_defs.specs.Terms.{same_term}
use Rattle.mg_defs.specs.Lines.{lines, without_return}
use Rattle.mg_defs.specs.Commands.{first_settings, command, dot_of, set_of, set_query, set_mode, set_most, is_most, words, begins_with_stop, stops, command_text, settings_after}
use Rattle.mg_defs.specs.Session.{as_question, read, is_long, line_text, after_line, replies, heard_session, asked, asked_by, questions, heard_questions, Question}
use Rattle.mg_defs.specs.declared.session.Hearing.TheVariants.{Questions}
use Rattle.mg_defs.specs.InputLimit.{is_quit}
use Rattle.mg_defs.specs.Texts.{bad_command}
use Rattle.mg_defs.specs.PlainSession.{plain_text, plain_replies, plain_session, asked_plainly, plain_questions, says_nothing}
use Rattle.mg_defs.specs.declared.session.Settings.{Settings}
use Rattle.mg_defs.specs.declared.session.Command.{Command}
use Rattle.mg_defs.specs.declared.session.Command.TheVariants.{Skip, Ask, Quit, Wrong, Set}
use Rattle.mg_defs.proofs.SessionLaws.{ends_short}

-- it ends the session, or is heard as a question
abbrev asks : Command → Bool
asks Skip = false
asks Ask = true
asks Quit = true
asks Wrong = true
asks (Set changed) = true

one_of : (b : Bool) (x y : Command) → asks x ≡ true → asks y ≡ true → asks (if b then x else y) ≡ true
one_of true x y hx hy = hx
one_of false x y hx hy = hy

query_asks : (word : List ℕ) (now : Settings) → asks (set_query word now) ≡ true
unfolding set_query
query_asks word now = one_of (same_term word (codes "boolean")) _ _ refl (one_of (same_term word (codes "ranked")) _ _ refl refl)

mode_asks : (word : List ℕ) (now : Settings) → asks (set_mode word now) ≡ true
unfolding set_mode
mode_asks word now = one_of (same_term word (codes "docnums")) _ _ refl (one_of (same_term word (codes "text")) _ _ refl (one_of (same_term word (codes "count")) _ _ refl refl))

most_asks : (word : List ℕ) (now : Settings) → asks (set_most word now) ≡ true
unfolding set_most
most_asks word now = one_of (same_term word (codes "all")) _ _ refl (one_of (is_most word) _ _ refl refl)

set_asks : (name word : List ℕ) (now : Settings) → asks (set_of name word now) ≡ true
unfolding set_of
set_asks name word now =
    one_of (same_term name (codes "query")) _ _ (query_asks word now)
    (one_of (same_term name (codes "mode")) _ _ (mode_asks word now)
    (one_of (same_term name (codes "maxdocs")) _ _ (most_asks word now) refl))

dot_asks : (ws : List (List ℕ)) (now : Settings) → asks (dot_of ws now) ≡ true
unfolding dot_of
dot_asks [] now = refl
dot_asks (w ∷ []) now = one_of (same_term w (codes ".quit")) Quit Wrong refl refl
dot_asks (w ∷ name ∷ []) now = refl
dot_asks (w ∷ name ∷ v ∷ []) now = one_of (same_term w (codes ".set")) _ _ (set_asks name v now) refl
dot_asks (w ∷ name ∷ v ∷ x ∷ ws) now = refl

text_asked : (reply : List ℕ → List ℕ) (line : List ℕ) (c : Command) → asks c ≡ true → stops c ≡ false → reply line ≡ command_text (λ now. reply) bad_command first_settings line (as_question c)
text_asked reply line Skip a s = absurd (false≢true a)
text_asked reply line Ask a s = refl
text_asked reply line Quit a s = absurd (false≢true (sym s))
text_asked reply line Wrong a s = refl
text_asked reply line (Set changed) a s = refl

stop_says : (line : List ℕ) → begins_with_stop line ≡ true → says_nothing line ≡ false
stop_says [] h = absurd (false≢true h)
stop_says (b ∷ line) h = rw (eqb-true b 46 h) refl

abbrev heard : (List ℕ → List ℕ) → List ℕ → Command → List ℕ
heard reply line c = command_text (λ now. reply) bad_command first_settings line (as_question c)

text_of_line : (reply : List ℕ → List ℕ) (line : List ℕ) → stops (command line first_settings) ≡ false → cond (says_nothing line) [] (reply line) ≡ heard reply line (command line first_settings)
unfolding command
text_of_line reply line goes =
    elim (cases_Bool (begins_with_stop line)) [
      | inl is ↦ let goes2 = rw is at goes in rw (is, stop_says line is) (text_asked reply line (dot_of (words line) first_settings) (dot_asks (words line) first_settings) goes2)
      | inr isnt ↦ elim (cases_Bool (says_nothing line)) [ inl nothing ↦ rw (isnt, nothing) refl | inr some ↦ rw (isnt, some) refl ]
    ]

-- a line of at most 1,024 bytes that does not end the session prints what it prints as a question
pub plain_line : (reply : List ℕ → List ℕ) (line : List ℕ) → length line ≤ 1024 → is_quit line ≡ false → plain_text reply line ≡ heard reply (without_return line) (read first_settings line)
unfolding plain_text
plain_line reply line short goes = rw (le-ltb 1024 (length line) short) (text_of_line reply (without_return line) (sym (ends_short first_settings line short) ∙ goes))

-- ---- the session

-- a question changes no settings
keeps : (now : Settings) (c : Command) → settings_after now (as_question c) ≡ now
keeps now Skip = refl
keeps now Ask = refl
keeps now Quit = refl
keeps now Wrong = refl
keeps now (Set changed) = refl

same_after : (line : List ℕ) → after_line Questions first_settings line ≡ first_settings
unfolding after_line
same_after line = elim (cases_Bool (is_long line)) [ inl long ↦ rw long refl | inr short ↦ rw short (keeps first_settings (read first_settings line)) ]

same_text : (reply : List ℕ → List ℕ) (line : List ℕ) → is_quit line ≡ false → plain_text reply line ≡ line_text Questions (λ now. reply) first_settings line
unfolding plain_text line_text
same_text reply line goes =
    elim (cases_Bool (is_long line)) [
      | inl long ↦ rw long refl
      | inr short ↦ rw short (text_of_line reply (without_return line) (sym (ends_short first_settings line (ltb-false 1024 (length line) short)) ∙ goes))
    ]

replies_heard : (reply : List ℕ → List ℕ) (ls : List (List ℕ)) → plain_replies reply ls ≡ replies Questions (λ now. reply) first_settings ls
unfolding plain_replies replies
replies_heard reply [] = refl
replies_heard reply (l ∷ ls) =
    elim (cases_Bool (is_quit l)) [
      | inl quits ↦ rw quits refl
      | inr goes ↦ rw (goes, same_text reply l goes, same_after l, replies_heard reply ls) refl
    ]

pub plain_heard : (reply : List ℕ → List ℕ) (input : List ℕ) → plain_session reply input ≡ heard_session Questions (λ now. reply) input
unfolding plain_session heard_session
plain_heard reply input = replies_heard reply (lines input)

-- ---- its questions

abbrev line_of : Question → List ℕ
line_of q = q.line

asked_as : (line : List ℕ) (c : Command) → asks c ≡ true → stops c ≡ false → line ∷ [] ≡ map line_of (asked_by first_settings line (as_question c))
asked_as line Skip a s = absurd (false≢true a)
asked_as line Ask a s = refl
asked_as line Quit a s = absurd (false≢true (sym s))
asked_as line Wrong a s = refl
asked_as line (Set changed) a s = refl

asked_of_line : (line : List ℕ) → stops (command line first_settings) ≡ false → cond (says_nothing line) [] (line ∷ [])
    ≡ map line_of (asked_by first_settings line (as_question (command line first_settings)))
unfolding command
asked_of_line line goes =
    elim (cases_Bool (begins_with_stop line)) [
      | inl is ↦ let goes2 = rw is at goes in rw (is, stop_says line is) (asked_as line (dot_of (words line) first_settings) (dot_asks (words line) first_settings) goes2)
      | inr isnt ↦ elim (cases_Bool (says_nothing line)) [ inl nothing ↦ rw (isnt, nothing) refl | inr some ↦ rw (isnt, some) refl ]
    ]

same_asked : (line : List ℕ) → is_quit line ≡ false → asked_plainly line ≡ map line_of (asked Questions first_settings line)
unfolding asked_plainly asked
same_asked line goes =
    elim (cases_Bool (is_long line)) [
      | inl long ↦ rw long refl
      | inr short ↦ rw short (asked_of_line (without_return line) (sym (ends_short first_settings line (ltb-false 1024 (length line) short)) ∙ goes))
    ]

asked_heard : (ls : List (List ℕ)) → plain_questions ls ≡ map line_of (questions Questions first_settings ls)
unfolding plain_questions questions
asked_heard [] = refl
asked_heard (l ∷ ls) =
    elim (cases_Bool (is_quit l)) [
      | inl quits ↦ rw quits refl
      | inr goes ↦ rw (goes, same_asked l goes, same_after l, asked_heard ls) (sym (map-append line_of (asked Questions first_settings l) (questions Questions first_settings ls)))
    ]

pub questions_heard : (input : List ℕ) → plain_questions (lines input) ≡ map line_of (heard_questions Questions input)
unfolding heard_questions
questions_heard input = asked_heard (lines input)
