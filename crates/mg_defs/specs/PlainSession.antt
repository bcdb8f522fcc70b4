-- A session in which each line is a question: it has no commands but the one that ends it.
use Rattle.std.specs.Prelude.{ℕ, Bool, if◌then◌else◌, List, [], ◌∷◌, ◌++◌}
use Rattle.std.specs.List.{list_all}
use Rattle.mg_defs.specs.Commands.{is_blank}
use Rattle.mg_defs.specs.InputLimit.{is_quit}
use Rattle.mg_defs.specs.Lines.{lines, without_return}
use Rattle.mg_defs.specs.Session.{is_long}
use Rattle.mg_defs.specs.Texts.{line_too_long}

-- a line of blanks alone
abbrev pub says_nothing : List ℕ → Bool
says_nothing line = list_all is_blank line

-- what a line prints, given the reply to a question
unfoldable pub plain_text : (List ℕ → List ℕ) → List ℕ → List ℕ
plain_text reply line = if is_long line then line_too_long
    else (if says_nothing (without_return line) then [] else reply (without_return line))

unfoldable pub plain_replies : (List ℕ → List ℕ) → List (List ℕ) → List ℕ
plain_replies reply [] = []
plain_replies reply (l ∷ ls) = if is_quit l then [] else plain_text reply l ++ plain_replies reply ls

unfoldable pub plain_session : (List ℕ → List ℕ) → List ℕ → List ℕ
plain_session reply input = plain_replies reply (lines input)

-- the questions that it answers
unfoldable pub asked_plainly : List ℕ → List (List ℕ)
asked_plainly line = if is_long line then []
    else (if says_nothing (without_return line) then [] else without_return line ∷ [])

unfoldable pub plain_questions : List (List ℕ) → List (List ℕ)
plain_questions [] = []
plain_questions (l ∷ ls) = if is_quit l then [] else asked_plainly l ++ plain_questions ls
