-- What a session prints.
use Rattle.std.specs.Prelude.{ℕ, nat_lt, if◌then◌else◌, Bool, false, List, [], ◌∷◌, ◌++◌, length}
use Rattle.mg_defs.specs.Limits.{line_bytes}
use Rattle.mg_defs.specs.Lines.{lines, without_return}
use Rattle.mg_defs.specs.Commands.{first_settings, command, command_text, settings_after, stops}
use Rattle.mg_defs.specs.declared.session.Settings.{Settings}
use Rattle.mg_defs.specs.declared.session.Command.{Command}
use Rattle.mg_defs.specs.declared.session.Command.TheVariants.{Skip, Ask, Quit, Wrong, Set}
use Rattle.mg_defs.specs.declared.session.Hearing.{Hearing}
use Rattle.mg_defs.specs.declared.session.Hearing.TheVariants.{Commands, Questions}
use Rattle.mg_defs.specs.Texts.{bad_command, line_too_long}

abbrev pub is_long : List ℕ → Bool
is_long line = nat_lt line_bytes (length line)

-- what the line is, with the settings so far
abbrev pub read : Settings → List ℕ → Command
read now line = command (without_return line) now

-- a line that begins with a full stop is a question too, unless it ends the session
abbrev pub as_question : Command → Command
as_question Skip = Skip
as_question Ask = Ask
as_question Quit = Quit
as_question Wrong = Ask
as_question (Set changed) = Ask

abbrev pub hears : Hearing → Command → Command
hears Commands c = c
hears Questions c = as_question c

-- what a line that is heard so prints, and which settings hold after it
unfoldable pub line_text : Hearing → (Settings → List ℕ → List ℕ) → Settings → List ℕ → List ℕ
line_text hearing reply now line =
    if is_long line then line_too_long else command_text reply bad_command now (without_return line)
    (hears hearing (read now line))

unfoldable pub after_line : Hearing → Settings → List ℕ → Settings
after_line hearing now line = if is_long line then now else settings_after now (hears hearing (read now line))

-- whether a line ends the session, however lines are heard
unfoldable pub ends : Settings → List ℕ → Bool
ends now line = if is_long line then false else stops (read now line)

-- the replies to lines, given the reply to a query line
unfoldable pub replies : Hearing → (Settings → List ℕ → List ℕ) → Settings → List (List ℕ) → List ℕ
replies hearing reply now [] = []
replies hearing reply now (l ∷ ls) = if ends now l then [] else line_text hearing reply now l
    ++ replies hearing reply (after_line hearing now l) ls

unfoldable pub heard_session : Hearing → (Settings → List ℕ → List ℕ) → List ℕ → List ℕ
heard_session hearing reply input = replies hearing reply first_settings (lines input)

abbrev pub session_of : (Settings → List ℕ → List ℕ) → List ℕ → List ℕ
session_of reply input = heard_session Commands reply input

-- ---- the query lines that a session answers

-- a query line, with the settings that hold there
pub record Question : Type 0 where
  pub now : Settings
  pub line : List ℕ

abbrev pub asked_by : Settings → List ℕ → Command → List Question
asked_by now line Skip = []
asked_by now line Ask = record { now = now; line = line } ∷ []
asked_by now line Quit = []
asked_by now line Wrong = []
asked_by now line (Set changed) = []

unfoldable pub asked : Hearing → Settings → List ℕ → List Question
asked hearing now line = if is_long line then [] else asked_by now (without_return line) (hears hearing (read now line))

unfoldable pub questions : Hearing → Settings → List (List ℕ) → List Question
questions hearing now [] = []
questions hearing now (l ∷ ls) = if ends now l then [] else asked hearing now l
    ++ questions hearing (after_line hearing now l) ls

unfoldable pub heard_questions : Hearing → List ℕ → List Question
heard_questions hearing input = questions hearing first_settings (lines input)

abbrev pub questions_of : List ℕ → List Question
questions_of input = heard_questions Commands input
