-- What a line of a session is.
use Rattle.std.specs.Prelude.{ℕ, ◌+◌, ◌-◌, ◌*◌, nat_le, Bool, true, false, not, ◌==◌, ◌&&◌, ◌||◌, if◌then◌else◌, List, [], ◌∷◌, length, codes, Some, None}
use Rattle.std.specs.List.{list_all, onto_first}
use Rattle.mg_defs.specs.Limits.{shown_documents, shown_digits}
use Rattle.mg_defs.specs.Terms.{same_term}
use Rattle.mg_defs.specs.declared.session.Mode.TheVariants.{Docnums, Text, Count}
use Rattle.mg_defs.specs.declared.session.Settings.{Settings}
use Rattle.mg_defs.specs.declared.session.Command.{Command}
use Rattle.mg_defs.specs.declared.session.Command.TheVariants.{Skip, Ask, Quit, Wrong, Set}

abbrev pub first_settings : Settings
first_settings = record { ranked = false; mode = Docnums; most = None }

abbrev pub is_blank : ℕ → Bool
is_blank b = b == 32 || b == 9

-- a byte of a word of a line
abbrev pub is_word : ℕ → Bool
is_word b = not (is_blank b)

-- the longest runs of bytes that are no blanks
abbrev pub begin_word : Bool → ℕ → List (List ℕ) → List (List ℕ)
begin_word true b words = (b ∷ []) ∷ words
begin_word false b words = onto_first b words

abbrev pub begins_blank : List ℕ → Bool
begins_blank [] = true
begins_blank (b ∷ line) = is_blank b

unfoldable pub words : List ℕ → List (List ℕ)
words [] = []
words (b ∷ line) = if is_blank b then words line else begin_word (begins_blank line) b (words line)

unfoldable pub value : ℕ → List ℕ → ℕ
value so_far [] = so_far
value so_far (d ∷ digits) = value (10 * so_far + (d - 48)) digits

abbrev pub is_digit : ℕ → Bool
is_digit b = nat_le 48 b && nat_le b 57

-- digits, not too many of them, of a number from 1 on that is not too large
unfoldable pub is_most : List ℕ → Bool
is_most word = list_all is_digit word && nat_le (length word) shown_digits && nat_le 1 (value 0 word)
    && nat_le (value 0 word) shown_documents

unfoldable pub set_query : List ℕ → Settings → Command
set_query word now = if same_term word (codes "boolean") then Set (record now { ranked = false })
    else (if same_term word (codes "ranked") then Set (record now { ranked = true }) else Wrong)

unfoldable pub set_mode : List ℕ → Settings → Command
set_mode word now = if same_term word (codes "docnums") then Set (record now { mode = Docnums })
    else (if same_term word (codes "text") then Set (record now { mode = Text })
    else (if same_term word (codes "count") then Set (record now { mode = Count }) else Wrong))

unfoldable pub set_most : List ℕ → Settings → Command
set_most word now = if same_term word (codes "all") then Set (record now { most = None })
    else (if is_most word then Set (record now { most = Some (value 0 word) }) else Wrong)

unfoldable pub set_of : List ℕ → List ℕ → Settings → Command
set_of name word now = if same_term name (codes "query") then set_query word now
    else (if same_term name (codes "mode") then set_mode word now
    else (if same_term name (codes "maxdocs") then set_most word now else Wrong))

unfoldable pub dot_of : List (List ℕ) → Settings → Command
dot_of (w ∷ []) now = if same_term w (codes ".quit") then Quit else Wrong
dot_of (w ∷ name ∷ v ∷ []) now = if same_term w (codes ".set") then set_of name v now else Wrong
dot_of _ now = Wrong

abbrev pub begins_with_stop : List ℕ → Bool
begins_with_stop [] = false
begins_with_stop (b ∷ line) = b == 46

unfoldable pub command : List ℕ → Settings → Command
command line now = if begins_with_stop line then dot_of (words line) now
    else (if list_all is_blank line then Skip else Ask)

-- ---- what a command prints, which settings hold after it, and whether it ends the session

abbrev pub command_text : (Settings → List ℕ → List ℕ) → List ℕ → Settings → List ℕ → Command → List ℕ
command_text reply wrong now line Skip = []
command_text reply wrong now line Ask = reply now line
command_text reply wrong now line Quit = []
command_text reply wrong now line Wrong = wrong
command_text reply wrong now line (Set changed) = []

abbrev pub settings_after : Settings → Command → Settings
settings_after now Skip = now
settings_after now Ask = now
settings_after now Quit = now
settings_after now Wrong = now
settings_after now (Set changed) = changed

abbrev pub stops : Command → Bool
stops Skip = false
stops Ask = false
stops Quit = true
stops Wrong = false
stops (Set changed) = false
