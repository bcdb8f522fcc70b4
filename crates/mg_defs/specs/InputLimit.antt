-- How much of an input a session reads.
use Rattle.std.specs.Prelude.{◌≡◌, ℕ, nat_lt, Bool, not, ◌==◌, ◌&&◌, List, [], ◌++◌, length, take, count_by, IsTrue, ◌⊎◌}
use Rattle.std.specs.List.{list_any}
use Rattle.mg_defs.specs.Lines.{lines}
use Rattle.mg_defs.specs.Commands.{first_settings}
use Rattle.mg_defs.specs.Session.{ends}

-- the lines that have their end
unfoldable pub ended_lines : List ℕ → List (List ℕ)
ended_lines bytes = take (count_by (λ b. b == 10) bytes) (lines bytes)

-- a line that ends the session; no setting changes that
abbrev pub is_quit : List ℕ → Bool
is_quit line = ends first_settings line

-- whether a line that ends the session ends in these bytes
unfoldable pub has_quit : List ℕ → Bool
has_quit bytes = list_any is_quit (ended_lines bytes)

-- more bytes than the limit, and no line that ends the session ends within it
unfoldable pub is_too_much : ℕ → List ℕ → Bool
is_too_much limit input = nat_lt limit (length input) && not (has_quit (take limit input))

-- What was taken from an input, and what is left of it: nothing, or a line that ends the session was taken.
pub record IsReadEnough (input rest : List ℕ) : Type 0 where
  pub taken : List ℕ
  pub whole : input ≡ taken ++ rest
  pub enough : (rest ≡ []) ⊎ IsTrue (has_quit taken)
