-- Which words ask for a page.
use Rattle.std.specs.Prelude.{ℕ, Bool, ◌||◌, if◌then◌else◌, List, [], ◌∷◌, codes, Option, Some, None}
use Rattle.std.specs.Str.{bytes_eq}
use Rattle.mg_help.specs.declared.asking.Page.{Page}
use Rattle.mg_help.specs.declared.asking.Page.TheVariants.{Help, Version}

-- the word asks for help
abbrev pub is_help : List ℕ → Bool
is_help word = bytes_eq word (codes "--help") || bytes_eq word (codes "-h") || bytes_eq word (codes "help")

-- the word asks for the version
abbrev pub is_version : List ℕ → Bool
is_version word = bytes_eq word (codes "--version") || bytes_eq word (codes "-V")

-- the page that all words ask for: one word alone asks for one
abbrev pub page_of : List (List ℕ) → Option Page
page_of (word ∷ []) = if is_help word then Some Help else if is_version word then Some Version else None
page_of words = None
