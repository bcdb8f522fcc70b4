-- How many pages of Post, Skip and Weights the lines of a session of phrases may read.
use Rattle.std.specs.Prelude.{List, [], ◌∷◌, ℕ, flat_map}
use Rattle.mg_defs.specs.Lines.{lines}
use Rattle.mg_defs.specs.Phrases.{all_of, phrase_of}
use Rattle.mg_defs.specs.PlainSession.{plain_questions}
use Rattle.mg_session.specs.PagesAllowed.{PartPages, allowed_as, none_allowed, query_allows, sum_allows, terms_as}

-- what a phrase of these words allows: what their conjunction does; none where it has no words
abbrev pub phrase_allows : List ℕ → List (List ℕ) → PartPages
phrase_allows collection [] = none_allowed
phrase_allows collection (t ∷ us) = query_allows collection (all_of t us)

-- a line; none where it is refused
unfoldable pub phrase_line_allows : List ℕ → List ℕ → PartPages
phrase_line_allows collection line = allowed_as (phrase_allows collection) (phrase_of line)

-- all lines of an input
unfoldable pub phrases_allow : List ℕ → List ℕ → PartPages
phrases_allow collection input = sum_allows (phrase_line_allows collection) (plain_questions (lines input))

-- the words of the phrases of an input, each as often as it stands there
unfoldable pub phrase_terms : List ℕ → List (List ℕ)
phrase_terms line = terms_as (λ ts. ts) (phrase_of line)

unfoldable pub phrases_terms : List ℕ → List (List ℕ)
phrases_terms input = flat_map phrase_terms (plain_questions (lines input))
