-- What lines of phrases allow, by their blocks and by their words.
use Rattle.std.proofs.Common.{arith, ◌≡◌, ◌≤◌, ℕ, List, [], ◌∷◌, sum_by, refl, ap}
use Rattle.std.specs.Prelude.{flat_map}
use Rattle.std.proofs.lemmas.List.Sums.{sum_by-append, sum_by-cons, sum_by-le-sum_by}
use Rattle.mg_defs.specs.Lines.{lines}
use Rattle.mg_defs.specs.PageBounds.{boolean_bound, bound_as}
use Rattle.mg_defs.specs.Phrases.{all_of, phrase_of}
use Rattle.mg_defs.specs.PlainSession.{plain_questions}
use Rattle.mg_defs.specs.QueryTerms.{query_terms}
use Rattle.mg_defs.specs.Refusals.{Reading, reads, refused}
use Rattle.mg_defs.specs.Sat.{Query}
use Rattle.mg_bool.specs.Matches.{query_bound}
use Rattle.mg_bool.specs.Places.{term_entries}
use Rattle.mg_post.specs.PagesOnce.{span_pages}
use Rattle.mg_session.specs.PagesAllowed.{allowed_as, terms_as}
use Rattle.mg_session.specs.PhraseAnswers.{joined_bound, line_lists}
use Rattle.mg_session.specs.PhrasesAllowed.{phrase_allows, phrase_line_allows, phrase_terms, phrases_allow, phrases_terms}
use Rattle.mg_session.proofs.PhraseWalkLaws.{joined-terms}

-- the sum over the words of some lines is that of the sums over the words of each
words_sum : (f : List ℕ → ℕ) (ls : List (List ℕ)) → sum_by f (flat_map phrase_terms ls) ≡ sum_by (λ line. sum_by f (phrase_terms line)) ls
words_sum f [] = refl
words_sum f (line ∷ ls) = omega (
  arith,
  sum_by-append f (phrase_terms line) (flat_map phrase_terms ls),
  sum_by-cons (λ l. sum_by f (phrase_terms l)) line ls,
  words_sum f ls,
)

-- ---- by the blocks

module _ (law : (collection : List ℕ) (q : Query) → query_bound collection q ≤ boolean_bound collection q) (collection : List ℕ) where
  phrase_blocks : (phrase : List (List ℕ)) → (phrase_allows collection phrase).post ≤ joined_bound collection phrase
  unfolding joined_bound
  phrase_blocks [] = omega arith
  phrase_blocks (t ∷ us) = law collection (all_of t us)

  read_blocks : (r : Reading (List (List ℕ))) → (allowed_as (phrase_allows collection) r).post ≤ bound_as (joined_bound collection) r
  read_blocks (reads phrase) = phrase_blocks phrase
  read_blocks (refused why) = omega arith

  line_blocks : (line : List ℕ) → (phrase_line_allows collection line).post ≤ line_lists collection line
  unfolding phrase_line_allows
  line_blocks line = read_blocks (phrase_of line)

  pub phrases_blocks : (given : List ℕ) → (phrases_allow collection given).post ≤ sum_by (line_lists collection) (plain_questions (lines given))
  unfolding phrases_allow
  phrases_blocks given = sum_by-le-sum_by (λ line. (phrase_line_allows collection line).post) (line_lists collection) (plain_questions (lines given)) line_blocks

-- ---- by the words

module _ (law : (collection : List ℕ) (q : Query) → query_bound collection q ≤ sum_by (span_pages collection) (query_terms q)) (collection : List ℕ) where
  phrase_spans : (phrase : List (List ℕ)) → (phrase_allows collection phrase).post ≤ sum_by (span_pages collection) phrase
  phrase_spans [] = omega arith
  phrase_spans (t ∷ us) = omega (arith, law collection (all_of t us), ap (sum_by (span_pages collection)) (joined-terms t us))

  read_spans : (r : Reading (List (List ℕ))) → (allowed_as (phrase_allows collection) r).post ≤ sum_by (span_pages collection) (terms_as (λ ts. ts) r)
  read_spans (reads phrase) = phrase_spans phrase
  read_spans (refused why) = omega arith

  line_spans : (line : List ℕ) → (phrase_line_allows collection line).post ≤ sum_by (span_pages collection) (phrase_terms line)
  unfolding phrase_line_allows phrase_terms
  line_spans line = read_spans (phrase_of line)

  pub phrases_spans : (given : List ℕ) → (phrases_allow collection given).post ≤ sum_by (span_pages collection) (phrases_terms given)
  unfolding phrases_allow phrases_terms
  phrases_spans given = omega (
    arith,
    sum_by-le-sum_by (λ line. (phrase_line_allows collection line).post) (λ line. sum_by (span_pages collection) (phrase_terms line)) (plain_questions (lines given)) line_spans,
    words_sum (span_pages collection) (plain_questions (lines given)),
  )

-- ---- the entries, and the weights

phrase_entries : (collection : List ℕ) (phrase : List (List ℕ)) → (phrase_allows collection phrase).skip ≡ sum_by (term_entries collection) phrase
phrase_entries collection [] = refl
phrase_entries collection (t ∷ us) = ap (sum_by (term_entries collection)) (joined-terms t us)

read_entries : (collection : List ℕ) (r : Reading (List (List ℕ))) → (allowed_as (phrase_allows collection) r).skip ≡ sum_by (term_entries collection) (terms_as (λ ts. ts) r)
read_entries collection (reads phrase) = phrase_entries collection phrase
read_entries collection (refused why) = refl

lines_entries : (collection : List ℕ) (ls : List (List ℕ)) → sum_by (λ line. (phrase_line_allows collection line).skip) ls ≡ sum_by (term_entries collection) (flat_map phrase_terms ls)
unfolding phrase_line_allows phrase_terms
lines_entries collection [] = refl
lines_entries collection (line ∷ ls) = omega (
  arith,
  sum_by-cons (λ l. (phrase_line_allows collection l).skip) line ls,
  sum_by-append (term_entries collection) (phrase_terms line) (flat_map phrase_terms ls),
  read_entries collection (phrase_of line),
  lines_entries collection ls,
)

pub phrases_entries : (collection given : List ℕ) → (phrases_allow collection given).skip ≡ sum_by (term_entries collection) (phrases_terms given)
unfolding phrases_allow phrases_terms
phrases_entries collection given = lines_entries collection (plain_questions (lines given))

phrase_weights : (collection : List ℕ) (phrase : List (List ℕ)) → (phrase_allows collection phrase).weights ≡ 0
phrase_weights collection [] = refl
phrase_weights collection (t ∷ us) = refl

read_weights : (collection : List ℕ) (r : Reading (List (List ℕ))) → (allowed_as (phrase_allows collection) r).weights ≡ 0
read_weights collection (reads phrase) = phrase_weights collection phrase
read_weights collection (refused why) = refl

lines_weights : (collection : List ℕ) (ls : List (List ℕ)) → sum_by (λ line. (phrase_line_allows collection line).weights) ls ≡ 0
unfolding phrase_line_allows
lines_weights collection [] = refl
lines_weights collection (line ∷ ls) = omega (
  arith,
  sum_by-cons (λ l. (phrase_line_allows collection l).weights) line ls,
  read_weights collection (phrase_of line),
  lines_weights collection ls,
)

pub phrases_weights : (collection given : List ℕ) → (phrases_allow collection given).weights ≡ 0
unfolding phrases_allow
phrases_weights collection given = lines_weights collection (plain_questions (lines given))
