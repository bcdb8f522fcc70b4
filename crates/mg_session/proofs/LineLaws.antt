-- What query lines allow, by their blocks and by their terms.
use Rattle.std.proofs.Common.{arith, ◌≡◌, ◌≤◌, ℕ, Bool, true, false, List, [], ◌∷◌, sum_by, refl}
use Rattle.std.specs.Prelude.{flat_map}
use Rattle.std.proofs.lemmas.List.Sums.{sum_by-append, sum_by-cons, sum_by-le-sum_by}
use Rattle.mg_defs.specs.PageBounds.{boolean_bound, bound_as, bound_by, line_bound, list_pages, ranked_bound, session_bound}
use Rattle.mg_defs.specs.QueryTerms.{query_terms}
use Rattle.mg_defs.specs.Read.{boolean, ranked}
use Rattle.mg_defs.specs.Refusals.{Reading, reads, refused}
use Rattle.mg_defs.specs.Sat.{Query}
use Rattle.mg_defs.specs.Session.{Question, questions_of}
use Rattle.mg_defs.specs.declared.session.Settings.{Settings}
use Rattle.mg_bool.specs.Matches.{query_bound}
use Rattle.mg_bool.specs.Places.{term_entries}
use Rattle.mg_post.specs.PagesOnce.{span_pages}
use Rattle.mg_post.proofs.CallerLemmas.{span_in_list}
use Rattle.mg_session.specs.PagesAllowed.{allowed_as, allowed_by, line_allows, line_terms, query_allows, ranked_allows, session_allows, session_terms, terms_as, terms_by}

-- the sum over some lines, by what holds of each
sum_lines : (f g : Question → ℕ) (given : List ℕ) → ((q : Question) → f q ≤ g q) → sum_by f (questions_of given) ≤ sum_by g (questions_of given)
sum_lines f g given less = sum_by-le-sum_by f g (questions_of given) less

-- that over the terms of some lines is the sum of those over the terms of each
sum_terms : (f : List ℕ → ℕ) (qs : List Question) → sum_by f (flat_map line_terms qs) ≡ sum_by (λ (q : Question). sum_by f (line_terms q)) qs
sum_terms f [] = refl
sum_terms f (q ∷ qs) = omega (
  arith,
  sum_by-append f (line_terms q) (flat_map line_terms qs),
  sum_by-cons (λ (p : Question). sum_by f (line_terms p)) q qs,
  sum_terms f qs,
)

-- ---- by the blocks

ranked_blocks : (collection : List ℕ) (ts : List (List ℕ)) → sum_by (span_pages collection) ts ≤ ranked_bound collection ts
unfolding ranked_bound
ranked_blocks collection ts = sum_by-le-sum_by (span_pages collection) (list_pages collection) ts (span_in_list collection)

module _ (law : (collection : List ℕ) (q : Query) → query_bound collection q ≤ boolean_bound collection q) (collection : List ℕ) where
  boolean_line : (r : Reading Query) → (allowed_as (query_allows collection) r).post ≤ bound_as (boolean_bound collection) r
  boolean_line (reads q) = law collection q
  boolean_line (refused why) = omega arith

  ranked_line : (now : Settings) (r : Reading (List (List ℕ))) → (allowed_as (ranked_allows collection now) r).post ≤ bound_as (ranked_bound collection) r
  ranked_line now (reads ts) = ranked_blocks collection ts
  ranked_line now (refused why) = omega arith

  line_blocks : (b : Bool) (now : Settings) (line : List ℕ) → (allowed_by b collection now line).post ≤ bound_by b collection line
  line_blocks false now line = boolean_line (boolean line)
  line_blocks true now line = ranked_line now (ranked line)

  question_blocks : (q : Question) → (line_allows collection q).post ≤ line_bound collection q
  unfolding line_allows line_bound
  question_blocks q = line_blocks q.now.ranked q.now q.line

  pub session_blocks : (given : List ℕ) → (session_allows collection given).post ≤ session_bound collection given
  unfolding session_allows session_bound
  session_blocks given = sum_lines (λ (q : Question). (line_allows collection q).post) (line_bound collection) given question_blocks

-- ---- by the terms

module _ (law : (collection : List ℕ) (q : Query) → query_bound collection q ≤ sum_by (span_pages collection) (query_terms q)) (collection : List ℕ) where
  boolean_spans : (r : Reading Query) → (allowed_as (query_allows collection) r).post ≤ sum_by (span_pages collection) (terms_as query_terms r)
  boolean_spans (reads q) = law collection q
  boolean_spans (refused why) = omega arith

  ranked_spans : (now : Settings) (r : Reading (List (List ℕ))) → (allowed_as (ranked_allows collection now) r).post ≤ sum_by (span_pages collection) (terms_as (λ ts. ts) r)
  ranked_spans now (reads ts) = omega arith
  ranked_spans now (refused why) = omega arith

  line_spans : (b : Bool) (now : Settings) (line : List ℕ) → (allowed_by b collection now line).post ≤ sum_by (span_pages collection) (terms_by b line)
  line_spans false now line = boolean_spans (boolean line)
  line_spans true now line = ranked_spans now (ranked line)

  question_spans : (q : Question) → (line_allows collection q).post ≤ sum_by (span_pages collection) (line_terms q)
  unfolding line_allows line_terms
  question_spans q = line_spans q.now.ranked q.now q.line

  pub session_lists : (given : List ℕ) → (session_allows collection given).post ≤ sum_by (span_pages collection) (session_terms given)
  unfolding session_allows session_terms
  session_lists given = omega (
    arith,
    sum_lines (λ (q : Question). (line_allows collection q).post) (λ (q : Question). sum_by (span_pages collection) (line_terms q)) given question_spans,
    sum_terms (span_pages collection) (questions_of given),
  )

-- ---- the entries

boolean_entries : (collection : List ℕ) (r : Reading Query) → (allowed_as (query_allows collection) r).skip ≡ sum_by (term_entries collection) (terms_as query_terms r)
boolean_entries collection (reads q) = refl
boolean_entries collection (refused why) = refl

ranked_entries : (collection : List ℕ) (now : Settings) (r : Reading (List (List ℕ))) → (allowed_as (ranked_allows collection now) r).skip ≡ sum_by (term_entries collection) (terms_as (λ ts. ts) r)
ranked_entries collection now (reads ts) = refl
ranked_entries collection now (refused why) = refl

line_entries : (b : Bool) (collection : List ℕ) (now : Settings) (line : List ℕ) → (allowed_by b collection now line).skip ≡ sum_by (term_entries collection) (terms_by b line)
line_entries false collection now line = boolean_entries collection (boolean line)
line_entries true collection now line = ranked_entries collection now (ranked line)

lines_entries : (collection : List ℕ) (qs : List Question) → sum_by (λ (q : Question). (line_allows collection q).skip) qs ≡ sum_by (term_entries collection) (flat_map line_terms qs)
unfolding line_allows line_terms
lines_entries collection [] = refl
lines_entries collection (q ∷ qs) = omega (
  arith,
  sum_by-cons (λ (p : Question). (line_allows collection p).skip) q qs,
  sum_by-append (term_entries collection) (line_terms q) (flat_map line_terms qs),
  line_entries q.now.ranked collection q.now q.line,
  lines_entries collection qs,
)

pub session_entries : (collection given : List ℕ) → (session_allows collection given).skip ≡ sum_by (term_entries collection) (session_terms given)
unfolding session_allows session_terms
session_entries collection given = lines_entries collection (questions_of given)
