-- How many pages of Post, Skip and Weights the query lines of a session may read.
use Rattle.std.specs.Prelude.{ℕ, zero, suc, ◌+◌, ◌*◌, ◌≤◌, Bool, true, false, List, [], length, flat_map, sum_by, unwrap_or}
use Rattle.mg_dev.specs.Files.{Reads}
use Rattle.mg_dev.specs.declared.part.Part.TheVariants as part
use Rattle.mg_defs.specs.QueryTerms.{query_terms}
use Rattle.mg_defs.specs.Read.{boolean, ranked}
use Rattle.mg_defs.specs.Refusals.{Reading, reads, refused}
use Rattle.mg_defs.specs.Sat.{Query}
use Rattle.mg_defs.specs.Session.{Question, questions_of}
use Rattle.mg_defs.specs.Split.{documents}
use Rattle.mg_defs.specs.declared.session.Mode.{Mode}
use Rattle.mg_defs.specs.declared.session.Mode.TheVariants.{Docnums, Text, Count}
use Rattle.mg_defs.specs.declared.session.Settings.{Settings}
use Rattle.mg_bool.specs.Matches.{query_bound}
use Rattle.mg_bool.specs.Places.{term_entries}
use Rattle.mg_post.specs.PagesOnce.{span_pages}
use Rattle.mg_rank.specs.WeightReads.{weight_pages}

-- so many pages of each of the three
pub record PartPages : Type 0 where
  pub post : ℕ
  pub skip : ℕ
  pub weights : ℕ

-- no more of them are read
pub record ReadsAllowed (most : PartPages) (before now : Reads) : Type 0 where
  pub post : now part.Post ≤ before part.Post + most.post
  pub skip : now part.Skip ≤ before part.Skip + most.skip
  pub weights : now part.Weights ≤ before part.Weights + most.weights

-- no page
abbrev pub none_allowed : PartPages
none_allowed = record { post = 0; skip = 0; weights = 0 }

-- the sums over some lines
abbrev pub sum_allows : {A : Type 0} → (A → PartPages) → List A → PartPages
sum_allows {A} allows xs = record {
  post = sum_by (λ (x : A). (allows x).post) xs;
  skip = sum_by (λ (x : A). (allows x).skip) xs;
  weights = sum_by (λ (x : A). (allows x).weights) xs;
}

-- ---- a Boolean query

-- at each place of a term, of Post the lesser of two numbers: the pages of the blocks whose range holds a document that is
-- asked, and those on which the list lies; of Skip those on which the list's entries lie
abbrev pub query_allows : List ℕ → Query → PartPages
query_allows collection q = record {
  post = query_bound collection q;
  skip = sum_by (term_entries collection) (query_terms q);
  weights = 0;
}

-- ---- ranked terms

-- how many of so many rows a mode shows
abbrev pub rows_in : Mode → ℕ → ℕ
rows_in Docnums count = count
rows_in Text count = count
rows_in Count count = 0

-- how many rows of a ranked answer are asked for
abbrev pub rows_asked : Settings → ℕ → ℕ
rows_asked now all = rows_in now.mode (unwrap_or now.most all)

-- so many pages where rows are asked for
abbrev pub for_rows : ℕ → ℕ → ℕ
for_rows zero pages = 0
for_rows (suc rows) pages = pages

-- of each distinct term once the pages on which its list lies, and those of the list's entries; and where rows are asked for,
-- once for each term all pages of Weights
abbrev pub ranked_allows : List ℕ → Settings → List (List ℕ) → PartPages
ranked_allows collection now ts = record {
  post = sum_by (span_pages collection) ts;
  skip = sum_by (term_entries collection) ts;
  weights = for_rows (rows_asked now (length (documents collection)))
      (length ts * weight_pages (length (documents collection)));
}

-- ---- a line, and a session

-- a line that is refused reads none
abbrev pub allowed_as : {A : Type 0} → (A → PartPages) → Reading A → PartPages
allowed_as allows (reads query) = allows query
allowed_as allows (refused why) = none_allowed

abbrev pub allowed_by : Bool → List ℕ → Settings → List ℕ → PartPages
allowed_by false collection now line = allowed_as (query_allows collection) (boolean line)
allowed_by true collection now line = allowed_as (ranked_allows collection now) (ranked line)

unfoldable pub line_allows : List ℕ → Question → PartPages
line_allows collection question = allowed_by question.now.ranked collection question.now question.line

-- the sums over query lines
abbrev pub lines_allow : List ℕ → List Question → PartPages
lines_allow collection questions = sum_allows (line_allows collection) questions

-- those up to `.quit` or the end
unfoldable pub session_allows : List ℕ → List ℕ → PartPages
session_allows collection input = lines_allow collection (questions_of input)

-- ---- the terms of query lines: at each place of a Boolean query, or the distinct ones that are ranked

abbrev pub terms_as : {A : Type 0} → (A → List (List ℕ)) → Reading A → List (List ℕ)
terms_as terms (reads query) = terms query
terms_as terms (refused why) = []

abbrev pub terms_by : Bool → List ℕ → List (List ℕ)
terms_by false line = terms_as query_terms (boolean line)
terms_by true line = terms_as (λ ts. ts) (ranked line)

unfoldable pub line_terms : Question → List (List ℕ)
line_terms question = terms_by question.now.ranked question.line

unfoldable pub session_terms : List ℕ → List (List ℕ)
session_terms input = flat_map line_terms (questions_of input)
