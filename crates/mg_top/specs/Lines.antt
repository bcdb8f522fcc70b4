-- The lines that a tool prints of its own.
use Rattle.std.specs.Prelude.{ℕ, Bool, if◌then◌else◌, List, [], ◌∷◌, codes, decimal}
use Rattle.std.specs.List.{concat}
use Rattle.mg_defs.specs.Summaries.{number_line}
use Rattle.mg_make.specs.declared.summary.Summary.{Summary}
use Rattle.mg_top.specs.declared.lines.Line.{Line}
use Rattle.mg_top.specs.declared.lines.Line.TheVariants.{Number, Bytes, Compared, Pool}
use Rattle.mg_top.specs.declared.trial_summary.TrialSummary.{TrialSummary}

-- the most bytes of a pool at one time, and its size
unfoldable pub pool_line : ℕ → ℕ → List ℕ
pool_line peak budget = concat (codes "pool " ∷ decimal peak ∷ codes " of " ∷ decimal budget ∷ codes "\n" ∷ [])

-- a name, a blank and a number of bytes
unfoldable pub bytes_line : List ℕ → ℕ → List ℕ
bytes_line name number = concat (name ∷ codes " " ∷ decimal number ∷ codes " bytes\n" ∷ [])

-- that a set stands: how many documents and bytes its collection has
unfoldable pub stands_line : ℕ → ℕ → List ℕ
stands_line documents bytes = concat (codes "stands " ∷ decimal documents ∷ codes " documents " ∷ decimal bytes ∷
    codes " bytes\n" ∷ [])

-- what was compared, a blank, and how it came out
unfoldable pub compared_line : List ℕ → Bool → List ℕ
compared_line name same = concat (name ∷ codes " " ∷ (if same then codes "same" else codes "different") ∷ codes "\n" ∷
    [])

abbrev pub line_text : Line → List ℕ
line_text (Number name number) = number_line name.now number
line_text (Bytes name number) = bytes_line name.now number
line_text (Compared name same) = compared_line name.now same
line_text (Pool peak budget) = pool_line peak budget

-- the seven lines of a build's summary
unfoldable pub summary_lines : Summary → List ℕ
summary_lines summary = concat (
    number_line (codes "documents") summary.documents
    ∷ number_line (codes "words") summary.words
    ∷ number_line (codes "others") summary.others
    ∷ number_line (codes "terms") summary.terms
    ∷ number_line (codes "occurrences") summary.occurrences
    ∷ number_line (codes "runs") summary.runs
    ∷ pool_line summary.peak summary.budget
    ∷ [])

-- the seven lines of a trial's summary
unfoldable pub trial_summary_lines : TrialSummary → List ℕ
trial_summary_lines summary = concat (
    number_line (codes "documents") summary.documents
    ∷ bytes_line (codes "collection") summary.bytes
    ∷ number_line (codes "terms") summary.terms
    ∷ number_line (codes "occurrences") summary.occurrences
    ∷ bytes_line (codes "replies") summary.replies
    ∷ compared_line (codes "decode") summary.is_decoded
    ∷ compared_line (codes "queries 40") summary.is_answered
    ∷ [])
