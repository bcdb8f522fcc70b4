-- The bits of runs: postings by rising term and document, as gaps in gamma codes.
use Rattle.std.specs.Prelude.{ℕ, ◌+◌, ◌-◌, ◌++◌, ◌==◌, if◌then◌else◌, List, [], ◌∷◌, length}
use Rattle.std.specs.List.{flat_map}
use Rattle.mg_defs.specs.Bits.{Bits, filled}
use Rattle.mg_defs.specs.Codes.{gamma}
use Rattle.mg_defs.specs.Runs.{runs_of}
use Rattle.mg_defs.specs.declared.TermPosting.{TermPosting}

-- the gap of the document, where the posting before has the same term, or the document
abbrev pub doc_gap : TermPosting → TermPosting → ℕ
doc_gap last x = if x.term == last.term then x.doc - last.doc else x.doc

-- a posting after another one: 1 and the gap of the term, the gap of the document, the count
unfoldable pub run_posting_bits : TermPosting → TermPosting → Bits
run_posting_bits last x = gamma (x.term - last.term + 1) ++ (gamma (doc_gap last x) ++ gamma x.count)

abbrev pub postings_bits : TermPosting → List TermPosting → Bits
postings_bits last [] = []
postings_bits last (x ∷ xs) = run_posting_bits last x ++ postings_bits x xs

-- what stands before the first posting: documents count from 1, so its gap is the document
abbrev pub before_first : TermPosting
before_first = record { term = 0; doc = 0; count = 0 }

-- how many postings there are, and these
unfoldable pub run_bits : List TermPosting → Bits
run_bits xs = gamma (length xs) ++ postings_bits before_first xs

-- runs, one after another, each filled to a byte
abbrev pub runs_bits : List (List TermPosting) → Bits
runs_bits runs = flat_map (λ run. filled (run_bits run)) runs

-- the bits of the Run part for these occurrences, so many to a run
abbrev pub run_part_bits : ℕ → List (ℕ × ℕ) → Bits
run_part_bits cap occurrences = runs_bits (runs_of cap occurrences)
