-- The numbers of a set that was made of a collection.
use Rattle.std.specs.Prelude.{ℕ, List, length}
use Rattle.mg_defs.specs.declared.Stream.TheVariants.{Words, Others}
use Rattle.mg_defs.specs.Heads.{Head, run_count}
use Rattle.mg_defs.specs.Occurrences.{occurrences}
use Rattle.mg_defs.specs.Split.{documents}
use Rattle.mg_defs.specs.Summaries.{pool_peak, run_cap}
use Rattle.mg_defs.specs.Terms.{dictionary}
use Rattle.mg_defs.specs.Vocabulary.{sorted_pieces}
use Rattle.mg_make.specs.declared.summary.Summary.{Summary}

-- with a pool of so many bytes
abbrev pub summary_of : ℕ → List ℕ → Summary
summary_of budget collection = record {
  documents = length (documents collection);
  words = length (sorted_pieces Words collection);
  others = length (sorted_pieces Others collection);
  terms = length (dictionary collection);
  occurrences = length (occurrences collection);
  runs = run_count (length (occurrences collection)) (run_cap budget);
  peak = pool_peak (length (occurrences collection)) budget;
  budget = budget;
}

-- those of a head, with the greatest use of a pool and its size
abbrev pub summary_by : Head → ℕ → ℕ → Summary
summary_by h most size = record {
  documents = h.documents;
  words = h.words;
  others = h.others;
  terms = h.terms;
  occurrences = h.occurrences;
  runs = h.runs;
  peak = most;
  budget = size;
}
