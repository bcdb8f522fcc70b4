-- What a build and a trial print of their own.
use Rattle.std.specs.Prelude.{ℕ, ◌*◌, ◌/◌, max, min, List, [], ◌∷◌, length, codes, decimal}
use Rattle.std.specs.List.{concat}
use Rattle.mg_defs.specs.declared.Stream.TheVariants.{Words, Others}
use Rattle.mg_defs.specs.Split.{documents}
use Rattle.mg_defs.specs.Vocabulary.{sorted_pieces}
use Rattle.mg_defs.specs.Terms.{dictionary}
use Rattle.mg_defs.specs.Occurrences.{occurrences}
use Rattle.mg_defs.specs.Heads.{run_count}
use Rattle.mg_defs.specs.Limits.{occurrence_bytes}
use Rattle.mg_defs.specs.Replies.{session}
use Rattle.mg_defs.specs.Generator.{made_collection, made_session}

-- the occurrences that one run has at most: each takes its bytes of the budget
abbrev pub run_cap : ℕ → ℕ
run_cap budget = budget / occurrence_bytes

-- the most bytes of the pool at one time: an occurrence takes 12, a run that is merged 64
abbrev pub pool_peak : ℕ → ℕ → ℕ
pool_peak occurrences budget = max (occurrence_bytes * min occurrences (run_cap budget))
    (64 * min (run_count occurrences (run_cap budget)) (budget / 64))

-- a name, a blank, a number and the line's end
abbrev pub number_line : List ℕ → ℕ → List ℕ
number_line name number = concat (name ∷ codes " " ∷ decimal number ∷ codes "\n" ∷ [])

-- the seven lines after a build
unfoldable pub summary_text : List ℕ → ℕ → List ℕ
summary_text collection budget = concat (
    number_line (codes "documents") (length (documents collection))
    ∷ number_line (codes "words") (length (sorted_pieces Words collection))
    ∷ number_line (codes "others") (length (sorted_pieces Others collection))
    ∷ number_line (codes "terms") (length (dictionary collection))
    ∷ number_line (codes "occurrences") (length (occurrences collection))
    ∷ number_line (codes "runs") (run_count (length (occurrences collection)) (run_cap budget))
    ∷ concat (codes "pool " ∷ decimal (pool_peak (length (occurrences collection)) budget) ∷ codes " of " ∷
    decimal budget ∷ codes "\n" ∷ [])
    ∷ [])

-- the seven lines of a trial over a collection of so many documents and a session's input
unfoldable pub trial_lines : ℕ → List ℕ → List ℕ → List ℕ
trial_lines docs collection input = concat (
    number_line (codes "documents") docs
    ∷ concat (codes "collection " ∷ decimal (length collection) ∷ codes " bytes\n" ∷ [])
    ∷ number_line (codes "terms") (length (dictionary collection))
    ∷ number_line (codes "occurrences") (length (occurrences collection))
    ∷ concat (codes "replies " ∷ decimal (length (session collection input)) ∷ codes " bytes\n" ∷ [])
    ∷ codes "decode same\n"
    ∷ codes "queries 40 same\n"
    ∷ [])

-- those of a trial of a seed: the made collection is asked the made session
abbrev pub trial_text : ℕ → ℕ → List ℕ
trial_text seed docs = trial_lines docs (made_collection seed docs) (made_session seed)
