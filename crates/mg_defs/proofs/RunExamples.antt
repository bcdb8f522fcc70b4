-- Occurrences, postings and runs, computed.
use Rattle.std.proofs.Common.{◌≡◌, ℕ, List, [], ◌∷◌, ◌++◌, refl}
use Rattle.std.specs.Prelude.{codes}
use Rattle.mg_defs.specs.Bits.{digits, bits_of, filled}
use Rattle.mg_defs.specs.Codes.{gamma, ones, unary}
use Rattle.mg_defs.specs.Parse.{parse}
use Rattle.mg_defs.specs.Occurrences.{occurrences}
use Rattle.mg_defs.specs.Postings.{term_postings}
use Rattle.mg_defs.specs.Runs.{runs_of}
use Rattle.mg_defs.specs.RunBits.{run_part_bits, run_posting_bits, run_bits}
use Rattle.mg_defs.specs.declared.TermPosting.{TermPosting}

abbrev k : List ℕ
k = codes "the cat sat\n" ++ 2 ∷ (codes "the dog\n" ++ 2 ∷ (codes "Cat, cat & dog!\n" ++ 2 ∷ []))

k_occurrences : occurrences k ≡ (3, 1) ∷ (0, 1) ∷ (2, 1) ∷ (3, 2) ∷ (1, 2) ∷ (0, 3) ∷ (0, 3) ∷ (1, 3) ∷ []
unfolding parse
k_occurrences = refl

abbrev posting : ℕ → ℕ → ℕ → TermPosting
posting term doc count = record { term = term; doc = doc; count = count }

k_postings : term_postings (occurrences k) ≡ posting 0 1 1 ∷ posting 0 3 2 ∷ posting 1 2 1 ∷ posting 1 3 1 ∷ posting 2 1 1 ∷ posting 3 1 1 ∷ posting 3 2 1 ∷ []
unfolding parse
k_postings = refl

k_run : run_part_bits 1398101 (occurrences k) ≡ bits_of (0xd8 ∷ 0x49 ∷ 0x20 ∷ 0x42 ∷ 0x00 ∷ [])
unfolding parse digits bits_of gamma unary ones run_posting_bits run_bits filled
k_run = refl

-- four times one word
four_run : run_part_bits 1398101 (occurrences (codes "a a a a ")) ≡ bits_of (0x18 ∷ [])
unfolding parse digits bits_of gamma unary ones run_posting_bits run_bits filled
four_run = refl

-- three occurrences to a run
k_runs : runs_of 3 (occurrences k) ≡ (posting 0 1 1 ∷ posting 2 1 1 ∷ posting 3 1 1 ∷ []) ∷ (posting 0 3 1 ∷ posting 1 2 1 ∷ posting 3 2 1 ∷ []) ∷ (posting 0 3 1 ∷ posting 1 3 1 ∷ []) ∷ []
unfolding parse
k_runs = refl
