-- The first runs, once the last of them is written; and the last runs, opened.
use Rattle.std.proofs.Common.{◌≡◌, ℕ, ◌-◌, ◌*◌, ◌%◌, ◌<◌, ◌≤◌, ◌^◌, List, [], ◌∷◌, ◌++◌, length, refl, sym, ap, ◌∙◌, arith, drop, IsSome, append-nil}
use Rattle.std.specs.declared.option.Option.{Option}
use Rattle.std.proofs.lemmas.List.{nil_from_length}
use Rattle.mg_dev.specs.Files.{Files}
use Rattle.mg_defs.specs.declared.TermPosting.{TermPosting}
use Rattle.mg_defs.specs.Bits.{Bits, bits_of, digits, filled, to_byte}
use Rattle.mg_defs.specs.Postings.{gathered, term_postings, merged}
use Rattle.mg_defs.specs.RunBits.{run_bits, runs_bits, run_part_bits}
use Rattle.mg_defs.specs.Runs.{first_runs, runs_of}
use Rattle.mg_runs.specs.FinishedRuns.{finished}
use Rattle.mg_bits.specs.BitWriting.{bits_put}
use Rattle.mg_runs.specs.Fed.{Inverting, IsFed, cap_of, starts}
use Rattle.mg_runs.specs.Merging.{AreLeft, StandFor}
use Rattle.mg_runs.specs.Rounds.{AreStored}
use Rattle.mg_runs.specs.declared.cursor.Cursor.{Cursor}
use Rattle.mg_runs.proofs.Segments.{finished-low, none_finished}
use Rattle.mg_runs.proofs.Feeding.{fed_length}
use Rattle.mg_runs.proofs.RoundsFed.{runs_of_none, bits_of_last, starts_of_last}
use Rattle.mg_runs.proofs.RoundsLoop.{stored_fed, stored_count}

pub fed_cap : (runs : Inverting) (files : Option Files) (fed : List (ℕ × ℕ)) → IsFed runs files fed → (1 ≤ cap_of runs.pool) × (cap_of runs.pool < 2 ^ 31)
fed_cap runs files fed is =
    let least = is.least in
    let most = is.most in
    (omega arith, omega arith)

-- the pool has an entry exactly where an occurrence was taken
pub fed_none : (runs : Inverting) (files : Option Files) (fed : List (ℕ × ℕ)) → IsFed runs files fed → length runs.pool.entries ≡ 0 → fed ≡ []
fed_none runs files [] is none = refl
fed_none runs files (o ∷ fed) is none =
    let cap : ℕ = cap_of runs.pool in
    let some = (fed_cap runs files (o ∷ fed) is).0 in
    let low : finished cap (length (o ∷ fed)) * cap ≤ length (o ∷ fed) - 1 = finished-low cap (length (o ∷ fed)) some in
    let size = fed_length runs files (o ∷ fed) is in
    absurd (omega arith)

pub fed_some : (runs : Inverting) (files : Option Files) (fed : List (ℕ × ℕ)) → IsFed runs files fed → 1 ≤ length runs.pool.entries → 1 ≤ length fed
fed_some runs files fed is some = let size = fed_length runs files fed is in omega arith

rest_is : (runs : Inverting) (files : Option Files) (fed : List (ℕ × ℕ)) → IsFed runs files fed →
    gathered runs.pool.entries ≡ term_postings (drop (finished (cap_of runs.pool) (length fed) * cap_of runs.pool) fed)
rest_is runs files fed is = ap (λ xs. gathered xs) is.entries

-- with the pool's entries behind the finished runs, all runs are written
pub fed_bits : (runs : Inverting) (files : Option Files) (fed : List (ℕ × ℕ)) → IsFed runs files fed → 1 ≤ length runs.pool.entries → IsSome files →
    bits_put runs.writer files ++ filled (run_bits (gathered runs.pool.entries)) ≡ run_part_bits (cap_of runs.pool) fed
fed_bits runs files fed is some told =
    let cap : ℕ = cap_of runs.pool in
    let first : Bits = runs_bits (first_runs cap (finished cap (length fed)) fed) in
    ap (λ b. b ++ filled (run_bits (gathered runs.pool.entries))) (is.written told)
    ∙ ap (λ xs. first ++ filled (run_bits xs)) (rest_is runs files fed is)
    ∙ sym (bits_of_last cap fed (fed_cap runs files fed is).0 (fed_some runs files fed is some))

pub fed_places : (runs : Inverting) (files : Option Files) (fed : List (ℕ × ℕ)) → IsFed runs files fed → 1 ≤ length runs.pool.entries →
    runs.places ++ runs.writer.place ∷ [] ≡ starts 0 (runs_of (cap_of runs.pool) fed)
fed_places runs files fed is some =
    let cap : ℕ = cap_of runs.pool in
    let first : List (List TermPosting) = first_runs cap (finished cap (length fed)) fed in
    ap (λ p. p ++ runs.writer.place ∷ []) is.places ∙ ap (λ n. starts 0 first ++ n ∷ []) is.place ∙ sym (starts_of_last cap fed (fed_cap runs files fed is).0 (fed_some runs files fed is some))

-- where nothing was taken there are no runs
no_runs : (runs : Inverting) (files : Option Files) (fed : List (ℕ × ℕ)) → IsFed runs files fed → length runs.pool.entries ≡ 0 →
    (first_runs (cap_of runs.pool) (finished (cap_of runs.pool) (length fed)) fed ≡ []) × (runs_of (cap_of runs.pool) fed ≡ [])
no_runs runs files fed is none =
    let cap : ℕ = cap_of runs.pool in
    let some = (fed_cap runs files fed is).0 in
    let empty : fed ≡ [] = fed_none runs files fed is none in
    let zero_finished = none_finished cap some in (
      ap (λ s. first_runs cap (finished cap (length s)) s) empty ∙ ap (λ k. first_runs cap k []) zero_finished,
      ap (λ s. runs_of cap s) empty ∙ runs_of_none cap some,
    )

pub fed_bits_none : (runs : Inverting) (files : Option Files) (fed : List (ℕ × ℕ)) → IsFed runs files fed → length runs.pool.entries ≡ 0 →
    IsSome files → bits_put runs.writer files ≡ run_part_bits (cap_of runs.pool) fed
fed_bits_none runs files fed is none told =
    let empty = no_runs runs files fed is none in
    is.written told ∙ ap (λ rs. runs_bits rs) (empty.0 ∙ sym empty.1)

pub fed_places_none : (runs : Inverting) (files : Option Files) (fed : List (ℕ × ℕ)) → IsFed runs files fed → length runs.pool.entries ≡ 0 → runs.places ≡ starts 0 (runs_of (cap_of runs.pool) fed)
fed_places_none runs files fed is none =
    let empty = no_runs runs files fed is none in
    is.places ∙ ap (λ rs. starts 0 rs) (empty.0 ∙ sym empty.1)

-- a file that ends at a byte has no zero-bits behind
pub finished_bits : (place : ℕ) (bits : Bits) → place % 8 ≡ 0 → bits ++ digits (to_byte place) 0 ≡ bits
unfolding digits
finished_bits place bits whole =
    let none : to_byte place ≡ 0 = omega arith in
    ap (λ n. bits ++ digits n 0) none ∙ append-nil bits

-- the runs as the rounds take them
pub fed_stored : (runs : Inverting) (files : Option Files) (fed : List (ℕ × ℕ)) (file places : List ℕ) → IsFed runs files fed →
    bits_of file ≡ run_part_bits (cap_of runs.pool) fed → places ≡ starts 0 (runs_of (cap_of runs.pool) fed) →
    AreStored file places (term_postings fed)
fed_stored runs files fed file places is bits at =
    let cap = fed_cap runs files fed is in
    stored_fed file places (cap_of runs.pool) fed bits at cap.0 cap.1 is.occurrences is.few

-- opened runs leave all postings
pub stored_left : (slots : List (List ℕ)) (cursors : List Cursor) (file places : List ℕ) (whole : List TermPosting) (is : AreStored file places whole) →
    StandFor slots cursors file is.runs → AreLeft slots cursors file whole
stored_left slots cursors file places whole is stand = record { lefts = is.runs; stand = stand; are = is.written.are; same = is.same }

-- where there are no runs there is no posting
pub stored_none : (file places : List ℕ) (whole : List TermPosting) → AreStored file places whole → length places ≡ 0 → whole ≡ []
stored_none file places whole is none =
    sym is.same ∙ ap (λ runs. merged runs) (nil_from_length is.runs (stored_count file places whole is ∙ none))
