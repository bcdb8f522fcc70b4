-- The runs of occurrences.
use Rattle.std.proofs.Common.{◌≡◌, ℕ, zero, suc, ◌+◌, ◌-◌, ◌*◌, ◌/◌, ◌<◌, ◌≤◌, ◌^◌, List, [], ◌∷◌, ◌++◌, length, ap, ◌∙◌, arith, take, drop, map, length-drop, length-take}
use Rattle.std.specs.List.{AllByRecursion, All}
use Rattle.std.specs.Simd.{first_chunks}
use Rattle.std.proofs.Math.Nat.{add-div_right}
use Rattle.std.proofs.lemmas.Bool.Decides.{nat_tests}
use Rattle.std.proofs.lemmas.List.{length-map, take_all}
use Rattle.std.proofs.lemmas.List.Elements.{All-nil, All-cons}
use Rattle.std.proofs.lemmas.List.Sums.{sum_by-cons}
use Rattle.mg_defs.specs.declared.TermPosting.{TermPosting}
use Rattle.mg_defs.specs.Bits.{filled}
use Rattle.mg_defs.specs.Postings.{once, part_at, times, term_postings, merged}
use Rattle.mg_defs.specs.RunBits.{run_bits, runs_bits}
use Rattle.mg_defs.specs.Runs.{first_runs, runs_of}
use Rattle.mg_runs.specs.FinishedRuns.{finished}
use Rattle.mg_defs.proofs.Gathering.{Rising-gathered, AllCount-gathered, times-gathered}
use Rattle.mg_defs.proofs.Joining.{AllCount-once, merged-all}
use Rattle.mg_runs.proofs.Occurrences.{occurrences_drop, occurrences_take}
use Rattle.mg_runs.proofs.Chunks.{chunks-more, length-chunks}
use Rattle.mg_runs.proofs.Segments.{map_end, rest_fits}
use Rattle.mg_runs.specs.Cursors.{IsRun}
use Rattle.mg_runs.specs.Fed.{IsOccurrence, AreOccurrences, starts}
use Rattle.mg_runs.specs.Merging.{AreRuns}
use Rattle.mg_runs.specs.Rounds.{all_postings, AreWritten, IsWritten}
use Rattle.mg_runs.proofs.Merges.{times-merged}
use Rattle.mg_runs.proofs.Rounds.{IsPlaced, placed_added, small_of, length_added, ceil_is, some_group}
use Rattle.mg_runs.proofs.RoundsBits.{runs_bits_more, starts_more}

-- ---- one run

placed_postings : (s : List (ℕ × ℕ)) → AreOccurrences s → AllByRecursion (λ x. IsPlaced x) (term_postings s)
placed_postings [] all = tt
placed_postings (o ∷ s) all =
    let k : IsOccurrence o = all.0 in
    placed_added (once o) (term_postings s) (record { term = k.term; some = k.some; doc = k.doc }) (placed_postings s all.1)

part_once : (t d : ℕ) (o : ℕ × ℕ) → part_at t d (once o) ≤ 1
part_once t d o = grind (arith, nat_tests)

times_at_most : (t d : ℕ) (s : List (ℕ × ℕ)) → times t d (map once s) ≤ length s
times_at_most t d [] = omega arith
times_at_most t d (o ∷ s) = omega (arith, part_once t d o, times_at_most t d s)

pub times_postings : (t d : ℕ) (s : List (ℕ × ℕ)) → times t d (term_postings s) ≤ length s
times_postings t d s = omega (arith, times-gathered t d (map once s), times_at_most t d s)

-- the postings of occurrences are a run
pub postings_run : (s : List (ℕ × ℕ)) → AreOccurrences s → length s < 2 ^ 32 → IsRun (term_postings s)
postings_run s all few = record {
  rising = Rising-gathered (map once s);
  small = small_of (term_postings s) (placed_postings s all) (AllCount-gathered (map once s) (AllCount-once s)) (λ t d. omega (arith, times_postings t d s));
}

pub length_postings : (s : List (ℕ × ℕ)) → length (term_postings s) ≤ length s
length_postings [] = omega arith
length_postings (o ∷ s) = let a = (length_added (once o) (term_postings s)).most in omega (arith, length_postings s)

pub some_postings : (s : List (ℕ × ℕ)) → 1 ≤ length s → 1 ≤ length (term_postings s)
some_postings [] h = absurd (omega arith)
some_postings (o ∷ s) h = (length_added (once o) (term_postings s)).some

-- ---- all runs

runs_are : (cap count : ℕ) (s : List (ℕ × ℕ)) → AreOccurrences s → length s < 2 ^ 32 → All (λ run. IsRun run) (first_runs cap count s)
runs_are cap zero s all few = All-nil (λ run. IsRun run)
runs_are cap (suc count) s all few =
    All-cons (λ run. IsRun run) (term_postings (take cap s)) (first_runs cap count (drop cap s))
    (postings_run (take cap s) (occurrences_take cap s all) (omega (arith, few, length-take cap s)))
    (runs_are cap count (drop cap s) (occurrences_drop cap s all) (omega (arith, few, length-drop cap s)))

runs_written : (cap count : ℕ) (s : List (ℕ × ℕ)) → 1 ≤ cap → cap < 2 ^ 31 → ((i : ℕ) → i < count → i * cap < length s) → All (λ run. IsWritten run) (first_runs cap count s)
runs_written cap zero s some small more = All-nil (λ run. IsWritten run)
runs_written cap (suc count) s some small more =
    let z : 0 * cap ≡ 0 = omega arith in
    let there : 1 ≤ length (take cap s) = omega (arith, more 0 (omega arith), z, length-take cap s) in
    All-cons (λ run. IsWritten run) (term_postings (take cap s)) (first_runs cap count (drop cap s))
    (record { some = some_postings (take cap s) there; short = omega (arith, small, length_postings (take cap s), length-take cap s) })
    (runs_written cap count (drop cap s) some small (λ i less. let next : suc i * cap ≡ cap + i * cap = omega arith in omega (arith, more (suc i) (omega arith), next, length-drop cap s)))

pub all_first_runs : (cap count : ℕ) (s : List (ℕ × ℕ)) → all_postings (first_runs cap count s) ≤ length s
all_first_runs cap zero s = omega arith
all_first_runs cap (suc count) s =
    omega (
      arith,
      sum_by-cons (λ (l : List TermPosting). length l) (term_postings (take cap s)) (first_runs cap count (drop cap s)),
      length_postings (take cap s),
      all_first_runs cap count (drop cap s),
      length-take cap s,
      length-drop cap s,
    )

pub fed_all : (cap : ℕ) (fed : List (ℕ × ℕ)) → all_postings (runs_of cap fed) ≤ length fed
fed_all cap fed = all_first_runs cap ((length fed + cap - 1) / cap) fed

pub fed_written : (cap : ℕ) (fed : List (ℕ × ℕ)) → 1 ≤ cap → cap < 2 ^ 31 → AreOccurrences fed → length fed < 2 ^ 32 → AreWritten (runs_of cap fed)
fed_written cap fed some small all few =
    let count : ℕ = (length fed + cap - 1) / cap in
    let are : AreRuns (runs_of cap fed) = record {
      runs = runs_are cap count fed all few;
      fits = λ t d.
          let whole : times t d (merged (runs_of cap fed)) ≡ times t d (term_postings fed) = ap (λ l. times t d l) (merged-all cap fed some) in
          omega (arith, few, whole, times-merged t d (runs_of cap fed), times_postings t d fed);
    } in
    record {
      are = are;
      each = runs_written cap count fed some small (λ i less. some_group cap i (length fed) some less);
      few = omega (arith, few, fed_all cap fed);
    }

-- ---- how many runs, and the last of them

pub runs_count : (cap n : ℕ) → 1 ≤ cap → 1 ≤ n → (n + cap - 1) / cap ≡ finished cap n + 1
runs_count cap n some more =
    let order : n + cap - 1 ≡ n - 1 + cap = omega arith in
    ap (λ m. m / cap) order ∙ add-div_right (n - 1) some

pub length_runs_of : (cap : ℕ) (fed : List (ℕ × ℕ)) → length (runs_of cap fed) ≡ (length fed + cap - 1) / cap
length_runs_of cap fed = length-map (first_chunks cap ((length fed + cap - 1) / cap) fed) (λ s. term_postings s) ∙ length-chunks cap ((length fed + cap - 1) / cap) fed

pub runs_of_none : (cap : ℕ) → 1 ≤ cap → runs_of cap [] ≡ []
runs_of_none cap some =
    let z : 0 * cap ≡ 0 = omega arith in
    ap (λ k. first_runs cap k []) (ceil_is 0 cap 0 some (omega arith) (omega arith))

pub runs_of_last : (cap : ℕ) (fed : List (ℕ × ℕ)) → 1 ≤ cap → 1 ≤ length fed →
    runs_of cap fed ≡ first_runs cap (finished cap (length fed)) fed ++ term_postings (drop (finished cap (length fed) * cap) fed) ∷ []
runs_of_last cap fed some more =
    let q : ℕ = finished cap (length fed) in
    let rest : List (ℕ × ℕ) = drop (q * cap) fed in
    let one : q + 1 ≡ suc q = omega arith in
    let all : take cap rest ≡ rest = take_all cap rest (omega (arith, length-drop (q * cap) fed, rest_fits cap (length fed) some)) in
    ap (λ k. first_runs cap k fed) (runs_count cap (length fed) some more ∙ one)
    ∙ ap (λ t. map (λ s. term_postings s) t) (chunks-more cap q fed)
    ∙ map_end (λ s. term_postings s) (first_chunks cap q fed) (take cap rest)
    ∙ ap (λ t. first_runs cap q fed ++ term_postings t ∷ []) all

-- the bits and the places, where the last run is put behind those that are finished
pub bits_of_last : (cap : ℕ) (fed : List (ℕ × ℕ)) → 1 ≤ cap → 1 ≤ length fed →
    runs_bits (runs_of cap fed) ≡ runs_bits (first_runs cap (finished cap (length fed)) fed) ++ filled (run_bits (term_postings (drop (finished cap (length fed) * cap) fed)))
bits_of_last cap fed some more =
    let q : ℕ = finished cap (length fed) in
    ap (λ rs. runs_bits rs) (runs_of_last cap fed some more) ∙ runs_bits_more (first_runs cap q fed) (term_postings (drop (q * cap) fed))

pub starts_of_last : (cap : ℕ) (fed : List (ℕ × ℕ)) → 1 ≤ cap → 1 ≤ length fed →
    starts 0 (runs_of cap fed) ≡ starts 0 (first_runs cap (finished cap (length fed)) fed) ++ length (runs_bits (first_runs cap (finished cap (length fed)) fed)) ∷ []
starts_of_last cap fed some more =
    let q : ℕ = finished cap (length fed) in
    ap (λ rs. starts 0 rs) (runs_of_last cap fed some more) ∙ starts_more (first_runs cap q fed) (term_postings (drop (q * cap) fed))
