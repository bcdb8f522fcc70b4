-- The bits of runs, how many there are, and where the runs stand among them.
use Rattle.std.proofs.Common.{◌≡◌, ℕ, zero, suc, ◌+◌, ◌-◌, ◌*◌, ◌/◌, ◌%◌, ◌<◌, ◌≤◌, ◌^◌, List, [], ◌∷◌, ◌++◌, length, refl, sym, ap, ◌∙◌, subst}
use Rattle.std.proofs.Common.{arith, take, drop, get_or, length-append, append-nil, append_assoc, length-drop, length-take}
use Rattle.std.specs.List.{All}
use Rattle.std.proofs.lemmas.List.{get_or-take, get_or-drop}
use Rattle.std.proofs.lemmas.List.Concat.{flat_map-append}
use Rattle.std.proofs.lemmas.List.Elements.{All-tail}
use Rattle.std.proofs.lemmas.List.Sums.{sum_by-cons}
use Rattle.mg_defs.specs.declared.TermPosting.{TermPosting}
use Rattle.mg_defs.specs.Bits.{Bits, bits_of, digits, to_byte, filled}
use Rattle.mg_defs.specs.Codes.{gamma}
use Rattle.mg_defs.specs.Postings.{AllAfter}
use Rattle.mg_defs.specs.RunBits.{run_posting_bits, postings_bits, before_first, run_bits, runs_bits}
use Rattle.mg_defs.proofs.BitLaws.{length_digits}
use Rattle.mg_runs.specs.Cursors.{IsRun, IsRunAt}
use Rattle.mg_runs.specs.Fed.{starts}
use Rattle.mg_runs.specs.Merging.{AreRunsAt}
use Rattle.mg_runs.specs.Rounds.{first_joined, all_postings, AreWritten, IsWritten}
use Rattle.mg_runs.proofs.Short.{gamma_short}
use Rattle.mg_runs.proofs.Decoding.{behind_code}
use Rattle.mg_runs.proofs.CursorLaws.{after_start, posting_short, place_below}
use Rattle.mg_runs.proofs.Rounds.{all_groups, all_first_joined, first_joined_run, group_is, some_group}

postings_short : (last : TermPosting) (xs : List TermPosting) → AllAfter last xs → IsRun xs → length (postings_bits last xs) ≤ 198 * length xs
postings_short last [] after run = omega arith
postings_short last (x ∷ xs) after run =
    let one : length (run_posting_bits last x) ≤ 198 = posting_short last x after.0 run.small.0 in
    let rest : length (postings_bits x xs) ≤ 198 * length xs = postings_short x xs run.rising.0 (record { rising = run.rising.1; small = run.small.1 }) in
    omega (arith, one, rest, length-append (run_posting_bits last x) (postings_bits x xs))

length_filled : (bits : Bits) → length (filled bits) ≡ length bits + to_byte (length bits)
unfolding filled
length_filled bits =
    length-append bits (digits (to_byte (length bits)) 0) ∙ ap (λ n. length bits + n) (length_digits (to_byte (length bits)) 0)

to_next_byte : (n : ℕ) → (n + to_byte n) % 8 ≡ 0
to_next_byte n = omega arith

to_byte_short : (n : ℕ) → to_byte n ≤ 7
to_byte_short n = omega arith

-- a run ends at a byte
pub run_whole : (run : List TermPosting) → length (filled (run_bits run)) % 8 ≡ 0
run_whole run = ap (λ n. n % 8) (length_filled (run_bits run)) ∙ to_next_byte (length (run_bits run))

pub run_short : (run : List TermPosting) → IsRun run → IsWritten run → length (filled (run_bits run)) ≤ 80 + 198 * length run
unfolding run_bits
run_short run is written =
    let few = written.short in
    let bits : Bits = postings_bits before_first run in
    let head : length (gamma (length run)) ≤ 66 = gamma_short (length run) written.some (omega arith) in
    let rest : length bits ≤ 198 * length run = postings_short before_first run (after_start run is.small) is in
    let all : length (gamma (length run) ++ bits) ≡ length (gamma (length run)) + length bits = length-append (gamma (length run)) bits in
    let pad : to_byte (length (gamma (length run) ++ bits)) ≤ 7 = to_byte_short (length (gamma (length run) ++ bits)) in
    let size = length_filled (gamma (length run) ++ bits) in
    omega (arith, head, rest, all, pad, size)

pub runs_short_by : (runs : List (List TermPosting)) → All (λ run. IsRun run) runs → All (λ run. IsWritten run) runs → length (runs_bits runs) ≤ 512 * all_postings runs
runs_short_by [] is written = omega arith
runs_short_by (run ∷ runs) is written =
    let first : IsWritten run = written 0 run (omega arith) in
    let one : length (filled (run_bits run)) ≤ 80 + 198 * length run = run_short run (is 0 run (omega arith)) first in
    let rest = runs_short_by runs (All-tail (λ l. IsRun l) run runs is) (All-tail (λ l. IsWritten l) run runs written) in
    omega (arith, first.some, one, rest, length-append (filled (run_bits run)) (runs_bits runs), sum_by-cons (λ (l : List TermPosting). length l) run runs)

-- the runs are short
pub runs_short : (runs : List (List TermPosting)) → AreWritten runs → length (runs_bits runs) ≤ 512 * all_postings runs
runs_short runs is = runs_short_by runs is.are.runs is.each

-- so are those that a round has written so far
pub first_joined_short : (w k : ℕ) (runs : List (List TermPosting)) → 1 ≤ w → w < length runs → k ≤ (length runs + w - 1) / w → AreWritten runs →
    length (runs_bits (first_joined w k runs)) ≤ 512 * all_postings runs
first_joined_short w k runs some more within is =
    let bound = runs_short_by (first_joined w k runs) (first_joined_run w k runs is.are)
    (all_groups (λ l. IsWritten l) w k runs (λ i less. (group_is w i runs some more (some_group w i (length runs) some (omega arith)) is).1)) in
    omega (arith, bound, all_first_joined w k runs)

pub runs_whole : (runs : List (List TermPosting)) → length (runs_bits runs) % 8 ≡ 0
runs_whole [] = refl
runs_whole (run ∷ runs) = omega (arith, run_whole run, runs_whole runs, length-append (filled (run_bits run)) (runs_bits runs))

pub runs_bits_more : (runs : List (List TermPosting)) (run : List TermPosting) → runs_bits (runs ++ run ∷ []) ≡ runs_bits runs ++ filled (run_bits run)
runs_bits_more runs run = flat_map-append (λ r. filled (run_bits r)) runs (run ∷ []) ∙ ap (λ t. runs_bits runs ++ t) (append-nil (filled (run_bits run)))

-- ---- places

pub length_starts : (at : ℕ) (runs : List (List TermPosting)) → length (starts at runs) ≡ length runs
length_starts at [] = refl
length_starts at (run ∷ runs) = ap (λ n. suc n) (length_starts (at + length (filled (run_bits run))) runs)

pub starts_append : (at : ℕ) (xs ys : List (List TermPosting)) → starts at (xs ++ ys) ≡ starts at xs ++ starts (at + length (runs_bits xs)) ys
starts_append at [] ys = let z : at ≡ at + 0 = omega arith in ap (λ n. starts n ys) z
starts_append at (run ∷ runs) ys =
    let first : ℕ = length (filled (run_bits run)) in
    let size : at + first + length (runs_bits runs) ≡ at + length (runs_bits (run ∷ runs)) = omega (arith, length-append (filled (run_bits run)) (runs_bits runs)) in
    ap (λ l. at ∷ l) (starts_append (at + first) runs ys ∙ ap (λ n. starts (at + first) runs ++ starts n ys) size)

-- the next run's place is the end of those before it
pub starts_more : (runs : List (List TermPosting)) (run : List TermPosting) → starts 0 (runs ++ run ∷ []) ≡ starts 0 runs ++ length (runs_bits runs) ∷ []
starts_more runs run =
    let z : 0 + length (runs_bits runs) ≡ length (runs_bits runs) = omega arith in
    starts_append 0 runs (run ∷ []) ∙ ap (λ n. starts 0 runs ++ n ∷ []) z

cons_at : (file : List ℕ) (place : ℕ) (places : List ℕ) (run : List TermPosting) (runs : List (List TermPosting)) → IsRunAt file place run →
    AreRunsAt file places runs → AreRunsAt file (place ∷ places) (run ∷ runs)
cons_at file place places run runs one rest = record {
  size = ap (λ n. suc n) rest.size;
  at = here;
}
  where
    here : (k : ℕ) → k < length (place ∷ places) → IsRunAt file (get_or (place ∷ places) k 0) (get_or (run ∷ runs) k [])
    here zero h = one
    here (suc k) h = rest.at k (omega arith)

first_run_at : (file : List ℕ) (place : ℕ) (run : List TermPosting) (rest : Bits) → IsRun run → IsWritten run →
    drop place (bits_of file) ≡ filled (run_bits run) ++ rest → place ≤ length (bits_of file) → length (bits_of file) ≤ 2 ^ 61 →
    IsRunAt file place run
unfolding filled
first_run_at file place run rest is written e below short = record {
  some = written.some;
  few = written.short;
  run = is;
  more = digits (to_byte (length (run_bits run))) 0 ++ rest;
  bits = e ∙ append_assoc (run_bits run) (digits (to_byte (length (run_bits run))) 0) rest;
  below = below;
  short = short;
}

runs_from : (file : List ℕ) (at : ℕ) (runs : List (List TermPosting)) (more : Bits) → drop at (bits_of file) ≡ runs_bits runs ++ more →
    at ≤ length (bits_of file) → length (bits_of file) ≤ 2 ^ 61 → All (λ run. IsRun run) runs → All (λ run. IsWritten run) runs → AreRunsAt file (starts at runs) runs
runs_from file at [] more e below short is written = record { size = refl; at = λ k h. absurd (omega arith) }
runs_from file at (run ∷ runs) more e below short is written =
    let code : Bits = filled (run_bits run) in
    let rest : Bits = runs_bits runs ++ more in
    let split : drop at (bits_of file) ≡ code ++ rest = e ∙ append_assoc code (runs_bits runs) more in
    cons_at file at (starts (at + length code) runs) run runs
    (first_run_at file at run rest (is 0 run (omega arith)) (written 0 run (omega arith)) split below short)
    (runs_from file (at + length code) runs more (behind_code at (bits_of file) code rest split) (place_below at (bits_of file) code rest below split) short
    (All-tail (λ l. IsRun l) run runs is) (All-tail (λ l. IsWritten l) run runs written))

pub runs_at : (file : List ℕ) (runs : List (List TermPosting)) (more : Bits) → bits_of file ≡ runs_bits runs ++ more → length (bits_of file) ≤ 2 ^ 61 →
    AreWritten runs → AreRunsAt file (starts 0 runs) runs
runs_at file runs more e short is = runs_from file 0 runs more e (omega arith) short is.are.runs is.each

-- where a file is the runs' bits, these stand at their places
pub all_runs_at : (file : List ℕ) (runs : List (List TermPosting)) → bits_of file ≡ runs_bits runs → AreWritten runs → AreRunsAt file (starts 0 runs) runs
all_runs_at file runs e is =
    let size : length (bits_of file) ≡ length (runs_bits runs) = ap (λ l. length l) e in
    runs_at file runs [] (e ∙ sym (append-nil (runs_bits runs))) (omega (arith, size, runs_short runs is, is.few)) is

pub runs_at_slice : (file places : List ℕ) (runs : List (List TermPosting)) (n k : ℕ) → AreRunsAt file places runs → AreRunsAt file (take n (drop k places)) (take n (drop k runs))
runs_at_slice file places runs n k are = record {
  size = omega (arith, are.size, length-take n (drop k runs), length-take n (drop k places), length-drop k runs, length-drop k places);
  at = λ i h.
      let less : i < n = omega (arith, h, length-take n (drop k places)) in
      let there : k + i < length places = omega (arith, h, length-take n (drop k places), length-drop k places) in
      let p : get_or (take n (drop k places)) i 0 ≡ get_or places (k + i) 0 = get_or-take n (drop k places) i 0 less ∙ get_or-drop k places i 0 in
      let r : get_or (take n (drop k runs)) i [] ≡ get_or runs (k + i) [] = get_or-take n (drop k runs) i [] less ∙ get_or-drop k runs i [] in
      subst (λ t. IsRunAt file t (get_or (take n (drop k runs)) i [])) (sym p) (subst (λ t. IsRunAt file (get_or places (k + i) 0) t) (sym r) (are.at (k + i) there));
}
