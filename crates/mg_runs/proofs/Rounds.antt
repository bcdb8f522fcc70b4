-- Runs that are joined in groups.
use Rattle.std.proofs.Common.{◌≡◌, ℕ, zero, suc, ◌+◌, ◌-◌, ◌*◌, ◌/◌, ◌<◌, ◌≤◌, ◌^◌, List, [], ◌∷◌, ◌++◌, length, refl, sym, ap, ◌∙◌, subst, arith, take, drop, map}
use Rattle.std.specs.List.{AllByRecursion, All}
use Rattle.std.specs.Prelude.{sum_by}
use Rattle.std.specs.Simd.{first_chunks}
use Rattle.std.proofs.Math.Nat.{div-mul-le_self, lt-div-mul-add}
use Rattle.std.proofs.lemmas.Bool.Decides.{nat_tests}
use Rattle.std.proofs.lemmas.Nat.{div_below, le-div}
use Rattle.std.proofs.lemmas.List.{length-drop, length-take}
use Rattle.std.proofs.lemmas.List.Elements.{All-nil, All-push, All-take, All-drop, All-tail}
use Rattle.std.proofs.lemmas.List.Sums.{sum_by-cons, sum_by-take-drop, sum_by-take-le}
use Rattle.mg_defs.specs.declared.TermPosting.{TermPosting}
use Rattle.mg_defs.specs.Postings.{AllCount, part_at, times, added, merged_two, merged}
use Rattle.mg_defs.proofs.Gathering.{added-cases, only_one}
use Rattle.mg_runs.proofs.Chunks.{chunks-more}
use Rattle.mg_runs.proofs.Segments.{map_end}
use Rattle.mg_runs.specs.Decoding.{IsSmall}
use Rattle.mg_runs.specs.Cursors.{IsRun}
use Rattle.mg_runs.specs.Merging.{AreRuns, times_all}
use Rattle.mg_runs.specs.Rounds.{first_joined, joined_runs, all_postings, AreWritten, IsWritten}
use Rattle.mg_runs.proofs.Merges.{times-merged, Rising-merged, AllCount-merged}

-- ---- groups

-- one more group joined
pub joined_more : (w k : ℕ) (runs : List (List TermPosting)) → first_joined w (suc k) runs ≡ first_joined w k runs ++ merged (take w (drop (k * w) runs)) ∷ []
joined_more w k runs =
    ap (λ t. map (λ group. merged group) t) (chunks-more w k runs) ∙ map_end (λ group. merged group) (first_chunks w k runs) (take w (drop (k * w) runs))

-- a quotient that is rounded up
pub ceil_low : (n w : ℕ) → 1 ≤ w → (n + w - 1) / w * w < n + w
ceil_low n w some = let h : (n + w - 1) / w * w ≤ n + w - 1 = div-mul-le_self (n + w - 1) w in omega arith

pub ceil_high : (n w : ℕ) → 1 ≤ w → n ≤ (n + w - 1) / w * w
ceil_high n w some = let high = lt-div-mul-add {a = n + w - 1} {b = w} some in omega (arith, high)

pub ceil_is : (n w q : ℕ) → 1 ≤ w → q * w < n + w → n ≤ q * w → (n + w - 1) / w ≡ q
ceil_is n w q some low high =
    let next : suc q * w ≡ w + q * w = omega arith in
    let h : (n + w - 1) / w < suc q = div_below (n + w - 1) w (suc q) some (omega arith) in
    let l : q ≤ (n + w - 1) / w = le-div q (n + w - 1) w some (omega arith) in
    omega arith

less_than_product : (a b : ℕ) → 2 + a + (2 + b) - 1 < (2 + a) * (2 + b)
less_than_product a b = omega arith

fewer : (n w : ℕ) → 2 ≤ w → 2 ≤ n → n + w - 1 < n * w
fewer n w more some =
    let a : 2 + (n - 2) ≡ n = omega arith in
    let b : 2 + (w - 2) ≡ w = omega arith in
    subst (λ k. k + w - 1 < k * w) a (subst (λ k. 2 + (n - 2) + k - 1 < (2 + (n - 2)) * k) b (less_than_product (n - 2) (w - 2)))

more_groups : (k r w n : ℕ) → (suc k + r) * w < n + w → k * w < n
more_groups k r w n h =
    let e : (suc k + r) * w ≡ w + k * w + r * w = omega arith in
    omega arith

-- each group has a run
pub some_group : (w k n : ℕ) → 1 ≤ w → k < (n + w - 1) / w → k * w < n
some_group w k n some h =
    let q : ℕ = (n + w - 1) / w in
    let e : q ≡ suc k + (q - suc k) = omega arith in
    more_groups k (q - suc k) w n (subst (λ m. m * w < n + w) e (ceil_low n w some))

-- ---- runs

-- the term and the document fit in 32 bits, and documents count from 1
pub record IsPlaced (x : TermPosting) : Type 0 where
  pub term : x.term < 2 ^ 32
  pub some : 1 ≤ x.doc
  pub doc : x.doc < 2 ^ 32

pub placed_added : (e : TermPosting) (xs : List TermPosting) → IsPlaced e → AllByRecursion (λ x. IsPlaced x) xs → AllByRecursion (λ x. IsPlaced x) (added e xs)
placed_added e [] h all = (h, tt)
placed_added e (x ∷ xs) h all =
    added-cases e x xs (λ t. AllByRecursion (λ y. IsPlaced y) t)
    (λ b. (h, all))
    (λ b. (all.0, placed_added e xs h all.1))
    (λ p q. let k : IsPlaced x = all.0 in (record { term = k.term; some = k.some; doc = k.doc }, all.1))

pub placed_joined : (xs ys : List TermPosting) → AllByRecursion (λ x. IsPlaced x) xs → AllByRecursion (λ x. IsPlaced x) ys → AllByRecursion (λ x. IsPlaced x) (merged_two xs ys)
placed_joined [] ys a b = b
placed_joined (x ∷ xs) ys a b = placed_added x (merged_two xs ys) a.0 (placed_joined xs ys a.1 b)

placed_small : (xs : List TermPosting) → AllByRecursion (λ x. IsSmall x) xs → AllByRecursion (λ x. IsPlaced x) xs
placed_small [] all = tt
placed_small (x ∷ xs) all =
    let k : IsSmall x = all.0 in
    (record { term = k.term; some = k.doc_some; doc = k.doc }, placed_small xs all.1)

placed_merged : (runs : List (List TermPosting)) → All (λ run. IsRun run) runs → AllByRecursion (λ x. IsPlaced x) (merged runs)
placed_merged [] all = tt
placed_merged (run ∷ runs) all =
    let one : IsRun run = all 0 run (omega arith) in
    placed_joined run (merged runs) (placed_small run one.small) (placed_merged runs (All-tail (λ l. IsRun l) run runs all))

part_own : (x : TermPosting) → part_at x.term x.doc x ≡ x.count
part_own x = grind (arith, nat_tests)

-- a count is no more than how often its term stands in its document
counts_below : (n : ℕ) (xs : List TermPosting) → ((t d : ℕ) → times t d xs < n) → AllByRecursion (λ x. x.count < n) xs
counts_below n [] h = tt
counts_below n (x ∷ xs) h = (omega (arith, h x.term x.doc, part_own x), counts_below n xs (λ t d. omega (arith, h t d)))

small_from : (xs : List TermPosting) → AllByRecursion (λ x. IsPlaced x) xs → AllCount xs → AllByRecursion (λ x. x.count < 2 ^ 32) xs → AllByRecursion (λ x. IsSmall x) xs
small_from [] a b c = tt
small_from (x ∷ xs) a b c =
    let k : IsPlaced x = a.0 in
    (record { term = k.term; doc_some = k.some; doc = k.doc; count_some = b.0; count = c.0 }, small_from xs a.1 b.1 c.1)

pub small_of : (xs : List TermPosting) → AllByRecursion (λ x. IsPlaced x) xs → AllCount xs → ((t d : ℕ) → times t d xs < 2 ^ 32) → AllByRecursion (λ x. IsSmall x) xs
small_of xs placed some fits = small_from xs placed some (counts_below (2 ^ 32) xs fits)

-- runs joined are a run
pub run_merged : (runs : List (List TermPosting)) → AreRuns runs → IsRun (merged runs)
run_merged runs are = record {
  rising = Rising-merged runs are.runs;
  small = small_of (merged runs) (placed_merged runs are.runs) (AllCount-merged runs are.runs) (λ t d. omega (arith, times-merged t d runs, are.fits t d));
}

sum_of_slice : (f : List TermPosting → ℕ) (n k : ℕ) (runs : List (List TermPosting)) → sum_by f (take n (drop k runs)) ≤ sum_by f runs
sum_of_slice f n k runs = omega (arith, sum_by-take-le f (drop k runs) n, sum_by-take-drop f runs k)

pub runs_slice : (n k : ℕ) (runs : List (List TermPosting)) → AreRuns runs → AreRuns (take n (drop k runs))
runs_slice n k runs are = record {
  runs = All-take (λ l. IsRun l) n (drop k runs) (All-drop (λ l. IsRun l) k runs are.runs);
  fits = λ t d. omega (arith, are.fits t d, sum_of_slice (λ left. times t d left) n k runs);
}

-- what holds of each group joined holds of all
pub all_groups : (P : List TermPosting → Type 0) (w k : ℕ) (runs : List (List TermPosting)) → ((i : ℕ) → i < k → P (merged (take w (drop (i * w) runs)))) → All P (first_joined w k runs)
all_groups P w zero runs h = All-nil P
all_groups P w (suc k) runs h =
    subst (λ t. All P t) (sym (joined_more w k runs))
    (All-push P (first_joined w k runs) (merged (take w (drop (k * w) runs))) (all_groups P w k runs (λ i less. h i (omega arith))) (h k (omega arith)))

pub first_joined_run : (w k : ℕ) (runs : List (List TermPosting)) → AreRuns runs → All (λ l. IsRun l) (first_joined w k runs)
first_joined_run w k runs are = all_groups (λ l. IsRun l) w k runs (λ i less. run_merged (take w (drop (i * w) runs)) (runs_slice w (i * w) runs are))

times_joined : (t d w k : ℕ) (runs : List (List TermPosting)) → length runs ≤ k * w → times_all t d (first_joined w k runs) ≡ times_all t d runs
times_joined t d w zero [] h = refl
times_joined t d w zero (run ∷ runs) h = let z : zero * w ≡ 0 = omega arith in absurd (omega arith)
times_joined t d w (suc k) runs h =
    let f : List TermPosting → ℕ = λ left. times t d left in
    let next : suc k * w ≡ w + k * w = omega arith in
    let rest : length (drop w runs) ≤ k * w = omega (arith, length-drop w runs) in
    omega (arith, sum_by-cons f (merged (take w runs)) (first_joined w k (drop w runs)), times-merged t d (take w runs), times_joined t d w k (drop w runs) rest, sum_by-take-drop f runs w)

pub runs_joined : (w : ℕ) (runs : List (List TermPosting)) → 1 ≤ w → AreRuns runs → AreRuns (joined_runs w runs)
runs_joined w runs some are = record {
  runs = first_joined_run w ((length runs + w - 1) / w) runs are;
  fits = λ t d. omega (arith, are.fits t d, times_joined t d w ((length runs + w - 1) / w) runs (ceil_high (length runs) w some));
}

-- a round changes nothing of the whole
pub merged_joined : (w : ℕ) (runs : List (List TermPosting)) → 1 ≤ w → AreRuns runs → merged (joined_runs w runs) ≡ merged runs
merged_joined w runs some are =
    let new : AreRuns (joined_runs w runs) = runs_joined w runs some are in
    only_one (merged (joined_runs w runs)) (merged runs) (Rising-merged (joined_runs w runs) new.runs) (Rising-merged runs are.runs)
    (AllCount-merged (joined_runs w runs) new.runs) (AllCount-merged runs are.runs)
    (λ t d. times-merged t d (joined_runs w runs) ∙ times_joined t d w ((length runs + w - 1) / w) runs (ceil_high (length runs) w some) ∙ sym (times-merged t d runs))

-- ---- how many postings

pub record HasLength (xs new : List TermPosting) : Type 0 where
  pub most : length new ≤ 1 + length xs
  pub least : length xs ≤ length new
  pub some : 1 ≤ length new

pub length_added : (e : TermPosting) (xs : List TermPosting) → HasLength xs (added e xs)
length_added e [] = record { most = omega arith; least = omega arith; some = omega arith }
length_added e (x ∷ xs) =
    let r : HasLength xs (added e xs) = length_added e xs in
    let most = r.most in
    let least = r.least in
    added-cases e x xs (λ t. HasLength (x ∷ xs) t)
    (λ b. record { most = omega arith; least = omega arith; some = omega arith })
    (λ b. record { most = omega arith; least = omega arith; some = omega arith })
    (λ p q. record { most = omega arith; least = omega arith; some = omega arith })

length_joined : (xs ys : List TermPosting) → length (merged_two xs ys) ≤ length xs + length ys
length_joined [] ys = omega arith
length_joined (x ∷ xs) ys = let a = (length_added x (merged_two xs ys)).most in omega (arith, length_joined xs ys)

pub length_merged : (runs : List (List TermPosting)) → length (merged runs) ≤ all_postings runs
length_merged [] = omega arith
length_merged (run ∷ runs) = omega (arith, length_joined run (merged runs), length_merged runs, sum_by-cons (λ (l : List TermPosting). length l) run runs)

pub some_merged : (runs : List (List TermPosting)) → 1 ≤ length runs → All (λ run. IsWritten run) runs → 1 ≤ length (merged runs)
some_merged [] more all = absurd (omega arith)
some_merged (run ∷ runs) more all = first_some run ((all 0 run (omega arith)).some)
  where
    first_some : (run : List TermPosting) → 1 ≤ length run → 1 ≤ length (merged_two run (merged runs))
    first_some [] h = absurd (omega arith)
    first_some (x ∷ xs) h = (length_added x (merged_two xs (merged runs))).some

pub all_first_joined : (w k : ℕ) (runs : List (List TermPosting)) → all_postings (first_joined w k runs) ≤ all_postings runs
all_first_joined w zero runs = omega arith
all_first_joined w (suc k) runs =
    let f : List TermPosting → ℕ = λ l. length l in
    omega (arith, sum_by-cons f (merged (take w runs)) (first_joined w k (drop w runs)), length_merged (take w runs), all_first_joined w k (drop w runs), sum_by-take-drop f runs w)

pub all_joined : (w : ℕ) (runs : List (List TermPosting)) → all_postings (joined_runs w runs) ≤ all_postings runs
all_joined w runs = all_first_joined w ((length runs + w - 1) / w) runs

-- no run is empty, so there are no more runs than postings
runs_at_most : (runs : List (List TermPosting)) → All (λ run. IsWritten run) runs → length runs ≤ all_postings runs
runs_at_most [] all = omega arith
runs_at_most (run ∷ runs) all =
    let one : 1 ≤ length run = (all 0 run (omega arith)).some in
    omega (arith, one, sum_by-cons (λ (l : List TermPosting). length l) run runs, runs_at_most runs (All-tail (λ l. IsWritten l) run runs all))

-- a part of the runs has fewer postings than all of them
slice_less : (n k : ℕ) (runs : List (List TermPosting)) → n < length runs → All (λ run. IsWritten run) runs → all_postings (take n (drop k runs)) < all_postings runs
slice_less n k runs less all =
    let f : List TermPosting → ℕ = λ l. length l in
    let rest : All (λ run. IsWritten run) (drop k runs) = All-drop (λ l. IsWritten l) k runs all in
    let a = runs_at_most (take k runs) (All-take (λ l. IsWritten l) k runs all) in
    let b = runs_at_most (drop n (drop k runs)) (All-drop (λ l. IsWritten l) n (drop k runs) rest) in
    omega (arith, a, b, sum_by-take-drop f runs k, sum_by-take-drop f (drop k runs) n, length-take k runs, length-drop n (drop k runs), length-drop k runs)

pub written_slice : (n k : ℕ) (runs : List (List TermPosting)) → AreWritten runs → AreWritten (take n (drop k runs))
written_slice n k runs is = record {
  are = runs_slice n k runs is.are;
  each = All-take (λ l. IsWritten l) n (drop k runs) (All-drop (λ l. IsWritten l) k runs is.each);
  few = omega (arith, is.few, sum_of_slice (λ l. length l) n k runs);
}

-- a group that is joined can be written
pub group_is : (w k : ℕ) (runs : List (List TermPosting)) → 1 ≤ w → w < length runs → k * w < length runs → AreWritten runs →
    IsRun (merged (take w (drop (k * w) runs))) × IsWritten (merged (take w (drop (k * w) runs)))
group_is w k runs some more less is =
    let group : List (List TermPosting) = take w (drop (k * w) runs) in
    let whole : AreWritten group = written_slice w (k * w) runs is in
    let there : 1 ≤ length group = omega (arith, length-take w (drop (k * w) runs), length-drop (k * w) runs) in (
      run_merged group whole.are,
      record { some = some_merged group there whole.each; short = omega (arith, length_merged group, slice_less w (k * w) runs more is.each, is.few) },
    )

pub written_joined : (w : ℕ) (runs : List (List TermPosting)) → 1 ≤ w → w < length runs → AreWritten runs → AreWritten (joined_runs w runs)
written_joined w runs some more is =
    let count : ℕ = (length runs + w - 1) / w in
    record {
      are = runs_joined w runs some is.are;
      each = all_groups (λ l. IsWritten l) w count runs (λ i less. (group_is w i runs some more (some_group w i (length runs) some less) is).1);
      few = omega (arith, is.few, all_joined w runs);
    }
