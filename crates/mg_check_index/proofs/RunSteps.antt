-- Occurrences taken one after the other, with the runs that are compared.
use Rattle.std.proofs.Common.{◌≡◌, ◌≢◌, ℕ, zero, suc, ◌+◌, ◌-◌, ◌*◌, ◌/◌, ◌<◌, ◌≤◌, ◌^◌, List, [], ◌∷◌, ◌++◌, length, Ok, Err, refl, sym, ap, ◌∙◌, subst, arith, take, drop, map}
use Rattle.std.proofs.Common.{length-append, append-nil, append_assoc}
use Rattle.std.specs.declared.option.Option.{Option}
use Rattle.std.specs.declared.result.Result.{Result}
use Rattle.std.proofs.lemmas.Grind.{common_steps}
use Rattle.std.proofs.lemmas.Nat.{div_below, le-div}
use Rattle.std.proofs.lemmas.List.{drop-drop}
use Rattle.mg_dev.specs.Files.{Files, bytes_at}
use Rattle.mg_dev.specs.declared.part_err.PartErr.{PartErr}
use Rattle.mg_dev.specs.declared.part_err.PartErr.TheVariants.{Device, Memory, Bad}
use Rattle.mg_defs.specs.Bits.{as_bytes}
use Rattle.mg_defs.specs.declared.TermPosting.{TermPosting}
use Rattle.mg_defs.specs.Postings.{once, gathered, term_postings}
use Rattle.mg_defs.specs.Runs.{first_runs, runs_of}
use Rattle.mg_runs.specs.FinishedRuns.{finished}
use Rattle.mg_defs.specs.RunBits.{run_part_bits, runs_bits}
use Rattle.mg_runs.proofs.CallerLemmas.{drop_all, drop_end, entries_of, finished-full, finished-low, finished-room, first_runs-full, first_runs-more, length_end, length_rest}
use Rattle.mg_runs.proofs.CallerLemmas.{map_end, none_finished, occurrences_drop, occurrences_end, rest_fits, runs_of_last, runs_of_none}
use Rattle.mg_runs.specs.Bytes.{AreEntries}
use Rattle.mg_runs.specs.Fed.{IsOccurrence, cap_of}
use Rattle.mg_check_index.specs.Counting.{HasBegun, HasTaken, RunReading}
use Rattle.mg_check_parts.specs.Refusals.{WhereBad}

-- ---- lists

length_map : {X Y : Type 0} (f : X → Y) (xs : List X) → length (map f xs) ≡ length xs
length_map f [] = refl
length_map f (x ∷ xs) = ap (λ n. suc n) (length_map f xs)

-- ---- runs of more occurrences

runs_split : (cap k j : ℕ) (s : List (ℕ × ℕ)) → first_runs cap (k + j) s ≡ first_runs cap k s ++ first_runs cap j (drop (k * cap) s)
runs_split cap zero j s =
    let z : zero * cap ≡ zero = omega arith in
    let y : zero + j ≡ j = omega arith in
    ap (λ n. first_runs cap n s) y ∙ ap (λ n. first_runs cap j (drop n s)) (sym z)
runs_split cap (suc k) j s =
    let one : cap + k * cap ≡ suc k * cap = omega arith in
    let e : drop (k * cap) (drop cap s) ≡ drop (suc k * cap) s = drop-drop (k * cap) cap s ∙ ap (λ m. drop m s) one in
    let n : suc k + j ≡ suc (k + j) = omega arith in
    ap (λ m. first_runs cap m s) n ∙ ap (λ t. term_postings (take cap s) ∷ t) (runs_split cap k j (drop cap s) ∙ ap (λ t. first_runs cap k (drop cap s) ++ first_runs cap j t) e)

runs_front : (cap k : ℕ) (s rest : List (ℕ × ℕ)) → k * cap ≤ length s → first_runs cap k (s ++ rest) ≡ first_runs cap k s
runs_front cap k s [] h = ap (λ t. first_runs cap k t) (append-nil s)
runs_front cap k s (o ∷ rest) h =
    ap (λ t. first_runs cap k t) (sym (append_assoc s (o ∷ []) rest))
    ∙ runs_front cap k (s ++ o ∷ []) rest (omega (arith, length_end s o))
    ∙ first_runs-more cap k s o h

-- the first runs of some occurrences are the first of more
abbrev Front : ℕ → ℕ → List (ℕ × ℕ) → List (ℕ × ℕ) → Type 0
Front cap k s rest = (more : List (List TermPosting)) × (runs_of cap (s ++ rest) ≡ first_runs cap k s ++ more)

runs_more : (cap k : ℕ) (s rest : List (ℕ × ℕ)) → 1 ≤ cap → k * cap ≤ length s → Front cap k s rest
runs_more cap k s rest some h =
    let n : ℕ = (length (s ++ rest) + cap - 1) / cap in
    let long = length-append s rest in
    let low : k ≤ n = le-div k (length (s ++ rest) + cap - 1) cap some (omega arith) in
    let j : ℕ = n - k in
    let e : n ≡ k + j = omega arith in (
      first_runs cap j (drop (k * cap) (s ++ rest)),
      ap (λ m. first_runs cap m (s ++ rest)) e ∙ runs_split cap k j (s ++ rest) ∙ ap (λ t. t ++ first_runs cap j (drop (k * cap) (s ++ rest))) (runs_front cap k s rest h),
    )

take_all : (n : ℕ) (xs : List (ℕ × ℕ)) → length xs ≤ n → take n xs ≡ xs
take_all n xs h = grind (arith, common_steps)

-- all occurrences go into one run where it takes so many
one_run : (cap : ℕ) (s : List (ℕ × ℕ)) → 1 ≤ cap → 1 ≤ length s → length s ≤ cap → runs_of cap s ≡ term_postings s ∷ []
one_run cap s some more fits =
    let none : finished cap (length s) ≡ 0 = let h : (length s - 1) / cap < 1 = div_below (length s - 1) cap 1 some (omega arith) in omega arith in
    let z : 0 * cap ≡ 0 = omega arith in
    runs_of_last cap s some more ∙ ap (λ q. first_runs cap q s ++ term_postings (drop (q * cap) s) ∷ []) none ∙ ap (λ k. term_postings (drop k s) ∷ []) z

-- so the runs are the same however many more they may take
pub same_runs : (c d : ℕ) (s : List (ℕ × ℕ)) → 1 ≤ c → length s ≤ c → c ≤ d → runs_of c s ≡ runs_of d s
same_runs c d [] some fits below = runs_of_none c some ∙ sym (runs_of_none d (omega arith))
same_runs c d (o ∷ s) some fits below = one_run c (o ∷ s) some (omega arith) fits ∙ sym (one_run d (o ∷ s) (omega arith) (omega arith) (omega arith))

-- ---- what was taken

cap_some : (limit : ℕ) → 4096 ≤ limit → 1 ≤ limit / 12
cap_some limit h = omega arith

pub taken_some_cap : (r : RunReading) (files : Option Files) (fed : List (ℕ × ℕ)) → HasTaken r files fed → 1 ≤ cap_of r.pool
taken_some_cap r files fed is = cap_some r.pool.limit is.least

no_bytes : as_bytes [] ≡ []
unfolding as_bytes
no_bytes = refl

pub taken_none : (r : RunReading) (files : Option Files) → 4096 ≤ r.pool.limit → r.pool.limit ≤ 2 ^ 30 → r.pool.entries ≡ [] → r.pool.slots ≡ [] → r.part.at ≡ 0 → HasTaken r files []
taken_none r files least most entries slots at =
    let cap : ℕ = cap_of r.pool in
    let some : 1 ≤ cap = cap_some r.pool.limit least in
    let none : finished cap 0 ≡ 0 = none_finished cap some in
    let z : 0 * cap ≡ 0 = omega arith in
    let bytes : as_bytes (runs_bits (first_runs cap (finished cap 0) [])) ≡ [] = ap (λ k. as_bytes (runs_bits (first_runs cap k []))) none ∙ no_bytes in
    record {
      least = least;
      most = most;
      slots = slots;
      entries = entries ∙ ap (λ k. map once (drop k [])) (sym (ap (λ k. k * cap) none ∙ z));
      begun = subst (λ (b : List ℕ). HasBegun r.part files b) (sym bytes) (record { at_is = at; begins = λ told. refl });
      below = omega arith;
      occurrences = tt;
      few = omega arith;
    }

pub taken_entries : (r : RunReading) (files : Option Files) (fed : List (ℕ × ℕ)) → HasTaken r files fed → AreEntries r.pool.entries
taken_entries r files fed is = subst (λ xs. AreEntries xs) (sym is.entries) (entries_of _ (occurrences_drop (finished (cap_of r.pool) (length fed) * cap_of r.pool) fed is.occurrences))

taken_length : (r : RunReading) (files : Option Files) (fed : List (ℕ × ℕ)) → HasTaken r files fed → length r.pool.entries ≡ length fed - finished (cap_of r.pool) (length fed) * cap_of r.pool
taken_length r files fed is =
    ap (λ xs. length xs) is.entries ∙ length_map once (drop (finished (cap_of r.pool) (length fed) * cap_of r.pool) fed) ∙ length_rest fed (finished (cap_of r.pool) (length fed) * cap_of r.pool)

pub taken_most : (r : RunReading) (files : Option Files) (fed : List (ℕ × ℕ)) → HasTaken r files fed → length r.pool.entries ≤ cap_of r.pool
taken_most r files fed is = omega (arith, taken_length r files fed is, rest_fits (cap_of r.pool) (length fed) (taken_some_cap r files fed is))

pub taken_few : (r : RunReading) (files : Option Files) (fed : List (ℕ × ℕ)) → HasTaken r files fed → length r.pool.entries ≤ 2 ^ 32
taken_few r files fed is = let few = is.few in omega (arith, taken_length r files fed is)

pub taken_place : (r : RunReading) (files : Option Files) (fed : List (ℕ × ℕ)) → HasTaken r files fed → r.part.at ≤ 2 ^ 62
taken_place r files fed is =
    let low = finished-low (cap_of r.pool) (length fed) (taken_some_cap r files fed is) in
    let p = is.below in
    let few = is.few in
    omega arith

pub taken_room : (r0 r1 : RunReading) (f : Option Files) (fed : List (ℕ × ℕ)) (o : ℕ × ℕ) → HasTaken r0 f fed → length r0.pool.entries < cap_of r0.pool →
    IsOccurrence o → length fed < 2 ^ 32 - 1 → r1.pool.entries ≡ r0.pool.entries ++ once o ∷ [] → r1.pool.slots ≡ [] → r1.pool.limit ≡ r0.pool.limit →
    r1.part ≡ r0.part → HasTaken r1 f (fed ++ o ∷ [])
taken_room r0 r1 f fed o is room doc room_left entries slots limit part =
    let n : ℕ = length fed in
    let cap : ℕ = cap_of r0.pool in
    let q : ℕ = finished cap n in
    let some : 1 ≤ cap = taken_some_cap r0 f fed is in
    let len : length r0.pool.entries ≡ n - q * cap = taken_length r0 f fed is in
    let low : q * cap ≤ n - 1 = finished-low cap n some in
    let e0 : cap_of r1.pool ≡ cap = ap (λ l. l / 12) limit in
    let e1 : length (fed ++ o ∷ []) ≡ n + 1 = length_end fed o in
    let e2 : finished cap (length (fed ++ o ∷ [])) ≡ q = ap (λ k. finished cap k) e1 ∙ finished-room cap n some (omega arith) in
    let e3 : finished (cap_of r1.pool) (length (fed ++ o ∷ [])) ≡ q = ap (λ k. finished k (length (fed ++ o ∷ []))) e0 ∙ e2 in
    let runs : first_runs (cap_of r1.pool) (finished (cap_of r1.pool) (length (fed ++ o ∷ []))) (fed ++ o ∷ [])
    ≡ first_runs cap q fed = ap (λ k. first_runs k (finished k (length (fed ++ o ∷ []))) (fed ++ o ∷ [])) e0 ∙ ap (λ k. first_runs cap k (fed ++ o ∷ [])) e2
    ∙ first_runs-more cap q fed o (omega arith) in
    let at : finished (cap_of r1.pool) (length (fed ++ o ∷ [])) * cap_of r1.pool ≡ q * cap = ap (λ k. k * cap_of r1.pool) e3 ∙ ap (λ k. q * k) e0 in
    record {
      least = let l = is.least in omega arith;
      most = let l = is.most in omega arith;
      slots = slots;
      entries = entries ∙ ap (λ xs. xs ++ once o ∷ []) is.entries ∙ sym (map_end once (drop (q * cap) fed) o)
          ∙ ap (λ xs. map once xs) (sym (drop_end fed (q * cap) o (omega arith)) ∙ ap (λ k. drop k (fed ++ o ∷ [])) (sym at));
      begun = subst (λ (b : List ℕ). HasBegun r1.part f b) (ap (λ rs. as_bytes (runs_bits rs)) (sym runs))
          (subst (λ c. HasBegun c f (as_bytes (runs_bits (first_runs cap q fed)))) (sym part) is.begun);
      below = subst (λ k. r1.part.at ≤ 64 * k) (sym at) (subst (λ c. c.at ≤ 64 * (q * cap)) (sym part) is.below);
      occurrences = occurrences_end fed o is.occurrences doc;
      few = omega (arith, e1, room_left);
    }

-- runs are bytes one after the other
abbrev pub RunsJoin : Type 0
RunsJoin = (xs ys : List (List TermPosting)) → as_bytes (runs_bits (xs ++ ys)) ≡ as_bytes (runs_bits xs) ++ as_bytes (runs_bits ys)

abbrev pub pool_bytes : RunReading → List ℕ
pool_bytes r = as_bytes (runs_bits (gathered r.pool.entries ∷ []))

abbrev pub done_bytes : RunReading → List (ℕ × ℕ) → List ℕ
done_bytes r fed = as_bytes (runs_bits (first_runs (cap_of r.pool) (finished (cap_of r.pool) (length fed)) fed))

place_step : (q cap p0 p1 at : ℕ) → at ≡ suc q * cap → 1 ≤ cap → p0 ≤ 64 * (q * cap) → p1 ≤ p0 + 16 + 32 * cap → p1 ≤ 64 * at
place_step q cap p0 p1 at e some a b =
    let f : suc q * cap ≡ cap + q * cap = omega arith in
    omega arith

-- a full pool is the next run
full_run : (r : RunReading) (f : Option Files) (fed : List (ℕ × ℕ)) → HasTaken r f fed → length r.pool.entries ≡ cap_of r.pool →
    (suc (finished (cap_of r.pool) (length fed)) * cap_of r.pool ≡ length fed)
    × (first_runs (cap_of r.pool) (suc (finished (cap_of r.pool) (length fed))) fed ≡ first_runs (cap_of r.pool) (finished (cap_of r.pool) (length fed)) fed
    ++ gathered r.pool.entries ∷ [])
full_run r f fed is full =
    let n : ℕ = length fed in
    let cap : ℕ = cap_of r.pool in
    let q : ℕ = finished cap n in
    let some : 1 ≤ cap = taken_some_cap r f fed is in
    let len : length r.pool.entries ≡ n - q * cap = taken_length r f fed is in
    let low : q * cap ≤ n - 1 = finished-low cap n some in
    let next : suc q * cap ≡ cap + q * cap = omega arith in
    let whole : suc q * cap ≡ n = omega arith in
    let run : gathered r.pool.entries ≡ term_postings (drop (q * cap) fed) = ap (λ xs. gathered xs) is.entries in
    (whole, first_runs-full cap q fed (sym whole) ∙ ap (λ t. first_runs cap q fed ++ t ∷ []) (sym run))

pub taken_full : RunsJoin → (r0 r1 : RunReading) (f0 f1 : Option Files) (fed : List (ℕ × ℕ)) (o : ℕ × ℕ) → HasTaken r0 f0 fed →
    length r0.pool.entries ≡ cap_of r0.pool → IsOccurrence o → length fed < 2 ^ 32 - 1 →
    ((done : List ℕ) → HasBegun r0.part f0 done → HasBegun r1.part f1 (done ++ pool_bytes r0)) → r1.part.at ≤ r0.part.at + 16 + 32 * length r0.pool.entries →
    r1.pool.entries ≡ once o ∷ [] → r1.pool.slots ≡ [] → r1.pool.limit ≡ r0.pool.limit → HasTaken r1 f1 (fed ++ o ∷ [])
taken_full join r0 r1 f0 f1 fed o is full doc room_left begun below entries slots limit =
    let n : ℕ = length fed in
    let cap : ℕ = cap_of r0.pool in
    let q : ℕ = finished cap n in
    let some : 1 ≤ cap = taken_some_cap r0 f0 fed is in
    let len : length r0.pool.entries ≡ n - q * cap = taken_length r0 f0 fed is in
    let run = full_run r0 f0 fed is full in
    let fits : suc q * cap ≤ n = omega (arith, run.0) in
    let e0 : cap_of r1.pool ≡ cap = ap (λ l. l / 12) limit in
    let e1 : length (fed ++ o ∷ []) ≡ n + 1 = length_end fed o in
    let e2 : finished cap (length (fed ++ o ∷ [])) ≡ suc q = ap (λ k. finished cap k) e1 ∙ finished-full cap n some (sym len ∙ full) in
    let e3 : finished (cap_of r1.pool) (length (fed ++ o ∷ [])) ≡ suc q = ap (λ k. finished k (length (fed ++ o ∷ []))) e0 ∙ e2 in
    let at : finished (cap_of r1.pool) (length (fed ++ o ∷ [])) * cap_of r1.pool ≡ suc q * cap = ap (λ k. k * cap_of r1.pool) e3 ∙ ap (λ k. suc q * k) e0 in
    let runs : first_runs (cap_of r1.pool) (finished (cap_of r1.pool) (length (fed ++ o ∷ []))) (fed ++ o ∷ []) ≡ first_runs cap q fed
    ++ gathered r0.pool.entries ∷ [] = ap (λ k. first_runs k (finished k (length (fed ++ o ∷ []))) (fed ++ o ∷ [])) e0
    ∙ ap (λ k. first_runs cap k (fed ++ o ∷ [])) e2 ∙ first_runs-more cap (suc q) fed o fits ∙ run.1 in
    let bytes : done_bytes r1 (fed ++ o ∷ []) ≡ done_bytes r0 fed ++ pool_bytes r0 = ap (λ rs. as_bytes (runs_bits rs)) runs ∙ join (first_runs cap q fed) (gathered r0.pool.entries ∷ []) in
    let none : drop (suc q * cap) fed ≡ [] = drop_all fed (suc q * cap) (omega (arith, run.0)) in
    record {
      least = let l = is.least in omega arith;
      most = let l = is.most in omega arith;
      slots = slots;
      entries = entries ∙ ap (λ xs. map once (xs ++ o ∷ [])) (sym none) ∙ ap (λ xs. map once xs) (sym (drop_end fed (suc q * cap) o fits) ∙ ap (λ k. drop k (fed ++ o ∷ [])) (sym at));
      begun = subst (λ (b : List ℕ). HasBegun r1.part f1 b) (sym bytes) (begun (done_bytes r0 fed) is.begun);
      below = place_step q cap r0.part.at r1.part.at _ at some is.below (subst (λ k. r1.part.at ≤ r0.part.at + 16 + 32 * k) full below);
      occurrences = occurrences_end fed o is.occurrences doc;
      few = omega (arith, e1, room_left);
    }

-- the runs of more occurrences begin with those that are finished and a full pool's
full_front : RunsJoin → (r : RunReading) (f : Option Files) (fed rest : List (ℕ × ℕ)) → HasTaken r f fed → length r.pool.entries ≡ cap_of r.pool →
    (more : List ℕ) × (as_bytes (run_part_bits (cap_of r.pool) (fed ++ rest)) ≡ done_bytes r fed ++ (pool_bytes r ++ more))
full_front join r f fed rest is full =
    let cap : ℕ = cap_of r.pool in
    let q : ℕ = finished cap (length fed) in
    let run = full_run r f fed is full in
    let front = runs_more cap (suc q) fed rest (taken_some_cap r f fed is) (omega (arith, run.0)) in
    let more : List ℕ = as_bytes (runs_bits front.0) in (
      more,
      ap (λ rs. as_bytes (runs_bits rs)) (front.1 ∙ ap (λ t. t ++ front.0) run.1)
          ∙ join (first_runs cap q fed ++ gathered r.pool.entries ∷ []) front.0
          ∙ ap (λ b. b ++ more) (join (first_runs cap q fed) (gathered r.pool.entries ∷ []))
          ∙ append_assoc (done_bytes r fed) (pool_bytes r) more,
    )

pub full_bad : {T : Type 0} → RunsJoin → (x : Result T PartErr) (r : RunReading) (f : Option Files) → length r.pool.entries ≡ cap_of r.pool →
    WhereBad ((done rest : List ℕ) → HasBegun r.part f done → bytes_at f r.part.name ≢ done ++ (pool_bytes r ++ rest)) x →
    WhereBad ((fed rest : List (ℕ × ℕ)) → HasTaken r f fed → bytes_at f r.part.name ≢ as_bytes (run_part_bits (cap_of r.pool) (fed ++ rest))) x
full_bad join (Ok value) r f full bad = tt
full_bad join (Err Device) r f full bad = tt
full_bad join (Err Memory) r f full bad = tt
full_bad join (Err (Bad b)) r f full bad = λ fed rest is e.
    let front = full_front join r f fed rest is full in
    bad (done_bytes r fed) front.0 is.begun (e ∙ front.1)

-- ---- the end

fed_some : (r : RunReading) (f : Option Files) (fed : List (ℕ × ℕ)) → HasTaken r f fed → 1 ≤ length r.pool.entries → 1 ≤ length fed
fed_some r f fed is some = omega (arith, taken_length r f fed is)

fed_none : (r : RunReading) (f : Option Files) (fed : List (ℕ × ℕ)) → HasTaken r f fed → length r.pool.entries ≡ 0 → fed ≡ []
fed_none r f [] is none = refl
fed_none r f (o ∷ fed) is none =
    let cap : ℕ = cap_of r.pool in
    let low : finished cap (length (o ∷ fed)) * cap ≤ length (o ∷ fed) - 1 = finished-low cap (length (o ∷ fed)) (taken_some_cap r f (o ∷ fed) is) in
    absurd (omega (arith, taken_length r f (o ∷ fed) is))

-- with the pool's entries behind the finished runs, these are all
pub last_bytes : RunsJoin → (r : RunReading) (f : Option Files) (fed : List (ℕ × ℕ)) → HasTaken r f fed → 1 ≤ length r.pool.entries →
    done_bytes r fed ++ pool_bytes r ≡ as_bytes (run_part_bits (cap_of r.pool) fed)
last_bytes join r f fed is some =
    let cap : ℕ = cap_of r.pool in
    let q : ℕ = finished cap (length fed) in
    let run : gathered r.pool.entries ≡ term_postings (drop (q * cap) fed) = ap (λ xs. gathered xs) is.entries in
    sym (join (first_runs cap q fed) (gathered r.pool.entries ∷ []))
    ∙ ap (λ t. as_bytes (runs_bits (first_runs cap q fed ++ t ∷ []))) run
    ∙ ap (λ rs. as_bytes (runs_bits rs)) (sym (runs_of_last cap fed (taken_some_cap r f fed is) (fed_some r f fed is some)))

pub no_last_bytes : (r : RunReading) (f : Option Files) (fed : List (ℕ × ℕ)) → HasTaken r f fed → length r.pool.entries ≡ 0 → done_bytes r fed ≡ as_bytes (run_part_bits (cap_of r.pool) fed)
no_last_bytes r f fed is none =
    let cap : ℕ = cap_of r.pool in
    let some : 1 ≤ cap = taken_some_cap r f fed is in
    let empty : fed ≡ [] = fed_none r f fed is none in
    ap (λ s. as_bytes (runs_bits (first_runs cap (finished cap (length s)) s))) empty
    ∙ ap (λ k. as_bytes (runs_bits (first_runs cap k []))) (none_finished cap some)
    ∙ ap (λ rs. as_bytes (runs_bits rs)) (sym (runs_of_none cap some))
    ∙ ap (λ s. as_bytes (runs_bits (runs_of cap s))) (sym empty)
