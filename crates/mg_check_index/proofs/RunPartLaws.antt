-- The occurrences of a document, and the last run.
use Rattle.std.proofs.Common.{arith, ◌≡◌, ◌≢◌, ◌+◌, ◌-◌, ◌/◌, ◌<◌, ◌≤◌, ◌^◌, ℕ, List, [], ◌∷◌, ◌++◌, length, map, take, drop, get_or, Ok, Err, sym, ap, subst, ◌∙◌, append_assoc}
use Rattle.std.proofs.Common.{append-nil, length-append, take-append-drop}
use Rattle.std.specs.Prelude.{OnOk}
use Rattle.std.specs.declared.option.Option.{Option}
use Rattle.std.specs.declared.result.Result.{Result}
use Rattle.std.proofs.lemmas.Grind.{common_steps}
use Rattle.std.proofs.lemmas.List.{length-map, map-append, take_more}
use Rattle.mg_dev.specs.Files.{Files, bytes_at}
use Rattle.mg_dev.specs.declared.part_err.PartErr.{PartErr}
use Rattle.mg_dev.specs.declared.part_err.PartErr.TheVariants.{Device, Memory, Bad}
use Rattle.mg_defs.specs.Bits.{as_bytes}
use Rattle.mg_defs.specs.RunBits.{run_part_bits}
use Rattle.mg_runs.specs.Fed.{cap_of}
use Rattle.mg_check_index.specs.Counting.{Comparing, HasBegun, HasTaken, RunReading}
use Rattle.mg_check_parts.specs.Refusals.{WhereBad}
use Rattle.mg_check_index.proofs.RunSteps.{RunsJoin, done_bytes, last_bytes, pool_bytes}

-- ---- the occurrences of a document

abbrev pub of : ℕ → ℕ → ℕ × ℕ
of doc n = (n, doc)

pub first_more : (fed : List (ℕ × ℕ)) (numbers : List ℕ) (i doc : ℕ) → i < length numbers →
    (fed ++ map (of doc) (take i numbers)) ++ (get_or numbers i 0, doc) ∷ [] ≡ fed ++ map (of doc) (take (i + 1) numbers)
first_more fed numbers i doc low =
    append_assoc fed (map (of doc) (take i numbers)) ((get_or numbers i 0, doc) ∷ [])
    ∙ ap (λ o. fed ++ o) (sym (map-append (of doc) (take i numbers) (get_or numbers i 0 ∷ [])))
    ∙ ap (λ (ns : List ℕ). fed ++ map (of doc) ns) (sym (take_more numbers i 0 low))

long_take : (numbers : List ℕ) (i : ℕ) → i ≤ length numbers → length (take i numbers) ≡ i
long_take numbers i h = grind (arith, common_steps)

pub first_few : (fed : List (ℕ × ℕ)) (numbers : List ℕ) (i doc : ℕ) → i < length numbers → length fed + length numbers < 2 ^ 32 → length (fed ++ map (of doc) (take i numbers)) < 2 ^ 32 - 1
first_few fed numbers i doc low few = omega (arith, length-append fed (map (of doc) (take i numbers)), length-map (take i numbers) (of doc), long_take numbers i (omega arith))

all_of : (numbers : List ℕ) (i : ℕ) → length numbers ≤ i → take i numbers ≡ numbers
all_of numbers i h = grind (arith, common_steps)

pub first_all : (fed : List (ℕ × ℕ)) (numbers : List ℕ) (i doc : ℕ) → length numbers ≤ i → fed ++ map (of doc) (take i numbers) ≡ fed ++ map (of doc) numbers
first_all fed numbers i doc all = ap (λ (ns : List ℕ). fed ++ map (of doc) ns) (all_of numbers i all)

pub none_of : (fed : List (ℕ × ℕ)) (numbers : List ℕ) (doc : ℕ) → fed ≡ fed ++ map (of doc) (take 0 numbers)
none_of fed numbers doc = sym (append-nil fed)

halves : (fed rest : List (ℕ × ℕ)) (numbers : List ℕ) (i doc : ℕ) → fed ++ (map (of doc) numbers ++ rest) ≡ (fed ++ map (of doc) (take i numbers)) ++ (map (of doc) (drop i numbers) ++ rest)
halves fed rest numbers i doc =
    let front : List (ℕ × ℕ) = map (of doc) (take i numbers) in
    let back : List (ℕ × ℕ) = map (of doc) (drop i numbers) in
    let both : map (of doc) numbers ≡ front ++ back = ap (map (of doc)) (sym (take-append-drop i numbers)) ∙ map-append (of doc) (take i numbers) (drop i numbers) in
    ap (λ o. fed ++ (o ++ rest)) both ∙ ap (λ o. fed ++ o) (append_assoc front back rest) ∙ sym (append_assoc fed front (back ++ rest))

pub all_bad : {T : Type 0} (x : Result T PartErr) (old now : RunReading) (f0 f1 : Option Files) (numbers : List ℕ) (i doc : ℕ) → f1 ≡ f0 →
    now.part.name ≡ old.part.name → now.pool.limit ≡ old.pool.limit
    → ((fed : List (ℕ × ℕ)) → length fed + length numbers < 2 ^ 32 → HasTaken old f0 fed → HasTaken now f1 (fed ++ map (λ n. (n, doc)) (take i numbers)))
    → WhereBad ((fed rest : List (ℕ × ℕ)) → HasTaken now f1 fed → bytes_at f1 now.part.name ≢ as_bytes (run_part_bits (cap_of now.pool) (fed ++ rest))) x
    → WhereBad ((fed rest : List (ℕ × ℕ)) → length fed + length numbers < 2 ^ 32 → HasTaken old f0 fed →
    bytes_at f0 old.part.name ≢ as_bytes (run_part_bits (cap_of old.pool) (fed ++ (map (λ n. (n, doc)) numbers ++ rest)))) x
all_bad (Ok value) old now f0 f1 numbers i doc files name limit taken bad = tt
all_bad (Err Device) old now f0 f1 numbers i doc files name limit taken bad = tt
all_bad (Err Memory) old now f0 f1 numbers i doc files name limit taken bad = tt
all_bad (Err (Bad b)) old now f0 f1 numbers i doc files name limit taken bad = λ fed rest few is e.
    bad (fed ++ map (of doc) (take i numbers)) (map (of doc) (drop i numbers) ++ rest) (taken fed few is)
    (ap (λ f. bytes_at f now.part.name) files ∙ ap (bytes_at f0) name ∙ e
    ∙ ap (λ o. as_bytes (run_part_bits (cap_of old.pool) o)) (halves fed rest numbers i doc)
    ∙ ap (λ l. as_bytes (run_part_bits (l / 12) ((fed ++ map (of doc) (take i numbers)) ++ (map (of doc) (drop i numbers) ++ rest)))) (sym limit))

-- ---- the last run

pub rest_bad : {T : Type 0} → RunsJoin → (x : Result T PartErr) (r : RunReading) (f : Option Files) → ((fed : List (ℕ × ℕ)) → HasTaken r f fed → 1 ≤ length r.pool.entries)
    → WhereBad ((done rest : List ℕ) → HasBegun r.part f done → bytes_at f r.part.name ≢ done ++ (pool_bytes r ++ rest)) x
    → WhereBad ((fed : List (ℕ × ℕ)) → HasTaken r f fed → bytes_at f r.part.name ≢ as_bytes (run_part_bits (cap_of r.pool) fed)) x
rest_bad join (Ok value) r f some bad = tt
rest_bad join (Err Device) r f some bad = tt
rest_bad join (Err Memory) r f some bad = tt
rest_bad join (Err (Bad b)) r f some bad = λ fed is e.
    bad (done_bytes r fed) [] is.begun (e ∙ sym (last_bytes join r f fed is (some fed is)) ∙ ap (λ t. done_bytes r fed ++ t) (sym (append-nil (pool_bytes r))))

named : (old new : RunReading) (part : Comparing) (f0 f1 : Option Files) → f1 ≡ f0 → part ≡ new.part → new.part.name ≡ old.part.name → bytes_at f0 old.part.name ≡ bytes_at f1 part.name
named old new part f0 f1 files same name = ap (λ f. bytes_at f old.part.name) (sym files) ∙ ap (bytes_at f1) (sym name ∙ ap (λ c. c.name) (sym same))

-- the part of the runs is compared whole
pub run_done : {T E : Type 0} (x : Result T E) (old new : RunReading) (part : Comparing) (f0 f1 : Option Files) → f1 ≡ f0 → part ≡ new.part → new.part.name ≡ old.part.name
    → ((fed : List (ℕ × ℕ)) → HasTaken old f0 fed → HasBegun new.part f1 (as_bytes (run_part_bits (cap_of old.pool) fed)))
    → OnOk x ((done : List ℕ) → HasBegun part f1 done → bytes_at f1 part.name ≡ done)
    → OnOk x ((fed : List (ℕ × ℕ)) → HasTaken old f0 fed → bytes_at f0 old.part.name ≡ as_bytes (run_part_bits (cap_of old.pool) fed))
run_done (Ok value) old new part f0 f1 files same name begun known = λ fed is.
    named old new part f0 f1 files same name ∙ known (as_bytes (run_part_bits (cap_of old.pool) fed))
    (subst (λ c. HasBegun c f1 (as_bytes (run_part_bits (cap_of old.pool) fed))) (sym same) (begun fed is))
run_done (Err e) old new part f0 f1 files same name begun known = tt

pub run_longer : {T : Type 0} (x : Result T PartErr) (old new : RunReading) (part : Comparing) (f0 f1 : Option Files) → f1 ≡ f0 → part ≡ new.part → new.part.name ≡ old.part.name
    → ((fed : List (ℕ × ℕ)) → HasTaken old f0 fed → HasBegun new.part f1 (as_bytes (run_part_bits (cap_of old.pool) fed)))
    → WhereBad ((done : List ℕ) → HasBegun part f1 done → bytes_at f1 part.name ≢ done) x
    → WhereBad ((fed : List (ℕ × ℕ)) → HasTaken old f0 fed → bytes_at f0 old.part.name ≢ as_bytes (run_part_bits (cap_of old.pool) fed)) x
run_longer (Ok value) old new part f0 f1 files same name begun bad = tt
run_longer (Err Device) old new part f0 f1 files same name begun bad = tt
run_longer (Err Memory) old new part f0 f1 files same name begun bad = tt
run_longer (Err (Bad b)) old new part f0 f1 files same name begun bad = λ fed is e.
    bad (as_bytes (run_part_bits (cap_of old.pool) fed)) (subst (λ c. HasBegun c f1 (as_bytes (run_part_bits (cap_of old.pool) fed))) (sym same) (begun fed is))
    (sym (named old new part f0 f1 files same name) ∙ e)
