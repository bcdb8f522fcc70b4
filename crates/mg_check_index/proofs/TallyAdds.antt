-- One document more in a tally, and its end.
use Rattle.std.proofs.Common.{arith, ◌≡◌, ◌≢◌, ◌+◌, ◌<◌, ◌≤◌, ◌^◌, ℕ, List, [], ◌∷◌, ◌++◌, length, map, take, drop, replicate, All, Ok, Err, refl, sym, ap, subst, ◌∙◌}
use Rattle.std.specs.Prelude.{flat_map, nat_lt}
use Rattle.std.specs.List.{enumerate_from}
use Rattle.std.specs.declared.option.Option.{Option}
use Rattle.std.specs.declared.result.Result.{Result}
use Rattle.std.proofs.Math.Seq.{take-append_seam}
use Rattle.std.proofs.lemmas.List.{length-map}
use Rattle.std.proofs.lemmas.List.FromFn.{length-enumerate_from}
use Rattle.std.proofs.lemmas.List.Sums.{count_by-le-length, length-filter}
use Rattle.mg_dev.specs.Files.{Files, bytes_at}
use Rattle.mg_dev.specs.declared.part_err.PartErr.{PartErr}
use Rattle.mg_dev.specs.declared.part_err.PartErr.TheVariants.{Device, Memory, Bad}
use Rattle.mg_defs.specs.Bits.{as_bytes}
use Rattle.mg_defs.specs.Numbers.{four}
use Rattle.mg_defs.specs.Occurrences.{occurrences}
use Rattle.mg_defs.specs.RunBits.{run_part_bits}
use Rattle.mg_defs.specs.Terms.{freq_in}
use Rattle.mg_defs.specs.Weights.{weight}
use Rattle.mg_runs.specs.Fed.{cap_of}
use Rattle.mg_check_index.specs.Counting.{HasTaken, HasTallied, HasWeighed, HaveTallied, NoneGoesOn, NotTallied, Tallying, docs_among, occurrences_from, one_more_each}
use Rattle.mg_check_parts.specs.TermsRead.{AreTermsOf, IsCounted, TermsRead, weight_of_counts}
use Rattle.mg_check_parts.specs.Refusals.{WhereBad}
use Rattle.mg_check_parts.specs.Documents.{counted_in}
use Rattle.mg_check_index.proofs.DocumentSums.{docs_counted, weight_is}
use Rattle.mg_check_index.proofs.TallySteps.{runs_bad, tallied_next, too_many, weights_bad}

-- ---- terms of a document

-- a document has no more distinct terms than there are
pub counted_few : (words : List (List ℕ)) (doc : List ℕ) (counted : List (ℕ × ℕ)) → counted ≡ counted_in words doc → length words ≤ 2 ^ 22 → length counted ≤ 2 ^ 22
counted_few words doc counted is few =
    let all : List (ℕ × ℕ) = map (λ (e : ℕ × List ℕ). (e.0, freq_in doc e.1)) (enumerate_from 0 words) in
    let long : length all ≡ length words = length-map (enumerate_from 0 words) (λ (e : ℕ × List ℕ). (e.0, freq_in doc e.1)) ∙ length-enumerate_from 0 words in
    omega (arith, ap (λ (es : List (ℕ × ℕ)). length es) is, length-filter (λ (e : ℕ × ℕ). nat_lt 0 e.1) all, count_by-le-length (λ (e : ℕ × ℕ). nat_lt 0 e.1) all, long)

pub each_some : (n : ℕ) (counted : List (ℕ × ℕ)) → All (IsCounted n) counted → All (λ (e : ℕ × ℕ). 1 ≤ e.1) counted
each_some n counted all = λ k d low. (all k d low).some

-- as many counts as terms
pub as_many : (t : Tallying) (files : Option Files) (words seen : List (List ℕ)) → HasTallied t files words seen → length t.docs ≡ length words
as_many t files words seen it = ap (λ (ns : List ℕ). length ns) it.counts ∙ length-map words (docs_among seen)

-- no document has any term
pub none_counted : (words : List (List ℕ)) → replicate (length words) 0 ≡ map (docs_among []) words
none_counted [] = refl
none_counted (w ∷ words) = ap (λ (ns : List ℕ). 0 ∷ ns) (none_counted words)

-- a slice of a whole vector, put back
pub whole_items : (now items : List ℕ) (n : ℕ) → length now ≡ n → take n (now ++ drop (length now) items) ≡ now
whole_items now items n is = ap (λ k. take k (now ++ drop (length now) items)) (sym is) ∙ take-append_seam now (drop (length now) items)

pub weighs : (words : List (List ℕ)) (doc : List ℕ) (t : TermsRead) (w : ℕ) → AreTermsOf words doc t → w ≡ weight_of_counts t.counted → w ≡ weight doc
weighs words doc t w are is = is ∙ weight_is words doc t.counted are.rising (subst (λ (ns : List ℕ). All (λ n. n < length words) ns) are.numbers are.within) are.counted

-- ---- a document more

pub tallied_more : (old new : Tallying) (f0 f1 : Option Files) (t : TermsRead) (words docs : List (List ℕ)) (doc numbers : List ℕ) (number w : ℕ) →
    numbers ≡ t.numbers → 1 + length docs ≡ number → number < 2 ^ 32 → AreTermsOf words doc t → HasTallied old f0 words docs → w ≡ weight_of_counts t.counted
    → ((bytes : List ℕ) → HasWeighed old.weights f0 bytes → HasWeighed new.weights f1 (bytes ++ four w))
    → new.weights.part.at + length new.weights.held ≡ old.weights.part.at + length old.weights.held + 4
    → ((fed : List (ℕ × ℕ)) → length fed + length numbers < 2 ^ 32 → HasTaken old.runs f0 fed → HasTaken new.runs f1 (fed ++ map (λ n. (n, number)) numbers))
    → old.occurrences + length t.numbers < 2 ^ 32
    → new.occurrences ≡ old.occurrences + length t.numbers
    → new.docs ≡ one_more_each t.counted old.docs
    → HasTallied new f1 words (docs ++ doc ∷ [])
tallied_more old new f0 f1 t words docs doc numbers number w same e small are is weighed weighs_more size taken few count counts =
    let n = is.count in
    let long : length numbers ≡ length t.numbers = ap (λ (ns : List ℕ). length ns) same in
    tallied_next old new f0 f1 words docs doc number w e is (weighs words doc t w are weighed) (weighs_more (flat_map four (map weight docs))) size
    (subst (λ (ns : List ℕ). HasTaken new.runs f1 (occurrences_from words 1 docs ++ map (λ n. (n, number)) ns)) (same ∙ are.numbers)
    (taken (occurrences_from words 1 docs) (omega (arith, n, few, long)) is.taken))
    (count ∙ ap (λ (ns : List ℕ). old.occurrences + length ns) are.numbers)
    (docs_counted words docs doc t.counted old.docs new.docs (omega (arith, e, small)) are.counted is.counts counts)

-- ---- damage

pub weight_bad : {T : Type 0} (x : Result T PartErr) (t : Tallying) (f : Option Files) (number w : ℕ) (read : TermsRead) → w ≡ weight_of_counts read.counted
    → WhereBad ((bytes rest : List ℕ) → HasWeighed t.weights f bytes → bytes_at f t.weights.part.name ≢ bytes ++ (four w ++ rest)) x → WhereBad (NoneGoesOn t f number read) x
weight_bad (Ok value) t f number w read is bad = tt
weight_bad (Err Device) t f number w read is bad = tt
weight_bad (Err Memory) t f number w read is bad = tt
weight_bad {T} (Err (Bad b)) t f number w read is bad = λ code words doc collection docs are e on it own.
    weights_bad {T = T} (Err (Bad b)) code words doc number w t f f refl (weighs words doc read w are is) bad collection docs e on it own

pub run_bad : {T : Type 0} (x : Result T PartErr) (t : Tallying) (f f1 : Option Files) (number : ℕ) (read : TermsRead) (numbers : List ℕ) →
    numbers ≡ read.numbers → f1 ≡ f → t.occurrences + length numbers < 2 ^ 32
    → WhereBad ((fed rest : List (ℕ × ℕ)) → length fed + length numbers < 2 ^ 32 → HasTaken t.runs f1 fed →
    bytes_at f1 t.runs.part.name ≢ as_bytes (run_part_bits (cap_of t.runs.pool) (fed ++ (map (λ n. (n, number)) numbers ++ rest)))) x
    → WhereBad (NoneGoesOn t f number read) x
run_bad (Ok value) t f f1 number read numbers same files few bad = tt
run_bad (Err Device) t f f1 number read numbers same files few bad = tt
run_bad (Err Memory) t f f1 number read numbers same files few bad = tt
run_bad {T} (Err (Bad b)) t f f1 number read numbers same files few bad = λ code words doc collection docs are e on it own.
    runs_bad {T = T} (Err (Bad b)) code words doc numbers number t f (same ∙ are.numbers) few
    (λ fed rest low taken is_all. bad fed rest low (subst (λ g. HasTaken t.runs g fed) (sym files) taken) (ap (λ g. bytes_at g t.runs.part.name) files ∙ is_all))
    collection docs e on it own

abbrev FewHold : Type 0
FewHold = (collection : List ℕ) → length (occurrences collection) ≤ length collection

pub many_bad : FewHold → (t : Tallying) (f : Option Files) (number : ℕ) (read : TermsRead) → 2 ^ 32 ≤ t.occurrences + length read.numbers → NoneGoesOn t f number read
many_bad few t f number read many = λ code words doc collection docs are e on it own.
    too_many code words collection docs doc number t f e on it (few collection) (subst (λ (ns : List ℕ). 2 ^ 32 ≤ t.occurrences + length ns) are.numbers many)

-- ---- the end

pub have_tallied : (t : Tallying) (f f1 : Option Files) → f1 ≡ f
    → ((bytes : List ℕ) → HasWeighed t.weights f bytes → bytes_at f t.weights.part.name ≡ bytes)
    → ((fed : List (ℕ × ℕ)) → HasTaken t.runs f1 fed → bytes_at f1 t.runs.part.name ≡ as_bytes (run_part_bits (cap_of t.runs.pool) fed))
    → (words docs : List (List ℕ)) → HasTallied t f words docs → HaveTallied t f words docs
have_tallied t f f1 files weighed taken words docs is = record {
  weights = weighed (flat_map four (map weight docs)) is.weighed;
  run = ap (λ g. bytes_at g t.runs.part.name) (sym files) ∙ taken (occurrences_from words 1 docs) (subst (λ g. HasTaken t.runs g (occurrences_from words 1 docs)) (sym files) is.taken);
}

pub weights_other : {T : Type 0} (x : Result T PartErr) (t : Tallying) (f : Option Files) →
    WhereBad ((bytes : List ℕ) → HasWeighed t.weights f bytes → bytes_at f t.weights.part.name ≢ bytes) x → WhereBad (NotTallied t f) x
weights_other (Ok value) t f bad = tt
weights_other (Err Device) t f bad = tt
weights_other (Err Memory) t f bad = tt
weights_other (Err (Bad b)) t f bad = λ words docs is have. bad (flat_map four (map weight docs)) is.weighed have.weights

pub runs_other : {T : Type 0} (x : Result T PartErr) (t : Tallying) (f f1 : Option Files) → f1 ≡ f
    → WhereBad ((fed : List (ℕ × ℕ)) → HasTaken t.runs f1 fed → bytes_at f1 t.runs.part.name ≢ as_bytes (run_part_bits (cap_of t.runs.pool) fed)) x → WhereBad (NotTallied t f) x
runs_other (Ok value) t f f1 files bad = tt
runs_other (Err Device) t f f1 files bad = tt
runs_other (Err Memory) t f f1 files bad = tt
runs_other (Err (Bad b)) t f f1 files bad = λ words docs is have.
    bad (occurrences_from words 1 docs) (subst (λ g. HasTaken t.runs g (occurrences_from words 1 docs)) (sym files) is.taken) (ap (λ g. bytes_at g t.runs.part.name) files ∙ have.run)
