-- What the documents so far amount to, after one more.
use Rattle.std.proofs.Common.{arith, ◌≡◌, ◌≢◌, ◌+◌, ◌<◌, ◌≤◌, ◌^◌, ℕ, suc, List, [], ◌∷◌, ◌++◌, length, map, Ok, Err, refl, sym, ap, subst, ◌∙◌, append_assoc, append-nil, length-append}
use Rattle.std.specs.Prelude.{flat_map}
use Rattle.std.specs.List.{enumerate_from}
use Rattle.std.specs.declared.option.Option.{Option}
use Rattle.std.specs.declared.result.Result.{Result}
use Rattle.std.proofs.lemmas.List.{map-append}
use Rattle.std.proofs.lemmas.List.Concat.{flat_map-append}
use Rattle.std.proofs.lemmas.Simd.{map-map}
use Rattle.mg_dev.specs.Files.{Files, bytes_at}
use Rattle.mg_dev.specs.declared.part_err.PartErr.{PartErr}
use Rattle.mg_dev.specs.declared.part_err.PartErr.TheVariants.{Device, Memory, Bad}
use Rattle.mg_defs.specs.CodedText.{TextCode}
use Rattle.mg_defs.specs.Bits.{as_bytes}
use Rattle.mg_defs.specs.Numbers.{four}
use Rattle.mg_defs.specs.Occurrences.{occurrences}
use Rattle.mg_defs.specs.RunBits.{run_part_bits}
use Rattle.mg_defs.specs.Sorted.{number_of}
use Rattle.mg_defs.specs.Split.{documents}
use Rattle.mg_defs.specs.Terms.{dictionary, terms}
use Rattle.mg_defs.specs.Weights.{weight}
use Rattle.mg_runs.specs.Fed.{cap_of}
use Rattle.mg_check_index.specs.Counting.{AreOwn, GoesOn, HasTaken, HasTallied, HasWeighed, Tallying, docs_among, occurrences_from}
use Rattle.mg_check_parts.specs.Refusals.{WhereBad}
use Rattle.mg_check_parts.specs.Documents.{numbers_in}

-- ---- occurrences

abbrev pub of_doc : List (List ℕ) → ℕ → List ℕ → List (ℕ × ℕ)
of_doc words number doc = map (λ n. (n, number)) (numbers_in words doc)

pub occ_split : (words : List (List ℕ)) (first : ℕ) (docs : List (List ℕ)) (doc : List ℕ) (more : List (List ℕ)) →
    occurrences_from words first (docs ++ doc ∷ more) ≡ occurrences_from words first docs
    ++ (of_doc words (first + length docs) doc ++ occurrences_from words (first + length docs + 1) more)
occ_split words first [] doc more = let e : first ≡ first + 0 = omega arith in ap (λ k. of_doc words k doc ++ occurrences_from words (k + 1) more) e
occ_split words first (d ∷ docs) doc more =
    let e : first + 1 + length docs ≡ first + length (d ∷ docs) = omega arith in
    ap (λ t. of_doc words first d ++ t) (occ_split words (first + 1) docs doc more)
    ∙ sym (append_assoc (of_doc words first d) (occurrences_from words (first + 1) docs) (of_doc words (first + 1 + length docs) doc ++ occurrences_from words (first + 1 + length docs + 1) more))
    ∙ ap (λ k. (of_doc words first d ++ occurrences_from words (first + 1) docs) ++ (of_doc words k doc ++ occurrences_from words (k + 1) more)) e

pub occ_end : (words : List (List ℕ)) (docs : List (List ℕ)) (doc : List ℕ) (number : ℕ) → 1 + length docs ≡ number →
    occurrences_from words 1 (docs ++ doc ∷ []) ≡ occurrences_from words 1 docs ++ of_doc words number doc
occ_end words docs doc number e =
    occ_split words 1 docs doc [] ∙ ap (λ t. occurrences_from words 1 docs ++ t) (append-nil (of_doc words (1 + length docs) doc)) ∙ ap (λ k. occurrences_from words 1 docs ++ of_doc words k doc) e

pub occ_is : (collection : List ℕ) → occurrences_from (dictionary collection) 1 (documents collection) ≡ occurrences collection
occ_is collection = λ i. flat_map (λ (d : ℕ × List ℕ). map-map (λ (n : ℕ). (n, d.0)) (number_of (dictionary collection)) (terms d.1) i) (enumerate_from 1 (documents collection))

-- the occurrences of a collection that goes on
pub occ_goes_on : (code : TextCode) (words : List (List ℕ)) (collection : List ℕ) (docs : List (List ℕ)) (doc : List ℕ) (number : ℕ) →
    1 + length docs ≡ number → GoesOn code words collection docs doc →
    (rest : List (ℕ × ℕ)) × (occurrences collection ≡ occurrences_from words 1 docs ++ (of_doc words number doc ++ rest))
occ_goes_on code words collection docs doc number e on = (
  occurrences_from words (number + 1) on.more,
  sym (occ_is collection) ∙ ap (λ w. occurrences_from w 1 (documents collection)) (sym on.dictionary_is) ∙ ap (occurrences_from words 1) on.documents_are ∙ occ_split words 1 docs doc on.more
      ∙ ap (λ k. occurrences_from words 1 docs ++ (of_doc words k doc ++ occurrences_from words (k + 1) on.more)) e,
)

length_map : {X Y : Type 0} (f : X → Y) (xs : List X) → length (map f xs) ≡ length xs
length_map f [] = refl
length_map f (x ∷ xs) = ap (λ n. suc n) (length_map f xs)

pub length_of_doc : (words : List (List ℕ)) (number : ℕ) (doc : List ℕ) → length (of_doc words number doc) ≡ length (numbers_in words doc)
length_of_doc words number doc = length_map {X = ℕ} {Y = ℕ × ℕ} (λ n. (n, number)) (numbers_in words doc)

-- ---- weights

weights_split : (docs : List (List ℕ)) (doc : List ℕ) (more : List (List ℕ)) → flat_map four (map weight (docs ++ doc ∷ more)) ≡ flat_map four (map weight docs)
    ++ (four (weight doc) ++ flat_map four (map weight more))
weights_split docs doc more = ap (flat_map four) (map-append weight docs (doc ∷ more)) ∙ flat_map-append four (map weight docs) (map weight (doc ∷ more))

weights_end : (docs : List (List ℕ)) (doc : List ℕ) → flat_map four (map weight (docs ++ doc ∷ [])) ≡ flat_map four (map weight docs) ++ four (weight doc)
weights_end docs doc = weights_split docs doc [] ∙ ap (λ t. flat_map four (map weight docs) ++ t) (append-nil (four (weight doc)))

-- ---- one document more

length_end : (docs : List (List ℕ)) (doc : List ℕ) → length (docs ++ doc ∷ []) ≡ length docs + 1
length_end docs doc = length-append docs (doc ∷ [])

pub tallied_next : (old new : Tallying) (f0 f1 : Option Files) (words docs : List (List ℕ)) (doc : List ℕ) (number w : ℕ) → 1 + length docs ≡ number → HasTallied old f0 words docs → w ≡ weight doc
    → (HasWeighed old.weights f0 (flat_map four (map weight docs)) → HasWeighed new.weights f1 (flat_map four (map weight docs) ++ four w))
    → new.weights.part.at + length new.weights.held ≡ old.weights.part.at + length old.weights.held + 4
    → HasTaken new.runs f1 (occurrences_from words 1 docs ++ of_doc words number doc)
    → new.occurrences ≡ old.occurrences + length (numbers_in words doc)
    → new.docs ≡ map (docs_among (docs ++ doc ∷ [])) words
    → HasTallied new f1 words (docs ++ doc ∷ [])
tallied_next old new f0 f1 words docs doc number w e is weighs weighed size taken count counts =
    let occ : occurrences_from words 1 (docs ++ doc ∷ []) ≡ occurrences_from words 1 docs ++ of_doc words number doc = occ_end words docs doc number e in
    let bytes : flat_map four (map weight docs) ++ four w ≡ flat_map four (map weight (docs ++ doc ∷ [])) = ap (λ n. flat_map four (map weight docs) ++ four n) weighs ∙ sym (weights_end docs doc) in
    let long = length_end docs doc in
    let before = is.size in
    let counted = is.count in
    record {
      weighed = subst (λ (b : List ℕ). HasWeighed new.weights f1 b) bytes (weighed is.weighed);
      size = omega arith;
      taken = subst (λ (o : List (ℕ × ℕ)). HasTaken new.runs f1 o) (sym occ) taken;
      count = omega (arith, ap length occ, length-append (occurrences_from words 1 docs) (of_doc words number doc), length_of_doc words number doc);
      counts = counts;
    }

-- ---- damage

-- too many occurrences
pub too_many : (code : TextCode) (words : List (List ℕ)) (collection : List ℕ) (docs : List (List ℕ)) (doc : List ℕ) (number : ℕ) (t : Tallying)
    (f : Option Files) → 1 + length docs ≡ number → GoesOn code words collection docs doc → HasTallied t f words docs →
    length (occurrences collection) ≤ length collection → 2 ^ 32 ≤ t.occurrences + length (numbers_in words doc) → ⊥
too_many code words collection docs doc number t f e on is few many =
    let all = occ_goes_on code words collection docs doc number e on in
    let count = is.count in
    let short = on.few in
    omega (arith, ap length all.1, length-append (occurrences_from words 1 docs) (of_doc words number doc ++ all.0), length-append (of_doc words number doc) all.0, length_of_doc words number doc)

pub runs_bad : {T : Type 0} (x : Result T PartErr) (code : TextCode) (words : List (List ℕ)) (doc numbers : List ℕ) (number : ℕ) (t : Tallying)
    (f : Option Files) → numbers ≡ numbers_in words doc → t.occurrences + length numbers < 2 ^ 32
    → WhereBad ((fed rest : List (ℕ × ℕ)) → length fed + length numbers < 2 ^ 32 → HasTaken t.runs f fed →
    bytes_at f t.runs.part.name ≢ as_bytes (run_part_bits (cap_of t.runs.pool) (fed ++ (map (λ n. (n, number)) numbers ++ rest)))) x
    → WhereBad ((collection : List ℕ) (docs : List (List ℕ)) → 1 + length docs ≡ number → GoesOn code words collection docs doc → HasTallied t f words docs → AreOwn t f collection → ⊥) x
runs_bad (Ok value) code words doc numbers number t f is few bad = tt
runs_bad (Err Device) code words doc numbers number t f is few bad = tt
runs_bad (Err Memory) code words doc numbers number t f is few bad = tt
runs_bad (Err (Bad b)) code words doc numbers number t f is few bad = λ collection docs e on it own.
    let all = occ_goes_on code words collection docs doc number e on in
    let count = it.count in
    bad (occurrences_from words 1 docs) all.0 (omega arith) it.taken
    (own.run ∙ ap (λ (o : List (ℕ × ℕ)). as_bytes (run_part_bits (cap_of t.runs.pool) o))
    (all.1 ∙ ap (λ (ns : List ℕ). occurrences_from words 1 docs ++ (map (λ n. (n, number)) ns ++ all.0)) (sym is)))

pub weights_bad : {T : Type 0} (x : Result T PartErr) (code : TextCode) (words : List (List ℕ)) (doc : List ℕ) (number w : ℕ) (t : Tallying) (f f1 : Option Files) → f1 ≡ f → w ≡ weight doc
    → WhereBad ((bytes rest : List ℕ) → HasWeighed t.weights f1 bytes → bytes_at f1 t.weights.part.name ≢ bytes ++ (four w ++ rest)) x
    → WhereBad ((collection : List ℕ) (docs : List (List ℕ)) → 1 + length docs ≡ number → GoesOn code words collection docs doc → HasTallied t f words docs → AreOwn t f collection → ⊥) x
weights_bad (Ok value) code words doc number w t f f1 same is bad = tt
weights_bad (Err Device) code words doc number w t f f1 same is bad = tt
weights_bad (Err Memory) code words doc number w t f f1 same is bad = tt
weights_bad (Err (Bad b)) code words doc number w t f f1 same is bad = λ collection docs e on it own.
    let bytes : bytes_at f t.weights.part.name ≡ flat_map four (map weight docs) ++ (four w ++ flat_map four (map weight on.more)) =
    own.weights ∙ ap (λ ds. flat_map four (map weight ds)) on.documents_are ∙ weights_split docs doc on.more
    ∙ ap (λ n. flat_map four (map weight docs) ++ (four n ++ flat_map four (map weight on.more))) (sym is) in
    bad (flat_map four (map weight docs)) (flat_map four (map weight on.more))
    (subst (λ g. HasWeighed t.weights g (flat_map four (map weight docs))) (sym same) it.weighed) (ap (λ g. bytes_at g t.weights.part.name) same ∙ bytes)
