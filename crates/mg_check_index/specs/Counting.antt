-- What contracts see of terms that are counted, and of weights and runs that are compared with their parts.
use Rattle.std.specs.Prelude.{◌≡◌, ◌≢◌, ℕ, ◌+◌, ◌-◌, ◌*◌, ◌<◌, ◌≤◌, ◌^◌, List, [], ◌∷◌, ◌++◌, length, take, drop, flat_map, min, slice_index, slice_set, map, count_by, IfOk, OnOk}
use Rattle.std.specs.Option.{IsSome}
use Rattle.std.specs.declared.option.Option.{Option}
use Rattle.std.specs.declared.result.Result.{Result}
use Rattle.std.specs.List.{enumerate_from, list_any}
use Rattle.mg_dev.specs.Files.{Files, Reads, bytes_at}
use Rattle.mg_dev.specs.Names.{full_name}
use Rattle.mg_dev.specs.declared.part.Part.TheVariants as part
use Rattle.mg_dev.specs.declared.part_err.PartErr.{PartErr}
use Rattle.mg_defs.specs.CodedText.{TextCode}
use Rattle.mg_defs.specs.Bits.{as_bytes}
use Rattle.mg_defs.specs.Limits.{least_budget, greatest_budget}
use Rattle.mg_defs.specs.Means.{IsCodable}
use Rattle.mg_defs.specs.Numbers.{four}
use Rattle.mg_defs.specs.Occurrences.{occurrences}
use Rattle.mg_defs.specs.Postings.{gathered, once}
use Rattle.mg_defs.specs.RunBits.{run_part_bits, runs_bits}
use Rattle.mg_defs.specs.Runs.{first_runs}
use Rattle.mg_runs.specs.FinishedRuns.{finished}
use Rattle.mg_defs.specs.Split.{documents}
use Rattle.mg_defs.specs.Stands.{weights_part}
use Rattle.mg_defs.specs.Terms.{dictionary, docs, same_term, terms}
use Rattle.mg_defs.specs.Weights.{weight}
use Rattle.mg_check_parts.specs.Documents.{numbers_in}
use Rattle.mg_check_parts.specs.Looks.{LooksAtSet}
use Rattle.mg_check_parts.specs.Refusals.{WhereBad}
use Rattle.mg_check_parts.specs.TermsRead.{AreTermsOf, TermsRead}
use Rattle.mg_runs.specs.Bytes.{AreEntries}
use Rattle.mg_runs.specs.Fed.{AreOccurrences, cap_of}
use Rattle.mg_runs.specs.Pooled.{Pooled}

-- ---- a part that is compared with wanted bytes as they come

-- the full name of the part's file, and how many bytes were compared
pub record Comparing : Type 0 where
  pub name : List ℕ
  pub at : ℕ

-- these bytes were compared, and the part begins with them
pub record HasBegun (c : Comparing) (files : Option Files) (done : List ℕ) : Type 0 where
  pub at_is : c.at ≡ length done
  pub begins : IsSome files → take (length done) (bytes_at files c.name) ≡ done

-- these bytes more were compared
abbrev pub HasBegunMore : {X : Type 0} → (X → Option Files) → X → X → Comparing → Comparing → List ℕ → Type 0
HasBegunMore files before now old new wanted = (done : List ℕ) → HasBegun old (files before) done →
    HasBegun new (files now) (done ++ wanted)

-- the part goes on with other bytes than these
abbrev pub GoesOnOtherwise : Comparing → Option Files → List ℕ → Type 0
GoesOnOtherwise c files wanted = (done rest : List ℕ) → HasBegun c files done →
    bytes_at files c.name ≢ done ++ (wanted ++ rest)

-- the part has the bytes that were compared, and no others
abbrev pub EndsThere : Comparing → Option Files → Type 0
EndsThere c files = (done : List ℕ) → HasBegun c files done → bytes_at files c.name ≡ done

-- it has others
abbrev pub EndsElsewhere : Comparing → Option Files → Type 0
EndsElsewhere c files = (done : List ℕ) → HasBegun c files done → bytes_at files c.name ≢ done

-- ---- calls that compare

-- a part is compared with what is wanted, told of the moments before and after
pub record ComparesPart {T : Type 0} (wanted damaged : Type 0) (result : Result T PartErr)
    (files files_now : Option Files) (reads reads_now : Reads) (faults faults_now : ℕ) : Type 0 where
  -- what is so where it is as wanted
  pub done : wanted
  -- what is so where damage is told
  pub bad : IsSome files → WhereBad damaged result
  -- only parts of the set were read
  pub looks : LooksAtSet result files files_now reads reads_now faults faults_now

-- ---- weights

-- the comparison of the part, and the bytes that are held for it
pub record Weighing : Type 0 where
  pub part : Comparing
  pub held : List ℕ

-- these bytes were taken: the part begins with those that are not held
pub record HasWeighed (w : Weighing) (files : Option Files) (bytes : List ℕ) : Type 0 where
  pub done : List ℕ
  pub begun : HasBegun w.part files done
  pub all : done ++ w.held ≡ bytes

-- these bytes more were taken
abbrev pub HasWeighedMore : {X : Type 0} → (X → Option Files) → X → X → Weighing → Weighing → List ℕ → Type 0
HasWeighedMore files before now old new more = (bytes : List ℕ) → HasWeighed old (files before) bytes →
    HasWeighed new (files now) (bytes ++ more)

-- the part does not begin with the bytes that were taken
abbrev pub WeighsOtherwise : Weighing → Option Files → Type 0
WeighsOtherwise w files = (bytes rest : List ℕ) → HasWeighed w files bytes → bytes_at files w.part.name ≢ bytes ++ rest

-- it does not begin with them and these behind them
abbrev pub WeighsOtherwiseOn : Weighing → Option Files → List ℕ → Type 0
WeighsOtherwiseOn w files more = (bytes rest : List ℕ) → HasWeighed w files bytes →
    bytes_at files w.part.name ≢ bytes ++ (more ++ rest)

-- the part is the bytes that were taken
abbrev pub AreItsWeights : Weighing → Option Files → Type 0
AreItsWeights w files = (bytes : List ℕ) → HasWeighed w files bytes → bytes_at files w.part.name ≡ bytes

-- it is not
abbrev pub AreOtherWeights : Weighing → Option Files → Type 0
AreOtherWeights w files = (bytes : List ℕ) → HasWeighed w files bytes → bytes_at files w.part.name ≢ bytes

-- ---- runs

-- the comparison of the part, and the pool
pub record RunReading : Type 0 where
  pub part : Comparing
  pub pool : Pooled

-- the same part is compared, by runs of as many occurrences
pub record SameRun (old new : RunReading) : Type 0 where
  pub name : new.part.name ≡ old.part.name
  pub limit : new.pool.limit ≡ old.pool.limit

-- the bytes of the run that a pool's entries make
abbrev pub run_of_pool : Pooled → List ℕ
run_of_pool pool = as_bytes (runs_bits (gathered pool.entries ∷ []))

-- a pool may be written as a run
pub record CanBeRun (pool : Pooled) : Type 0 where
  -- it has entries
  pub some : 1 ≤ length pool.entries
  -- no more of them than occurrences in a collection
  pub many : length pool.entries ≤ 2 ^ 32
  -- each is of a document, and counts at least one
  pub entries : AreEntries pool.entries

-- its entries are written as a run, told of the moments before and after
pub record WritesRun {T E : Type 0} (old new : Pooled) (result : Result T E) : Type 0 where
  -- then it has none
  pub empty : OnOk result (new.entries ≡ [])
  -- nor a slot, where it had none
  pub slots : OnOk result (old.slots ≡ [] → new.slots ≡ [])
  -- it takes as many as before
  pub limit : new.limit ≡ old.limit

-- they are, and the answer is how many bytes the run has
pub record SizesRun {E : Type 0} (old new : Pooled) (result : Result ℕ E) : Type 0 where
  pub pool : WritesRun old new result
  pub count : IfOk result (λ count. count ≡ length (run_of_pool old))
  -- which are few
  pub few : OnOk result (length (run_of_pool old) ≤ 16 + 32 * length old.entries)

-- the bytes of the part of the runs of these occurrences
abbrev pub run_part_of : RunReading → List (ℕ × ℕ) → List ℕ
run_part_of r fed = as_bytes (run_part_bits (cap_of r.pool) fed)

-- These occurrences were taken: the part begins with the finished runs, and the pool has the rest.
pub record HasTaken (r : RunReading) (files : Option Files) (fed : List (ℕ × ℕ)) : Type 0 where
  pub least : least_budget ≤ r.pool.limit
  pub most : r.pool.limit ≤ greatest_budget
  pub slots : r.pool.slots ≡ []
  pub entries : r.pool.entries ≡ map once (drop (finished (cap_of r.pool) (length fed) * cap_of r.pool) fed)
  pub begun : HasBegun r.part files (as_bytes
      (runs_bits (first_runs (cap_of r.pool) (finished (cap_of r.pool) (length fed)) fed)))
  pub below : r.part.at ≤ 64 * (finished (cap_of r.pool) (length fed) * cap_of r.pool)
  pub occurrences : AreOccurrences fed
  pub few : length fed < 2 ^ 32

-- one occurrence more was taken
abbrev pub HasTakenOne : {X : Type 0} → (X → Option Files) → X → X → RunReading → RunReading → ℕ × ℕ → Type 0
HasTakenOne files before now old new o = (fed : List (ℕ × ℕ)) → length fed < 2 ^ 32 - 1 →
    HasTaken old (files before) fed → HasTaken new (files now) (fed ++ o ∷ [])

-- the occurrences of terms in a document, by the terms' numbers
abbrev pub occurrences_in : ℕ → List ℕ → List (ℕ × ℕ)
occurrences_in doc numbers = map (λ n. (n, doc)) numbers

-- those of terms in a document were taken
abbrev pub HasTakenAll : {X : Type 0} → (X → Option Files) → X → X → RunReading → RunReading → ℕ → List ℕ → Type 0
HasTakenAll files before now old new doc numbers = (fed : List (ℕ × ℕ)) → length fed + length numbers < 2 ^ 32 →
    HasTaken old (files before) fed → HasTaken new (files now) (fed ++ occurrences_in doc numbers)

-- the part is the runs of no occurrences that begin with those that were taken
abbrev pub RunsOtherwise : RunReading → Option Files → Type 0
RunsOtherwise r files = (fed rest : List (ℕ × ℕ)) → HasTaken r files fed →
    bytes_at files r.part.name ≢ run_part_of r (fed ++ rest)

-- nor of those with these of a document behind them
abbrev pub RunsOtherwiseOn : RunReading → Option Files → ℕ → List ℕ → Type 0
RunsOtherwiseOn r files doc numbers =
    (fed rest : List (ℕ × ℕ)) → length fed + length numbers < 2 ^ 32 → HasTaken r files fed →
    bytes_at files r.part.name ≢ run_part_of r (fed ++ (occurrences_in doc numbers ++ rest))

-- the part begins with the runs of the occurrences that were taken
abbrev pub HasBegunRuns : {X : Type 0} → (X → Option Files) → X → X → RunReading → Comparing → Type 0
HasBegunRuns files before now r part = (fed : List (ℕ × ℕ)) → HasTaken r (files before) fed →
    HasBegun part (files now) (run_part_of r fed)

-- the part is the runs of the occurrences that were taken
abbrev pub AreItsRuns : RunReading → Option Files → Type 0
AreItsRuns r files = (fed : List (ℕ × ℕ)) → HasTaken r files fed → bytes_at files r.part.name ≡ run_part_of r fed

-- it is not
abbrev pub AreOtherRuns : RunReading → Option Files → Type 0
AreOtherRuns r files = (fed : List (ℕ × ℕ)) → HasTaken r files fed → bytes_at files r.part.name ≢ run_part_of r fed

-- ---- all of a collection's documents

-- the occurrences of the terms of documents, the first of them with this number
abbrev pub occurrences_from : List (List ℕ) → ℕ → List (List ℕ) → List (ℕ × ℕ)
occurrences_from dictionary first docs = flat_map (λ (d : ℕ × List ℕ). map (λ n. (n, d.0)) (numbers_in dictionary d.1))
    (enumerate_from first docs)

-- how many of these documents have a term
abbrev pub docs_among : List (List ℕ) → List ℕ → ℕ
docs_among docs t = count_by (λ doc. list_any (same_term t) (terms doc)) docs

-- counts of documents after one more document with these terms; none rises above what 32 bits hold
abbrev pub one_more_each : List (ℕ × ℕ) → List ℕ → List ℕ
one_more_each [] docs = docs
one_more_each (e ∷ counted) docs = one_more_each counted
    (slice_set docs e.0 (min (slice_index docs e.0 + 1) (2 ^ 32 - 1)))

-- how many documents have each term, the weights, the runs, and how many occurrences there were
pub record Tallying : Type 0 where
  pub docs : List ℕ
  pub weights : Weighing
  pub runs : RunReading
  pub occurrences : ℕ

-- These documents were taken, with the terms of this dictionary.
pub record HasTallied (t : Tallying) (files : Option Files) (dictionary docs : List (List ℕ)) : Type 0 where
  pub weighed : HasWeighed t.weights files (flat_map four (map weight docs))
  pub size : t.weights.part.at + length t.weights.held ≡ 4 * length docs
  pub taken : HasTaken t.runs files (occurrences_from dictionary 1 docs)
  pub count : t.occurrences ≡ length (occurrences_from dictionary 1 docs)
  pub counts : t.docs ≡ map (docs_among docs) dictionary

-- Documents were taken, and these are the terms of the next one, which has this number.
pub record CanAdd (t : Tallying) (files : Option Files) (number : ℕ) (terms_read : TermsRead) : Type 0 where
  pub words : List (List ℕ)
  pub docs : List (List ℕ)
  pub doc : List ℕ
  pub number_is : 1 + length docs ≡ number
  pub terms_are : AreTermsOf words doc terms_read
  pub tallied : HasTallied t files words docs

-- the same parts are compared, by runs of the same number of occurrences
pub record SameParts (old new : Tallying) : Type 0 where
  pub weights : new.weights.part.name ≡ old.weights.part.name
  pub run : new.runs.part.name ≡ old.runs.part.name
  pub limit : new.runs.pool.limit ≡ old.runs.pool.limit

-- Weights and Run are those of a collection.
pub record AreOwn (t : Tallying) (files : Option Files) (collection : List ℕ) : Type 0 where
  pub weights : bytes_at files t.weights.part.name ≡ weights_part collection
  pub run : bytes_at files t.runs.part.name ≡ as_bytes (run_part_bits (cap_of t.runs.pool) (occurrences collection))

-- The documents of a collection begin with these and then this one, which a model can code; it has this dictionary.
pub record GoesOn (code : TextCode) (words : List (List ℕ)) (collection : List ℕ) (docs : List (List ℕ))
    (doc : List ℕ) : Type 0 where
  pub more : List (List ℕ)
  pub documents_are : documents collection ≡ docs ++ doc ∷ more
  pub codable : IsCodable code doc
  pub few : length collection < 2 ^ 32
  pub dictionary_is : words ≡ dictionary collection

-- Weights and Run are those of no collection whose documents go on with one that has these terms and this number.
abbrev pub NoneGoesOn : Tallying → Option Files → ℕ → TermsRead → Type 0
NoneGoesOn t files number terms_read =
    (code : TextCode) (words : List (List ℕ)) (doc collection : List ℕ) (docs : List (List ℕ)) →
    AreTermsOf words doc terms_read → 1 + length docs ≡ number
    → GoesOn code words collection docs doc → HasTallied t files words docs → AreOwn t files collection → ⊥

-- Weights and Run are those of these documents.
pub record HaveTallied (t : Tallying) (files : Option Files) (dictionary docs : List (List ℕ)) : Type 0 where
  pub weights : bytes_at files t.weights.part.name ≡ flat_map four (map weight docs)
  pub run : bytes_at files t.runs.part.name
      ≡ as_bytes (run_part_bits (cap_of t.runs.pool) (occurrences_from dictionary 1 docs))

-- the next document was taken, which has this number and these terms
abbrev pub TalliedNext : {X : Type 0} → (X → Option Files) → X → X → Tallying → Tallying → ℕ → TermsRead → Type 0
TalliedNext files before now old new number terms_read =
    (words docs : List (List ℕ)) (doc : List ℕ) → 1 + length docs ≡ number → AreTermsOf words doc terms_read →
    HasTallied old (files before) words docs → HasTallied new (files now) words (docs ++ doc ∷ [])

-- They are those of the documents that were taken.
abbrev pub AreTallied : Tallying → Option Files → Type 0
AreTallied t files = (words docs : List (List ℕ)) → HasTallied t files words docs → HaveTallied t files words docs

-- They are not.
abbrev pub NotTallied : Tallying → Option Files → Type 0
NotTallied t files = (words docs : List (List ℕ)) → HasTallied t files words docs → HaveTallied t files words docs → ⊥

-- Weights and Run of a base are those of a collection, in runs of so many occurrences.
pub record TermsStand (base : List ℕ) (files : Option Files) (cap : ℕ) (collection : List ℕ) : Type 0 where
  pub weights : bytes_at files (full_name base part.Weights) ≡ weights_part collection
  pub run : bytes_at files (full_name base part.Run) ≡ as_bytes (run_part_bits cap (occurrences collection))

-- how many documents have each term of a collection
abbrev pub docs_of_terms : List ℕ → List ℕ
docs_of_terms collection = map (docs collection) (dictionary collection)
