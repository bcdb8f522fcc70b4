-- What of a set is compared behind its text: the head's numbers that the text does not tell, and the parts that tell of terms.
use Rattle.std.specs.Prelude.{◌≡◌, ◌*◌, ℕ, List, length, IfErr, OnOk}
use Rattle.std.specs.declared.option.Option.{Option}
use Rattle.std.specs.declared.result.Result.{Result}
use Rattle.std.specs.Option.{IsSome}
use Rattle.mg_dev.specs.Files.{Files, Reads}
use Rattle.mg_dev.specs.declared.part_err.PartErr.{PartErr}
use Rattle.mg_defs.specs.Means.{StandForNone}
use Rattle.mg_defs.specs.Occurrences.{occurrences}
use Rattle.mg_defs.specs.Stands.{Parts, post_part, skip_count}
use Rattle.mg_defs.specs.Terms.{dictionary}
use Rattle.mg_layout.specs.Stands.{parts_at}
use Rattle.mg_layout.specs.declared.head.Head.{Head}
use Rattle.mg_check_index.specs.Counting.{TermsStand}
use Rattle.mg_check.specs.Found.{StandsWith}
use Rattle.mg_check_index.specs.Listing.{IndexStands}
use Rattle.mg_text.specs.Reading.{TextReading, WhereTextStands}
use Rattle.mg_check_parts.specs.Looks.{LooksAtSet}
use Rattle.mg_check_parts.specs.Refusals.{OnBad, Refutes}

-- the head has as many terms and occurrences as a collection, and the sizes of its lists and skip entries
pub record AreNumbers (head : Head) (collection : List ℕ) : Type 0 where
  pub terms : head.terms ≡ length (dictionary collection)
  pub occurrences : head.occurrences ≡ length (occurrences collection)
  pub post_bytes : head.post_bytes ≡ length (post_part collection)
  pub skip_count : head.skip_count ≡ skip_count collection

-- Post has the size that the head tells, and Skip is as long as so many entries.
pub record HaveSizes (parts : Parts) (head : Head) : Type 0 where
  pub post : length parts.post ≡ head.post_bytes
  pub skip : length parts.skip ≡ 16 * head.skip_count

-- The head has so many terms, and the sizes of Post and Skip.
pub record IsTold (parts : Parts) (head : Head) (terms : ℕ) : Type 0 where
  pub terms_are : head.terms ≡ terms
  pub sizes : HaveSizes parts head

-- the head's number of occurrences, and the six parts that tell of terms, are those of a collection
pub record PartsStand (files : Option Files) (base : List ℕ) (head : Head) (collection : List ℕ) : Type 0 where
  pub occurrences_are : head.occurrences ≡ length (occurrences collection)
  pub terms : TermsStand base files head.cap collection
  pub index : IndexStands files base collection

-- these numbers, and the six parts that tell of terms, are those of a collection
pub record RestStands (files : Option Files) (base : List ℕ) (head : Head) (collection : List ℕ) : Type 0 where
  pub numbers : AreNumbers head collection
  pub terms : TermsStand base files head.cap collection
  pub index : IndexStands files base collection

-- something is compared: it is so, or where a part is told as bad it is not
pub record Compares {T : Type 0} (holds : Type 0) (result : Result T PartErr) : Type 0 where
  pub stand : OnOk result holds
  pub other : IfErr result (Refutes holds)

-- something that a store tells is compared, told of the moments before and after
pub record ComparesTold {T : Type 0} (holds : Type 0) (result : Result T PartErr)
    (files files_now : Option Files) (reads reads_now : Reads) (faults faults_now : ℕ) : Type 0 where
  -- it is so, or where a part is told as bad it is not
  pub compares : IsSome files → Compares holds result
  -- only parts of the set were read
  pub looks : LooksAtSet result files files_now reads reads_now faults faults_now

-- parts of a set are compared with the collection whose text is read
pub record ComparesByText {T : Type 0} (r : TextReading) (holds : List ℕ → Type 0) (result : Result T PartErr)
    (files files_now : Option Files) (reads reads_now : Reads) (faults faults_now : ℕ) : Type 0 where
  -- this is so of the collection, or where a part is told as bad it is not
  pub compares : WhereTextStands r files (λ collection. Compares (holds collection) result)
  -- only parts of the set were read
  pub looks : LooksAtSet result files files_now reads reads_now faults faults_now

-- a set is checked, where this is known of it
pub record SetChecked {T : Type 0} (known : Type 0) (base : List ℕ) (head : Head) (result : Result T PartErr)
    (files files_now : Option Files) (reads reads_now : Reads) (faults faults_now : ℕ) : Type 0 where
  -- yes: its files stand for a collection of as many documents and bytes as the head has
  pub stands : known → OnOk result (StandsWith files base head.documents head.collection)
  -- a damage: they stand for none
  pub none : known → OnBad result (StandForNone (parts_at files base))
  -- only parts of the set were read
  pub looks : LooksAtSet result files files_now reads reads_now faults faults_now

-- a refusal tells that Weights and Run are not those of the collection
abbrev pub RefutesTerms : {T : Type 0} → Option Files → List ℕ → ℕ → Result T PartErr → List ℕ → Type 0
RefutesTerms files base cap result collection = IfErr result (Refutes (TermsStand base files cap collection))
