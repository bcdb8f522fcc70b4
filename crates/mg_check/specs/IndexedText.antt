-- What of the index of a set is compared with its text.
use Rattle.std.specs.Prelude.{◌≡◌, ◌≤◌, ◌<◌, ◌+◌, ◌/◌, ℕ, List, [], IfErr, IfOk, OnOk, get_or, length, map}
use Rattle.std.specs.declared.option.Option.{Option}
use Rattle.std.specs.declared.result.Result.{Result}
use Rattle.mg_dev.specs.Files.{Files, Reads}
use Rattle.mg_dev.specs.declared.part_err.PartErr.{PartErr}
use Rattle.mg_defs.specs.Limits.{version_2}
use Rattle.mg_defs.specs.Occurrences.{occurrences}
use Rattle.mg_defs.specs.Split.{documents}
use Rattle.mg_defs.specs.Terms.{dictionary, docs}
use Rattle.mg_text.specs.Reading.{TextReading, TextStands}
use Rattle.mg_check_parts.specs.Documents.{counted_in}
use Rattle.mg_check_parts.specs.Refusals.{Refutes}
use Rattle.mg_check_text.specs.Reads.{HasTerms, ReadsText}
use Rattle.mg_check_index.specs.Listing.{AreSizes, CanCompareIn, ComparedIn, HasRoomFor, HasRoomForAll, HoldsLists, IndexStands, IsLaidOut, ListsStand, Ranged, SameRooms, lists_upto}
use Rattle.mg_check_index.specs.Packing.{beside_in}
use Rattle.mg_check_index.specs.declared.indexed.Indexed.{Indexed}
use Rattle.mg_check_index.specs.declared.lists.Compared.{Compared}

-- ---- the text of a collection, and claims on it

-- The reader reads the text of this collection, and these are its terms, how many documents have each, and how many
-- occurrences they have.
pub record IsIndexOf (r : TextReading) (files : Option Files) (terms : List (List ℕ)) (docs_of : List ℕ)
    (occurrences_of : ℕ) (collection : List ℕ) : Type 0 where
  pub stands : TextStands r files collection
  pub terms_are : terms ≡ dictionary collection
  pub docs_are : docs_of ≡ map (docs collection) (dictionary collection)
  pub occurrences_are : occurrences_of ≡ length (occurrences collection)
  pub few : length (documents collection) ≤ version_2.documents

-- Lists of a range have room for all postings of a collection, and beside for as many as may have no room in four bytes:
-- each of those counts at least 256 occurrences.
pub record HasWholeRoom (lists : Ranged) (collection : List ℕ) : Type 0 where
  pub all : HasRoomForAll lists collection
  pub beside : length (occurrences collection) / 256 ≤ lists.left
  -- no collection has more documents
  pub few : length (documents collection) ≤ version_2.documents

-- for each of them whose lists have their room
abbrev pub ForRooms : TextReading → Option Files → Ranged → (List ℕ → Type 0) → Type 0
ForRooms reader files lists claim = (collection : List ℕ) → TextStands reader files collection →
    HasWholeRoom lists collection → claim collection

-- how many postings are kept beside of the document behind so many
abbrev pub beside_behind : ℕ → List ℕ → ℕ
beside_behind before collection = beside_in (before + 1)
    (counted_in (dictionary collection) (get_or (documents collection) before []))

-- lists have room for the postings of the document behind so many
pub record HasRoomForNext (lists : Ranged) (before : ℕ) (collection : List ℕ) : Type 0 where
  pub each : HasRoomFor lists (lists_upto (before + 1) collection)
  -- also for those that are kept beside
  pub beside : beside_behind before collection ≤ lists.left

-- for each of them whose lists are held as far as so many documents go, and have room for one document more
abbrev pub ForNextLists : TextReading → Option Files → Ranged → ℕ → (List ℕ → Type 0) → Type 0
ForNextLists reader files lists before claim = (collection : List ℕ) → TextStands reader files collection →
    HoldsLists lists (lists_upto before collection) → HasRoomForNext lists before collection → claim collection

-- for each collection whose text the reader reads, and whose terms, numbers of documents and occurrences these are
abbrev pub ForIndex : TextReading → Option Files → Indexed → (List ℕ → Type 0) → Type 0
ForIndex reader files of claim = (collection : List ℕ) →
    IsIndexOf reader files of.table.now.terms of.docs.now of.occurrences collection → claim collection

-- ---- lists that are read of the text

-- postings are read into the lists of a range, told of the moments before and after
pub record FillsLists {T : Type 0} (r now : TextReading) (old new : Ranged) (result : Result T PartErr)
    (files files_now : Option Files) (reads reads_now : Reads) (faults faults_now : ℕ) : Type 0 where
  -- each list is within its room
  pub laid : IsLaidOut new
  -- their rooms are as before
  pub rooms : SameRooms old new
  -- only the text was read
  pub text : ReadsText r now result files files_now reads reads_now faults faults_now

-- the lists of a range with those of the document behind so many
pub record HoldsNext (old new : Ranged) (before : ℕ) (collection : List ℕ) : Type 0 where
  pub lists : HoldsLists new (lists_upto (before + 1) collection)
  -- no more room beside is taken than that document's postings take
  pub left : old.left ≤ new.left + beside_behind before collection

-- ---- what a comparison of the index starts from

-- a reader of a text, its terms, and how many documents may have each
pub record CanIndex (r : TextReading) (files : Option Files) (of : Indexed) : Type 0 where
  -- the text and its terms
  pub text : HasTerms r files of.table.now of.documents
  -- each term has some of so many documents
  pub sizes : AreSizes of.docs.now (length of.table.now.terms) of.documents
  -- no collection has more
  pub most : of.documents ≤ version_2.documents

-- ---- ranges that are compared

-- a number is behind a range of terms that begins at one
pub record IsBehind (of : Indexed) (first next : ℕ) : Type 0 where
  pub after : first < next
  pub within : next ≤ length of.table.now.terms

-- the range that begins at a term is compared, and the term behind it is answered
pub record NextCompared (r now : TextReading) (of : Indexed) (first : ℕ)
    (old new : Compared) (result : Result ℕ PartErr)
    (files files_now : Option Files) (reads reads_now : Reads) (faults faults_now : ℕ) : Type 0 where
  -- the answer is behind the range
  pub behind : IfOk result (IsBehind of first)
  -- the next range may be compared
  pub can : IfOk result (λ next. CanCompareIn files of next new)
  -- where the terms before the range agree with the collection whose text is read, those before the answer do
  pub agree : ForIndex r files of (λ collection. ComparedIn files of collection first old →
      IfOk result (λ next. ComparedIn files of collection next new))
  -- where they do, a refusal tells that Post and Skip are not the lists of the collection
  pub other : ForIndex r files of (λ collection. ComparedIn files of collection first old →
      IfErr result (Refutes (ListsStand files of.base.now collection)))
  -- only the text was read, and parts of the set that are compared with it
  pub text : ReadsText r now result files files_now reads reads_now faults faults_now

-- all terms are compared, where none was before
pub record AllCompared {T : Type 0} (r now : TextReading) (of : Indexed)
    (old new : Compared) (result : Result T PartErr)
    (files files_now : Option Files) (reads reads_now : Reads) (faults faults_now : ℕ) : Type 0 where
  -- the lexicon has them
  pub can : OnOk result (CanCompareIn files of (length of.table.now.terms) new)
  -- they agree with the collection whose text is read
  pub agree : ForIndex r files of (λ collection. ComparedIn files of collection 0 old →
      OnOk result (ComparedIn files of collection (length of.table.now.terms) new))
  -- a refusal tells that Post and Skip are not the lists of that collection
  pub other : ForIndex r files of (λ collection. ComparedIn files of collection 0 old →
      IfErr result (Refutes (ListsStand files of.base.now collection)))
  -- only the text was read, and parts of the set that are compared with it
  pub text : ReadsText r now result files files_now reads reads_now faults faults_now

-- the index is compared
pub record IndexCompared {T : Type 0} (r now : TextReading) (of : Indexed) (result : Result T PartErr)
    (files files_now : Option Files) (reads reads_now : Reads) (faults faults_now : ℕ) : Type 0 where
  -- Post, Skip, Lex and LexAt are those of the collection whose text is read
  pub stand : ForIndex r files of (λ collection. OnOk result (IndexStands files of.base.now collection))
  -- a refusal tells that they are not
  pub other : ForIndex r files of (λ collection. IfErr result (Refutes (IndexStands files of.base.now collection)))
  -- only the text was read, and parts of the set that are compared with it
  pub text : ReadsText r now result files files_now reads reads_now faults faults_now
