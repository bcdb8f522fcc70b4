-- What a call does that reads the text of a set, what it starts from, and the terms that it reads.
use Rattle.std.specs.Prelude.{◌≡◌, ◌≤◌, ◌^◌, ℕ, List, length, Ok, OnOk}
use Rattle.std.specs.Option.{IsSome}
use Rattle.std.specs.declared.option.Option.{Option}
use Rattle.std.specs.declared.result.Result.{Result}
use Rattle.mg_dev.specs.Files.{Files, Reads}
use Rattle.mg_dev.specs.Moments.{Between, StoreStep}
use Rattle.mg_dev.specs.Names.{full_name}
use Rattle.mg_dev.specs.declared.part.Part.{Part}
use Rattle.mg_dev.specs.declared.part.Part.TheVariants.{Places, Text}
use Rattle.mg_dev.specs.declared.part_err.PartErr.{PartErr}
use Rattle.mg_bits.specs.Pages.{Fits, Paging}
use Rattle.mg_defs.specs.Heads.{IsWithin}
use Rattle.mg_defs.specs.Means.{IsModel, StandForNone}
use Rattle.mg_defs.specs.Stands.{Parts}
use Rattle.mg_defs.specs.Terms.{document}
use Rattle.mg_layout.specs.HeadAnswers.{fields_of}
use Rattle.mg_layout.specs.Stands.{parts_at}
use Rattle.mg_layout.specs.declared.head.Head.{Head}
use Rattle.mg_model.specs.Terms.{TermNumbers, terms_and_numbers}
use Rattle.mg_text.specs.Reading.{SameText, TextFits, TextReading, TextStands}
use Rattle.mg_check_parts.specs.Looks.{LooksAtSet}
use Rattle.mg_check_parts.specs.Refusals.{OnBad}
use Rattle.mg_check_parts.specs.TermsRead.{AreTermsOf, TermsRead}

-- ---- calls that read the text

-- a call that reads parts of a set, the text among them
pub record ReadsText {T : Type 0} (old new : TextReading) (result : Result T PartErr)
    (files_before files_now : Option Files)
    (reads_before reads_now : Reads) (faults_before faults_now : ℕ) : Type 0 where
  -- what the reader keeps agrees with its files
  pub fits : TextFits new files_now
  -- it reads the same files, by the same codes
  pub same : SameText old new
  -- nothing else was read, and nothing written
  pub looks : LooksAtSet result files_before files_now reads_before reads_now faults_before faults_now

-- calls that were done and read the text
abbrev pub HasReadText : TextReading → TextReading → StoreStep
HasReadText old new = ReadsText {T = Unit {0}} old new (Ok tt)

-- calls that read on: what is found, and where a part is refused the parts of a base stand for no collection
pub record ReadsOn {T : Type 0} (claim : Type 0) (wherever : Type 0 → Type 0) (base : List ℕ) (old new : TextReading)
    (result : Result T PartErr) (files_before files_now : Option Files) (reads_before reads_now : Reads)
    (faults_before faults_now : ℕ) : Type 0 where
  -- what was found
  pub found : claim
  -- a part is refused only where the parts stand for none
  pub none : wherever (OnBad result (StandForNone (parts_at files_before base)))
  -- the text was read, and other parts of a set
  pub text : ReadsText old new result files_before files_now reads_before reads_now faults_before faults_now

-- the same by the functions that tell of a store
abbrev pub FindsText : {X T : Type 0} → Type 0 → (Type 0 → Type 0) → List ℕ → TextReading → TextReading → Result T PartErr →
    (X → Option Files) → (X → Reads) → (X → ℕ) → X → X → Type 0
FindsText claim wherever base old new result files reads faults before now = Between files reads faults before now
    (ReadsOn claim wherever base old new result)

-- ---- calls that compare

-- a claim on the parts of a base was compared with them
pub record Compared {T : Type 0} (claim : Parts → Type 0) (base : List ℕ) (result : Result T PartErr)
    (files_before files_now : Option Files) (reads_before reads_now : Reads) (faults_before faults_now : ℕ) : Type 0 where
  -- at `Ok` it is so
  pub so : IsSome files_before → OnOk result (claim (parts_at files_before base))
  -- a part is refused only where it is not so
  pub other : IsSome files_before → OnBad result (claim (parts_at files_before base) → ⊥)
  -- parts of a set were read, and nothing else
  pub looks : LooksAtSet result files_before files_now reads_before reads_now faults_before faults_now

-- the same by the functions that tell of a store
abbrev pub Compares : {X T : Type 0} → (Parts → Type 0) → List ℕ → Result T PartErr → (X → Option Files) → (X → Reads) →
    (X → ℕ) → X → X → Type 0
Compares claim base result files reads faults before now = Between files reads faults before now
    (Compared claim base result)

-- ---- pages that documents are compared with

-- a page of a part under a base is kept, if any
pub record KeepsPage (base : List ℕ) (part : Part) (files : Option Files) (feed : Paging) : Type 0 where
  pub name_is : feed.name ≡ full_name base part
  pub part_is : feed.part ≡ part
  -- it agrees with the part, where the files are told
  pub fits : Fits feed files

-- a page each of Text and of Places
pub record KeepsPages (base : List ℕ) (files : Option Files) (one other : Paging) : Type 0 where
  pub text : KeepsPage base Text files one
  pub places : KeepsPage base Places files other

-- a claim on the parts of a base was compared with them, by the page of Text and the page of Places that are kept
pub record ComparedHeld {T : Type 0} (claim : Parts → Type 0) (base : List ℕ) (text places : Paging)
    (result : Result T PartErr) (files_before files_now : Option Files) (reads_before reads_now : Reads)
    (faults_before faults_now : ℕ) : Type 0 where
  -- the claim was compared with the parts
  pub parts : Compared claim base result files_before files_now reads_before reads_now faults_before faults_now
  -- the pages still agree with their parts
  pub pages : KeepsPages base files_now text places

-- the same by the functions that tell of a store
abbrev pub ComparesHeld : {X T : Type 0} → (Parts → Type 0) → List ℕ → Paging → Paging → Result T PartErr →
    (X → Option Files) → (X → Reads) → (X → ℕ) → X → X → Type 0
ComparesHeld claim base text places result files reads faults before now = Between files reads faults before now
    (ComparedHeld claim base text places result)

-- ---- what they start from

-- a reader of the text of a set, whose head is in range
pub record ReadsBy (r : TextReading) (files : Option Files) (head : Head) : Type 0 where
  -- the numbers of the head are in range
  pub within : IsWithin (fields_of head)
  -- what the reader keeps agrees with its files
  pub fits : TextFits r files
  -- it has as many documents as the head
  pub documents : r.documents ≡ head.documents
  -- its codes are those of a model
  pub model : IsModel r.code

-- such a reader, and a page each of Text and of Places to compare with
pub record CanReadHeld (r : TextReading) (files : Option Files) (base : List ℕ) (head : Head) (text places : Paging) :
    Type 0 where
  pub reads : ReadsBy r files head
  pub pages : KeepsPages base files text places

-- a reader of a text of so many documents, and the table of the terms of its words
pub record HasTerms (r : TextReading) (files : Option Files) (table : TermNumbers) (documents : ℕ) : Type 0 where
  -- what the reader keeps agrees with its files
  pub fits : TextFits r files
  -- so many documents it has
  pub all : documents ≡ r.documents
  -- the table is that of its words
  pub table_is : table ≡ terms_and_numbers r.code.words.pieces
  -- no table has more terms
  pub few : length table.terms ≤ 2 ^ 22

-- ---- the terms of a document

-- The terms that were read are those of some document. Where the reader's text is that of a collection, they are those of its document of this number, from 1.
pub record HasReadTerms (r : TextReading) (files : Option Files) (words : List (List ℕ)) (number : ℕ) (t : TermsRead) :
    Type 0 where
  pub doc : List ℕ
  pub terms : AreTermsOf words doc t
  pub own : (collection : List ℕ) → TextStands r files collection → AreTermsOf words (document collection number) t
