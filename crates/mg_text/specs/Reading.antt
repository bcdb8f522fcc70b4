-- A reader of the text: what contracts see of it, when its parts stand, and what its calls answer.
use Rattle.std.specs.Prelude.{◌≡◌, ◌≢◌, ℕ, ◌*◌, ◌+◌, ◌^◌, ◌≤◌, ◌<◌, ◌⊎◌, ◌++◌, List, length, Ok, Err, OnOk}
use Rattle.std.specs.Option.{IsSome}
use Rattle.std.specs.declared.option.Option.{Option}
use Rattle.std.specs.declared.result.Result.{Result}
use Rattle.mg_dev.specs.Files.{Files, Reads, SameReads, bytes_at}
use Rattle.mg_dev.specs.Moments.{Between, SinkAt, sink_at}
use Rattle.mg_dev.specs.Names.{full_name}
use Rattle.mg_dev.specs.PartCauses.{HasPartCause}
use Rattle.mg_dev.specs.declared.part.Part.{Part}
use Rattle.mg_dev.specs.declared.part.Part.TheVariants as part
use Rattle.mg_dev.specs.declared.part_err.PartErr.{PartErr}
use Rattle.mg_dev.specs.declared.part_err.PartErr.TheVariants.{Device, Memory, Bad}
use Rattle.mg_dev.specs.declared.show_err.ShowErr.{ShowErr}
use Rattle.mg_dev.specs.declared.show_err.ShowErr.TheVariants as show
use Rattle.mg_dev.specs.Streams.{AfterPut, GrewByPrefix, appended}
use Rattle.mg_bits.specs.Alike.{WhereSame}
use Rattle.mg_bits.specs.Pages.{Fits, LookedAt, Paging}
use Rattle.mg_defs.specs.Bits.{bits_of}
use Rattle.mg_defs.specs.CodedText.{IsTextCode, TextCode, doc_range, places_part, text_part}
use Rattle.mg_defs.specs.WithinLimits.{IsWithinLimits}
use Rattle.mg_defs.specs.PagesOf.{pages}
use Rattle.mg_defs.specs.Parse.{Pair}
use Rattle.mg_defs.specs.Terms.{document}
use Rattle.mg_defs.specs.Stands.{Stand}
use Rattle.mg_defs.specs.Split.{documents}
use Rattle.mg_layout.specs.HeadAnswers.{fields_of}
use Rattle.mg_layout.specs.Stands.{parts_at}
use Rattle.mg_layout.specs.Sizes.{TellsSize}
use Rattle.mg_layout.specs.declared.head.Head.{Head}
use Rattle.mg_model.specs.Damage.{AnswersLoad}
use Rattle.mg_defs.specs.Means.{IsModel, Tell}
use Rattle.mg_model.specs.Models.{PartsStand}
use Rattle.mg_text.specs.Decoding.{AddedOf, Ends, ForShown, Gathering, Gathers, IsShowCaused, Shown}
use Rattle.mg_text_writer.specs.Documents.{TextHolds}
use Rattle.mg_text.specs.Places.{most_text, place_width}
use Rattle.mg_text.specs.Stood.{DocumentTold, PairsTold}

-- the feeds of Text and Places, the codes of both streams, the version of the places, how many documents there are, and the size of Text
pub record TextReading : Type 0 where
  pub text : Paging
  pub places : Paging
  pub code : TextCode
  pub version : ℕ
  pub documents : ℕ
  pub size : ℕ

-- a reader of the pages of this part of a base, which keeps none that a file could contradict
pub record IsFeedOf (feed : Paging) (base : List ℕ) (p : Part) : Type 0 where
  pub name : feed.name ≡ full_name base p
  pub part : feed.part ≡ p
  pub fits : (files : Option Files) → Fits feed files

-- what it keeps of Text and Places agrees with them, where the files are told
pub record TextFits (r : TextReading) (files : Option Files) : Type 0 where
  pub text : Fits r.text files
  pub places : Fits r.places files

-- a fact where both stores tell alike and hold the same parts of a reader
abbrev pub WhereSameTexts : TextReading → Option Files → Option Files → Type 0 → Type 0
WhereSameTexts r one other fact = WhereSame one other r.text.name r.places.name fact

-- it reads the same files, by the same codes
pub record SameText (old new : TextReading) : Type 0 where
  pub text : new.text.name ≡ old.text.name
  pub places : new.places.name ≡ old.places.name
  pub code : new.code ≡ old.code
  pub version : new.version ≡ old.version
  pub documents : new.documents ≡ old.documents
  pub size : new.size ≡ old.size

-- a reader of the parts of a base, by the numbers of a head
pub record IsTextReader (r : TextReading) (base : List ℕ) (head : Head) : Type 0 where
  pub text_is : r.text.name ≡ full_name base part.Text
  pub places_is : r.places.name ≡ full_name base part.Places
  pub version_is : r.version ≡ head.version
  pub documents_are : r.documents ≡ head.documents
  pub size_is : r.size ≡ head.text_bytes

-- the same by these codes; what it keeps agrees with all files, since it keeps nothing
pub record IsReaderOver (r : TextReading) (base : List ℕ) (head : Head) (code : TextCode) : Type 0 where
  pub fits : (files : Option Files) → TextFits r files
  pub reader : IsTextReader r base head
  pub model : r.code ≡ code

-- ---- where the parts stand

-- the parts of a base are the words, others, text and places of this collection under these codes, and the head's numbers are theirs
pub record IsText (base : List ℕ) (files : Option Files) (head : Head) (code : TextCode) (collection : List ℕ) : Type 0
  where
    pub models : PartsStand files base code head.words head.others
    pub code_is : IsTextCode collection code
    pub text_is : bits_of (bytes_at files (full_name base part.Text)) ≡ bits_of (text_part code collection)
    pub places_are : bytes_at files (full_name base part.Places) ≡ places_part head.version code collection
    pub size_is : head.text_bytes ≡ length (text_part code collection)
    pub documents_are : head.documents ≡ length (documents collection)
    pub few : length collection < 2 ^ 32
    pub small : head.text_bytes ≤ most_text head.version

-- the parts of a reader are the text and places of this collection
pub record TextStands (r : TextReading) (files : Option Files) (collection : List ℕ) : Type 0 where
  pub told : IsSome files
  pub model : IsModel r.code
  pub code : IsTextCode collection r.code
  pub text : bits_of (bytes_at files r.text.name) ≡ bits_of (text_part r.code collection)
  pub places : bytes_at files r.places.name ≡ places_part r.version r.code collection
  pub size : r.size ≡ length (text_part r.code collection)
  pub documents : r.documents ≡ length (documents collection)
  pub few : length collection < 2 ^ 32
  pub small : r.size ≤ most_text r.version

-- if the parts of a reader were the text and places of this collection, those of another reader are it now
abbrev pub TextStays : TextReading → TextReading → Option Files → Option Files → List ℕ → Type 0
TextStays r now f g collection = TextStands r f collection → TextStands now g collection

-- a fact on the code and the collection whose parts those of a base are, by a head
abbrev pub WhereIsText : List ℕ → Option Files → Head → (TextCode → List ℕ → Type 0) → Type 0
WhereIsText base files head fact = (code : TextCode) (collection : List ℕ) → IsText base files head code collection →
    fact code collection

-- a fact on a base, the files, a head, a code and a collection
abbrev pub ForHeads : (List ℕ → Option Files → Head → TextCode → List ℕ → Type 0) → Type 0
ForHeads fact = (base : List ℕ) (files : Option Files) (head : Head) (code : TextCode) (collection : List ℕ) →
    fact base files head code collection

-- a fact where the parts were written for a collection within the limits, and a head of any version but 1 has its numbers
abbrev pub WhereWritten : List ℕ → Option Files → Head → TextCode → List ℕ → Type 0 → Type 0
WhereWritten base files head code collection fact = TextHolds base files code collection →
    PartsStand files base code head.words head.others →
    IsTextCode collection code → head.version ≢ 1 → head.text_bytes ≡ length (text_part code collection) →
    head.documents ≡ length (documents collection) →
    IsWithinLimits head.version collection → fact

-- a fact where the files are told, the parts of a base stand for a collection, and a head and a code are what they tell
abbrev pub WhereTold : List ℕ → Option Files → Head → TextCode → List ℕ → Type 0 → Type 0
WhereTold base files head code collection fact =
    IsSome files → Tell (parts_at files base) (fields_of head) code → Stand (parts_at files base) collection → fact

-- a fact on a version, codes and a collection within its limits that has these codes
abbrev pub ForCodedWithin : (ℕ → TextCode → List ℕ → Type 0) → Type 0
ForCodedWithin fact = (version : ℕ) (code : TextCode) (collection : List ℕ) → IsTextCode collection code →
    IsWithinLimits version collection → fact version code collection

-- ---- loading

-- what comparing the sizes of Text and Places answers, Text first
abbrev pub AnswersSizes : ℕ → ℕ → List ℕ → List ℕ → Result (Unit {0}) PartErr → Type 0
AnswersSizes text_size places_size text places (Ok done) = (length text ≡ text_size) × (length places ≡ places_size)
AnswersSizes text_size places_size text places (Err Device) = Unit {0}
AnswersSizes text_size places_size text places (Err Memory) = ⊥
AnswersSizes text_size places_size text places (Err (Bad bad)) =
    ((length text ≢ text_size) × TellsSize bad part.Text text_size (length text))
    ⊎ ((length text ≡ text_size) × (length places ≢ places_size) × TellsSize bad part.Places places_size
    (length places))

-- a head and the bytes of the parts that are looked at
pub record Stored : Type 0 where
  pub head : Head
  pub words : List ℕ
  pub others : List ℕ
  pub text : List ℕ
  pub places : List ℕ

-- the bytes of places for so many documents
abbrev pub places_size : Head → ℕ
places_size head = place_width head.version * (head.documents + 1)

abbrev pub AnswersTextSizes : Stored → Result (Unit {0}) PartErr → Type 0
AnswersTextSizes s r = AnswersSizes s.head.text_bytes (places_size s.head) s.text s.places r

-- what the parts of a base hold
abbrev pub stored_at : Option Files → List ℕ → Head → Stored
stored_at files base head = record {
  head = head;
  words = bytes_at files (full_name base part.Words);
  others = bytes_at files (full_name base part.Nonwords);
  text = bytes_at files (full_name base part.Text);
  places = bytes_at files (full_name base part.Places);
}

-- what comparing the two sizes promises
pub record ComparesSizes (base : List ℕ) (head : Head) (result : Result (Unit {0}) PartErr)
    (files_before files_now : Option Files) (reads_before reads_now : Reads) (faults_before faults_now : ℕ) : Type 0
  where
    -- Text is compared first
    pub answer : IsSome files_before → AnswersTextSizes (stored_at files_before base head) result
    -- no memory is wanted
    pub memory : result ≢ Err Memory
    -- no file changes, and no part is read
    pub files : files_now ≡ files_before
    pub reads : SameReads reads_before reads_now
    -- a refusal has its cause
    pub cause : HasPartCause faults_before faults_now result

-- the two sizes are those of the head
abbrev pub HasSizes : Stored → Type 0
HasSizes s = (length s.text ≡ s.head.text_bytes) × (length s.places ≡ places_size s.head)

-- what loading a reader answers: the first of the two sizes that differs, then what the models answer
-- memory is wanted only where both sizes are right and Words has room for its entries
abbrev pub AnswersReader : Stored → Result TextReading PartErr → Type 0
AnswersReader s (Ok r) = HasSizes s × AnswersLoad s.head.words s.head.others s.words s.others (Ok r.code)
AnswersReader s (Err Device) = Unit {0}
AnswersReader s (Err Memory) = HasSizes s × AnswersLoad s.head.words s.head.others s.words s.others (Err Memory)
AnswersReader s (Err (Bad bad)) = AnswersTextSizes s (Err (Bad bad))
    ⊎ (HasSizes s × AnswersLoad s.head.words s.head.others s.words s.others (Err (Bad bad)))

-- one of the two sizes is not that of the head
abbrev pub DiffersInSize : Option Files → List ℕ → Head → Type 0
DiffersInSize files base head = ¬ HasSizes (stored_at files base head)

-- ---- showing a document

-- the document was written, or a prefix of it; and so many reads of the text at most were added
abbrev pub AnswersDoc : Result (Unit {0}) ShowErr → Option (List ℕ) → Option (List ℕ) → List ℕ → ℕ → ℕ → ℕ → Type 0
AnswersDoc result before now doc reads_before reads_now most =
    Ends result ((now ≡ appended before doc) × (reads_now ≤ reads_before + most))
    (GrewByPrefix before now doc × (reads_now ≤ reads_before + most))

-- the document was shown or is held behind what was so before, or a prefix was shown; and so many reads of the text at most were added
abbrev pub AnswersGathered : Result (Unit {0}) ShowErr → Option (List ℕ) → Option (List ℕ) → Gathering → List ℕ → ℕ →
    ℕ → ℕ → ℕ → Type 0
AnswersGathered result before now b bytes most reads_before reads_now most_reads =
    Ends result (Shown before now b bytes most × (reads_now ≤ reads_before + most_reads))
    (GrewByPrefix before now bytes × (reads_now ≤ reads_before + most_reads))

-- a fact on the collection whose text and places the parts of a reader are
abbrev pub WhereTextStands : TextReading → Option Files → (List ℕ → Type 0) → Type 0
WhereTextStands r files fact = (collection : List ℕ) → TextStands r files collection → fact collection

-- the number of pages on which the bits of a document lie
abbrev pub document_pages : TextCode → List ℕ → ℕ → ℕ
document_pages code collection number = pages (doc_range code collection number).from
    (doc_range code collection number).to

-- at `Ok` the document of this number was written, else a prefix of it
abbrev pub WritesDocument : Option (List ℕ) → Option (List ℕ) → ℕ → Result (Unit {0}) ShowErr → List ℕ → Type 0
WritesDocument sent sent_now number result collection = AfterPut sent sent_now (document collection number) result

-- no more pages of the text are read than a document's bits lie on
abbrev pub PagesOfDocument : TextReading → ℕ → Reads → Reads → List ℕ → Type 0
PagesOfDocument r number reads reads_now collection = reads_now part.Text
    ≤ reads part.Text + document_pages r.code collection number

-- these bytes went to the sink
abbrev pub WroteAll : Option (List ℕ) → Option (List ℕ) → List ℕ → Type 0
WroteAll sent sent_now doc = sent_now ≡ appended sent doc

-- these bytes were shown or are held behind those that were
abbrev pub GatheredAll : Option (List ℕ) → Option (List ℕ) → Gathering → Gathering → List ℕ → Type 0
GatheredAll sent sent_now b b_now doc = ForShown sent b (λ before first most. Shown before sent_now b_now (first ++ doc)
    most)

-- where the parts stand and a document may come behind what was shown or is held: it is so too, or a prefix is shown
abbrev pub GathersDoc : TextReading → Option Files → Option (List ℕ) → Option (List ℕ) → Gathering → Gathering → ℕ →
    Result (Unit {0}) ShowErr → Type 0
GathersDoc r files sent sent_now b b_now number result = (collection : List ℕ) (before : Option (List ℕ))
    (bytes : List ℕ) (most : ℕ) →
    TextStands r files collection → Shown before sent b bytes most →
    length (bytes ++ document collection number) ≤ most →
    Gathers result before sent_now b_now (bytes ++ document collection number) most

-- Text and Places of a reader tell of these pairs of a document, by the codes that were loaded.
abbrev pub TellsPairs : TextReading → Option Files → ℕ → List Pair → Type 0
TellsPairs r files number pairs = PairsTold r.code r.version r.size (bytes_at files r.places.name)
    (bytes_at files r.text.name) number pairs

-- They tell of a document, and this is so of its bytes.
abbrev pub TellsDocument : TextReading → Option Files → ℕ → (List ℕ → Type 0) → Type 0
TellsDocument r files number fact = DocumentTold r.code r.version r.size (bytes_at files r.places.name)
    (bytes_at files r.text.name) number fact

-- no part is bad
abbrev pub ShowIsNotBad : Result (Unit {0}) ShowErr → Type 0
ShowIsNotBad (Ok done) = Unit {0}
ShowIsNotBad (Err (show.Part Device)) = Unit {0}
ShowIsNotBad (Err (show.Part Memory)) = Unit {0}
ShowIsNotBad (Err (show.Part (Bad bad))) = ⊥
ShowIsNotBad (Err show.Write) = Unit {0}
ShowIsNotBad (Err show.Memory) = Unit {0}

-- a document of this number can be read
pub record CanRead (r : TextReading) (files : Option Files) (number : ℕ) : Type 0 where
  -- what the reader keeps of Text and Places agrees with them
  pub fits : TextFits r files
  -- the number is one from 1 to the number of documents
  pub some : 1 ≤ number
  pub within : number ≤ r.documents

-- what reading a document promises: whatever the parts hold, what is told of its bytes, and facts wherever the parts
-- stand for a collection of which it may come
pub record ReadsDocument (old new : TextReading) (number : ℕ) (wherever : (List ℕ → Type 0) → Type 0) (told : Type 0)
    (comes : List ℕ → Type 0) (most most_now : ℕ) (out out_now : SinkAt) (result : Result (Unit {0}) ShowErr)
    (files_before files_now : Option Files) (reads_before reads_now : Reads) (faults_before faults_now : ℕ) : Type 0
  where
    -- what the reader keeps of Text and Places agrees with them
    pub fits : TextFits new files_now
    -- it reads the same text
    pub same : SameText old new
    -- nothing is read but Text and Places, and no file changes
    pub looked : LookedAt part.Text part.Places files_before files_now reads_before reads_now faults_before faults_now
    -- its bytes come
    pub content : told
    -- whatever the parts hold, what came is what Text tells, by the codes that were loaded
    pub stood : IsSome files_before → OnOk result (TellsDocument old files_before number comes)
    -- no part is bad
    pub never_bad : wherever (λ _. ShowIsNotBad result)
    -- no more pages of Text are read than its bits lie on
    pub pages : wherever (PagesOfDocument old number reads_before reads_now)
    -- at most one page of Places is read
    pub places : reads_now part.Places ≤ reads_before part.Places + 1
    -- the sink was given no more bytes than might come
    pub added : AddedOf most most_now out out_now
    -- a refusal has its cause
    pub cause : IsShowCaused result faults_before faults_now out.faults out_now.faults out.lacks out_now.lacks

-- the same by the functions that tell of a store and of a sink
abbrev pub ReadsDoc : {X Y : Type 0} → ((List ℕ → Type 0) → Type 0) → Type 0 → (List ℕ → Type 0) → ℕ → ℕ → ℕ → Result (Unit {0}) ShowErr →
    TextReading → TextReading → (X → Option Files) → (X → Reads) → (X → ℕ) → X → X → (Y → Option (List ℕ)) → (Y → ℕ) →
    (Y → ℕ) → Y → Y → Type 0
ReadsDoc wherever told comes most most_now number result old new files reads faults before now written sink_faults lacks out out_now =
    Between files reads faults before now
    (ReadsDocument old new number wherever told comes most most_now (sink_at written sink_faults lacks out)
    (sink_at written sink_faults lacks out_now) result)
