-- A reader of whole lists: what contracts see of it, where it stands in a list, and what a call does.
use Rattle.std.specs.Prelude.{◌≡◌, ◌≢◌, ℕ, ◌+◌, ◌-◌, ◌*◌, ◌^◌, ◌≤◌, ◌<◌, List, [], ◌∷◌, ◌++◌, length, drop, min, slice_get, Option, Some, None, Result, Err, IfErr, IfOk, IfSome, OnErr, OnOk}
use Rattle.mg_dev.specs.Files.{Files, Reads}
use Rattle.mg_dev.specs.Names.{full_name}
use Rattle.mg_dev.specs.PartCauses.{HasPartCause}
use Rattle.mg_dev.specs.declared.part.Part.{Part}
use Rattle.mg_dev.specs.declared.part.Part.TheVariants.{Post}
use Rattle.mg_dev.specs.declared.part_err.PartErr.{PartErr}
use Rattle.mg_dev.specs.declared.part_err.PartErr.TheVariants as err
use Rattle.mg_bits.specs.Feed.{told_at}
use Rattle.mg_bits.specs.Pages.{Fits, Paging}
use Rattle.mg_defs.specs.declared.Posting.{Posting}
use Rattle.mg_defs.specs.Codes.{golomb_parameter}
use Rattle.mg_defs.specs.Split.{documents}
use Rattle.mg_defs.specs.Terms.{dictionary}
use Rattle.mg_defs.specs.Lists.{bits_before, block_count, doc_before, from_doc, postings}
use Rattle.mg_defs.specs.PageBounds.{list_bit, list_pages, parameter_of, whole_pages}
use Rattle.mg_defs.specs.PagesOf.{page_at, pages}
use Rattle.mg_layout.specs.Infos.{IsInfoOf}
use Rattle.mg_layout.specs.declared.term_info.TermInfo.{TermInfo}
use Rattle.mg_post.specs.Answers.{AnswersList}
use Rattle.mg_post.specs.Cursor.{IsFrom, head_of}
use Rattle.mg_post.specs.Damages.{IfNames, NamesPart}
use Rattle.mg_post.specs.Missing.{LacksPosting}
use Rattle.mg_post.specs.PagesOnce.{span_pages}
use Rattle.mg_post.specs.TermLists.{ListsStand}

pub record ListReading : Type 0 where
  -- the feed of Post, and the bit behind the blocks that were read
  pub post : Paging
  pub place : ℕ
  -- how many postings the list has, its parameter, and how many documents there are
  pub docs : ℕ
  pub parameter : ℕ
  pub all : ℕ
  -- how many blocks were read, and the last document of these
  pub reached : ℕ
  pub last : ℕ
  -- the postings of the block that was read last, from the current one on
  pub held : List Posting

-- the document of the first of these postings; where there is none, this one
abbrev pub doc_in : ℕ → List Posting → ℕ
doc_in last [] = last
doc_in last (p ∷ held) = p.doc

-- the document of the current posting; before the first one, 0
abbrev pub current_doc : ListReading → ℕ
current_doc r = doc_in r.last r.held

-- how many postings are left behind the current one; before the first one, all
abbrev pub left_behind : ListReading → ℕ
left_behind r = (length r.held - 1) + (r.docs - 64 * r.reached)

-- the posting behind the current one is one of those that were left; none is answered only where none was left
abbrev pub WalksOn : ListReading → ListReading → Option Posting → Type 0
WalksOn r v None = left_behind r ≡ 0
WalksOn r v (Some p) = left_behind r ≡ left_behind v + 1

-- ---- the list of a term of a collection

-- a reader over the list of a term, behind this document
pub record ReaderFor (base collection t : List ℕ) (last : ℕ) (r : ListReading) : Type 0 where
  pub number : ℕ
  pub term : slice_get (dictionary collection) number ≡ Some t
  pub post : r.post.name ≡ full_name base Post
  pub all : r.all ≡ length (documents collection)
  pub docs : r.docs ≡ length (postings collection t)
  pub parameter : r.parameter ≡ parameter_of collection t
  pub reached : r.reached ≤ block_count (length (postings collection t))
  -- it reads on behind the blocks that were read
  pub place : r.place ≡ list_bit collection t + bits_before r.parameter (64 * r.reached) (postings collection t)
  pub before : r.last ≡ doc_before (64 * r.reached) (postings collection t)
  -- where these have bits, the page of the last one is held
  pub page : list_bit collection t < r.place → r.post.held ≡ Some (page_at (r.place - 1))
  -- the postings behind the document are left
  pub left : drop 1 r.held ++ drop (64 * r.reached) (postings collection t) ≡ from_doc (last + 1) (postings collection t)

-- a fact on each list over which a reader is, behind this document
abbrev pub ForReader : Option Files → ℕ → ListReading → (List ℕ → List ℕ → List ℕ → Type 0) → Type 0
ForReader files last r claim = (base collection t : List ℕ) → ListsStand base files collection →
    ReaderFor base collection t last r → claim base collection t

-- the pages of the blocks that were read of the list of a term
abbrev pub read_pages : List ℕ → List ℕ → ListReading → ℕ
read_pages collection t r = whole_pages (parameter_of collection t) (list_bit collection t) r.reached
    (postings collection t)

-- the pages on which its first blocks lie, so many
abbrev pub span_to : List ℕ → List ℕ → ℕ → ℕ
span_to collection t blocks = pages (list_bit collection t)
    (list_bit collection t + bits_before (parameter_of collection t) (64 * blocks) (postings collection t))

-- the answer: the first posting of the list behind a document; then the reader is behind that posting
pub record AnswersReader (base collection t : List ℕ) (last : ℕ) (v : ListReading) (found : Option Posting) : Type 0
  where
    pub found_is : found ≡ head_of (from_doc (last + 1) (postings collection t))
    pub reader : IfSome found (λ p. ReaderFor base collection t p.doc v)

-- ---- what a call does

-- it reads the same file, of a set with as many documents
pub record SameSource (r v : ListReading) : Type 0 where
  pub post : v.post.name ≡ r.post.name
  pub all : v.all ≡ r.all

-- it reads on where it read on before
pub record SameRest (r v : ListReading) : Type 0 where
  pub place : v.place ≡ r.place
  pub reached : v.reached ≡ r.reached
  pub last : v.last ≡ r.last

-- a list that the lexicon tells of is opened
pub record OpensList (info : TermInfo) (r v : ListReading) : Type 0 where
  -- nothing is read, and the page that is held stays
  pub post : v.post ≡ r.post
  pub all : v.all ≡ r.all
  -- it begins at its byte of Post, or beyond all bits
  pub place : v.place ≡ min (8 * info.post_at) (2 ^ 64 - 1)
  pub parameter : 1 ≤ info.docs → v.parameter ≡ golomb_parameter r.all info.docs
  -- the reader is before its first posting
  pub first : current_doc v ≡ 0
  pub whole : left_behind v ≡ info.docs
  -- where the lists stand, it is the list of the term
  pub list : (base collection t : List ℕ) (files : Option Files) → ListsStand base files collection →
      IsInfoOf collection t info → r.all ≡ length (documents collection) → r.post.name ≡ full_name base Post →
      ReaderFor base collection t 0 v

-- a reader goes to the next posting of its list
pub record ReadStep (r v : ListReading) (result : Result (Option Posting) PartErr) (files_before files_now : Option Files)
    (reads_before reads_now : Reads) (faults_before faults_now : ℕ) : Type 0 where
  -- the page that is held agrees with Post
  pub fits : Fits v.post files_now
  pub same : SameSource r v
  -- where the lists stand, the next posting is answered, or the device failed
  pub answer : (last : ℕ) → ForReader files_before last r (λ base collection t.
      AnswersList result (AnswersReader base collection t last v))
  -- and no page of Post is read but those of the blocks
  pub post : (last : ℕ) → ForReader files_before last r (λ _ collection t.
      OnOk result (reads_now Post + read_pages collection t r ≤ reads_before Post + read_pages collection t v))
  -- also where the next block is refused
  pub most : (last : ℕ) → ForReader files_before last r (λ _ collection t.
      reads_now Post + read_pages collection t r ≤ reads_before Post + list_pages collection t)
  -- and each page on which the blocks lie is read once
  pub once : (last : ℕ) → ForReader files_before last r (λ _ collection t. OnOk result
      (reads_now Post + span_to collection t r.reached ≤ reads_before Post + span_to collection t v.reached))
  pub once_most : (last : ℕ) → ForReader files_before last r (λ _ collection t.
      reads_now Post + span_to collection t r.reached ≤ reads_before Post + span_pages collection t)
  -- whatever Post has, the posting is behind the current one, and is the current one then
  pub sound : IfOk result (λ found. IfSome found (IsFrom (current_doc r + 1) r.all))
  pub current : IfOk result (λ found. IfSome found (λ p. current_doc v ≡ p.doc))
  -- whatever Post has, none is passed over: a walk ends only behind the list's last posting
  pub walk : IfOk result (WalksOn r v)
  -- a damage is one of Post
  pub part : IfErr result (NamesPart Post)
  -- it is told where a posting of the next block does not stand
  pub lacks : IfErr result (λ refusal. IfNames Post refusal
      (LacksPosting r.all r.parameter (told_at files_before r.post.name) r.last r.place
      (min (r.docs - 64 * r.reached) 64)))
  -- a block that was refused may be asked for again
  pub kept : OnErr result (SameRest r v)
  -- no other part is read
  pub later : (p : Part) → reads_before p ≤ reads_now p
  pub others : (p : Part) → p ≢ Post → reads_now p ≡ reads_before p
  -- nothing is written
  pub files : files_now ≡ files_before
  -- no memory is taken
  pub memory : result ≢ Err err.Memory
  -- a device's failure has a cause
  pub cause : HasPartCause faults_before faults_now result
