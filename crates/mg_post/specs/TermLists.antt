-- A cursor over the list of a term of a collection, and the pages that it enters over its life.
use Rattle.std.specs.Prelude.{◌≡◌, ◌≢◌, ℕ, ◌+◌, ◌-◌, ◌*◌, ◌^◌, ◌<◌, ◌≤◌, true, List, length, slice_get, Option, Some, Result, Ok}
use Rattle.std.specs.Option.{IsSome}
use Rattle.mg_dev.specs.Files.{Files, Reads, bytes_at}
use Rattle.mg_dev.specs.Names.{full_name}
use Rattle.mg_dev.specs.declared.part.Part.{Part}
use Rattle.mg_dev.specs.declared.part.Part.TheVariants as part
use Rattle.mg_defs.specs.declared.Posting.{Posting}
use Rattle.mg_defs.specs.Bits.{bits_of}
use Rattle.mg_defs.specs.Codes.{golomb_parameter}
use Rattle.mg_defs.specs.Split.{documents}
use Rattle.mg_defs.specs.Terms.{dictionary}
use Rattle.mg_defs.specs.Lists.{block_count, postings, from_doc, InRange, post_bits, skip_bits, list_byte, first_entry}
use Rattle.mg_defs.specs.PageBounds.{is_met, met_pages, pages_for}
use Rattle.mg_layout.specs.Infos.{IsInfoOf}
use Rattle.mg_layout.specs.declared.term_info.TermInfo.{TermInfo}
use Rattle.mg_dev.specs.declared.part_err.PartErr.{PartErr}
use Rattle.mg_post.specs.Answers.{AnswersList}
use Rattle.mg_post.specs.Cursor.{Cursoring, Enters, SameList, IsOver, StandsAt, entered_pages, head_of, post_pages}
use Rattle.mg_post.specs.PagesOnce.{PostReads, ReadsOnce}

-- ---- the pages that are entered over a cursor's life

-- each block of the list whose range holds the document is one whose range holds a document of these
abbrev pub IsAmong : List ℕ → List Posting → ℕ → Type 0
IsAmong asked ps doc = (k : ℕ) → InRange k ps doc → is_met asked ps k ≡ true

-- no pages were entered but those of the blocks, up to the last that was reached, whose range holds a document of these: each block once
abbrev pub EnteredFor : List ℕ → List Posting → Cursoring → Type 0
EnteredFor asked ps c = entered_pages c ≤ met_pages asked c.parameter (8 * c.post_at) c.reached ps

-- the pages of all blocks of the cursor's list whose range holds a document of these
abbrev pub all_met : List ℕ → Cursoring → List Posting → ℕ
all_met asked c ps = met_pages asked c.parameter (8 * c.post_at) (block_count (length ps)) ps

-- where a call was answered that is over the same list and goes no block back, the cursor keeps to these documents
abbrev pub KeepsEntered : List ℕ → List Posting → Cursoring → Cursoring → ℕ → Option Posting → Type 0
KeepsEntered asked ps c v doc found = SameList c v → c.reached ≤ v.reached → Enters (Ok found) ps c doc v →
    EnteredFor asked ps c → EnteredFor asked ps v

-- where the cursor kept to these documents, a call comes to no more pages than all of their blocks have
abbrev pub MostEntered : List ℕ → List Posting → Cursoring → Cursoring → ℕ → Result (Option Posting) PartErr → Type 0
MostEntered asked ps c v doc result = Enters result ps c doc v → EnteredFor asked ps c →
    entered_pages v ≤ all_met asked c ps

-- a fact on documents that are asked of a list, a cursor over it before a call for one of them and after it, and what the call answers
abbrev pub ForCalls : {A : Type 0} → (List ℕ → List Posting → Cursoring → Cursoring → ℕ → A → Type 0) → Type 0
ForCalls {A = A} fact = (asked : List ℕ) (ps : List Posting) (c v : Cursoring) (doc : ℕ) (answer : A) →
    IsAmong asked ps doc → fact asked ps c v doc answer

-- ---- the lists of a collection

-- the two parts of a base are the lists of this collection
pub record ListsStand (base : List ℕ) (files : Option Files) (collection : List ℕ) : Type 0 where
  pub told : IsSome files
  pub post : bits_of (bytes_at files (full_name base part.Post)) ≡ post_bits collection
  pub skip : bits_of (bytes_at files (full_name base part.Skip)) ≡ skip_bits collection
  pub short : length collection < 2 ^ 32
  pub few : length (documents collection) < 2 ^ 32 - 1
  pub small : length (post_bits collection) ≤ 2 ^ 63

-- a cursor over the list of a term, which was asked for no document past n, entered no blocks but those whose range
-- holds one of the documents that are asked, and read no page of Post twice
pub record CursorFor (base collection asked t : List ℕ) (n : ℕ) (c : Cursoring) : Type 0 where
  pub number : ℕ
  pub term : slice_get (dictionary collection) number ≡ Some t
  pub over : IsOver c (full_name base part.Post) (full_name base part.Skip) (list_byte collection number)
      (first_entry collection number) (length (postings collection t)) (length (documents collection))
  pub parameter : c.parameter ≡ golomb_parameter (length (documents collection)) (length (postings collection t))
  pub reached_doc : ℕ
  pub early : reached_doc ≤ n
  pub at : StandsAt c (postings collection t) (from_doc reached_doc (postings collection t))
  pub first : post_pages c ≤ entered_pages c
  pub within : EnteredFor asked (postings collection t) c
  pub once : PostReads c (postings collection t)

-- a cursor over the list that the lexicon tells of, of a base
abbrev pub IsOverInfo : Cursoring → List ℕ → TermInfo → ℕ → Type 0
IsOverInfo c base info all = IsOver c (full_name base part.Post) (full_name base part.Skip) info.post_at info.skip_at
    info.docs all

-- a cursor over the list of each term of which the lexicon tells this
abbrev pub CursorForInfo : List ℕ → TermInfo → ℕ → Cursoring → Type 0
CursorForInfo base info all c =
    (collection asked t : List ℕ) (n : ℕ) → IsInfoOf collection t info → all ≡ length (documents collection) →
    CursorFor base collection asked t n c

-- it may be asked for the document: the lists stand, and each block of its list whose range holds the document is one that may be read
pub record MayAsk (base collection asked t : List ℕ) (doc : ℕ) (files : Option Files) (c : Cursoring) : Type 0 where
  pub stand : ListsStand base files collection
  pub cursor : CursorFor base collection asked t doc c
  pub among : IsAmong asked (postings collection t) doc

-- the answer: the first posting from the document on; then the cursor was asked for it
pub record AnswersAsk (base collection asked t : List ℕ) (doc : ℕ) (found : Option Posting) (c : Cursoring) : Type 0
  where
    pub found_is : found ≡ head_of (from_doc doc (postings collection t))
    pub cursor : CursorFor base collection asked t doc c

-- a fact on a base, its collection, the documents that are asked, and a term over whose list a cursor is that may be asked for a document
abbrev pub ForTerm : ℕ → Option Files → Cursoring → (List ℕ → List ℕ → List ℕ → List ℕ → Type 0) → Type 0
ForTerm doc files c fact = (base collection asked t : List ℕ) → MayAsk base collection asked t doc files c →
    fact base collection asked t

-- the first posting from the document on is answered, or the device failed
abbrev pub AnswersForTerm : Result (Option Posting) PartErr → ℕ → Cursoring → List ℕ → List ℕ → List ℕ → List ℕ → Type 0
AnswersForTerm result doc c base collection asked t = AnswersList result
    (λ found. AnswersAsk base collection asked t doc found c)

-- ---- what a call reads

-- no count falls, and none rises but those of Post and Skip
pub record ReadsLists (before now : Reads) : Type 0 where
  pub later : (p : Part) → before p ≤ now p
  pub others : (p : Part) → p ≢ part.Post → p ≢ part.Skip → now p ≡ before p

-- so many pages of Post were read before and now: these are within a bound, and the store's count rose by no more
pub record PagesWithin (bound old new : ℕ) (before now : Reads) : Type 0 where
  pub within : new ≤ bound
  pub post : now part.Post + old ≤ before part.Post + new

-- the pages of Post that a cursor over the list of a term read before and now are within those that may be read
abbrev pub TermPages : Cursoring → Cursoring → Reads → Reads → List ℕ → List ℕ → List ℕ → List ℕ → Type 0
TermPages old new before now base collection asked t = PagesWithin (pages_for collection asked t) (post_pages old)
    (post_pages new) before now

-- and the cursor read no page of Post of the list twice
abbrev pub TermOnce : Result (Option Posting) PartErr → Cursoring → List ℕ → List ℕ → List ℕ → List ℕ → Type 0
TermOnce result v base collection asked t = ReadsOnce (postings collection t) v result

-- the store's count of Post rose by no more than the pages of it that the cursor read
abbrev pub PostRises : Cursoring → Cursoring → Reads → Reads → Type 0
PostRises old new before now = now part.Post + post_pages old ≤ before part.Post + post_pages new
