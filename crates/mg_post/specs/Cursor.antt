-- A cursor over a list: what contracts see of it, and where it stands in its list.
use Rattle.std.specs.Prelude.{◌≡◌, ◌≢◌, ℕ, ◌+◌, ◌-◌, ◌*◌, ◌^◌, ◌<◌, ◌≤◌, nat_lt, ◌⊎◌, Bool, true, false, List, [], ◌∷◌, ◌++◌, length, take, drop, min, Option, Some, None, Result, Ok, Err}
use Rattle.std.specs.List.{prefix_len}
use Rattle.mg_dev.specs.Bads.{IsBad}
use Rattle.mg_dev.specs.Files.{Files, Reads}
use Rattle.mg_dev.specs.declared.part.Part.{Part}
use Rattle.mg_dev.specs.declared.part.Part.TheVariants as part
use Rattle.mg_dev.specs.declared.part_err.PartErr.{PartErr}
use Rattle.mg_dev.specs.declared.part_err.PartErr.TheVariants as err
use Rattle.mg_bits.specs.Feed.{told_at, raised}
use Rattle.mg_bits.specs.Pages.{Paging, Fits}
use Rattle.mg_bits.specs.Alike.{WhereSame}
use Rattle.mg_defs.specs.declared.Posting.{Posting}
use Rattle.mg_defs.specs.Lists.{block_of, block_count, block_pages, InRange, Rises, doc_before, last_doc}
use Rattle.mg_post.specs.Stands.{ListStands}
use Rattle.mg_post.specs.Finding.{SkipReads}
use Rattle.mg_post.specs.Answers.{AnswersList}

abbrev pub head_of : List Posting → Option Posting
head_of [] = None
head_of (p ∷ ps) = Some p

-- what comes after the current posting; before the first one, all
abbrev pub after : List Posting → List Posting → List Posting
after [] left = left
after (p ∷ held) left = drop 1 left

-- the document that a call for the next posting asks for
abbrev pub next_doc : List Posting → ℕ
next_doc [] = 1
next_doc (p ∷ held) = p.doc + 1

-- the next posting of a block, where it has one; else nothing changes
abbrev pub GoesOn : Option Posting → List Posting → List Posting → Type 0
GoesOn (Some p) old new = (1 < length old) × (new ≡ drop 1 old) × (head_of new ≡ Some p)
GoesOn None old new = (length old ≤ 1) × (new ≡ old)

-- the place of so many bits behind a byte, where it is one of a file that is read
abbrev pub IsPlace : Option ℕ → ℕ → ℕ → Type 0
IsPlace (Some place) byte bits = place ≡ 8 * byte + bits
IsPlace None byte bits = 2 ^ 63 < 8 * byte + bits

-- the postings of a block from the first on whose document is at least this one
unfoldable pub forward_to : ℕ → List Posting → List Posting
forward_to doc ps = drop (prefix_len (λ (p : Posting). nat_lt p.doc doc) ps) ps

-- the block that was entered, from the document asked for on, and its pages
pub record Entered (b : ℕ) (ps : List Posting) (post_at block doc : ℕ) (p : Posting) (held : List Posting) (count : ℕ) :
    Type 0 where
  pub held_is : held ≡ forward_to doc (block_of block ps)
  pub current : head_of held ≡ Some p
  pub pages : count ≡ block_pages b post_at block ps

pub record Cursoring : Type 0 where
  -- the feeds of Post and of Skip
  pub post : Paging
  pub skip : Paging
  -- the byte of Post where the list begins, and the number of its first skip entry
  pub post_at : ℕ
  pub skip_at : ℕ
  -- how many postings it has, how many documents there are, and its parameter
  pub docs : ℕ
  pub all : ℕ
  pub parameter : ℕ
  -- how many blocks were passed or entered, and the last document of these
  pub reached : ℕ
  pub last : ℕ
  -- the postings of the block that was entered last, from the current one on
  pub held : List Posting
  -- whether it went past the last posting
  pub ended : Bool
  -- the pages of the blocks that were entered; of one whose reading was refused, those that were read
  pub entered : ℕ

-- ---- the three numbers: each stands still at 2^64 - 1

-- the pages of Post that were read
abbrev pub post_pages : Cursoring → ℕ
post_pages c = min c.post.count (2 ^ 64 - 1)

-- the pages of the blocks that were entered; of one whose reading was refused, those that were read
abbrev pub entered_pages : Cursoring → ℕ
entered_pages c = c.entered

-- the pages of Skip that were read
abbrev pub skip_pages : Cursoring → ℕ
skip_pages c = min c.skip.count (2 ^ 64 - 1)

-- ---- its parts

-- what it keeps agrees with its parts
pub record CursorFits (c : Cursoring) (files : Option Files) : Type 0 where
  pub post : Fits c.post files
  pub skip : Fits c.skip files
  pub entries : SkipReads c.skip_at c.reached c.skip.held c.skip.count

-- its parts hold this list and its skip entries
pub record CursorStands (c : Cursoring) (files : Option Files) (ps : List Posting) : Type 0 where
  pub list : ListStands c.all c.parameter (told_at files c.post.name) (told_at files c.skip.name) (8 * c.post_at)
      c.skip_at c.docs (block_count c.docs) ps

-- a fact where both stores tell alike and hold the same two parts of a cursor
abbrev pub WhereSameLists : Cursoring → Option Files → Option Files → Type 0 → Type 0
WhereSameLists c one other fact = WhereSame one other c.post.name c.skip.name fact

-- it is over the same list
pub record SameList (old new : Cursoring) : Type 0 where
  pub post : new.post.name ≡ old.post.name
  pub skip : new.skip.name ≡ old.skip.name
  pub post_at : new.post_at ≡ old.post_at
  pub skip_at : new.skip_at ≡ old.skip_at
  pub docs : new.docs ≡ old.docs
  pub all : new.all ≡ old.all
  pub parameter : new.parameter ≡ old.parameter

-- it stands where it stood
pub record SamePlace (old new : Cursoring) : Type 0 where
  pub reached : new.reached ≡ old.reached
  pub last : new.last ≡ old.last
  pub held : new.held ≡ old.held
  pub ended : new.ended ≡ old.ended

-- ---- where it stands

-- so many blocks were passed or entered; of the last of them the postings `held` are at hand; `left` are all from the current one on
pub record Walks (ps : List Posting) (reached last : ℕ) (held left : List Posting) : Type 0 where
  pub last_is : last ≡ doc_before (64 * reached) ps
  pub passed : List Posting
  pub front : passed ++ held ≡ take (64 * reached) ps
  pub left_is : held ++ drop (64 * reached) ps ≡ left
  pub some : length held ≡ 0 → reached ≡ 0

abbrev pub StandsOn : Bool → List Posting → ℕ → ℕ → List Posting → List Posting → Type 0
StandsOn true ps reached last held left = (held ≡ []) × (left ≡ [])
StandsOn false ps reached last held left = Walks ps reached last held left

-- of this list, these postings are left from the current one on; before the first one, all
pub record StandsAt (c : Cursoring) (ps left : List Posting) : Type 0 where
  pub on : StandsOn c.ended ps c.reached c.last c.held left

-- a fact on a list over which a cursor is, and on the postings of it that are left
abbrev pub ForList : Cursoring → Option Files → (List Posting → List Posting → Type 0) → Type 0
ForList c files fact = (ps left : List Posting) → CursorStands c files ps → StandsAt c ps left → fact ps left

-- the first of these postings of the list is answered, and the cursor stands before them
abbrev pub AnswersRest : Result (Option Posting) PartErr → Cursoring → List Posting → List Posting → Type 0
AnswersRest result c ps rest = AnswersList result (λ found. (found ≡ head_of rest) × StandsAt c ps rest)

-- a cursor over the list that the lexicon tells of
pub record IsOver (c : Cursoring) (post skip : List ℕ) (post_byte first_entry count documents : ℕ) : Type 0 where
  pub post_is : c.post.name ≡ post
  pub skip_is : c.skip.name ≡ skip
  pub post_at_is : c.post_at ≡ post_byte
  pub skip_at_is : c.skip_at ≡ first_entry
  pub docs_is : c.docs ≡ count
  pub all_is : c.all ≡ documents

-- ---- what holds whatever the parts have

-- a posting from the document asked for on, of one of so many documents
pub record IsFrom (doc all : ℕ) (p : Posting) : Type 0 where
  pub from : doc ≤ p.doc
  pub within : p.doc ≤ all
  pub some : 1 ≤ p.freq

-- postings of rising documents, up to the last one
pub record HeldRises (all last : ℕ) (held : List Posting) : Type 0 where
  pub rises : Rises all 0 held
  pub within : last_doc 0 held ≤ last
  pub ends : 0 < length held → last_doc 0 held ≡ last

-- where no posting is at hand, the first one was not asked for, or all blocks were reached
pub record HeldNone (docs reached last : ℕ) (held : List Posting) (ended : Bool) : Type 0 where
  pub first : ended ≡ false → length held ≡ 0 → (reached ≡ 0) × (last ≡ 0)
  pub all : ended ≡ true → reached ≡ block_count docs

-- how many postings of its list are left behind the current one; before the first one, all
abbrev pub count_behind : Cursoring → ℕ
count_behind c = (length c.held - 1) + (c.docs - 64 * c.reached)

-- the posting behind the current one was asked for: it is one of those that were left, and none is answered only
-- where none was left and all blocks were reached
abbrev pub GoesToNext : Cursoring → Cursoring → Option Posting → Type 0
GoesToNext c v None = (count_behind c ≡ 0) × (v.reached ≡ block_count v.docs)
GoesToNext c v (Some p) = (count_behind c ≡ count_behind v + 1) × (next_doc v.held ≡ p.doc + 1)

-- a damage is one of Post or Skip: nothing of what is to stand at a bit of it was found there
abbrev pub NamesItsPart : PartErr → Type 0
NamesItsPart err.Device = Unit {0}
NamesItsPart err.Memory = Unit {0}
NamesItsPart (err.Bad bad) = ((bad.part ≡ part.Post) ⊎ (bad.part ≡ part.Skip)) × IsBad bad bad.part bad.at 1 1 0

-- ---- what a call reads

-- the counts of Post and Skip rise by as much as the first and the third number, unless these stand at their end; no
-- other count rises, and the first number does not pass the second
pub record ReadsTwo (old new : Cursoring) (before now : Reads) : Type 0 where
  pub later : (p : Part) → before p ≤ now p
  pub others : (p : Part) → p ≢ part.Post → p ≢ part.Skip → now p ≡ before p
  pub first : post_pages new ≤ entered_pages new
  pub post_later : post_pages old ≤ post_pages new
  pub skip_later : skip_pages old ≤ skip_pages new
  pub post : post_pages new < 2 ^ 64 - 1 → now part.Post ≡ raised (before part.Post) (post_pages new - post_pages old)
  pub skip : skip_pages new < 2 ^ 64 - 1 → now part.Skip ≡ raised (before part.Skip) (skip_pages new - skip_pages old)

-- the store's count of Skip rose by no more than the pages of it that the cursor read
abbrev pub SkipRises : Cursoring → Cursoring → Reads → Reads → Type 0
SkipRises old new before now = now part.Skip + skip_pages old ≤ before part.Skip + skip_pages new

-- the block whose range holds the document was entered, and is the last that was reached; the cursor stood before it
pub record EntersBlock (ps : List Posting) (c : Cursoring) (doc : ℕ) (v : Cursoring) : Type 0 where
  pub block : ℕ
  pub range : InRange block ps doc
  pub before : c.reached ≤ block
  pub reached : v.reached ≡ block + 1
  pub pages : entered_pages v ≡ min (entered_pages c + block_pages c.parameter (8 * c.post_at) block ps) (2 ^ 64 - 1)

-- reading that block was refused
pub record ReadsBlock (ps : List Posting) (c : Cursoring) (doc : ℕ) (v : Cursoring) : Type 0 where
  pub block : ℕ
  pub range : InRange block ps doc
  pub before : c.reached ≤ block
  pub least : entered_pages c ≤ entered_pages v
  pub most : entered_pages v ≤ min (entered_pages c + block_pages c.parameter (8 * c.post_at) block ps) (2 ^ 64 - 1)

abbrev pub EntersFor : Option Posting → List Posting → Cursoring → ℕ → Cursoring → Type 0
EntersFor None ps c doc v = entered_pages v ≡ entered_pages c
EntersFor (Some p) ps c doc v = EntersBlock ps c doc v

abbrev pub MayRead : List Posting → Cursoring → ℕ → Cursoring → Type 0
MayRead ps c doc v = entered_pages c < entered_pages v → ReadsBlock ps c doc v

-- how the second number rises in a call that asks for a document: not within the block at hand; else by the pages of
-- the block whose range holds the document, or not at all where no block's does
abbrev pub Enters : Result (Option Posting) PartErr → List Posting → Cursoring → ℕ → Cursoring → Type 0
Enters (Ok found) ps c doc v = (doc ≤ c.last → entered_pages v ≡ entered_pages c)
    × (c.last < doc → EntersFor found ps c doc v)
Enters (Err refusal) ps c doc v = (entered_pages c ≤ entered_pages v) × MayRead ps c doc v
