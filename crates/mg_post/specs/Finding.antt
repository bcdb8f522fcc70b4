-- The block whose range holds a document, and the pages of the skip entries that were read for it.
use Rattle.std.specs.Prelude.{◌≡◌, ℕ, ◌+◌, ◌-◌, ◌*◌, ◌/◌, ◌<◌, ◌≤◌, ◌⊎◌, List, length, Option, Some, None, Result, IfOk}
use Rattle.mg_defs.specs.Bits.{Begins, FromPlace, digits}
use Rattle.mg_defs.specs.declared.Posting.{Posting}
use Rattle.mg_defs.specs.Lists.{InRange, doc_before, bits_before}
use Rattle.mg_defs.specs.PagesOf.{pages}
use Rattle.mg_post.specs.Answers.{OrDevice}
use Rattle.mg_post.specs.Stands.{SkipStands}
use Rattle.mg_post.specs.declared.find.Found.{Found}
use Rattle.mg_post.specs.declared.refusal.Refusal.{Refusal}

-- what was found of the block whose range holds a document
pub record IsFoundAt (b : ℕ) (ps : List Posting) (blocks doc block before last at : ℕ) : Type 0 where
  pub there : block < blocks
  pub range : InRange block ps doc
  pub from : before ≡ doc_before (64 * block) ps
  pub to : last ≡ doc_before (64 * (block + 1)) ps
  pub bits : at ≡ bits_before b (64 * block) ps

abbrev pub IsFound : ℕ → List Posting → ℕ → ℕ → Option Found → Type 0
IsFound b ps blocks doc None = doc_before (64 * blocks) ps < doc
IsFound b ps blocks doc (Some f) = IsFoundAt b ps blocks doc f.block f.before f.last f.at

-- what holds of a block that was found, whatever the entries are
pub record IsSound (low high all doc : ℕ) (f : Found) : Type 0 where
  pub from : low ≤ f.block
  pub there : f.block < high
  pub known : f.before ≤ all
  pub below : f.before < doc
  pub within : doc ≤ f.last
  pub most : f.last ≤ all

-- ---- what the entries tell, where the bytes of Skip are known

-- the last document of a block, by its entry
abbrev pub TellsLast : Option (List ℕ) → ℕ → ℕ → ℕ → Type 0
TellsLast skip skip_at block last = FromPlace skip (128 * (skip_at + block)) (Begins (digits 64 last))

-- the bits of a list before a block, by the block's entry
abbrev pub TellsBits : Option (List ℕ) → ℕ → ℕ → ℕ → Type 0
TellsBits skip skip_at block bits = FromPlace skip (128 * (skip_at + block) + 64) (Begins (digits 64 bits))

-- the last document before a block, by the entry before it; of the block where the search began it is known
pub record TellsBefore (skip : Option (List ℕ)) (skip_at reached known block before : ℕ) : Type 0 where
  pub first : block ≡ reached → before ≡ known
  pub later : reached < block → TellsLast skip skip_at (block - 1) before

-- what was found of a block
pub record TellsBlock (skip : Option (List ℕ)) (skip_at reached known block before last at : ℕ) : Type 0 where
  pub before_is : TellsBefore skip skip_at reached known block before
  pub last_is : TellsLast skip skip_at block last
  pub at_is : TellsBits skip skip_at block at

-- the same of a block that was found
abbrev pub TellsFound : Option (List ℕ) → ℕ → ℕ → ℕ → Found → Type 0
TellsFound skip skip_at reached known f = TellsBlock skip skip_at reached known f.block f.before f.last f.at

-- where no block was found for a document, the last document of the last block is before it; it is told by its entry,
-- or known where the search began behind all blocks
abbrev pub EndsBefore : Option (List ℕ) → ℕ → ℕ → ℕ → ℕ → ℕ → Option Found → Type 0
EndsBefore skip skip_at reached known blocks doc None = (last : ℕ)
    × TellsBefore skip skip_at reached known blocks last × (last < doc)
EndsBefore skip skip_at reached known blocks doc (Some f) = Unit {0}

-- a search for the next document finds the next block, or none where all were reached
abbrev pub FindsNext : ℕ → ℕ → ℕ → Option Found → Type 0
FindsNext reached blocks last None = reached ≡ blocks
FindsNext reached blocks last (Some f) = (f.block ≡ reached) × (f.before ≡ last)

-- where the last document of the last block is told by its entry, what was found is told by the entries
abbrev pub TellsOnPage : Option (List ℕ) → ℕ → ℕ → ℕ → ℕ → ℕ → Result Found Refusal → Type 0
TellsOnPage skip skip_at low high before last result = TellsLast skip skip_at high last →
    IfOk result (TellsFound skip skip_at low before)

-- Skip ends before the end of the number of 8 bytes that is to stand at this bit
abbrev pub LacksNumber : Option (List ℕ) → ℕ → Type 0
LacksNumber skip at = FromPlace skip at (λ bits. length bits < 64)

-- in the entry of a block no last document stands that is behind one and at most another: Skip ends before its end,
-- or it tells one beyond these; this bit is its first
pub record LacksLast (skip : Option (List ℕ)) (skip_at block after most at : ℕ) : Type 0 where
  pub at_is : at ≡ 128 * (skip_at + block)
  pub missing : LacksNumber skip at
      ⊎ ((last : ℕ) × ((last ≤ after) ⊎ (most < last)) × TellsLast skip skip_at block last)

-- a block's last document is behind this one: the last before the blocks that are searched, or that of an earlier one of them
abbrev pub IsFloor : Option (List ℕ) → ℕ → ℕ → ℕ → ℕ → ℕ → Type 0
IsFloor skip skip_at low known block after = (after ≡ known)
    ⊎ ((k : ℕ) × (low ≤ k) × (k < block) × TellsLast skip skip_at k after)

-- it is at most this one: the last of all documents, or the one before that of a later block
abbrev pub IsCeiling : Option (List ℕ) → ℕ → ℕ → ℕ → ℕ → ℕ → Type 0
IsCeiling skip skip_at all high block most = (most ≡ all)
    ⊎ ((k : ℕ) × (block < k) × (k < high) × TellsLast skip skip_at k (most + 1))

-- of the entries of some blocks, that of this one tells no last document that rises
pub record LacksRise (skip : Option (List ℕ)) (skip_at all known low high block at : ℕ) : Type 0 where
  pub after : ℕ
  pub floor : IsFloor skip skip_at low known block after
  pub most : ℕ
  pub ceiling : IsCeiling skip skip_at all high block most
  pub lacks : LacksLast skip skip_at block after most at

-- in the entry of a block the bits before it do not stand: Skip ends before the end of their number; this bit is its first
pub record LacksBits (skip : Option (List ℕ)) (skip_at block at : ℕ) : Type 0 where
  pub at_is : at ≡ 128 * (skip_at + block) + 64
  pub missing : LacksNumber skip at

-- an entry does not stand of one of the blocks from a first one to before a last one, where the last document before
-- them is known; this bit is the first of the number in it that does not
abbrev pub LacksAnEntry : Option (List ℕ) → ℕ → ℕ → ℕ → ℕ → ℕ → ℕ → Type 0
LacksAnEntry skip skip_at all known low high at = (block : ℕ) × (low ≤ block) × (block < high)
    × (LacksRise skip skip_at all known low high block at ⊎ LacksBits skip skip_at block at)

-- ---- the pages of the entries

-- the page of Skip on which the entry of a number lies
abbrev pub entry_page : ℕ → ℕ
entry_page number = number / 256

-- the pages of Skip on which so many entries lie, from that of a number on
abbrev pub entries_pages : ℕ → ℕ → ℕ
entries_pages skip_at blocks = pages (128 * skip_at) (128 * (skip_at + blocks))

-- no more pages were read than there are from the first one to the one that is held
abbrev pub ReadTo : ℕ → ℕ → Option ℕ → ℕ → Type 0
ReadTo first page None count = count ≡ 0
ReadTo first page (Some held) count = (count + first ≤ held + 1) × (held ≤ page)

-- pages were read in rising order, each once, for the entries below a block
pub record SkipReads (skip_at low : ℕ) (held : Option ℕ) (count : ℕ) : Type 0 where
  pub read : ReadTo (entry_page skip_at) (entry_page (skip_at + (low - 1))) held count
  pub none : low ≡ 0 → count ≡ 0

-- how many blocks were passed once the search ended
abbrev pub blocks_after : ℕ → Option Found → ℕ
blocks_after blocks None = blocks
blocks_after blocks (Some f) = f.block + 1

-- ---- what a search answers where the entries stand

-- among the blocks from one to another, whose entries lie on one page, the block whose range holds the document is
-- found; the last documents before and of these blocks are known
abbrev pub FindsOnPage : Option (List ℕ) → ℕ → ℕ → ℕ → ℕ → ℕ → ℕ → ℕ → Result Found Refusal → Type 0
FindsOnPage skip skip_at all low high before last doc result = (ps : List Posting) (b blocks : ℕ) →
    SkipStands all b skip skip_at blocks ps → high < blocks →
    before ≡ doc_before (64 * low) ps → last ≡ doc_before (64 * (high + 1)) ps →
    OrDevice result (λ f. IsFoundAt b ps blocks doc f.block f.before f.last f.at)

-- of so many blocks the one whose range holds the document is found, or none where all end before it; the last
-- document before the blocks that are left is known
abbrev pub FindsBlock : Option (List ℕ) → ℕ → ℕ → ℕ → ℕ → ℕ → ℕ → Result (Option Found) Refusal → Type 0
FindsBlock skip skip_at all blocks reached last doc result = (ps : List Posting) (b : ℕ) →
    SkipStands all b skip skip_at blocks ps →
    last ≡ doc_before (64 * reached) ps → OrDevice result (IsFound b ps blocks doc)
