-- Where a block of a list is entered that was found for a document, and what is read for it.
use Rattle.std.specs.Prelude.{◌≡◌, ℕ, ◌+◌, ◌-◌, ◌*◌, ◌^◌, ◌<◌, ◌≤◌, List, [], length, min, Option, Some, None, Result, Ok, Err, IfOk, OnOk}
use Rattle.mg_dev.specs.Files.{Files}
use Rattle.mg_dev.specs.Names.{full_name}
use Rattle.mg_dev.specs.declared.part.Part.{Part}
use Rattle.mg_dev.specs.declared.part.Part.TheVariants.{Post}
use Rattle.mg_layout.specs.declared.term_info.TermInfo.{TermInfo}
use Rattle.mg_bits.specs.Feed.{Feeding}
use Rattle.mg_bits.specs.Pages.{Fits, Paging}
use Rattle.mg_defs.specs.Codes.{golomb_parameter}
use Rattle.mg_defs.specs.Bits.{Shows}
use Rattle.mg_defs.specs.declared.Posting.{Posting}
use Rattle.mg_defs.specs.Lists.{bits_after, bits_before, Rises, block_pages}
use Rattle.mg_post.specs.Answers.{IfDamaged, OrDevice}
use Rattle.mg_post.specs.Cursor.{Entered, HeldRises, IsFrom, forward_to, head_of}
use Rattle.mg_post.specs.Finding.{IsFoundAt}
use Rattle.mg_post.specs.Missing.{LacksBlock}
use Rattle.mg_post.specs.PagesOnce.{ReadsOn}
use Rattle.mg_post.specs.Stands.{BlockStands, IsBlockAt}
use Rattle.mg_post.specs.declared.enter.Inside.{Inside}
use Rattle.mg_post.specs.declared.enter.ListPlace.{ListPlace}
use Rattle.mg_post.specs.declared.find.Found.{Found}
use Rattle.mg_post.specs.declared.refusal.Refusal.{Refusal}

-- a list that the lexicon tells of, in a set with so many documents
pub record IsListTold (info : TermInfo) (all : ℕ) (list : ListPlace) : Type 0 where
  pub post_at : list.post_at ≡ info.post_at
  pub skip_at : list.skip_at ≡ info.skip_at
  pub docs : list.docs ≡ info.docs
  pub all_is : list.all ≡ all
  pub parameter : 1 ≤ info.docs → list.parameter.value ≡ golomb_parameter all info.docs

-- a feed over a part of a base that has read nothing
pub record IsUnread (base : List ℕ) (own : Part) (feed : Paging) : Type 0 where
  pub name : feed.name ≡ full_name base own
  pub part : feed.part ≡ own
  pub held : feed.held ≡ None
  pub count : feed.count ≡ 0
  pub fits : (files : Option Files) → Fits feed files

-- a feed over Post of a base has read nothing, and no block was entered
pub record BeginsBlocks (base : List ℕ) (feed : Paging) (held : List Posting) (entered : ℕ) : Type 0 where
  pub unread : IsUnread base Post feed
  pub nothing : held ≡ []
  pub none : entered ≡ 0

-- the pages of a block that was entered were counted; of one whose reading was refused, those that were read
abbrev pub CountsPages : Result Inside Refusal → Paging → Paging → ℕ → ℕ → Type 0
CountsPages (Ok inside) old new before now = now ≡ min (before + inside.pages) (2 ^ 64 - 1)
CountsPages (Err refusal) old new before now = now ≡ min (before + (new.count - old.count)) (2 ^ 64 - 1)

-- a fact on a list that stands from a byte of Post on, and of which this block was found for a document
abbrev pub WhereFound : Option (List ℕ) → ListPlace → ℕ → Found → (List Posting → Type 0) → Type 0
WhereFound post list doc found fact = (ps : List Posting) (blocks : ℕ) → Rises list.all 0 ps → list.docs ≡ length ps →
    Shows post (8 * list.post_at) (bits_after list.parameter.value 0 ps) →
    8 * list.post_at + length (bits_after list.parameter.value 0 ps) ≤ 2 ^ 63 →
    IsFoundAt list.parameter.value ps blocks doc found.block found.before found.last found.at → fact ps

-- a fact where the block that was found for a document stands, whatever the rest of the list is
abbrev pub WhereBlockStands : Option (List ℕ) → ListPlace → ℕ → Found → Type 0 → Type 0
WhereBlockStands post list doc found fact = (ps : List Posting) → found.before < doc → doc ≤ found.last →
    BlockStands list.all list.parameter.value post (8 * list.post_at + found.at) (min (list.docs - 64 * found.block) 64)
    found.before found.last ps → fact

-- the block that was found stands, and these are its postings from a document on
pub record HoldsFound (post : Option (List ℕ)) (list : ListPlace) (doc : ℕ) (found : Found) (held : List Posting) :
    Type 0 where
  pub ps : List Posting
  pub stands : IsBlockAt list.all list.parameter.value post (8 * list.post_at + found.at) (min (list.docs - 64 * found.block) 64)
      found.before found.last ps
  pub held_is : held ≡ forward_to doc ps

-- the block that was found for a document in its range does not stand; this bit is the first of what is missing
abbrev pub LacksFound : Option (List ℕ) → ListPlace → ℕ → Found → ℕ → Type 0
LacksFound post list doc found at = found.before < doc → doc ≤ found.last →
    LacksBlock list.all list.parameter.value post (8 * list.post_at + found.at) (min (list.docs - 64 * found.block) 64)
    found.before found.last at

-- of a list that stands, the block that was found for a document is entered
pub record EntersListed (list : ListPlace) (found : Found) (doc : ℕ) (held : List Posting) (result : Result Inside Refusal)
    (old new : Feeding) (ps : List Posting) : Type 0 where
  -- it is entered at its first posting from the document on, or the device failed
  pub told : OrDevice result (λ i.
      Entered list.parameter.value ps (8 * list.post_at) found.block doc i.posting held i.pages)
  -- no more pages are read than the block has
  pub most : new.count ≤ old.count + block_pages list.parameter.value (8 * list.post_at) found.block ps
  -- and none of them again that is held
  pub once : ReadsOn (8 * list.post_at + bits_before list.parameter.value (64 * found.block) ps)
      (8 * list.post_at + bits_before list.parameter.value (64 * (found.block + 1)) ps) result old new

-- the block that was found for a document is entered, by the bytes of Post that are told and the feed before and after
pub record EntersFound (list : ListPlace) (found : Found) (doc : ℕ) (held : List Posting)
    (result : Result Inside Refusal) (post : Option (List ℕ)) (old new : Feeding) : Type 0 where
  -- whatever Post has, documents rise, and the posting is one from the document on
  pub sound : OnOk result (HeldRises list.all found.last held)
  pub from : IfOk result (λ i. IsFrom doc list.all i.posting)
  pub current : IfOk result (λ i. head_of held ≡ Some i.posting)
  -- and where the next document is asked for, all postings of the block are at hand
  pub whole : doc ≡ found.before + 1 → OnOk result (length held ≡ min (list.docs - 64 * found.block) 64)
  -- and what is at hand was read from the bit where the entries tell that the block begins
  pub shows : OnOk result (HoldsFound post list doc found held)
  -- no more pages are read than are answered
  pub count : IfOk result (λ i. new.count ≤ old.count + i.pages)
  -- where the list stands, the block is entered, or the device failed
  pub listed : WhereFound post list doc found (EntersListed list found doc held result old new)
  -- where the block alone stands, only the device may fail
  pub block : WhereBlockStands post list doc found (OrDevice result (λ _. Unit {0}))
  -- a damage is told at the first bit of what is missing
  pub lacks : IfDamaged result (LacksFound post list doc found)
