-- Which part a damage names, and at which bit.
use Rattle.std.specs.Prelude.{ℕ, ◌≡◌, ◌+◌, ◌-◌, ◌*◌, ◌^◌, ◌<◌, ◌≤◌, List, Option, min}
use Rattle.mg_dev.specs.Bads.{IsBad}
use Rattle.mg_dev.specs.Files.{Files}
use Rattle.mg_dev.specs.declared.part.Part.{Part}
use Rattle.mg_dev.specs.declared.part.Part.TheVariants.{Post, Skip}
use Rattle.mg_dev.specs.declared.part_err.PartErr.{PartErr}
use Rattle.mg_dev.specs.declared.part_err.PartErr.TheVariants.{Device, Memory, Bad}
use Rattle.mg_bits.specs.Feed.{told_at}
use Rattle.mg_defs.specs.declared.Posting.{Posting}
use Rattle.mg_defs.specs.Lists.{block_count}
use Rattle.mg_post.specs.Cursor.{Cursoring}
use Rattle.mg_post.specs.Finding.{LacksAnEntry, TellsBlock}
use Rattle.mg_post.specs.Missing.{LacksBlock}
use Rattle.mg_post.specs.Stands.{BlockStands, SkipStands}

-- a damage is one of this part: nothing of what is to stand at a bit of it was found there
abbrev pub NamesPart : Part → PartErr → Type 0
NamesPart own Device = Unit {0}
NamesPart own Memory = Unit {0}
NamesPart own (Bad bad) = IsBad bad own bad.at 1 1 0

-- this fact on the bit where a damage is told, where it is one of this part
abbrev pub IfNames : Part → PartErr → (ℕ → Type 0) → Type 0
IfNames own Device fact = Unit {0}
IfNames own Memory fact = Unit {0}
IfNames own (Bad bad) fact = bad.part ≡ own → fact bad.at

-- the skip entries of this list stand where the cursor reads them, whatever Post has
pub record EntriesStand (c : Cursoring) (files : Option Files) (ps : List Posting) : Type 0 where
  pub entries : SkipStands c.all c.parameter (told_at files c.skip.name) c.skip_at (block_count c.docs) ps
  pub few : c.all < 2 ^ 32 - 1

-- the skip entries lead from where the cursor stands to a block whose range holds the document, and no such block
-- stands in Post; this bit is the first of what is missing
pub record BlockIsMissing (c : Cursoring) (files : Option Files) (doc at : ℕ) : Type 0 where
  pub block : ℕ
  pub before : ℕ
  pub last : ℕ
  pub bits : ℕ
  pub from : c.reached ≤ block
  pub there : block < block_count c.docs
  pub after : before < doc
  pub within : doc ≤ last
  pub most : last ≤ c.all
  pub told : TellsBlock (told_at files c.skip.name) c.skip_at c.reached c.last block before last bits
  pub missing : (ps : List Posting) → BlockStands c.all c.parameter (told_at files c.post.name) (8 * c.post_at + bits)
      (min (c.docs - 64 * block) 64) before last ps → ⊥
  pub at_is : LacksBlock c.all c.parameter (told_at files c.post.name) (8 * c.post_at + bits)
      (min (c.docs - 64 * block) 64) before last at

-- a damage of Post has a cause: the block is missing, from the bit on where it is told
abbrev pub HasPostCause : Cursoring → Option Files → ℕ → PartErr → Type 0
HasPostCause c files doc refusal = IfNames Post refusal (BlockIsMissing c files doc)

-- a damage of Skip has a cause: of a block from where the cursor stands on, no entry stands, and at the bit where it
-- is told a number of it is missing, or is a last document that does not rise
abbrev pub HasSkipCause : Cursoring → Option Files → PartErr → Type 0
HasSkipCause c files refusal = IfNames Skip refusal
    (LacksAnEntry (told_at files c.skip.name) c.skip_at c.all c.last c.reached (block_count c.docs))
