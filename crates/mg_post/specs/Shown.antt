-- What the two parts show of a list, whatever they have: the blocks to which its entries lead, where these stand.
use Rattle.std.specs.Prelude.{◌≡◌, ℕ, ◌+◌, ◌-◌, ◌*◌, ◌<◌, ◌≤◌, Bool, true, false, List, length, min, Option, Some, None}
use Rattle.mg_dev.specs.Files.{Files}
use Rattle.mg_bits.specs.Feed.{told_at}
use Rattle.mg_defs.specs.declared.Posting.{Posting}
use Rattle.mg_defs.specs.Lists.{block_count}
use Rattle.mg_post.specs.Cursor.{Cursoring, forward_to, head_of}
use Rattle.mg_post.specs.Finding.{TellsBefore, TellsBlock}
use Rattle.mg_post.specs.Stands.{IsBlockAt}

-- by the entries, this is the last document of the blocks before one; before the first block, 0
abbrev pub ShowsBefore : Cursoring → Option Files → ℕ → ℕ → Type 0
ShowsBefore c files block last = TellsBefore (told_at files c.skip.name) c.skip_at 0 0 block last

-- the entries lead to a block of the list, and it stands in Post with these postings
pub record ShowsBlock (c : Cursoring) (files : Option Files) (block before last : ℕ) (ps : List Posting) : Type 0 where
  pub there : block < block_count c.docs
  pub bits : ℕ
  pub told : TellsBlock (told_at files c.skip.name) c.skip_at 0 0 block before last bits
  pub stands : IsBlockAt c.all c.parameter (told_at files c.post.name) (8 * c.post_at + bits)
      (min (c.docs - 64 * block) 64) before last ps

-- in the block whose range holds the document, this is the first posting from the document on
pub record IsFirstInBlock (c : Cursoring) (files : Option Files) (doc : ℕ) (p : Posting) : Type 0 where
  pub block : ℕ
  pub before : ℕ
  pub last : ℕ
  pub ps : List Posting
  pub shown : ShowsBlock c files block before last ps
  pub after : before < doc
  pub within : doc ≤ last
  pub first : head_of (forward_to doc ps) ≡ Some p

-- the first posting of the list from a document on is shown; none, where the last block ends before the document
abbrev pub ShowsFirst : Cursoring → Option Files → ℕ → Option Posting → Type 0
ShowsFirst c files doc None = (last : ℕ) × ShowsBefore c files (block_count c.docs) last × (last < doc)
ShowsFirst c files doc (Some p) = IsFirstInBlock c files doc p

-- ---- where a cursor stands

-- the postings at hand are those of a block that is shown, from a document on that is at most n
pub record HoldsShown (c : Cursoring) (files : Option Files) (n : ℕ) : Type 0 where
  pub block : ℕ
  pub before : ℕ
  pub from : ℕ
  pub ps : List Posting
  pub shown : ShowsBlock c files block before c.last ps
  pub after : before < from
  pub early : from ≤ n
  pub held_is : c.held ≡ forward_to from ps

-- and the entries show the last document of the blocks that were passed or entered
pub record WalksShown (c : Cursoring) (files : Option Files) (n : ℕ) : Type 0 where
  pub before : ShowsBefore c files c.reached c.last
  pub held : 0 < length c.held → HoldsShown c files n

abbrev pub StandsOnShown : Bool → Cursoring → Option Files → ℕ → Type 0
StandsOnShown true c files n = ShowsFirst c files n None
StandsOnShown false c files n = WalksShown c files n

-- a cursor that was asked for no document past n stands at a posting that is shown, or before the first one, or past the last one
pub record StandsShown (c : Cursoring) (files : Option Files) (n : ℕ) : Type 0 where
  pub on : StandsOnShown c.ended c files n

-- a call for a document, of a cursor that stands so, answers what is shown, and the cursor stands so again
pub record AnswersShown (c v : Cursoring) (files_before files_now : Option Files) (doc : ℕ) (found : Option Posting) :
    Type 0 where
  pub first : ShowsFirst c files_before doc found
  pub stands : StandsShown v files_now doc
