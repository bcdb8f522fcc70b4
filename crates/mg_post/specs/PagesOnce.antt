-- Each page of Post is read at most once over a cursor's life.
use Rattle.std.specs.Prelude.{◌≡◌, ℕ, ◌+◌, ◌-◌, ◌*◌, ◌≤◌, List, length, Option, Result, OnOk}
use Rattle.mg_bits.specs.Feed.{Feeding, held_after, to_read}
use Rattle.mg_defs.specs.declared.Posting.{Posting}
use Rattle.mg_defs.specs.Lists.{bits_before, block_count, postings}
use Rattle.mg_defs.specs.PageBounds.{list_bit, parameter_of}
use Rattle.mg_defs.specs.PagesOf.{page_at, pages}
use Rattle.mg_dev.specs.declared.part_err.PartErr.{PartErr}
use Rattle.mg_post.specs.Cursor.{Cursoring, post_pages}
use Rattle.mg_post.specs.Finding.{ReadTo}
use Rattle.mg_post.specs.declared.refusal.Refusal.{Refusal}

-- a range of bits was read on from the page that is held; where the call was not refused, the last page of the range is held
pub record ReadsOn {T : Type 0} (from to : ℕ) (result : Result T Refusal) (old new : Feeding) : Type 0 where
  pub count : new.count ≤ old.count + to_read 4096 old.held from to
  pub held : OnOk result (new.held ≡ held_after 4096 old.held from to)

-- pages were read in rising order, each once, for the first blocks of a list that begins at a bit of Post
pub record ReadsBlocks (at b blocks : ℕ) (ps : List Posting) (held : Option ℕ) (count : ℕ) : Type 0 where
  pub read : ReadTo (page_at at) (page_at (at + bits_before b (64 * blocks) ps - 1)) held count
  -- where these blocks have no bit, none was read
  pub none : bits_before b (64 * blocks) ps ≡ 0 → count ≡ 0

-- a cursor read pages of Post so, for the blocks that were passed or entered
abbrev pub PostReads : Cursoring → List Posting → Type 0
PostReads c ps = ReadsBlocks (8 * c.post_at) c.parameter c.reached ps c.post.held c.post.count

-- the pages of Post from the first bit of a cursor's list to the last bit of its first blocks
abbrev pub front_pages : Cursoring → ℕ → List Posting → ℕ
front_pages c blocks ps = pages (8 * c.post_at) (8 * c.post_at + bits_before c.parameter (64 * blocks) ps)

-- the pages of Post on which the list of a term lies
abbrev pub span_pages : List ℕ → List ℕ → ℕ
span_pages collection t = pages (list_bit collection t)
    (list_bit collection t + bits_before (parameter_of collection t) (64 * block_count (length (postings collection t)))
    (postings collection t))

-- after a call each page of Post was read at most once since the cursor began
pub record ReadsOnce (ps : List Posting) (v : Cursoring) (result : Result (Option Posting) PartErr) : Type 0 where
  -- so it is at the next call
  pub again : OnOk result (PostReads v ps)
  -- no more were read than lie from the list's first bit to the last bit of the block that was reached
  pub reached : OnOk result (post_pages v ≤ front_pages v v.reached ps)
  -- and where the call is refused, no more than to the list's last bit
  pub most : post_pages v ≤ front_pages v (block_count v.docs) ps
