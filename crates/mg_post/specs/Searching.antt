-- What the calls promise that read skip entries: by the bytes of Skip that are told, and the feed before and after.
use Rattle.std.specs.Prelude.{◌≡◌, ℕ, ◌+◌, ◌/◌, ◌^◌, ◌<◌, ◌≤◌, List, Option, Some, Result, IfOk, IfSome, OnOk}
use Rattle.mg_bits.specs.Feed.{Feeding, lacks}
use Rattle.mg_defs.specs.Bits.{Begins, FromPlace, Shows, digits}
use Rattle.mg_defs.specs.Lists.{SkipEntry, block_count}
use Rattle.mg_post.specs.Answers.{AnswersThis, IfDamaged}
use Rattle.mg_post.specs.Finding.{EndsBefore, FindsBlock, FindsNext, FindsOnPage, IsSound, LacksAnEntry, LacksBits, LacksLast, LacksNumber, SkipReads, TellsBits, TellsFound, TellsLast, TellsOnPage, blocks_after, entries_pages, entry_page}
use Rattle.mg_post.specs.Stands.{ShowsEntry}
use Rattle.mg_post.specs.declared.enter.ListPlace.{ListPlace}
use Rattle.mg_post.specs.declared.find.Found.{Found}
use Rattle.mg_post.specs.declared.find.PageBlocks.{PageBlocks}
use Rattle.mg_post.specs.declared.find.SkipSearch.{SkipSearch}
use Rattle.mg_post.specs.declared.progress.Progress.{Progress}
use Rattle.mg_post.specs.declared.refusal.Refusal.{Refusal}

-- the search for the block of a document among those of a list that were not reached
abbrev pub search_in : ListPlace → Progress → ℕ → SkipSearch
search_in list progress doc = record {
  skip_at = list.skip_at;
  blocks = block_count list.docs;
  reached = progress.reached;
  last = progress.last;
  all = list.all;
  doc = doc;
}

-- no page but this one is read, and it only where it is not held; where it was not refused, it is held
pub record HoldsPage {T : Type 0} (page : ℕ) (result : Result T Refusal) (old new : Feeding) : Type 0 where
  pub count : new.count ≤ old.count + lacks old.held page
  pub held : OnOk result (new.held ≡ Some page)

-- the number of 8 bytes at a place of Skip is read
pub record ReadsNumber (place : ℕ) (result : Result ℕ Refusal) (skip : Option (List ℕ)) (old new : Feeding) : Type 0
  where
    pub page : HoldsPage (place / 32768) result old new
    pub shows : IfOk result (λ x. FromPlace skip place (Begins (digits 64 x)))
    pub ends : IfDamaged result (λ _. LacksNumber skip place)
    pub at : IfDamaged result (λ at. at ≡ place)
    pub told : (y : ℕ) → y < 2 ^ 64 → Shows skip place (digits 64 y) → AnswersThis result y

-- the last document of a block, which is to be behind one and at most another, is read from its entry
pub record ReadsLast (skip_at block after most : ℕ) (result : Result ℕ Refusal) (skip : Option (List ℕ))
    (old new : Feeding) : Type 0 where
  pub page : HoldsPage (entry_page (skip_at + block)) result old new
  pub behind : IfOk result (λ last. after < last)
  pub within : IfOk result (λ last. last ≤ most)
  pub tells : IfOk result (TellsLast skip skip_at block)
  pub lacks : IfDamaged result (LacksLast skip skip_at block after most)
  pub told : (e : SkipEntry) → after < e.last → e.last ≤ most → ShowsEntry skip skip_at block e →
      AnswersThis result e.last

-- the bits of a list before a block are read from its entry
pub record ReadsBits (skip_at block : ℕ) (result : Result ℕ Refusal) (skip : Option (List ℕ)) (old new : Feeding) : Type
    0 where
  pub page : HoldsPage (entry_page (skip_at + block)) result old new
  pub tells : IfOk result (TellsBits skip skip_at block)
  pub lacks : IfDamaged result (LacksBits skip skip_at block)
  pub told : (e : SkipEntry) → e.bits < 2 ^ 64 → ShowsEntry skip skip_at block e → AnswersThis result e.bits

-- the block of a document is searched among those whose entries lie on the page that is held: no page is read
pub record SearchesPage (s : SkipSearch) (p : PageBlocks) (result : Result Found Refusal) (skip : Option (List ℕ))
    (old new : Feeding) : Type 0 where
  pub count : new.count ≤ old.count
  pub held : OnOk result (new.held ≡ Some (entry_page (s.skip_at + p.high)))
  pub found : IfOk result (IsSound p.low (p.high + 1) s.all s.doc)
  pub tells : TellsOnPage skip s.skip_at p.low p.high p.before p.last result
  pub lacks : TellsLast skip s.skip_at p.high p.last →
      IfDamaged result (LacksAnEntry skip s.skip_at s.all p.before p.low (p.high + 1))
  -- whatever the entries are, a search for the next document finds the first of these blocks
  pub next : s.doc ≡ p.before + 1 → IfOk result (λ f. FindsNext p.low (p.high + 1) p.before (Some f))
  pub told : FindsOnPage skip s.skip_at s.all p.low p.high p.before p.last s.doc result

-- the block of a document is searched: the pages of the entries are read in rising order, each once
pub record SearchesBlock (s : SkipSearch) (result : Result (Option Found) Refusal) (skip : Option (List ℕ))
    (old new : Feeding) : Type 0 where
  pub reads : IfOk result (λ found. SkipReads s.skip_at (blocks_after s.blocks found) new.held new.count)
  pub most : new.count ≤ entries_pages s.skip_at s.blocks
  pub found : IfOk result (λ found. IfSome found (IsSound s.reached s.blocks s.all s.doc))
  pub tells : IfOk result (λ found. IfSome found (TellsFound skip s.skip_at s.reached s.last))
  -- where none is found, the entries tell that the last block ends before the document
  pub past : IfOk result (EndsBefore skip s.skip_at s.reached s.last s.blocks s.doc)
  pub lacks : IfDamaged result (LacksAnEntry skip s.skip_at s.all s.last s.reached s.blocks)
  -- whatever the entries are, a search for the next document finds the next block, or none where all were reached
  pub next : s.doc ≡ s.last + 1 → IfOk result (FindsNext s.reached s.blocks s.last)
  pub told : FindsBlock skip s.skip_at s.all s.blocks s.reached s.last s.doc result
