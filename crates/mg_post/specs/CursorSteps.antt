-- What a call of a cursor does, told of the two moments before and after it.
use Rattle.std.specs.Prelude.{◌≡◌, ◌≢◌, ℕ, ◌≤◌, List, Option, Result, Err, IfErr, IfOk, IfSome, OnErr, OnOk}
use Rattle.mg_dev.specs.Files.{Files, Reads}
use Rattle.mg_dev.specs.PartCauses.{HasPartCause}
use Rattle.mg_dev.specs.declared.part.Part.TheVariants.{Post}
use Rattle.mg_dev.specs.declared.part_err.PartErr.{PartErr}
use Rattle.mg_dev.specs.declared.part_err.PartErr.TheVariants as err
use Rattle.mg_defs.specs.declared.Posting.{Posting}
use Rattle.mg_defs.specs.Lists.{block_count}
use Rattle.mg_post.specs.Finding.{entries_pages}
use Rattle.mg_post.specs.Cursor.{AnswersRest, CursorFits, Cursoring, Enters, ForList, GoesToNext, IsFrom, NamesItsPart, ReadsTwo, SameList, SamePlace, SkipRises, StandsAt, entered_pages, head_of, next_doc, post_pages, skip_pages}
use Rattle.mg_post.specs.PagesOnce.{PostReads, ReadsOnce}
use Rattle.mg_post.specs.Shown.{AnswersShown, StandsShown}
use Rattle.mg_post.specs.Damages.{EntriesStand, HasPostCause, HasSkipCause, NamesPart}

-- a cursor goes to the first posting of the rest of its list from a document on; where it looks for another block, it looks for that of the document `wanted`
pub record CursorStep (c v : Cursoring) (doc wanted : ℕ) (rest : List Posting → List Posting)
    (result : Result (Option Posting) PartErr) (files_before files_now : Option Files) (reads_before reads_now : Reads)
    (faults_before faults_now : ℕ) : Type 0 where
  -- what the cursor keeps agrees with its parts
  pub fits : OnOk result (CursorFits v files_now)
  -- it is over the same list
  pub same : SameList c v
  -- where the list stands, the first posting of the rest is answered, or the device failed
  pub answer : ForList c files_before (λ ps left. AnswersRest result v ps (rest left))
  -- where the list stands, no block is entered but that whose range holds the document
  pub entered : ForList c files_before (λ ps left. Enters result ps c doc v)
  -- the pages of Post that were read are within those of the blocks that were entered
  pub first : post_pages v ≤ entered_pages v
  -- where the list stands, and each page of Post was read at most once since the cursor began, it is so again
  pub once : ForList c files_before (λ ps left. PostReads c ps → ReadsOnce ps v result)
  -- the pages of Skip that were read are within those of the list's entries
  pub third : skip_pages v ≤ entries_pages v.skip_at (block_count v.docs)
  -- no other part is read, and each number rises with its count
  pub reads : ReadsTwo c v reads_before reads_now
  -- whatever the parts have, the count of Skip rises by no more than the third number
  pub skips : SkipRises c v reads_before reads_now
  -- the posting that is answered is the current one
  pub current : IfOk result (λ found. found ≡ head_of v.held)
  -- whatever the parts have, it is one from the document on
  pub sound : IfOk result (λ found. IfSome found (IsFrom doc c.all))
  -- whatever the parts have, where the posting behind the current one is asked for, none is passed over: a walk ends
  -- only behind the last posting of the list's last block
  pub next : doc ≡ next_doc c.held → IfOk result (GoesToNext c v)
  -- whatever the parts have, a posting is answered only from a block that stands and to which the entries lead, and
  -- none only where these tell that the list ends before the document
  pub shows : (n : ℕ) → n ≤ doc → StandsShown c files_before n → IfOk result (AnswersShown c v files_before files_now doc)
  -- no block is gone back
  pub forward : c.reached ≤ v.reached
  -- a damage is one of Post or Skip
  pub part : IfErr result NamesItsPart
  -- where the list's entries stand, it is one of Post
  pub post : (ps left : List Posting) → EntriesStand c files_before ps → StandsAt c ps left →
      IfErr result (NamesPart Post)
  -- a damage of Post is told where a block is missing
  pub block : IfErr result (HasPostCause c files_before wanted)
  -- a damage of Skip is told where an entry is missing or does not rise
  pub entry : IfErr result (HasSkipCause c files_before)
  -- after a refusal the cursor stands where it stood
  pub kept : OnErr result (SamePlace c v)
  -- nothing is written
  pub files : files_now ≡ files_before
  -- no memory is taken
  pub memory : result ≢ Err err.Memory
  -- a device's failure has a cause
  pub cause : HasPartCause faults_before faults_now result
