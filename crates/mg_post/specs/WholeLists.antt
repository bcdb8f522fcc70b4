-- A cursor over the whole list of a term, which is walked from posting to posting.
use Rattle.std.specs.Prelude.{◌≡◌, ◌≢◌, ℕ, ◌+◌, ◌≤◌, List, Option, Result, Err, IfErr, IfOk, IfSome, OnOk}
use Rattle.mg_dev.specs.Files.{Files, Reads}
use Rattle.mg_dev.specs.PartCauses.{HasPartCause}
use Rattle.mg_dev.specs.declared.part_err.PartErr.{PartErr}
use Rattle.mg_dev.specs.declared.part_err.PartErr.TheVariants as err
use Rattle.mg_defs.specs.declared.Posting.{Posting}
use Rattle.mg_defs.specs.Lists.{block_count, postings}
use Rattle.mg_defs.specs.PageBounds.{list_pages, numbers_in}
use Rattle.mg_post.specs.Answers.{AnswersList}
use Rattle.mg_post.specs.Cursor.{CursorFits, Cursoring, GoesToNext, IsFrom, NamesItsPart, SameList, SkipRises, next_doc, post_pages, skip_pages}
use Rattle.mg_post.specs.Finding.{entries_pages}
use Rattle.mg_post.specs.PagesOnce.{ReadsOnce, span_pages}
use Rattle.mg_post.specs.Shown.{AnswersShown, StandsShown}
use Rattle.mg_post.specs.TermLists.{AnswersAsk, CursorFor, ListsStand, PostRises, ReadsLists}

-- a cursor over the whole list of a term, which was asked for no document past this one
abbrev pub ListFor : List ℕ → List ℕ → List ℕ → ℕ → Cursoring → Type 0
ListFor base collection t last c = CursorFor base collection (numbers_in (postings collection t)) t last c

-- a fact on each whole list that a cursor may go over behind this document
abbrev pub ForList : Option Files → ℕ → Cursoring → (List ℕ → List ℕ → List ℕ → Type 0) → Type 0
ForList files last c claim = (base collection t : List ℕ) → ListsStand base files collection →
    ListFor base collection t last c → claim base collection t

-- the answer: the first posting of the list behind this document
abbrev pub AnswersBehind : List ℕ → List ℕ → List ℕ → ℕ → Cursoring → Option Posting → Type 0
AnswersBehind base collection t last c found = AnswersAsk base collection (numbers_in (postings collection t)) t
    (last + 1) found c

-- a cursor goes to the first posting behind a document
pub record WalkStep (c v : Cursoring) (last : ℕ) (result : Result (Option Posting) PartErr)
    (files_before files_now : Option Files) (reads_before reads_now : Reads) (faults_before faults_now : ℕ) : Type 0
  where
    pub fits : OnOk result (CursorFits v files_now)
    pub same : SameList c v
    -- where the lists stand, that posting is answered, or the device failed
    pub answer : ForList files_before last c (λ base collection t.
        AnswersList result (AnswersBehind base collection t last v))
    -- no more pages of Post were read than the list has, and the store's count rose by no more than the cursor's
    pub within : ForList files_before last c (λ _ collection t. post_pages v ≤ list_pages collection t)
    pub post : ForList files_before last c (λ _ _ _. PostRises c v reads_before reads_now)
    -- and each page of Post was read at most once since the cursor began
    pub once : ForList files_before last c (λ _ collection t. ReadsOnce (postings collection t) v result)
    -- so that no more of them were read than the list lies on
    pub span : ForList files_before last c (λ _ collection t. post_pages v ≤ span_pages collection t)
    -- whatever the parts have, no more pages of Skip were read than the list's entries lie on, and the store's count rose by no more than the cursor's
    pub third : skip_pages v ≤ entries_pages v.skip_at (block_count v.docs)
    pub skips : SkipRises c v reads_before reads_now
    -- whatever the parts have, what is answered is behind the document
    pub sound : IfOk result (λ found. IfSome found (IsFrom (last + 1) c.all))
    -- and behind the current posting none is passed over: a walk ends only behind the last posting of the list's last block
    pub next : last + 1 ≡ next_doc c.held → IfOk result (GoesToNext c v)
    -- whatever the parts have, what is answered is shown by blocks that stand and to which the entries lead
    pub shows : (n : ℕ) → n ≤ last + 1 → StandsShown c files_before n →
        IfOk result (AnswersShown c v files_before files_now (last + 1))
    -- a damage is one of Post or Skip
    pub part : IfErr result NamesItsPart
    pub reads : ReadsLists reads_before reads_now
    pub files : files_now ≡ files_before
    pub memory : result ≢ Err err.Memory
    pub cause : HasPartCause faults_before faults_now result
