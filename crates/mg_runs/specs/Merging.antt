-- Runs that are merged, by what is left of each.
use Rattle.std.specs.Prelude.{◌≡◌, ◌≤◌, ◌<◌, ◌+◌, ◌-◌, ◌*◌, ◌^◌, ◌==◌, ℕ, if◌then◌else◌, List, [], ◌∷◌, length, sum_by, slice_index, slice_index_or, Some, None}
use Rattle.std.specs.List.{AllByRecursion, All}
use Rattle.std.specs.declared.option.Option.{Option}
use Rattle.mg_defs.specs.declared.TermPosting.{TermPosting}
use Rattle.mg_defs.specs.Postings.{AllAfter, part_at, times, with_count, merged}
use Rattle.mg_runs.specs.PostingOrder.{NoLater}
use Rattle.mg_defs.specs.RunBits.{before_first}
use Rattle.mg_runs.specs.Cursors.{HasPosting, IsAt, IsRun, IsRunAt}
use Rattle.mg_runs.specs.declared.cursor.Cursor.{Cursor}

abbrev pub first : List TermPosting → Option TermPosting
first [] = None
first (x ∷ xs) = Some x

-- none of them comes before this one
abbrev pub AllFrom : TermPosting → List TermPosting → Type 0
AllFrom p left = AllByRecursion (λ x. NoLater p x) left

-- nothing that is left of any run comes before this one
abbrev pub NoneBefore : TermPosting → List (List TermPosting) → Type 0
NoneBefore p lefts = (k : ℕ) → AllFrom p (slice_index_or lefts k [])

-- how often a term stands in a document, by all that is left
abbrev pub times_all : ℕ → ℕ → List (List TermPosting) → ℕ
times_all term doc lefts = sum_by (λ left. times term doc left) lefts

-- every count fits in 32 bits
pub record AreRuns (lefts : List (List TermPosting)) : Type 0 where
  pub runs : All (λ left. IsRun left) lefts
  pub fits : (term doc : ℕ) → times_all term doc lefts < 2 ^ 32

abbrev pub no_cursor : Cursor
no_cursor = record { posting = before_first; left = 0; place = 0; start = 0; count = 0 }

-- a number that rises with term and document, and is the greatest at the end of a run
abbrev pub key_of : Cursor → ℕ
key_of cursor = if cursor.left == 0 then 2 ^ 64 - 1 else cursor.posting.term * 2 ^ 32 + (cursor.posting.doc - 1)

-- there is a slot and a key of each cursor, and each that has postings left is at one
pub record IsShaped (slots : List (List ℕ)) (cursors : List Cursor) (keys : List ℕ) : Type 0 where
  pub slot_count : length slots ≡ length cursors
  pub key_count : length keys ≡ length cursors
  pub by_key : (k : ℕ) → k < length cursors → slice_index keys k ≡ key_of (slice_index_or cursors k no_cursor)
  pub postings : All (λ c. HasPosting c) cursors

-- each cursor stands for what is left of its run
pub record StandFor (slots : List (List ℕ)) (cursors : List Cursor) (file : List ℕ) (lefts : List (List TermPosting)) :
    Type 0 where
  pub size : length lefts ≡ length cursors
  pub at : (k : ℕ) → k < length cursors → IsAt (slice_index_or cursors k no_cursor) (slice_index_or slots k []) file
      (slice_index_or lefts k [])
  pub runs : All (λ left. IsRun left) lefts

-- the least first posting of all, and whose it is; None where nothing is left
abbrev pub IsHead : Option (ℕ × TermPosting) → List (List TermPosting) → Type 0
IsHead None lefts = (k : ℕ) → slice_index_or lefts k [] ≡ []
IsHead (Some head) lefts = (first (slice_index_or lefts head.0 []) ≡ Some head.1)
    × ((k : ℕ) → AllFrom head.1 (slice_index_or lefts k []))

-- so many of the posting's term and document were taken, and nothing before it is left
pub record IsTaking (p : TermPosting) (old new : List (List TermPosting)) (count : ℕ) : Type 0 where
  pub runs : All (λ left. IsRun left) new
  pub from : (k : ℕ) → AllFrom p (slice_index_or new k [])
  pub counted : (term doc : ℕ) → times_all term doc new + part_at term doc (with_count p count) ≡ times_all term doc old

-- how many postings cursors have left together
abbrev pub left_together : List Cursor → ℕ
left_together cursors = sum_by (λ c. c.left) cursors

-- the postings that are left of all runs, merged
pub record AreLeft (slots : List (List ℕ)) (cursors : List Cursor) (file : List ℕ) (left : List TermPosting) : Type 0
  where
    pub lefts : List (List TermPosting)
    pub stand : StandFor slots cursors file lefts
    pub are : AreRuns lefts
    pub same : merged lefts ≡ left

-- the run whose first posting has the term and document of this one, with its count; None where no run has one
abbrev pub IsAlike : TermPosting → List (List TermPosting) → Option (ℕ × ℕ) → Type 0
IsAlike p lefts None = (k : ℕ) → AllAfter p (slice_index_or lefts k [])
IsAlike p lefts (Some found) = (y : TermPosting) × (first (slice_index_or lefts found.0 []) ≡ Some y)
    × (y.term ≡ p.term) × (y.doc ≡ p.doc) × (y.count ≡ found.1)

-- this posting comes first of all that was left, and what is left now follows it
pub record IsMerged (slots : List (List ℕ)) (cursors : List Cursor) (file : List ℕ) (base : List (List TermPosting))
    (p : TermPosting) : Type 0 where
  pub lefts : List (List TermPosting)
  pub stand : StandFor slots cursors file lefts
  pub are : AreRuns lefts
  pub same : merged base ≡ p ∷ merged lefts

-- the posting's count so far, and what is left
pub record IsGathering (slots : List (List ℕ)) (cursors : List Cursor) (file : List ℕ) (p : TermPosting)
    (base : List (List TermPosting)) (count : ℕ) : Type 0 where
  pub lefts : List (List TermPosting)
  pub stand : StandFor slots cursors file lefts
  pub taking : IsTaking p base lefts count
  pub more : p.count ≤ count

-- each of these runs begins at its place
pub record AreRunsAt (file places : List ℕ) (runs : List (List TermPosting)) : Type 0 where
  pub size : length runs ≡ length places
  pub at : (k : ℕ) → k < length places → IsRunAt file (slice_index places k) (slice_index_or runs k [])

-- the first so many cursors are at the first postings of their runs
pub record AreOpen (slots : List (List ℕ)) (cursors : List Cursor) (file : List ℕ) (runs : List (List TermPosting))
    (seen : ℕ) : Type 0 where
  pub at : (k : ℕ) → k < seen → IsAt (slice_index_or cursors k no_cursor) (slice_index_or slots k []) file
      (slice_index_or runs k [])

-- so many cursors are opened: each that has postings left is at one, and they have no more left than so many runs may have
pub record AreBegun (count : ℕ) (cursors : List Cursor) : Type 0 where
  pub len : length cursors ≡ count
  pub postings : All (λ c. HasPosting c) cursors
  pub total : left_together cursors ≤ 2 ^ 32 * count

-- the posting is one of the first one's document, and counts no less
pub record AddsTo (p sum : TermPosting) : Type 0 where
  pub doc : sum.doc ≡ p.doc
  pub count : p.count ≤ sum.count

-- those of all places are
abbrev pub AllOpen : List (List ℕ) → List Cursor → List ℕ → List (List TermPosting) → List ℕ → Type 0
AllOpen slots cursors file runs places = AreOpen slots cursors file runs (length places)
