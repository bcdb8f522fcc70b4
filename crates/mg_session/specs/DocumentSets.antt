-- A set of documents: what contracts see of it, and its documents in order.
use Rattle.std.specs.Prelude.{◌≡◌, ℕ, zero, suc, ◌+◌, ◌-◌, ◌/◌, ◌%◌, ◌^◌, ◌<◌, ◌≤◌, ◌==◌, Bool, true, false, if◌then◌else◌, List, [], ◌∷◌, ◌++◌, length, slice_index, Some, None}
use Rattle.std.specs.declared.option.Option.{Option}
use Rattle.std.specs.Int.{bit_at}

-- how many documents there are, and a bit for each
pub record DocumentMarks : Type 0 where
  pub all : ℕ
  pub words : List ℕ

-- document d is bit (d - 1) % 64 of word (d - 1) / 64
unfoldable pub is_marked : List ℕ → ℕ → Bool
is_marked words doc = bit_at (slice_index words ((doc - 1) / 64)) ((doc - 1) % 64) == 1

abbrev pub has_doc : DocumentMarks → ℕ → Bool
has_doc marks doc = is_marked marks.words doc

-- the words have a bit for each of so many documents, and none is set behind the last
pub record AreMarksOf (all : ℕ) (words : List ℕ) : Type 0 where
  pub small : all < 2 ^ 32
  pub room : length words ≡ (all + 63) / 64
  pub beyond : (doc : ℕ) → all < doc → is_marked words doc ≡ false

-- a document of the set, and the first one behind a number
pub record IsNextBehind (last : ℕ) (marks : DocumentMarks) (doc : ℕ) : Type 0 where
  pub behind : last < doc
  pub within : doc ≤ marks.all
  pub there : has_doc marks doc ≡ true
  pub first : (other : ℕ) → last < other → other < doc → has_doc marks other ≡ false

-- the first document of the set behind a number, where there is one
abbrev pub AnswersNext : ℕ → DocumentMarks → Option ℕ → Type 0
AnswersNext last marks (Some doc) = IsNextBehind last marks doc
AnswersNext last marks None = (other : ℕ) → last < other → has_doc marks other ≡ false

-- the documents of the set up to a number, rising
unfoldable pub marked_to : DocumentMarks → ℕ → List ℕ
marked_to marks zero = []
marked_to marks (suc doc) = if has_doc marks (suc doc) then marked_to marks doc ++ suc doc ∷ [] else marked_to marks doc
