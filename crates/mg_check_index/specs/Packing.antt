-- Postings of four bytes each: what such a number stands for.
use Rattle.std.specs.Prelude.{ℕ, ◌+◌, ◌/◌, ◌%◌, ◌<◌, ◌≤◌, ◌≡◌, ◌==◌, ◌&&◌, Bool, nat_le, nat_lt, if◌then◌else◌, List, get_or, set, sum_by}
use Rattle.mg_defs.specs.Limits.{version_2}
use Rattle.mg_defs.specs.declared.Posting.{Posting}

-- no posting
abbrev pub nothing : Posting
nothing = record { doc = 0; freq = 0 }

-- the posting that a number stands for: its low byte tells how often the document has the term, and the bits above tell the
-- document, from 0. Where the low byte is 0, they tell a place among the postings that are kept beside.
unfoldable pub unpacked : List Posting → ℕ → Posting
unpacked beside word = if word % 256 == 0 then get_or beside (word / 256) nothing
    else record { doc = word / 256 + 1; freq = word % 256 }

-- where so many postings are kept beside, it tells none behind them
abbrev pub IsKnown : ℕ → ℕ → Type 0
IsKnown count word = word % 256 ≡ 0 → word / 256 < count

-- postings, and how many more of them may be kept beside without memory
pub record Packed : Type 0 where
  pub all : List Posting
  pub left : ℕ

-- a posting is put in a place, and at most so much of the room beside is taken for it, told before and after
pub record Puts (place : ℕ) (posting : Posting) (beside : ℕ) (old new : Packed) : Type 0 where
  pub all : new.all ≡ set old.all place posting
  pub left : old.left ≤ new.left + beside

-- a posting has room in four bytes
abbrev pub is_small : Posting → Bool
is_small posting = nat_le 1 posting.doc && nat_le posting.doc version_2.documents
    && (nat_le 1 posting.freq && nat_lt posting.freq 256)

-- how many postings are kept beside for one: itself, where it has no room in four bytes
unfoldable pub beside_of : Posting → ℕ
beside_of posting = if is_small posting then 0 else 1

-- how many are kept beside of a document's, by how often it has each of its terms
abbrev pub beside_in : ℕ → List (ℕ × ℕ) → ℕ
beside_in doc counted = sum_by (λ (e : ℕ × ℕ). beside_of (record { doc = doc; freq = e.1 })) counted
