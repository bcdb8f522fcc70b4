-- Which posting of a block does not stand, and at which bit that is told.
use Rattle.std.specs.Prelude.{◌≡◌, ◌≢◌, ℕ, ◌+◌, ◌-◌, ◌^◌, ◌<◌, ◌≤◌, ◌⊎◌, List, length, min, Option}
use Rattle.mg_defs.specs.Answers.{UpTo}
use Rattle.mg_defs.specs.Bits.{Begins, FromPlace, Shows}
use Rattle.mg_defs.specs.Codes.{golomb}
use Rattle.mg_defs.specs.declared.Posting.{Posting}
use Rattle.mg_defs.specs.Lists.{posting_bits, bits_after, last_doc, Rises, Follows}

-- no gap of a posting that may follow a document stands at a place up to 2^63; this bit is that place
pub record LacksGap (all b : ℕ) (post : Option (List ℕ)) (before place at : ℕ) : Type 0 where
  pub missing : (gap : ℕ) → UpTo (all - before) gap → place ≤ 2 ^ 63 → Shows post place (golomb b gap) → ⊥
  pub at_is : at ≡ place

-- a gap of a posting that may follow a document stands at a place; this bit is the first behind it
pub record IsBehindGap (all b : ℕ) (post : Option (List ℕ)) (before place at : ℕ) : Type 0 where
  pub gap : ℕ
  pub range : UpTo (all - before) gap
  pub bits : FromPlace post place (Begins (golomb b gap))
  pub at_is : at ≡ place + length (golomb b gap)

-- of a posting that is to stand at a place after a document, this bit is the first of the gap, where no gap stands, and else the first of the count
abbrev pub IsBitOfPosting : ℕ → ℕ → Option (List ℕ) → ℕ → ℕ → ℕ → Type 0
IsBitOfPosting all b post before place at = LacksGap all b post before place at ⊎ IsBehindGap all b post before place at

-- no posting that may follow a document stands at a place and ends by 2^63
abbrev pub HasNoPosting : ℕ → ℕ → Option (List ℕ) → ℕ → ℕ → Type 0
HasNoPosting all b post before place =
    (p : Posting) → Follows all before p → place + length (posting_bits b before p) ≤ 2 ^ 63 →
    Shows post place (posting_bits b before p) → ⊥

-- of so many postings after a document, from a place on, the first ones stand and the next one does not; this bit is
-- the first of the gap of the next one, or of its count where the gap stands
pub record LacksPosting (all b : ℕ) (post : Option (List ℕ)) (before place count at : ℕ) : Type 0 where
  pub first : List Posting
  pub few : length first < count
  pub rises : Rises all before first
  pub bits : FromPlace post place (Begins (bits_after b before first))
  pub last : ℕ
  pub last_is : last ≡ last_doc before first
  pub next : ℕ
  pub next_is : next ≡ place + length (bits_after b before first)
  pub missing : HasNoPosting all b post last next
  pub at_is : IsBitOfPosting all b post last next at

-- so many postings after a document stand from a place on, and end with another document than a last one; this bit is the first of them
pub record EndsOtherwise (all b : ℕ) (post : Option (List ℕ)) (before place count last at : ℕ) : Type 0 where
  pub block : List Posting
  pub count_is : length block ≡ count
  pub rises : Rises all before block
  pub bits : FromPlace post place (Begins (bits_after b before block))
  pub other : last_doc before block ≢ last
  pub at_is : at ≡ place

-- a place is behind 2^63; this bit is it, or 2^64 - 1 where it is more
pub record IsTooFar (place at : ℕ) : Type 0 where
  pub far : 2 ^ 63 < place
  pub at_is : at ≡ min place (2 ^ 64 - 1)

-- a block of so many postings does not stand from a place on, after a document and up to a last one; this bit is the
-- first of what is missing: of a gap or a count, or of the whole block where it ends otherwise or is too far
abbrev pub LacksBlock : ℕ → ℕ → Option (List ℕ) → ℕ → ℕ → ℕ → ℕ → ℕ → Type 0
LacksBlock all b post place count before last at =
    LacksPosting all b post before place count at
    ⊎ (EndsOtherwise all b post before place count last at ⊎ IsTooFar place at)
