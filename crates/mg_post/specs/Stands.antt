-- A list stands in Post and Skip.
use Rattle.std.specs.Prelude.{◌≡◌, ℕ, ◌+◌, ◌-◌, ◌*◌, ◌^◌, ◌<◌, ◌≤◌, List, length, Option}
use Rattle.mg_defs.specs.declared.Posting.{Posting}
use Rattle.mg_defs.specs.Bits.{Begins, FromPlace, Shows}
use Rattle.mg_defs.specs.Lists.{SkipEntry, bits_after, last_doc, Rises, entry_of, entry_bits}

-- this skip entry stands as that of a block, the first block's being the entry of a number
abbrev pub ShowsEntry : Option (List ℕ) → ℕ → ℕ → SkipEntry → Type 0
ShowsEntry skip skip_at block e = Shows skip (128 * (skip_at + block)) (entry_bits e)

-- the skip entries of so many blocks stand, from the entry of this number on
pub record SkipStands (all b : ℕ) (skip : Option (List ℕ)) (skip_at blocks : ℕ) (ps : List Posting) : Type 0 where
  pub rises : Rises all 0 ps
  pub small : length (bits_after b 0 ps) ≤ 2 ^ 63
  pub entries : (k : ℕ) → k < blocks → Shows skip (128 * (skip_at + k)) (entry_bits (entry_of b k ps))
  pub most : 64 * blocks < length ps + 64
  pub whole : length ps ≤ 64 * blocks

-- a list and its skip entries stand: the list from a bit place of Post on, its entries from the entry of a number on
pub record ListStands (all b : ℕ) (post skip : Option (List ℕ)) (post_at skip_at docs blocks : ℕ) (ps : List Posting) :
    Type 0 where
  pub entries : SkipStands all b skip skip_at blocks ps
  pub bits : Shows post post_at (bits_after b 0 ps)
  pub small : post_at + length (bits_after b 0 ps) ≤ 2 ^ 63
  pub whole : docs ≡ length ps
  pub few : all < 2 ^ 32 - 1

-- a block of so many postings stands from a bit of Post on: they follow a document, and end with a last one
pub record BlockStands (all b : ℕ) (post : Option (List ℕ)) (at count before last : ℕ) (ps : List Posting) : Type 0
  where
    pub count_is : length ps ≡ count
    pub rises : Rises all before ps
    pub last_is : last_doc before ps ≡ last
    pub small : at + length (bits_after b before ps) ≤ 2 ^ 63
    pub bits : Shows post at (bits_after b before ps)

-- from a bit of Post on, where its bytes are told, so many postings were read that follow a document and end with a last one
pub record IsBlockAt (all b : ℕ) (post : Option (List ℕ)) (at count before last : ℕ) (ps : List Posting) : Type 0 where
  pub count_is : length ps ≡ count
  pub rises : Rises all before ps
  pub last_is : last_doc before ps ≡ last
  pub bits : FromPlace post at (Begins (bits_after b before ps))
