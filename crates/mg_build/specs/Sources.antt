-- A collection's file: what contracts see of a reader of its bytes.
use Rattle.std.specs.Prelude.{◌≡◌, ◌≢◌, ◌<◌, ◌≤◌, ◌+◌, ◌-◌, ◌*◌, ◌^◌, ℕ, Bool, true, false, List, length, min, take, drop, None, Some}
use Rattle.std.specs.Option.{IsSome}
use Rattle.std.specs.declared.option.Option.{Option}
use Rattle.mg_bits.specs.Feed.{page_of}
use Rattle.mg_bits.specs.Pages.{Fits, Paging}
use Rattle.mg_defs.specs.PagesOf.{pages}
use Rattle.mg_dev.specs.Causes.{Rose}
use Rattle.mg_dev.specs.Files.{Files, Reads, bytes_at, file_at}
use Rattle.mg_dev.specs.declared.part.Part.TheVariants.{Plain}
use Rattle.mg_dev.specs.declared.fault.Fault.{Fault}
use Rattle.mg_dev.specs.declared.fault.Fault.TheVariants.{Changed, Memory, NoCollection, StoreFault, TooLarge}
use Rattle.mg_dev.specs.declared.what.What.TheVariants as what
use Rattle.mg_make.specs.Outcomes.{most_bytes}
use Rattle.mg_make.specs.Putting.{IsApart}

-- a reader of pages, the bytes that were read last, and how many the file had when it was opened
pub record Sourcing : Type 0 where
  pub feed : Paging
  pub block : List ℕ
  pub size : ℕ

-- a source that is read for a set of this base
pub record IsSourceApart (base : List ℕ) (source : Sourcing) (files : Option Files) : Type 0 where
  -- the page that is held is one of its file
  pub fits : Fits source.feed files
  -- and its file is no part of the set
  pub apart : IsApart base source.feed.name

-- why a collection is not opened
abbrev pub OpenStops : Type 0 → Option Files → List ℕ → Fault → Type 0
OpenStops store_rose files name NoCollection = IsSome files → file_at files name ≡ None
OpenStops store_rose files name (TooLarge size most) = (most ≡ most_bytes) × (most < size)
    × (IsSome files → length (bytes_at files name) ≡ size)
OpenStops store_rose files name StoreFault = store_rose
OpenStops store_rose files name Memory = Unit {0}
OpenStops store_rose files name _ = ⊥

-- why a byte is not read: the file is no longer what it was, unless it is told
abbrev pub ByteStops : Type 0 → Option Files → List ℕ → ℕ → Fault → Type 0
ByteStops store_rose files name size StoreFault = store_rose
ByteStops store_rose files name size (Changed what first second) = (first ≢ second)
    × (IsSome files → length (bytes_at files name) ≢ size)
ByteStops store_rose files name size _ = ⊥

-- what a change of a file tells that had so many bytes: at fewer it ended
abbrev pub TellsSize : ℕ → Fault → Type 0
TellsSize size (Changed what.Size first second) = (first ≡ size) × (second < size)
TellsSize size (Changed _ first second) = ⊥
TellsSize size _ = Unit {0}

-- ---- a block of bytes

-- some bytes from a place on, all of them on its page and below a size
pub record IsOfOnePage (at count size : ℕ) : Type 0 where
  pub some : 0 < count
  pub within : at + count ≤ size
  pub page : page_of 4096 (8 * (at + count - 1)) ≡ page_of 4096 (8 * at)

-- the block has the bytes of a file from a place on
abbrev pub IsFrom : ℕ → List ℕ → List ℕ → Type 0
IsFrom at bytes block = block ≡ take (length block) (drop at bytes)

-- the front of a block has so many bytes of a file from a place on, or they end before
abbrev pub FillsFront : Bool → ℕ → ℕ → List ℕ → List ℕ → Type 0
FillsFront true at count bytes block = take count block ≡ take count (drop at bytes)
FillsFront false at count bytes block = length bytes < at + count

-- ---- bytes that were read

-- so many bytes were read, where the file is told its first ones
pub record AreRead (files : Option Files) (name : List ℕ) (count : ℕ) (fed : List ℕ) : Type 0 where
  pub size : length fed ≡ count
  pub told : IsSome files → fed ≡ take count (bytes_at files name)

-- ---- how often the file is read

-- the byte at a place was read: its page is held, and where another one was held before, or none, the file was read once more
pub record TurnsTo (at : ℕ) (old new : Option ℕ) (before now : ℕ) : Type 0 where
  pub held : new ≡ Some (page_of 4096 (8 * at))
  pub turned : new ≢ old → Rose before now

-- the reads of a file rose by as many as so many bytes have pages, or stand at their end
abbrev pub ReadsPages : ℕ → ℕ → ℕ → Type 0
ReadsPages size before now = min (before + pages 0 (8 * size)) (2 ^ 64 - 1) ≤ now

-- so many bytes were read in order, from a feed on that held no page
pub record HasReadTo (at : ℕ) (held : Option ℕ) (before now : ℕ) : Type 0 where
  pub none : at ≡ 0 → held ≡ None
  pub last : 0 < at → held ≡ Some (page_of 4096 (8 * (at - 1)))
  pub reads : ReadsPages at before now

-- the collection of these bytes was read to its end, at least once: its part was read as often as it has pages, or its count stands at its end
abbrev pub IsReadWhole : List ℕ → Reads → Reads → Type 0
IsReadWhole collection before now = ReadsPages (length collection) (before Plain) (now Plain)
