-- A walk over front-coded entries: what contracts see of it, which entries it gave, and what its next call answers.
use Rattle.std.specs.Prelude.{◌≢◌, ◌≡◌, ◌<◌, ◌+◌, ◌==◌, ◌||◌, ◌++◌, ◌⊎◌, ℕ, Bool, true, false, List, [], ◌∷◌, length, drop, Some, Result, Ok, Err, IfOk, slice_get}
use Rattle.std.specs.Option.{IsSome}
use Rattle.std.specs.declared.option.Option.{Option}
use Rattle.mg_dev.specs.Files.{Files, Reads, bytes_at}
use Rattle.mg_dev.specs.PartCauses.{HasPartCause}
use Rattle.mg_bits.specs.Pages.{Paging, Fits, Looked}
use Rattle.mg_defs.specs.Front.{NoEntry, Entry, IsEntry, IsFront, AreEntries, entry_bytes, front, is_below, last_string}
use Rattle.mg_front.specs.Entries.{entry_of, string_of}
use Rattle.mg_front.specs.Looks.{ReadOn, ReadTo}
use Rattle.mg_front.specs.declared.entry.FrontEntry.{FrontEntry}
pub use Rattle.mg_dev.specs.Bads.{IsBad}
use Rattle.mg_dev.specs.declared.part_err.PartErr.{PartErr}
use Rattle.mg_dev.specs.declared.part_err.PartErr.TheVariants.{Device, Memory, Bad}

pub record Walking : Type 0 where
  pub feed : Paging
  pub width : ℕ
  pub count : ℕ
  pub done : ℕ
  pub place : ℕ
  pub last : List ℕ

-- these entries stand at the front of the bytes, and the walk is behind them
pub record Given (w : Walking) (bytes : List ℕ) (es : List Entry) : Type 0 where
  pub done : w.done ≡ length es
  pub last : w.last ≡ last_string [] es
  pub entries : AreEntries w.width 0 [] es
  pub place : w.place ≡ length (front es)
  pub rest : bytes ≡ front es ++ drop w.place bytes

-- the walk gave these entries, and what it keeps agrees with its part, where the files are told
pub record Gave (w : Walking) (files : Option Files) (es : List Entry) : Type 0 where
  pub fits : Fits w.feed files
  pub given : IsSome files → Given w (bytes_at files w.feed.name) es

-- the entries that were given, with the next one where there was one
abbrev pub with_next : List Entry → Bool → Entry → List Entry
with_next es true e = es ++ e ∷ []
with_next es false e = es

-- whatever entries the walk gave, it gave the next one too, where there was one
abbrev pub GaveNext : Walking → Walking → Option Files → Option Files → Result Bool PartErr → FrontEntry → Type 0
GaveNext old new before now result out = (es : List Entry) → Gave old before es →
    IfOk result (λ more. Gave new now (with_next es more (entry_of old.width out)))

-- a fact on entries, where the files are told: the walk's file is their front coding, and they are as many as the walk was told
abbrev pub WhereFront : Walking → Option Files → (List Entry → Type 0) → Type 0
WhereFront w files fact = (all : List Entry) → IsSome files → IsFront w.width (bytes_at files w.feed.name) all →
    length all ≡ w.count → fact all

pub record SameWalk (old new : Walking) : Type 0 where
  pub name : new.feed.name ≡ old.feed.name
  pub part : new.feed.part ≡ old.feed.part
  pub width : new.width ≡ old.width
  pub count : new.count ≡ old.count

-- the bytes begin with this entry
pub record BeginsWith (width i : ℕ) (before bytes : List ℕ) (e : Entry) : Type 0 where
  pub entry : IsEntry width i before e
  pub rest : bytes ≡ entry_bytes i before e ++ drop (length (entry_bytes i before e)) bytes

-- what the next call answers: an entry, the end, or where the part is no front coding
abbrev pub AnswersNext : Result Bool PartErr → Walking → FrontEntry → List ℕ → Type 0
AnswersNext (Ok true) w out bytes = (w.done < w.count) × BeginsWith w.width w.done w.last (drop w.place bytes)
    (entry_of w.width out)
AnswersNext (Ok false) w out bytes = (w.done ≡ w.count) × (drop w.place bytes ≡ [])
AnswersNext (Err Device) w out bytes = Unit {0}
AnswersNext (Err Memory) w out bytes = ⊥
AnswersNext (Err (Bad bad)) w out bytes =
    ((w.done < w.count) × IsBad bad w.feed.part w.place 1 1 0 × NoEntry w.width w.done w.last (drop w.place bytes))
    ⊎ ((w.done ≡ w.count) × IsBad bad w.feed.part w.place 0 0 (length (drop w.place bytes)))

-- how far a call went, over any store
abbrev pub AfterNext : Bool → Walking → Walking → Type 0
AfterNext true old new = (old.done < old.count) × (new.done ≡ old.done + 1)
AfterNext false old new = (old.done ≡ old.count) × (new ≡ old)

-- an entry is given only as the first of all or above the last string, which its own is then
pub record GaveAbove (old new : Walking) (out : FrontEntry) : Type 0 where
  pub above : (old.done == 0 || is_below old.last (string_of out)) ≡ true
  pub last : new.last ≡ string_of out

-- entries rise, over any store
abbrev pub RisesNext : Bool → Walking → Walking → FrontEntry → Type 0
RisesNext true old new out = GaveAbove old new out
RisesNext false old new out = Unit {0}

-- how far a call read: an entry is read on from the walk's place to the place behind it, so that the calls together read each page
-- once; the end takes no read; a refused call reads no byte behind the longest entry from its place on
abbrev pub ReadsNext : Result Bool PartErr → Walking → Walking → Reads → Reads → Type 0
ReadsNext (Ok more) old new before now = ReadOn old.feed new.feed before now old.place new.place
ReadsNext (Err refusal) old new before now = ReadTo old.feed before now old.place (old.place + 281)

-- what the next call answers where the part is the front coding of these entries, as many as were told
abbrev pub AnswersAmong : Result Bool PartErr → Walking → FrontEntry → List Entry → Type 0
AnswersAmong (Ok true) w out all = slice_get all w.done ≡ Some (entry_of w.width out)
AnswersAmong (Ok false) w out all = w.done ≡ length all
AnswersAmong (Err Device) w out all = Unit {0}
AnswersAmong (Err Memory) w out all = ⊥
AnswersAmong (Err (Bad bad)) w out all = ⊥

-- a step of a walk, over any bytes
pub record Stepped (old new : Walking) (out : FrontEntry) (result : Result Bool PartErr)
    (files_before files_now : Option Files) (reads_before reads_now : Reads) (faults_before faults_now : ℕ) : Type 0
  where
    -- it gave the next entry, where there was one
    pub gave : GaveNext old new files_before files_now result out
    -- an entry, the end, or where the part is no front coding
    pub answer : IsSome files_before → AnswersNext result old out (bytes_at files_before old.feed.name)
    -- it went on by one entry, or not at all
    pub step : IfOk result (λ more. AfterNext more old new)
    -- over any store, an entry that it gave is above the one before
    pub rises : IfOk result (λ more. RisesNext more old new out)
    -- it is a walk over the same part
    pub same : SameWalk old new
    -- no file changed, and no other part was read
    pub looked : Looked old.feed.part files_before files_now reads_before reads_now faults_before faults_now
    -- the calls together read each page once
    pub reads : ReadsNext result old new reads_before reads_now
    -- a refusal has its cause in the device
    pub cause : HasPartCause faults_before faults_now result
    -- it asks for no memory
    pub memory : result ≢ Err Memory
