-- What reading the pieces of a part and making their code answer.
use Rattle.std.specs.Prelude.{◌≡◌, ◌≤◌, ◌<◌, ◌+◌, ◌*◌, ◌⊎◌, ℕ, List, [], length, None, Result, Ok, Err, IfOk}
use Rattle.std.specs.Int.{div_ceil}
use Rattle.std.specs.Option.{IsSome}
use Rattle.std.specs.List.Sorted.{IsStrictlySortedBy}
use Rattle.std.specs.Ordering.{nat_cmp}
use Rattle.std.specs.Cmp.Lexicographic.{slice_cmp}
use Rattle.std.specs.declared.option.Option.{Option}
use Rattle.mg_dev.specs.Files.{Files, Reads, bytes_at}
use Rattle.mg_dev.specs.PartCauses.{HasPartCause}
use Rattle.mg_bits.specs.Pages.{Looked}
use Rattle.mg_front.specs.Walk.{Gave, Walking}
use Rattle.mg_dev.specs.declared.part.Part.{Part}
use Rattle.mg_dev.specs.declared.part.Part.TheVariants as part
use Rattle.mg_dev.specs.declared.part_err.PartErr.{PartErr}
use Rattle.mg_dev.specs.declared.part_err.PartErr.TheVariants.{Device, Memory, Bad}
use Rattle.mg_defs.specs.CodedText.{StreamCode}
use Rattle.mg_model.specs.declared.reading.ReadPieces.{ReadPieces}
use Rattle.mg_model.specs.Damage.{IsPart, IsWalkDamage, IsLengthDamage, IsWhole}

abbrev pub code_read : ReadPieces → StreamCode
code_read read = record { pieces = read.pieces; lengths = read.lengths.items }

-- what reading the entries answers
abbrev pub AnswersEntries : Part → ℕ → List ℕ → Result ReadPieces PartErr → Type 0
AnswersEntries part count bytes (Ok read) = IsPart count bytes (code_read read)
AnswersEntries part count bytes (Err Device) = Unit {0}
AnswersEntries part count bytes (Err Memory) = Unit {0}
AnswersEntries part count bytes (Err (Bad bad)) = IsWalkDamage part count bytes bad

-- what making the code of the lengths answers, where the bytes are those of the pieces and lengths
abbrev pub AnswersCode : {T : Type 0} → Part → ℕ → List ℕ → Result T PartErr → Type 0
AnswersCode part count bytes (Ok canon) = Unit {0}
AnswersCode part count bytes (Err Device) = Unit {0}
AnswersCode part count bytes (Err Memory) = Unit {0}
AnswersCode part count bytes (Err (Bad bad)) = IsLengthDamage part count bytes bad

-- no more pages of a part were read than so many bytes have, and so many behind them
abbrev pub ReadWithin : Part → List ℕ → ℕ → Reads → Reads → Type 0
ReadWithin part bytes behind before now = now part ≤ before part + div_ceil (length bytes) 4096 + behind

-- a part of these bytes was read once: no more pages of it than it has, but for one behind its end where the device failed or its entries are damaged, for an entry that breaks off is sought on there
abbrev pub ReadOnce : {T : Type 0} → Part → ℕ → List ℕ → Reads → Reads → Result T PartErr → Type 0
ReadOnce part count bytes before now (Ok value) = ReadWithin part bytes 0 before now
ReadOnce part count bytes before now (Err Device) = ReadWithin part bytes 1 before now
ReadOnce part count bytes before now (Err Memory) = ReadWithin part bytes 0 before now
ReadOnce part count bytes before now (Err (Bad bad)) = ReadWithin part bytes 0 before now
    ⊎ (IsWalkDamage part count bytes bad × ReadWithin part bytes 1 before now)

-- a part with fewer bytes than so many entries take was not read
abbrev pub UnreadIfShort : Part → ℕ → List ℕ → Reads → Reads → Type 0
UnreadIfShort part count bytes before now = length bytes < 2 * count → now part ≡ before part

-- Nonwords was not read, or Words has no damage
abbrev pub ReadBehindWhole : ℕ → List ℕ → Reads → Reads → Type 0
ReadBehindWhole words bytes before now = (now part.Nonwords ≡ before part.Nonwords) ⊎ IsWhole words bytes

-- where a damage of Words is told, Nonwords was not read
abbrev pub ToldUnread : {T : Type 0} → Reads → Reads → Result T PartErr → Type 0
ToldUnread before now (Ok value) = Unit {0}
ToldUnread before now (Err Device) = Unit {0}
ToldUnread before now (Err Memory) = Unit {0}
ToldUnread before now (Err (Bad bad)) = bad.part ≡ part.Words → now part.Nonwords ≡ before part.Nonwords

-- no piece was read
pub record HasNone (read : ReadPieces) : Type 0 where
  pub pieces : read.pieces ≡ []
  pub lengths : read.lengths.items ≡ []

-- what was read, where nothing was refused
abbrev pub read_if : Result (Unit {0}) PartErr → ReadPieces → Result ReadPieces PartErr
read_if (Ok all) read = Ok read
read_if (Err refusal) read = Err refusal

-- a walk that has given no entry, and holds no page
pub record IsAtFirst (walk : Walking) (files : Option Files) : Type 0 where
  pub gave : Gave walk files []
  pub held : walk.feed.held ≡ None
  pub place : walk.place ≡ 0
  pub width : walk.width ≡ 1

-- reading so many pieces of a part, by the full name of its file
pub record ReadsPieces (name : List ℕ) (part : Part) (count : ℕ) (result : Result ReadPieces PartErr)
    (files_before files_now : Option Files) (reads_before reads_now : Reads) (faults_before faults_now : ℕ) : Type 0
  where
    -- the pieces with their lengths, or the first damage of the entries
    pub answer : IsSome files_before → AnswersEntries part count (bytes_at files_before name) result
    -- each piece has a length
    pub each : IfOk result (λ read. length read.lengths.items ≡ length read.pieces)
    -- over any store, the pieces rise
    pub rises : IfOk result (λ read. IsStrictlySortedBy (slice_cmp nat_cmp) read.pieces)
    -- no file changed, and no other part was read
    pub looked : Looked part files_before files_now reads_before reads_now faults_before faults_now
    -- the part was read once
    pub once : IsSome files_before → ReadOnce part count (bytes_at files_before name) reads_before reads_now result
    -- a refusal for the device has its cause there
    pub cause : HasPartCause faults_before faults_now result
