-- What loading a model answers: the pieces and their lengths, or the first damage of their part.
use Rattle.std.specs.Prelude.{◌≡◌, ℕ, ◌+◌, ◌-◌, ◌*◌, ◌^◌, ◌<◌, ◌≤◌, ◌⊎◌, ◌++◌, min, List, [], length, take, drop, Result, Ok, Err}
use Rattle.mg_dev.specs.declared.part.Part.{Part}
use Rattle.mg_dev.specs.declared.part.Part.TheVariants as part
use Rattle.mg_dev.specs.declared.bad.Bad as declared
use Rattle.mg_dev.specs.declared.part_err.PartErr.{PartErr}
use Rattle.mg_dev.specs.declared.part_err.PartErr.TheVariants.{Device, Memory, Bad}
use Rattle.mg_defs.specs.Canon.{AreGood}
use Rattle.mg_defs.specs.CodedText.{StreamCode, TextCode, piece_entries}
use Rattle.mg_defs.specs.Front.{Entry, AreEntries, IsFront, NoEntry, front, last_string}
use Rattle.mg_front.specs.Walk.{IsBad}
use Rattle.mg_canon.specs.Refusals.{IsFirstBad, IsUnfilled, most_bits}

-- the part has fewer bytes than so many entries take
pub record IsTooShort (part : Part) (count : ℕ) (bytes : List ℕ) (bad : declared.Bad) : Type 0 where
  pub short : length bytes < 2 * count
  pub told : IsBad bad part 0 (2 * count) (2 ^ 64 - 1) (length bytes)

-- these entries stand at the front of the bytes
pub record StandFirst (bytes : List ℕ) (es : List Entry) : Type 0 where
  pub entries : AreEntries 1 0 [] es
  pub rest : bytes ≡ front es ++ drop (length (front es)) bytes

-- behind some entries no entry stands, where one is to stand
pub record IsBroken (part : Part) (count : ℕ) (bytes : List ℕ) (bad : declared.Bad) : Type 0 where
  pub es : List Entry
  pub first : StandFirst bytes es
  pub fewer : length es < count
  pub none : NoEntry 1 (length es) (last_string [] es) (drop (length (front es)) bytes)
  pub told : IsBad bad part (length (front es)) 1 1 0

-- behind all entries there are more bytes
pub record HasMore (part : Part) (count : ℕ) (bytes : List ℕ) (bad : declared.Bad) : Type 0 where
  pub es : List Entry
  pub first : StandFirst bytes es
  pub all : length es ≡ count
  pub more : 0 < length (drop (length (front es)) bytes)
  pub told : IsBad bad part (length (front es)) 0 0 (length (drop (length (front es)) bytes))

-- the bytes are those of so many pieces with lengths
pub record IsPart (count : ℕ) (bytes : List ℕ) (code : StreamCode) : Type 0 where
  pub front : IsFront 1 bytes (piece_entries code)
  pub count_is : length code.pieces ≡ count
  pub each : length code.lengths ≡ length code.pieces

-- the part has no damage: it has room for so many entries, its bytes are those of the pieces and lengths, and the lengths are good
pub record IsWholePart (count : ℕ) (bytes : List ℕ) (code : StreamCode) : Type 0 where
  pub room : 2 * count ≤ length bytes
  pub part : IsPart count bytes code
  pub good : AreGood code.lengths

-- the place behind the field of a symbol
abbrev pub field_end : StreamCode → ℕ → ℕ
field_end code symbol = length (front (take (symbol + 1) (piece_entries code)))

-- the first length that is none is that of this symbol
pub record HasBadLength (part : Part) (count : ℕ) (bytes : List ℕ) (bad : declared.Bad) : Type 0 where
  pub code : StreamCode
  pub is : IsPart count bytes code
  pub symbol : ℕ
  pub bits : ℕ
  pub first : IsFirstBad code.lengths symbol bits
  pub told : IsBad bad part (field_end code symbol - 1) 1 (most_bits count) bits

-- the lengths leave strings of bits over, or take too many
pub record IsUnfilledPart (part : Part) (count : ℕ) (bytes : List ℕ) (bad : declared.Bad) : Type 0 where
  pub code : StreamCode
  pub is : IsPart count bytes code
  pub sum : ℕ
  pub unfilled : IsUnfilled code.lengths sum
  pub told : IsBad bad part 0 (2 ^ 48) (2 ^ 48) (min sum (2 ^ 64 - 1))

-- the walk over the entries meets the damage
abbrev pub IsWalkDamage : Part → ℕ → List ℕ → declared.Bad → Type 0
IsWalkDamage part count bytes bad = IsBroken part count bytes bad ⊎ HasMore part count bytes bad

-- the lengths have the damage
abbrev pub IsLengthDamage : Part → ℕ → List ℕ → declared.Bad → Type 0
IsLengthDamage part count bytes bad = HasBadLength part count bytes bad ⊎ IsUnfilledPart part count bytes bad

-- the first damage of a part, by three tests: its size, its entries, the lengths
abbrev pub IsDamage : Part → ℕ → List ℕ → declared.Bad → Type 0
IsDamage part count bytes bad = IsTooShort part count bytes bad
    ⊎ ((2 * count ≤ length bytes) × (IsWalkDamage part count bytes bad ⊎ IsLengthDamage part count bytes bad))

-- what comparing the size answers
abbrev pub AnswersRoom : {T : Type 0} → Part → ℕ → List ℕ → Result T PartErr → Type 0
AnswersRoom part count bytes (Ok value) = 2 * count ≤ length bytes
AnswersRoom part count bytes (Err Device) = Unit {0}
AnswersRoom part count bytes (Err Memory) = ⊥
AnswersRoom part count bytes (Err (Bad bad)) = IsTooShort part count bytes bad

-- what loading the code of one stream answers; memory is wanted only where the part has room for the entries
abbrev pub AnswersStream : Part → ℕ → List ℕ → Result StreamCode PartErr → Type 0
AnswersStream part count bytes (Ok code) = IsWholePart count bytes code
AnswersStream part count bytes (Err Device) = Unit {0}
AnswersStream part count bytes (Err Memory) = 2 * count ≤ length bytes
AnswersStream part count bytes (Err (Bad bad)) = IsDamage part count bytes bad

-- the part has no damage
abbrev pub IsWhole : ℕ → List ℕ → Type 0
IsWhole count bytes = (code : StreamCode) × IsWholePart count bytes code

-- what loading a model answers: each of the three tests of Words comes before any of Nonwords; memory is wanted only where Words has room for its entries
abbrev pub AnswersLoad : ℕ → ℕ → List ℕ → List ℕ → Result TextCode PartErr → Type 0
AnswersLoad words others word_bytes other_bytes (Ok code) = IsWholePart words word_bytes code.words
    × IsWholePart others other_bytes code.others
AnswersLoad words others word_bytes other_bytes (Err Device) = Unit {0}
AnswersLoad words others word_bytes other_bytes (Err Memory) = 2 * words ≤ length word_bytes
AnswersLoad words others word_bytes other_bytes (Err (Bad bad)) = IsDamage part.Words words word_bytes bad
    ⊎ (IsWhole words word_bytes × IsDamage part.Nonwords others other_bytes bad)

-- what loading a model answers where the parts stand: that model, and never that a part is bad
abbrev pub AnswersStanding : Result TextCode PartErr → TextCode → Type 0
AnswersStanding (Ok found) code = found ≡ code
AnswersStanding (Err Device) code = Unit {0}
AnswersStanding (Err Memory) code = Unit {0}
AnswersStanding (Err (Bad bad)) code = ⊥
