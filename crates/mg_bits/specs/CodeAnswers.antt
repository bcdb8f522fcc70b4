-- The three answers of a reader of a code, and its refusals.
use Rattle.std.specs.Prelude.{◌≡◌, ◌+◌, ℕ, length, Ok, Err}
use Rattle.std.specs.declared.result.Result.{Result}
use Rattle.mg_dev.specs.Causes.{Rose}
use Rattle.mg_defs.specs.Bits.{Bits, Begins}
use Rattle.mg_defs.specs.Answers.{value, end, over, Answers}
use Rattle.mg_bits.specs.Feed.{Feeding, Device as Seen, ReadsWithin}
use Rattle.mg_bits.specs.Reading.{Reading}
use Rattle.mg_bits.specs.NextBits.{FromNext}
use Rattle.mg_bits.specs.declared.bit_err.BitErr.{BitErr}
use Rattle.mg_bits.specs.declared.bit_err.BitErr.TheVariants.{Device as BitDevice, End as BitEnd}
use Rattle.mg_bits.specs.declared.code_err.CodeErr.{CodeErr}
use Rattle.mg_bits.specs.declared.code_err.CodeErr.TheVariants.{Device, End, Over}

-- the value whose code stands first, or why there is none; a failing device leaves it open
abbrev pub AnswersCode : Result ℕ CodeErr → (ℕ → Type 0) → (ℕ → Bits) → ℕ → ℕ → Bits → Type 0
AnswersCode (Ok x) within code limit place bits = Answers within code bits (value x)
AnswersCode (Err Device) within code limit place bits = Unit {0}
AnswersCode (Err (End at)) within code limit place bits = (at ≡ place) × Answers within code bits end
AnswersCode (Err (Over at most)) within code limit place bits = (at ≡ place) × (most ≡ limit)
    × Answers within code bits over

-- the number that stands there, or a device's failure
abbrev pub IsGot : Result ℕ CodeErr → ℕ → Type 0
IsGot (Ok x) y = x ≡ y
IsGot (Err Device) y = Unit {0}
IsGot (Err (End at)) y = ⊥
IsGot (Err (Over at limit)) y = ⊥

-- where the code of a value stands first, only pages on which it lies are read
abbrev pub OnlyPagesOf : (ℕ → Type 0) → (ℕ → Bits) → Feeding → Feeding → Seen → Seen → ℕ → Bits → Type 0
OnlyPagesOf within code old new before now place bits =
    (x : ℕ) → within x → Begins (code x) bits → ReadsWithin old new before now place (place + length (code x))

-- where the code of a value stands at a reader's place, only pages on which it lies are read
abbrev pub OnlyCodePages : {Fed Dev : Type 0} → (Fed → Feeding) → (Dev → Seen) → Reading Fed → Reading Fed → Dev → Dev →
    (ℕ → Type 0) → (ℕ → Bits) → Type 0
OnlyCodePages feeding device old new before now within code = FromNext feeding device old before
    (OnlyPagesOf within code (feeding old.feed) (feeding new.feed) (device before) (device now) old.place)

-- a device's failure has a cause
abbrev pub CodeCause : {T : Type 0} → Result T CodeErr → ℕ → ℕ → Type 0
CodeCause (Ok x) before now = Unit {0}
CodeCause (Err Device) before now = Rose before now
CodeCause (Err (End at)) before now = Unit {0}
CodeCause (Err (Over at most)) before now = Unit {0}

-- a bit reader's refusal as that of a code
abbrev pub of_bit : BitErr → ℕ → CodeErr
of_bit BitDevice place = Device
of_bit (BitEnd at) place = End place
