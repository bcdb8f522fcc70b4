-- What a bit reader answers.
use Rattle.std.specs.Prelude.{◌≡◌, ◌<◌, ◌+◌, ◌-◌, ℕ, Some, Bool, [], ◌∷◌, length, Ok, Err}
use Rattle.std.specs.declared.option.Option.{Option}
use Rattle.std.specs.declared.result.Result.{Result}
use Rattle.mg_dev.specs.Causes.{Rose}
use Rattle.mg_defs.specs.Bits.{Bits, Begins, digits}
use Rattle.mg_bits.specs.Feed.{page_of}
use Rattle.mg_bits.specs.declared.bit_err.BitErr.{BitErr}
use Rattle.mg_bits.specs.declared.bit_err.BitErr.TheVariants.{Device, End}

-- the first bit, or that there is none
abbrev pub AnswersBit : Result Bool BitErr → ℕ → Bits → Type 0
AnswersBit (Ok bit) place bits = Begins (bit ∷ []) bits
AnswersBit (Err Device) place bits = Unit {0}
AnswersBit (Err (End at)) place bits = (bits ≡ []) × (at ≡ place)

-- the number that the first bits write, or that there are too few
abbrev pub AnswersBits : Result ℕ BitErr → ℕ → ℕ → Bits → Type 0
AnswersBits (Ok value) place count bits = Begins (digits count value) bits
AnswersBits (Err Device) place count bits = Unit {0}
AnswersBits (Err (End at)) place count bits = (length bits < count) × (at ≡ place)

-- the number that the first bits write, all of one byte, or that there are none
abbrev pub AnswersPiece : Result ℕ BitErr → ℕ → ℕ → Bits → Type 0
AnswersPiece (Ok value) place count bits = Begins (digits count value) bits
AnswersPiece (Err Device) place count bits = Unit {0}
AnswersPiece (Err (End at)) place count bits = (bits ≡ []) × (at ≡ place)

-- a device's failure has a cause
abbrev pub DeviceCause : {T : Type 0} → Result T BitErr → ℕ → ℕ → Type 0
DeviceCause (Ok value) before now = Unit {0}
DeviceCause (Err Device) before now = Rose before now
DeviceCause (Err (End at)) before now = Unit {0}

-- a refusal, told of another place
abbrev pub at_place : BitErr → ℕ → BitErr
at_place Device place = Device
at_place (End at) place = End place

-- where the bits end after the first of them, and all asked for lie on one page, that page is held
abbrev pub EndHolds : Result ℕ BitErr → ℕ → ℕ → ℕ → Option ℕ → Bits → Type 0
EndHolds (Ok value) page place count held bits = Unit {0}
EndHolds (Err Device) page place count held bits = Unit {0}
EndHolds (Err (End at)) page place count held bits =
    0 < length bits → page_of page place ≡ page_of page (place + count - 1) → held ≡ Some (page_of page place)
