-- Refusals of a part of a code as those of the whole.
use Rattle.std.specs.Prelude.{ℕ, ◌<◌, Ok, Err}
use Rattle.std.specs.declared.result.Result.{Result}
use Rattle.mg_bits.specs.declared.bit_err.BitErr.{BitErr}
use Rattle.mg_bits.specs.declared.bit_err.BitErr.TheVariants.{Device as BitDevice, End as BitEnd}
use Rattle.mg_bits.specs.declared.code_err.CodeErr.{CodeErr}
use Rattle.mg_bits.specs.declared.code_err.CodeErr.TheVariants.{Device, End, Over}

-- a refusal, told of the place where the whole code begins, and of its limit
abbrev pub of_whole : CodeErr → ℕ → ℕ → CodeErr
of_whole Device place limit = Device
of_whole (End at) place limit = End place
of_whole (Over at most) place limit = Over place limit

-- where every remainder is taken, no bits are those of none
abbrev pub OverBelow : Result ℕ CodeErr → ℕ → ℕ → Type 0
OverBelow (Ok x) bound b = Unit {0}
OverBelow (Err Device) bound b = Unit {0}
OverBelow (Err (End at)) bound b = Unit {0}
OverBelow (Err (Over at most)) bound b = bound < b

abbrev pub IsNotOver : CodeErr → Type 0
IsNotOver Device = Unit {0}
IsNotOver (End at) = Unit {0}
IsNotOver (Over at most) = ⊥

-- a refusal as that of a code without a limit
abbrev pub as_bits : CodeErr → BitErr
as_bits Device = BitDevice
as_bits (End at) = BitEnd at
as_bits (Over at most) = BitDevice

-- what a code without a limit answers, as that of a code with one
abbrev pub as_code : Result ℕ BitErr → Result ℕ CodeErr
as_code (Ok r) = Ok r
as_code (Err BitDevice) = Err Device
as_code (Err (BitEnd at)) = Err (End at)
