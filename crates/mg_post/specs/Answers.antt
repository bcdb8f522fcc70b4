-- What the reading calls answer.
use Rattle.std.specs.Prelude.{◌≡◌, ℕ, Ok, Err}
use Rattle.std.specs.declared.result.Result.{Result}
use Rattle.mg_dev.specs.Bads.{IsBad}
use Rattle.mg_dev.specs.Causes.{Rose}
use Rattle.mg_dev.specs.declared.part.Part.{Part}
use Rattle.mg_dev.specs.declared.part_err.PartErr.{PartErr}
use Rattle.mg_dev.specs.declared.part_err.PartErr.TheVariants as part
use Rattle.mg_bits.specs.declared.bit_err.BitErr.{BitErr}
use Rattle.mg_bits.specs.declared.bit_err.BitErr.TheVariants as bits
use Rattle.mg_bits.specs.declared.code_err.CodeErr.{CodeErr}
use Rattle.mg_bits.specs.declared.code_err.CodeErr.TheVariants as code
use Rattle.mg_post.specs.declared.refusal.Refusal.{Refusal}
use Rattle.mg_post.specs.declared.refusal.Refusal.TheVariants.{Device, Damaged}

-- a refusal of a reader, told of a place
abbrev pub of_bits : BitErr → ℕ → Refusal
of_bits bits.Device place = Device
of_bits (bits.End at) place = Damaged place

abbrev pub of_code : CodeErr → ℕ → Refusal
of_code code.Device place = Device
of_code (code.End at) place = Damaged place
of_code (code.Over at limit) place = Damaged place

-- the number that stands there, or a device's failure
abbrev pub IsNumber : Result ℕ BitErr → ℕ → Type 0
IsNumber (Ok x) y = x ≡ y
IsNumber (Err bits.Device) y = Unit {0}
IsNumber (Err (bits.End at)) y = ⊥

-- this fact on the answer, or a device's failure
abbrev pub OrDevice : {T : Type 0} → Result T Refusal → (T → Type 0) → Type 0
OrDevice (Ok value) fact = fact value
OrDevice (Err Device) fact = Unit {0}
OrDevice (Err (Damaged at)) fact = ⊥

-- this is answered, or the device failed
abbrev pub AnswersThis : {T : Type 0} → Result T Refusal → T → Type 0
AnswersThis result value = OrDevice result (λ answer. answer ≡ value)

-- a device's failure has a cause
abbrev pub RefusalCause : {T : Type 0} → Result T Refusal → ℕ → ℕ → Type 0
RefusalCause (Ok value) before now = Unit {0}
RefusalCause (Err Device) before now = Rose before now
RefusalCause (Err (Damaged at)) before now = Unit {0}

-- this fact on the place where something is told to be damaged
abbrev pub OnDamage : Refusal → (ℕ → Type 0) → Type 0
OnDamage Device fact = Unit {0}
OnDamage (Damaged at) fact = fact at

abbrev pub IfDamaged : {T : Type 0} → Result T Refusal → (ℕ → Type 0) → Type 0
IfDamaged (Ok value) fact = Unit {0}
IfDamaged (Err refusal) fact = OnDamage refusal fact

-- a refusal, told of its part
abbrev pub IsRefused : Refusal → Part → PartErr → Type 0
IsRefused Device own e = e ≡ part.Device
IsRefused (Damaged at) own part.Device = ⊥
IsRefused (Damaged at) own part.Memory = ⊥
IsRefused (Damaged at) own (part.Bad bad) = IsBad bad own at 1 1 0

-- where the parts stand: this fact on the answer, or a device's failure, and never that a part is bad
abbrev pub AnswersList : {T : Type 0} → Result T PartErr → (T → Type 0) → Type 0
AnswersList (Ok value) fact = fact value
AnswersList (Err part.Device) fact = Unit {0}
AnswersList (Err part.Memory) fact = ⊥
AnswersList (Err (part.Bad bad)) fact = ⊥
