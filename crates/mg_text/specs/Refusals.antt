-- Refusals of readers of codes, told of the text.
use Rattle.std.specs.Prelude.{◌≡◌, ℕ}
use Rattle.mg_dev.specs.declared.bad.Bad as declared
use Rattle.mg_dev.specs.declared.part.Part.TheVariants.{Text}
use Rattle.mg_dev.specs.declared.part_err.PartErr.{PartErr}
use Rattle.mg_dev.specs.declared.part_err.PartErr.TheVariants as part
use Rattle.mg_bits.specs.declared.code_err.CodeErr.{CodeErr}
use Rattle.mg_bits.specs.declared.code_err.CodeErr.TheVariants.{Device, End, Over}

-- none of what may stand at the bit place was found there
pub record IsBadText (bad : declared.Bad) (at : ℕ) : Type 0 where
  pub part_is : bad.part ≡ Text
  pub at_is : bad.at ≡ at
  pub low_is : bad.low ≡ 1
  pub high_is : bad.high ≡ 1
  pub found_is : bad.found ≡ 0

abbrev pub IsDamaged : ℕ → PartErr → Type 0
IsDamaged at part.Device = ⊥
IsDamaged at part.Memory = ⊥
IsDamaged at (part.Bad bad) = IsBadText bad at

abbrev pub IsRefused : CodeErr → PartErr → Type 0
IsRefused Device e = e ≡ part.Device
IsRefused (End at) e = IsDamaged at e
IsRefused (Over at limit) e = IsDamaged at e
