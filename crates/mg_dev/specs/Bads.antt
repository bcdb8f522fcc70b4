-- What a refusal says of a part: that it is bad, with the numbers that it tells, or not so.
use Rattle.std.specs.Prelude.{◌≡◌, ℕ}
use Rattle.mg_dev.specs.declared.part.Part.{Part}
use Rattle.mg_dev.specs.declared.bad as declared
use Rattle.mg_dev.specs.declared.part_err.PartErr.{PartErr}
use Rattle.mg_dev.specs.declared.part_err.PartErr.TheVariants.{Device, Memory, Bad}

-- the numbers that are told of a part
pub record IsBad (bad : declared.Bad.Bad) (part : Part) (at low high found : ℕ) : Type 0 where
  pub part_is : bad.part ≡ part
  pub at_is : bad.at ≡ at
  pub low_is : bad.low ≡ low
  pub high_is : bad.high ≡ high
  pub found_is : bad.found ≡ found

-- a refusal that does not say that a part is bad
abbrev pub IsNotBad : PartErr → Type 0
IsNotBad Device = Unit {0}
IsNotBad Memory = Unit {0}
IsNotBad (Bad bad) = ⊥
