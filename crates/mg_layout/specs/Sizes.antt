-- What a comparison of a part's size with a wanted one answers.
use Rattle.std.specs.Prelude.{◌≡◌, ◌≢◌, ℕ, List, length, Ok, Err}
use Rattle.std.specs.declared.result.Result.{Result}
use Rattle.mg_dev.specs.declared.bad.Bad as dev
use Rattle.mg_dev.specs.declared.part.Part.{Part}
use Rattle.mg_dev.specs.declared.part_err.PartErr.{PartErr}
use Rattle.mg_dev.specs.declared.part_err.PartErr.TheVariants.{Device, Memory, Bad}

-- the part has another size than wanted
pub record TellsSize (bad : dev.Bad) (part : Part) (wanted found : ℕ) : Type 0 where
  pub part_is : bad.part ≡ part
  pub at_is : bad.at ≡ 0
  pub low_is : bad.low ≡ wanted
  pub high_is : bad.high ≡ wanted
  pub found_is : bad.found ≡ found

abbrev pub AnswersSize : Part → ℕ → List ℕ → Result (Unit {0}) PartErr → Type 0
AnswersSize part wanted bytes (Ok done) = length bytes ≡ wanted
AnswersSize part wanted bytes (Err Device) = Unit {0}
AnswersSize part wanted bytes (Err Memory) = ⊥
AnswersSize part wanted bytes (Err (Bad bad)) = (length bytes ≢ wanted) × TellsSize bad part wanted (length bytes)
