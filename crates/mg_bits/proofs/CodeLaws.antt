-- The answer of a reader of a code where the code of a value stands.
use Rattle.std.proofs.Common.{ℕ, List, Option, Some, None, Result, Ok, Err}
use Rattle.mg_defs.specs.Bits.{Bits, Begins, FromPlace, Shows}
use Rattle.mg_defs.specs.Answers.{IsPrefixFree}
use Rattle.mg_defs.proofs.FrontLaws.{one_stands}
use Rattle.mg_bits.specs.CodeAnswers.{AnswersCode, IsGot}
use Rattle.mg_bits.specs.declared.code_err.CodeErr.{CodeErr}
use Rattle.mg_bits.specs.declared.code_err.CodeErr.TheVariants as code

code_got : (within : ℕ → Type 0) (words : ℕ → Bits) (free : IsPrefixFree within words) (result : Result ℕ CodeErr) (limit place y : ℕ) (s : Bits) → within y →
    Begins (words y) s → AnswersCode result within words limit place s → IsGot result y
code_got within words free (Ok x) limit place y s taken begins answers = one_stands within words s x y free answers.0 taken answers.1 begins
code_got within words free (Err code.Device) limit place y s taken begins answers = tt
code_got within words free (Err (code.End at)) limit place y s taken begins answers = answers.1.none y taken begins
code_got within words free (Err (code.Over at most)) limit place y s taken begins answers = answers.2.begins y taken begins

-- where the code of a value stands, that value is answered, or the device failed
pub told_got : (within : ℕ → Type 0) (words : ℕ → Bits) (free : IsPrefixFree within words) (told : Option (List ℕ)) (result : Result ℕ CodeErr)
    (limit place y : ℕ) → within y → Shows told place (words y) →
    FromPlace told place (AnswersCode result within words limit place) → IsGot result y
told_got within words free None result limit place y taken shows answers = absurd shows
told_got within words free (Some bytes) result limit place y taken shows answers = code_got within words free result limit place y _ taken shows answers
