-- What loading a reader promises, by the calls that it makes.
use Rattle.std.proofs.Common.{arith, ◌≡◌, ◌≤◌, inl, ℕ, List, Option, Err, sym, ◌∙◌, subst}
use Rattle.mg_dev.specs.Bads.{IsNotBad}
use Rattle.mg_dev.specs.Files.{Files, Reads, SameReads}
use Rattle.mg_dev.specs.PartCauses.{HasPartCause}
use Rattle.mg_dev.specs.declared.part.Part.{Part}
use Rattle.mg_dev.specs.declared.part_err.PartErr.{PartErr}
use Rattle.mg_dev.specs.declared.part_err.PartErr.TheVariants.{Device, Memory, Bad}
use Rattle.mg_bits.specs.Pages.{LookedAt}
use Rattle.mg_defs.specs.CodedText.{TextCode}
use Rattle.mg_layout.specs.declared.head.Head.{Head}
use Rattle.mg_model.specs.Damage.{AnswersStanding}
use Rattle.mg_model.specs.Models.{PartsStand}
use Rattle.mg_text.specs.Reading.{AnswersReader, AnswersTextSizes, IsText, Stored}

-- a size was refused
pub size_refused : (s : Stored) (refusal : PartErr) → AnswersTextSizes s (Err refusal) → AnswersReader s (Err refusal)
size_refused s Device answers = tt
size_refused s Memory answers = absurd answers
size_refused s (Bad bad) answers = inl answers

-- nothing was read
pub looked_nowhere : {one other : Part} {f g : Option Files} {r s : Reads} {k m : ℕ} → g ≡ f → SameReads r s → k ≤ m → LookedAt one other f g r s k m
looked_nowhere same reads later = record { files = same; faults = later; later = λ p. omega (arith, reads p); others = λ p a b. reads p }

-- nothing was read before
pub looked_then : {one other : Part} {f g h : Option Files} {r s t : Reads} {k m n : ℕ} → g ≡ f → SameReads r s → k ≤ m → LookedAt one other g h s t m n → LookedAt one other f h r t k n
looked_then same reads later looked = record {
  files = looked.files ∙ same;
  faults = omega (arith, later, looked.faults);
  later = λ p. omega (arith, reads p, looked.later p);
  others = λ p a b. looked.others p a b ∙ reads p;
}

-- the cause of a refusal stands whatever else would have been answered, and whatever was done before
pub cause_then : {T V : Type 0} (refusal : PartErr) {k m n : ℕ} → k ≤ m → HasPartCause {T = T} m n (Err refusal) → HasPartCause {T = V} k n (Err refusal)
cause_then Device le cause = record { later = omega (arith, le, cause.later); device = omega (arith, le, cause.device) }
cause_then Memory le cause = record { later = omega (arith, le, cause.later); device = tt }
cause_then (Bad bad) le cause = record { later = omega (arith, le, cause.later); device = tt }

-- the models are not bad where the text stands
pub models_stand : {base : List ℕ} {f g : Option Files} {head : Head} {code : TextCode} {collection : List ℕ} (refusal : PartErr) → IsText base f head code collection → g ≡ f →
    ((code : TextCode) → PartsStand g base code head.words head.others → AnswersStanding (Err refusal) code) → IsNotBad refusal
models_stand {base} {f} {g} {head} {code} refusal it same standing = not_bad refusal (standing code (subst (λ files. PartsStand files base code head.words head.others) (sym same) it.models))
  where
    not_bad : (refusal : PartErr) → AnswersStanding (Err refusal) code → IsNotBad refusal
    not_bad Device answers = tt
    not_bad Memory answers = tt
    not_bad (Bad bad) answers = answers
