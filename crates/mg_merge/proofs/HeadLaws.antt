-- Heads that are loaded, and what is missing.
use Rattle.std.proofs.Common.{◌≡◌, ◌≢◌, ◌∙◌, ℕ, List, [], Option, Some, Ok, Err, ap, subst, inl, inr}
use Rattle.mg_dev.specs.Faults.{fault_of_part}
use Rattle.mg_dev.specs.Files.{Files, bytes_at}
use Rattle.mg_dev.specs.Names.{full_name}
use Rattle.mg_dev.specs.declared.fault.Fault.{Fault}
use Rattle.mg_dev.specs.declared.fault.Fault.TheVariants as fault
use Rattle.mg_dev.specs.declared.part.Part.TheVariants.{Head}
use Rattle.mg_dev.specs.declared.part_err.PartErr.{PartErr}
use Rattle.mg_dev.specs.declared.part_err.PartErr.TheVariants.{Bad, Device, Memory}
use Rattle.mg_defs.specs.Heads.{IsHead}
use Rattle.mg_layout.specs.HeadAnswers.{AnswersHead, fields_of}
use Rattle.mg_layout.specs.Stands.{HasNoHead}
use Rattle.mg_layout.specs.declared.head.Head as layout
use Rattle.mg_dev.specs.Runs.{RefusedFor}
use Rattle.mg_layout.proofs.CallerLemmas.{no_empty_head}

-- the head that was loaded
pub some_head : (bytes : List ℕ) (loaded : Option layout.Head) (head : layout.Head) → loaded ≡ Some head → AnswersHead 1 2 bytes (Ok loaded) → IsHead 1 2 bytes (fields_of head)
some_head bytes loaded head is answer = subst (λ o. AnswersHead 1 2 bytes (Ok o)) is answer

-- it is not missing
pub head_there : (bytes : List ℕ) (loaded : Option layout.Head) (head : layout.Head) → loaded ≡ Some head → AnswersHead 1 2 bytes (Ok loaded) → bytes ≢ []
head_there bytes loaded head is answer = no_empty_head bytes (fields_of head) (some_head bytes loaded head is answer)

-- a missing head is not refused as bad
pub missing_refused : {T : Type 0} (bytes : List ℕ) (refusal : PartErr) (told : Fault) → told ≡ fault_of_part refusal → AnswersHead 1 2 bytes (Err refusal) →
    bytes ≡ [] → RefusedFor {T = T} (Err told) fault.NotBuilt
missing_refused bytes Device told is answer missing = inr (inl (ap Err is))
missing_refused bytes Memory told is answer missing = inr (inr (ap Err is))
missing_refused bytes (Bad bad) told is answer missing = absurd (answer.0 missing)

-- what is read of files that are the same
pub missing_still : (files now : Option Files) (base : List ℕ) → now ≡ files → HasNoHead files base → HasNoHead now base
missing_still files now base same missing = ap (λ f. bytes_at f (full_name base Head)) same ∙ missing
