-- Why patterns are not answered: what a lexicon whose terms cannot be held is refused for.
use Rattle.std.proofs.Common.{◌≡◌, ◌≢◌, inl, inr, refl, ℕ, List, Err, IsSome, ap}
use Rattle.std.specs.declared.option.Option.{Option}
use Rattle.std.specs.declared.result.Result.{Result}
use Rattle.mg_dev.specs.Causes.{Rose}
use Rattle.mg_dev.specs.Files.{Files, bytes_at}
use Rattle.mg_dev.specs.Names.{full_name}
use Rattle.mg_dev.specs.Runs.{RefusedFor}
use Rattle.mg_dev.specs.declared.bad.Bad as declared
use Rattle.mg_dev.specs.declared.fault.Fault.TheVariants as fault
use Rattle.mg_dev.specs.declared.part.Part.TheVariants as part
use Rattle.mg_dev.specs.declared.part_err.PartErr.TheVariants.{Device, Memory, Bad}
use Rattle.mg_layout.specs.declared.head.Head.{Head}
use Rattle.mg_lex.specs.Reading.{IsLexicon}
use Rattle.mg_wild.specs.Loading.{AnswersMost, IsBeyond, LexToLoad}
use Rattle.mg_wild.specs.declared.terms_to_load.RotErr.{RotErr}
use Rattle.mg_wild.specs.declared.terms_to_load.RotErr.TheVariants as rot
use Rattle.mg_session.specs.Opening.{OpenStops}
use Rattle.mg_session.specs.Serves.{StandsByNone}
use Rattle.mg_session.specs.WildServes.{CountedBy, TooManyBy, fault_of_rotated}
use Rattle.mg_session.proofs.SetLaws.{set_lexicon}
use Rattle.mg_session.proofs.WildSetLaws.{one_count}

-- what is answered of it
abbrev not_loaded : RotErr → Result LexToLoad RotErr
not_loaded refusal = Err refusal

-- what that is told by
abbrev Answers : Option Files → List ℕ → Head → RotErr → Type 0
Answers files base head refusal = IsSome files → AnswersMost {T = LexToLoad} (λ t. t.most) (bytes_at files (full_name base part.Lex)) head.terms (Err refusal)

pub rotated_stops : (refusal : RotErr) (s t : ℕ) (head : Head) (files : Option Files) (base : List ℕ) → Answers files base head refusal →
    ((collection : List ℕ) (bad : declared.Bad) → IsLexicon base files head.terms collection → not_loaded refusal ≢ not_loaded (rot.Part (Bad bad))) →
    IsBeyond refusal → (not_loaded refusal ≡ not_loaded (rot.Part Device) → Rose s t) →
    OpenStops (Rose s t) ⊥ (StandsByNone head files base) (CountedBy head files base) (fault_of_rotated refusal)
rotated_stops (rot.Part Device) s t head files base answer never beyond cause = cause refl
rotated_stops (rot.Part Memory) s t head files base answer never beyond cause = tt
rotated_stops (rot.Part (Bad bad)) s t head files base answer never beyond cause = λ code collection is. never collection bad (set_lexicon base files head code collection is) refl
rotated_stops (rot.TooMany count) s t head files base answer never beyond cause = (beyond, answer)

-- too many rotations are told, unless the store fails or memory is wanting
pub rotated_refused : {T : Type 0} (refusal : RotErr) (head : Head) (files : Option Files) (base : List ℕ) → Answers files base head refusal → IsSome files →
    (count : ℕ) → TooManyBy head files base count →
    RefusedFor {T = T} (Err (fault_of_rotated refusal)) (fault.TooManyRotations count)
rotated_refused (rot.Part Device) head files base answer told count many = inr (inl refl)
rotated_refused (rot.Part Memory) head files base answer told count many = inr (inr refl)
rotated_refused (rot.Part (Bad bad)) head files base answer told count many = absurd (answer told many.es many.entries)
rotated_refused (rot.TooMany found) head files base answer told count many =
    inl (ap (λ n. Err (fault.TooManyRotations n)) (one_count (bytes_at files (full_name base part.Lex)) head.terms found count (answer told) many))
