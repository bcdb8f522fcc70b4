-- What checking a set finds, and the cause of each refusal.
use Rattle.std.proofs.Common.{◌≡◌, ◌≢◌, ◌⊎◌, inl, inr, ℕ, List, [], Ok, Err, None, Some, IsSome, IfErr, IfOk, refl, sym, ap, subst, ◌∙◌}
use Rattle.std.proofs.lemmas.Bool.{cases_lt}
use Rattle.std.specs.declared.option.Option.{Option}
use Rattle.std.specs.declared.result.Result.{Result}
use Rattle.mg_dev.specs.Causes.{Rose}
use Rattle.mg_dev.specs.Faults.{fault_of_part}
use Rattle.mg_dev.specs.Files.{Files, bytes_at}
use Rattle.mg_dev.specs.Names.{full_name}
use Rattle.mg_dev.specs.PartCauses.{HasPartCause}
use Rattle.mg_dev.specs.declared.bad.Bad as dev
use Rattle.mg_dev.specs.declared.part.Part.TheVariants as part
use Rattle.mg_dev.specs.declared.fault.Fault.{Fault}
use Rattle.mg_dev.specs.declared.fault.Fault.TheVariants as fault
use Rattle.mg_dev.specs.declared.part_err.PartErr.{PartErr}
use Rattle.mg_dev.specs.declared.part_err.PartErr.TheVariants.{Device, Memory, Bad}
use Rattle.mg_defs.specs.Heads as defs
use Rattle.mg_defs.specs.Heads.{IsHead}
use Rattle.mg_defs.specs.Means.{StandForNone}
use Rattle.mg_layout.specs.Contents.{IsOutside}
use Rattle.mg_layout.specs.HeadAnswers.{AnswersBack, AnswersHead, AnswersWithin, fields_of}
use Rattle.mg_layout.specs.Stands.{Stands, parts_at}
use Rattle.mg_layout.specs.declared.head.Head.{Head}
use Rattle.mg_layout.proofs.CallerLemmas.{head_there, no_empty_head, own_head}
use Rattle.mg_check_parts.specs.Refusals.{IfBad}
use Rattle.mg_check.specs.declared.found.Found.{Found}
use Rattle.mg_dev.specs.Files.{Reads}
use Rattle.mg_check_parts.specs.Looks.{reads_outside}
use Rattle.mg_check.specs.Reads.{ReadsSet}
use Rattle.mg_check.specs.Found.{CheckStops, StandsWith, TellsOutside}

pub loaded-head : (bytes : List ℕ) (loaded : Option Head) (head : Head) → loaded ≡ Some head → AnswersHead 1 2 bytes (Ok loaded) → IsHead 1 2 bytes (fields_of head)
loaded-head bytes loaded head is answer = subst (λ o. AnswersHead 1 2 bytes (Ok o)) is answer

pub no-head : (bytes : List ℕ) (loaded : Option Head) → loaded ≡ None → AnswersHead 1 2 bytes (Ok loaded) → bytes ≡ []
no-head bytes loaded is answer = subst (λ o. AnswersHead 1 2 bytes (Ok o)) is answer

outside : (bad : dev.Bad) → IsOutside bad
outside bad = elim (cases_lt bad.found bad.low) [ inl below ↦ inl below | inr above ↦ inr (bad.outside above) ]

-- a head that was refused is that of no set
pub head-refused : (files : Option Files) (base : List ℕ) (refusal : PartErr) (before now : ℕ) → (IsSome files → AnswersHead 1 2 (bytes_at files (full_name base part.Head)) (Err refusal)) →
    (IsSome files → (h : defs.Head) → IsHead 1 2 (bytes_at files (full_name base part.Head)) h → AnswersBack h (Err refusal)) →
    HasPartCause {T = Option Head} before now (Err refusal) → CheckStops (Rose before now) files base (fault_of_part refusal)
head-refused files base Device before now answer back cause = cause.device
head-refused files base Memory before now answer back cause = tt
head-refused files base (Bad bad) before now answer back cause = λ told. record { head = (answer told).0; none = λ collection stands. back told _ (own_head files base collection stands) }

-- parts of a set with a head, of which one was refused
pub set-refused : (files : Option Files) (base : List ℕ) (head : Head) (refusal : PartErr) (before now : ℕ) →
    (IsSome files → IsHead 1 2 (bytes_at files (full_name base part.Head)) (fields_of head)) →
    (IsSome files → IfBad refusal (StandForNone (parts_at files base))) →
    HasPartCause {T = Unit {0}} before now (Err refusal) → CheckStops (Rose before now) files base (fault_of_part refusal)
set-refused files base head Device before now is none cause = cause.device
set-refused files base head Memory before now is none cause = tt
set-refused files base head (Bad bad) before now is none cause = λ told.
    record {
      head = no_empty_head (bytes_at files (full_name base part.Head)) (fields_of head) (is told);
      none = λ collection stands.
          none told collection stands.stand;
    }

-- memory is not what a head wants
pub early-refused : (refusal : PartErr) → AnswersWithin (Err refusal) → (fault_of_part refusal ≢ fault.Memory)
early-refused Device within same = cc
early-refused Memory within same = within
early-refused (Bad bad) within same = cc

abbrev refused : Fault → Result Found Fault
refused f = Err f

pub early-err : (refusal : PartErr) (f : Fault) → f ≡ fault_of_part refusal → AnswersWithin (Err refusal) → refused f ≢ refused fault.Memory
early-err refusal f is within same =
    let inner : f ≡ fault.Memory = cc in
    early-refused refusal within (sym is ∙ inner)

-- nor what a set without a head wants
pub early-none : refused fault.NotBuilt ≢ refused fault.Memory
early-none same = cc

abbrev accepted : Found → Result Found Fault
accepted found = Ok found

pub early-found : (found : Found) → accepted found ≢ refused fault.Memory
early-found found same = cc

-- ---- a set with a head

pub set-found : (files now : Option Files) (base : List ℕ) (head : Head) (n m : ℕ) → now ≡ files →
    (IsSome now → IsHead 1 2 (bytes_at now (full_name base part.Head)) (fields_of head) → StandsWith now base n m) → IsSome files →
    IsHead 1 2 (bytes_at files (full_name base part.Head)) (fields_of head) → StandsWith files base n m
set-found files now base head n m same found = subst (λ (f : Option Files). IsSome f → IsHead 1 2 (bytes_at f (full_name base part.Head)) (fields_of head) → StandsWith f base n m) same found

pub set-none-here : (files now : Option Files) (base : List ℕ) (head : Head) (refusal : PartErr) → now ≡ files →
    (IsSome now → IsHead 1 2 (bytes_at now (full_name base part.Head)) (fields_of head) → IfBad refusal (StandForNone (parts_at now base))) → IsSome files →
    IsHead 1 2 (bytes_at files (full_name base part.Head)) (fields_of head) →
    IfBad refusal (StandForNone (parts_at files base))
set-none-here files now base head refusal same none = subst (λ (f : Option Files). IsSome f →
    IsHead 1 2 (bytes_at f (full_name base part.Head)) (fields_of head) → IfBad refusal (StandForNone (parts_at f base))) same none

-- ---- what follows from the causes

told-outside : (f : Fault) → TellsOutside f
told-outside fault.Usage = tt
told-outside fault.StoreFault = tt
told-outside fault.ReadFault = tt
told-outside fault.WriteFault = tt
told-outside fault.NotBuilt = tt
told-outside (fault.Damaged bad) = outside bad
told-outside fault.NoCollection = tt
told-outside (fault.TooLarge size most) = tt
told-outside fault.TooManyDocuments = tt
told-outside (fault.TooManyPieces stream) = tt
told-outside (fault.Changed what first second) = tt
told-outside fault.Memory = tt
told-outside (fault.NameClash p) = tt
told-outside fault.InputTooLong = tt
told-outside fault.SameName = tt
told-outside (fault.TooManyRotations count) = tt

pub tells-outside : (r : Result Found Fault) → IfErr r TellsOutside
tells-outside (Ok found) = tt
tells-outside (Err f) = told-outside f

only-memory : (rose : Type 0) (files : Option Files) (base collection : List ℕ) (f : Fault) → Stands files base collection → ¬ rose → CheckStops rose files base f → f ≡ fault.Memory
only-memory rose files base collection fault.Usage stands fine stops = absurd stops
only-memory rose files base collection fault.StoreFault stands fine stops = absurd (fine stops)
only-memory rose files base collection fault.ReadFault stands fine stops = absurd stops
only-memory rose files base collection fault.WriteFault stands fine stops = absurd stops
only-memory rose files base collection fault.NotBuilt stands fine stops = absurd (head_there files base collection stands (stops stands.told))
only-memory rose files base collection (fault.Damaged bad) stands fine stops = absurd ((stops stands.told).none collection stands)
only-memory rose files base collection fault.NoCollection stands fine stops = absurd stops
only-memory rose files base collection (fault.TooLarge size most) stands fine stops = absurd stops
only-memory rose files base collection fault.TooManyDocuments stands fine stops = absurd stops
only-memory rose files base collection (fault.TooManyPieces stream) stands fine stops = absurd stops
only-memory rose files base collection (fault.Changed what first second) stands fine stops = absurd stops
only-memory rose files base collection fault.Memory stands fine stops = refl
only-memory rose files base collection (fault.NameClash p) stands fine stops = absurd stops
only-memory rose files base collection fault.InputTooLong stands fine stops = absurd stops
only-memory rose files base collection fault.SameName stands fine stops = absurd stops
only-memory rose files base collection (fault.TooManyRotations count) stands fine stops = absurd stops

pub completes : (rose : Type 0) (files : Option Files) (base collection : List ℕ) (r : Result Found Fault) → IfErr r (CheckStops rose files base) →
    Stands files base collection → ¬ rose → IfErr r (λ f. f ≡ fault.Memory)
completes rose files base collection (Ok found) cause stands fine = tt
completes rose files base collection (Err f) cause stands fine = only-memory rose files base collection f stands fine cause

-- where there is no head
not-built : (rose : Type 0) (files : Option Files) (base : List ℕ) (f : Fault) → IsSome files → bytes_at files (full_name base part.Head) ≡ [] →
    CheckStops rose files base f → (f ≡ fault.NotBuilt) ⊎ (f ≡ fault.StoreFault) ⊎ (f ≡ fault.Memory)
not-built rose files base fault.Usage told none stops = absurd stops
not-built rose files base fault.StoreFault told none stops = inr (inl refl)
not-built rose files base fault.ReadFault told none stops = absurd stops
not-built rose files base fault.WriteFault told none stops = absurd stops
not-built rose files base fault.NotBuilt told none stops = inl refl
not-built rose files base (fault.Damaged bad) told none stops = absurd ((stops told).head none)
not-built rose files base fault.NoCollection told none stops = absurd stops
not-built rose files base (fault.TooLarge size most) told none stops = absurd stops
not-built rose files base fault.TooManyDocuments told none stops = absurd stops
not-built rose files base (fault.TooManyPieces stream) told none stops = absurd stops
not-built rose files base (fault.Changed what first second) told none stops = absurd stops
not-built rose files base fault.Memory told none stops = inr (inr refl)
not-built rose files base (fault.NameClash p) told none stops = absurd stops
not-built rose files base fault.InputTooLong told none stops = absurd stops
not-built rose files base fault.SameName told none stops = absurd stops
not-built rose files base (fault.TooManyRotations count) told none stops = absurd stops

abbrev AnswersNotBuilt : Result Found Fault → Type 0
AnswersNotBuilt r = (r ≡ Err fault.NotBuilt) ⊎ (r ≡ Err fault.StoreFault) ⊎ (r ≡ Err fault.Memory)

pub refused-unbuilt : (rose : Type 0) (files : Option Files) (base : List ℕ) (r : Result Found Fault) →
    (IsSome files → IfOk r (λ found. StandsWith files base found.documents found.bytes)) → IfErr r (CheckStops rose files base) → IsSome files →
    bytes_at files (full_name base part.Head) ≡ [] → AnswersNotBuilt r
refused-unbuilt rose files base (Ok found) stands cause told none = absurd (head_there files base (stands told).collection (stands told).stands none)
refused-unbuilt rose files base (Err f) stands cause told none = elim (not-built rose files base f told none cause) [
  | inl is ↦ inl (ap Err is)
  | inr other ↦ elim other [ inl is ↦ inr (inl (ap Err is)) | inr is ↦ inr (inr (ap Err is)) ]
]

-- ---- what was read

pub set_read : (r s : Reads) → reads_outside s ≡ reads_outside r → ReadsSet r s
unfolding reads_outside
set_read r s same = record { merge_a = cc; merge_b = cc; plain = cc }
