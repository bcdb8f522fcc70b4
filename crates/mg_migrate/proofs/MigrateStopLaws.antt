-- Why a set is not made anew.
use Rattle.std.proofs.Common.{◌≡◌, ◌≢◌, ◌≤◌, ◌∙◌, ℕ, List, Option, Err, IsSome, sym, ap}
use Rattle.mg_dev.specs.Causes.{Rose}
use Rattle.mg_dev.specs.Faults.{ReadStops, fault_of_part}
use Rattle.mg_dev.specs.PartCauses.{HasPartCause}
use Rattle.mg_dev.specs.Files.{Files, bytes_at}
use Rattle.mg_dev.specs.Names.{full_name}
use Rattle.mg_dev.specs.declared.fault.Fault.{Fault}
use Rattle.mg_dev.specs.declared.fault.Fault.TheVariants as fault
use Rattle.mg_dev.specs.declared.part.Part.TheVariants as part
use Rattle.mg_dev.specs.declared.part_err.PartErr.{PartErr}
use Rattle.mg_dev.specs.declared.part_err.PartErr.TheVariants.{Bad, Device, Memory}
use Rattle.mg_defs.specs.CodedText.{TextCode}
use Rattle.mg_defs.specs.Heads as defs
use Rattle.mg_defs.specs.Heads.{IsHead}
use Rattle.mg_defs.specs.Stands.{head_of}
use Rattle.mg_defs.proofs.HeadLaws.{one_head}
use Rattle.mg_defs.proofs.StandLaws.{stand-tells}
use Rattle.mg_layout.specs.HeadAnswers.{fields_of}
use Rattle.mg_layout.specs.Stands.{IsSetBy, Stands, StandsBy, StandsIn, parts_at}
use Rattle.mg_layout.specs.declared.head.Head.{Head}
use Rattle.mg_migrate.specs.Migrating.{MigrateStops}
use Rattle.mg_migrate.specs.Sizes.{AnswersSizesOf}
use Rattle.mg_migrate.proofs.SizeLaws.{stands_sized}
use Rattle.mg_dev.specs.Runs.{IsDone}
use Rattle.mg_decode.specs.Outcomes.{DecodeStops}
use Rattle.mg_make.proofs.CallerLemmas.{rose_behind}
use Rattle.mg_layout.proofs.CallerLemmas.{head_there}

-- a head that was not loaded
pub head_refused : (refusal : Fault) (rose : Type 0) (files : Option Files) (name new : List ℕ) → DecodeStops rose ⊥ files name refusal → MigrateStops rose files name new refusal
head_refused fault.Usage rose files name new stops = stops
head_refused fault.StoreFault rose files name new stops = stops
head_refused fault.ReadFault rose files name new stops = stops
head_refused fault.WriteFault rose files name new stops = absurd stops
head_refused fault.NotBuilt rose files name new stops = stops
head_refused (fault.Damaged bad) rose files name new stops = stops
head_refused fault.NoCollection rose files name new stops = stops
head_refused (fault.TooLarge size most) rose files name new stops = stops
head_refused fault.TooManyDocuments rose files name new stops = stops
head_refused (fault.TooManyPieces stream) rose files name new stops = stops
head_refused (fault.Changed what first second) rose files name new stops = stops
head_refused fault.Memory rose files name new stops = stops
head_refused (fault.NameClash p) rose files name new stops = stops
head_refused fault.InputTooLong rose files name new stops = stops
head_refused fault.SameName rose files name new stops = absurd stops
head_refused (fault.TooManyRotations count) rose files name new stops = stops

-- a part of another size than follows from a head that was loaded
pub size_refused : (refusal : PartErr) (head : Head) (s t u : ℕ) (before loaded : Option Files) (name : List ℕ) → s ≤ t → loaded ≡ before →
    HasPartCause {T = Unit {0}} t u (Err refusal) → (IsSome loaded → AnswersSizesOf (fields_of head) loaded name (Err refusal))
    → ((collection : List ℕ) → Stands before name collection → (code : TextCode) × StandsBy head code loaded name collection) → DecodeStops (Rose s u) ⊥ before name (fault_of_part refusal)
size_refused Device head s t u before loaded name up same cause answer by = rose_behind s t u up cause.device
size_refused Memory head s t u before loaded name up same cause answer by = tt
size_refused (Bad bad) head s t u before loaded name up same cause answer by = λ collection stands.
    let it = by collection stands in
    answer it.1.told (stands_sized head it.0 loaded name collection it.1)

-- a set whose parts were not made
pub set_refused : (refusal : Fault) (head : Head) (s t u : ℕ) (before middle : Option Files) (name new : List ℕ) → s ≤ t
    → ((collection : List ℕ) → Stands before name collection → (code : TextCode) × StandsBy head code middle name collection) →
    ReadStops (Rose t u) (IsSetBy head middle name) refusal → MigrateStops (Rose s u) before name new refusal
set_refused fault.Usage head s t u before middle name new up by stops = absurd stops
set_refused fault.StoreFault head s t u before middle name new up by stops = rose_behind s t u up stops
set_refused fault.ReadFault head s t u before middle name new up by stops = absurd stops
set_refused fault.WriteFault head s t u before middle name new up by stops = absurd stops
set_refused fault.NotBuilt head s t u before middle name new up by stops = absurd stops
set_refused (fault.Damaged bad) head s t u before middle name new up by stops = λ collection stands. stops ((by collection stands).0, collection, (by collection stands).1)
set_refused fault.NoCollection head s t u before middle name new up by stops = absurd stops
set_refused (fault.TooLarge size most) head s t u before middle name new up by stops = absurd stops
set_refused fault.TooManyDocuments head s t u before middle name new up by stops = absurd stops
set_refused (fault.TooManyPieces stream) head s t u before middle name new up by stops = absurd stops
set_refused (fault.Changed what first second) head s t u before middle name new up by stops = absurd stops
set_refused fault.Memory head s t u before middle name new up by stops = tt
set_refused (fault.NameClash p) head s t u before middle name new up by stops = absurd stops
set_refused fault.InputTooLong head s t u before middle name new up by stops = absurd stops
set_refused fault.SameName head s t u before middle name new up by stops = absurd stops
set_refused (fault.TooManyRotations count) head s t u before middle name new up by stops = absurd stops

-- a set that stands is made anew where no device fails and memory does not lack
pub made_or_lacks : (refusal : Fault) (rose : Type 0) (files : Option Files) (name new collection : List ℕ) → Stands files name collection → new ≢ name →
    (rose → ⊥) → MigrateStops rose files name new refusal → IsDone {T = ℕ} (Err refusal)
made_or_lacks fault.Usage rose files name new collection stands apart calm stops = stops
made_or_lacks fault.StoreFault rose files name new collection stands apart calm stops = calm stops
made_or_lacks fault.ReadFault rose files name new collection stands apart calm stops = stops
made_or_lacks fault.WriteFault rose files name new collection stands apart calm stops = stops
made_or_lacks fault.NotBuilt rose files name new collection stands apart calm stops = head_there files name collection stands (stops stands.told)
made_or_lacks (fault.Damaged bad) rose files name new collection stands apart calm stops = stops collection stands
made_or_lacks fault.NoCollection rose files name new collection stands apart calm stops = stops
made_or_lacks (fault.TooLarge size most) rose files name new collection stands apart calm stops = stops
made_or_lacks fault.TooManyDocuments rose files name new collection stands apart calm stops = stops
made_or_lacks (fault.TooManyPieces stream) rose files name new collection stands apart calm stops = stops
made_or_lacks (fault.Changed what first second) rose files name new collection stands apart calm stops = stops
made_or_lacks fault.Memory rose files name new collection stands apart calm stops = tt
made_or_lacks (fault.NameClash p) rose files name new collection stands apart calm stops = stops
made_or_lacks fault.InputTooLong rose files name new collection stands apart calm stops = stops
made_or_lacks fault.SameName rose files name new collection stands apart calm stops = apart stops
made_or_lacks (fault.TooManyRotations count) rose files name new collection stands apart calm stops = stops

-- ---- the head that was loaded

pub in_stands : (version cap : ℕ) (files : Option Files) (name collection : List ℕ) → StandsIn version cap files name collection → Stands files name collection
in_stands version cap files name collection is = record { told = is.told; stand = record { version = version; cap = cap; code = is.code; are = is.are } }

pub cap_is : (version cap : ℕ) (files : Option Files) (name collection : List ℕ) (head : Head) → StandsIn version cap files name collection →
    IsHead 1 2 (bytes_at files (full_name name part.Head)) (fields_of head) → head.cap ≡ cap
cap_is version cap files name collection head is loaded =
    let own : IsHead 1 2 (bytes_at files (full_name name part.Head)) (head_of version cap is.code collection) = (stand-tells version cap is.code (parts_at files name) collection is.are).head in
    ap (λ (h : defs.Head). h.cap) (one_head (fields_of head) (head_of version cap is.code collection) loaded.within own.within (sym loaded.bytes_are ∙ own.bytes_are))
