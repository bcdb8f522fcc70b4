-- The end of the bytes, and what the second pass hands on there.
use Rattle.std.proofs.Common.{append-nil, ◌≡◌, ◌<◌, ◌^◌, ◌∙◌, ℕ, List, [], ◌++◌, length, sym, subst, Ok, Err, IsSome, is_some}
use Rattle.std.specs.Prelude.{IfErr, IfOk, Result}
use Rattle.std.specs.declared.option.Option.{Option}
use Rattle.mg_dev.specs.declared.fault.Fault.{Fault}
use Rattle.mg_dev.specs.declared.fault.Fault.TheVariants as cause
use Rattle.mg_dev.specs.Files.{Files}
use Rattle.mg_defs.specs.Marks.{Mark, marks}
use Rattle.mg_make.specs.Changes.{TellsChange}
use Rattle.mg_make.specs.Finishing.{EndsWith, budget_of}
use Rattle.mg_make.specs.Fronts.{IsFrontOf}
use Rattle.mg_index.specs.Listing.{ListStops}
use Rattle.mg_count.specs.Plans.{IsPlanOf}
use Rattle.mg_make.specs.Putting.{IsHanded}
use Rattle.mg_count.specs.Scanning.{HasMet, Scanning}
use Rattle.mg_make.specs.Second.{FinishStops, HasWritten, Inversion, IsNext, IsWhole, SamePass, StopsBefore, WroteMarks}
use Rattle.mg_make.specs.Written.{SecondStops}
use Rattle.mg_make.specs.declared.inverter.Inverted.{Inverted}

-- ---- what is met at the end

last_front : (fed : List ℕ) (met next : List Mark) → marks fed ≡ met ++ next → length fed < 2 ^ 32 → IsFrontOf (met ++ next) fed
last_front fed met next whole few = record { after = []; whole = whole ∙ sym (append-nil (met ++ next)); few = few }

pub last_marks : (s : Inversion) (f : Option Files) (fed : List ℕ) (met next : List Mark) → HasWritten s f met → marks fed ≡ met ++ next → length fed < 2 ^ 32 → IsNext s f next
last_marks s f fed met next written whole few = record { met = met; collection = fed; written = written; front = last_front fed met next whole few }

pub all_written : (old new : Inversion) (f g : Option Files) (fed : List ℕ) (met next : List Mark) → WroteMarks old new f g next → HasWritten old f met →
    marks fed ≡ met ++ next → HasWritten new g (marks fed)
all_written old new f g fed met next wrote written whole = subst (λ all. HasWritten new g all) (sym whole) (wrote.behind met written)

pub is_whole : (s : Inversion) (f : Option Files) (fed : List ℕ) → HasWritten s f (marks fed) → IsWhole s f
is_whole s f fed written = record { collection = fed; written = written }

-- ---- what is handed on

pub handed_all : (r : Result Inverted Fault) (old new : Inversion) (f g h : Option Files) (fed : List ℕ) → SamePass old new → is_some g ≡ is_some f → length fed < 2 ^ 32 → HasWritten new g (marks fed)
    → IfOk r (λ inverted. EndsWith new (marks fed) g h inverted) → IfOk r (λ inverted. IsHanded old.plan (budget_of old) old.base fed f h inverted)
handed_all (Err fault) old new f g h fed same told few written ends = tt
handed_all (Ok inverted) old new f g h fed same told few written ends = record {
  few = few;
  pass = new;
  middle = g;
  written = written;
  ends = ends;
  plan_is = same.plan;
  limit_is = same.limit;
  base_is = same.base;
  told = told;
}

-- ---- why it stops

pub stops_second : (rose told same : Type 0) (fault : Fault) → SecondStops rose same fault → ListStops rose (told × same) fault
stops_second rose told same cause.StoreFault stop = stop
stops_second rose told same cause.Memory stop = tt
stops_second rose told same (cause.Changed what first second) stop = (stop.0, λ both. stop.1 both.1)
stops_second rose told same cause.Usage stop = absurd stop
stops_second rose told same cause.ReadFault stop = absurd stop
stops_second rose told same cause.WriteFault stop = absurd stop
stops_second rose told same cause.NotBuilt stop = absurd stop
stops_second rose told same (cause.Damaged bad) stop = absurd stop
stops_second rose told same cause.NoCollection stop = absurd stop
stops_second rose told same (cause.TooLarge bytes most) stop = absurd stop
stops_second rose told same cause.TooManyDocuments stop = absurd stop
stops_second rose told same (cause.TooManyPieces stream) stop = absurd stop
stops_second rose told same (cause.NameClash p) stop = absurd stop
stops_second rose told same cause.InputTooLong stop = absurd stop
stops_second rose told same cause.SameName stop = absurd stop
stops_second rose told same (cause.TooManyRotations count) stop = absurd stop

pub stops_before : (s : Inversion) (f : Option Files) (fed : List ℕ) (met next : List Mark) (rose : Type 0) (fault : Fault) → HasWritten s f met →
    marks fed ≡ met ++ next → length fed < 2 ^ 32 → StopsBefore s f next rose fault → ListStops rose (IsSome f × IsPlanOf s.plan fed) fault
stops_before s f fed met next rose fault written whole few stops = stops_second rose (IsSome f) (IsPlanOf s.plan fed) fault (stops.cause met fed written (last_front fed met next whole few))

stops_finish : (rose now same told less before : Type 0) (fault : Fault) → (rose → now) → (less → same) → (before → told) → FinishStops rose same told fault → ListStops now (before × less) fault
stops_finish rose now same told less before cause.StoreFault grows back still stop = grows stop
stops_finish rose now same told less before cause.Memory grows back still stop = tt
stops_finish rose now same told less before (cause.Changed what first second) grows back still stop = (stop.0, λ both. stop.1 (back both.1))
stops_finish rose now same told less before (cause.Damaged bad) grows back still stop = λ both. stop (still both.0)
stops_finish rose now same told less before cause.Usage grows back still stop = absurd stop
stops_finish rose now same told less before cause.ReadFault grows back still stop = absurd stop
stops_finish rose now same told less before cause.WriteFault grows back still stop = absurd stop
stops_finish rose now same told less before cause.NotBuilt grows back still stop = absurd stop
stops_finish rose now same told less before cause.NoCollection grows back still stop = absurd stop
stops_finish rose now same told less before (cause.TooLarge bytes most) grows back still stop = absurd stop
stops_finish rose now same told less before cause.TooManyDocuments grows back still stop = absurd stop
stops_finish rose now same told less before (cause.TooManyPieces stream) grows back still stop = absurd stop
stops_finish rose now same told less before (cause.NameClash p) grows back still stop = absurd stop
stops_finish rose now same told less before cause.InputTooLong grows back still stop = absurd stop
stops_finish rose now same told less before cause.SameName grows back still stop = absurd stop
stops_finish rose now same told less before (cause.TooManyRotations count) grows back still stop = absurd stop

-- why the end is refused, by what was put
pub end_refused : {T : Type 0} (r : Result T Fault) (scanning : Scanning) (old new : Inversion) (f g : Option Files) (next : List Mark) (rose now : Type 0) →
    (rose → now) → SamePass old new → is_some g ≡ is_some f → WroteMarks old new f g next
    → ((fed : List ℕ) (met : List Mark) → HasMet scanning fed met → marks fed ≡ met ++ next)
    → IfErr r (λ fault. (collection : List ℕ) → HasWritten new g (marks collection) → FinishStops rose (IsPlanOf new.plan collection) (IsSome g) fault)
    → IfErr r (λ fault. (fed : List ℕ) (met : List Mark) → HasMet scanning fed met → HasWritten old f met → length fed < 2 ^ 32 → ListStops now (IsSome f × IsPlanOf old.plan fed) fault)
end_refused (Ok value) scanning old new f g next rose now grows same told wrote whole stop = tt
end_refused (Err fault) scanning old new f g next rose now grows same told wrote whole stop = λ fed met scanned written few.
    stops_finish rose now (IsPlanOf new.plan fed) (IsSome g) (IsPlanOf old.plan fed) (IsSome f) fault grows (λ is. subst (λ p. IsPlanOf p fed) (sym same.plan) is) (λ is. told ∙ is)
    (stop fed (all_written old new f g fed met next wrote written (whole fed met scanned)))

-- ---- what a change tells

-- of what is met at the end
pub tells_before : (s : Inversion) (f : Option Files) (fed : List ℕ) (met next : List Mark) (rose : Type 0) (fault : Fault) → HasWritten s f met →
    marks fed ≡ met ++ next → length fed < 2 ^ 32 → StopsBefore s f next rose fault → TellsChange s.plan fed fault
tells_before s f fed met next rose fault written whole few stops = stops.tells met fed written (last_front fed met next whole few)

-- and behind it
pub end_tells : {T : Type 0} (r : Result T Fault) (scanning : Scanning) (old new : Inversion) (f g : Option Files) (next : List Mark) →
    SamePass old new → WroteMarks old new f g next → ((fed : List ℕ) (met : List Mark) → HasMet scanning fed met → marks fed ≡ met ++ next)
    → IfErr r (λ fault. (collection : List ℕ) → HasWritten new g (marks collection) → TellsChange new.plan collection fault)
    → IfErr r (λ fault. (fed : List ℕ) (met : List Mark) → HasMet scanning fed met → HasWritten old f met → length fed < 2 ^ 32 → TellsChange old.plan fed fault)
end_tells (Ok value) scanning old new f g next same wrote whole tells = tt
end_tells (Err fault) scanning old new f g next same wrote whole tells = λ fed met scanned written few.
    subst (λ p. TellsChange p fed fault) same.plan (tells fed (all_written old new f g fed met next wrote written (whole fed met scanned)))
