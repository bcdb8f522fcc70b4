-- Bytes that are counted and written one after the other, and why a pass over them stops.
use Rattle.std.proofs.Common.{◌≡◌, ◌<◌, ◌^◌, ◌++◌, ◌∙◌, ℕ, List, [], length, Option, Some, Ok, Err, IsSome, is_some, sym, subst, inl, inr}
use Rattle.std.specs.Prelude.{IfErr, Result}
use Rattle.mg_dev.specs.Faults.{IsDamagedPart, ReadStops}
use Rattle.mg_dev.specs.Files.{Files, file_at}
use Rattle.mg_dev.specs.Moments.{StoreAt, StoreRose}
use Rattle.mg_dev.specs.Names.{full_name}
use Rattle.mg_dev.specs.declared.fault.Fault.{Fault}
use Rattle.mg_dev.specs.declared.fault.Fault.TheVariants as cause
use Rattle.mg_dev.specs.declared.part.Part.TheVariants.{Head}
use Rattle.mg_defs.specs.Limits.{version_2}
use Rattle.mg_defs.specs.Marks.{PassesFirst, piece, start}
use Rattle.mg_layout.specs.Stands.{StandsForNone}
use Rattle.mg_make.specs.Counting.{CountStops, EndStops}
use Rattle.mg_make.specs.Listing.{ListStops}
use Rattle.mg_make.specs.Plans.{IsPlanOf, Plan}
use Rattle.mg_make.specs.Putting.{HasPut, IsUnbuilt, Putting}
use Rattle.mg_make.specs.Written.{SecondStops}
use Rattle.mg_make.specs.Outcomes.{Left}
use Rattle.mg_merge.specs.Counted.{CountsTexts}
use Rattle.mg_merge.specs.Stops.{CountingStops, Differ, IsRetold}
use Rattle.mg_merge.specs.Texts.{TextsStand, TwoTexts}

-- ---- counting

pub counting_stops : (now : Type 0) (stands : List ℕ → Type 0) (fed : List ℕ) (fault : Fault) →
    ((collection : List ℕ) → stands collection → (rest : List ℕ) × (fed ++ rest ≡ collection)) → CountStops fed fault → CountingStops now stands fault
counting_stops now stands fed cause.Usage all stop = absurd stop
counting_stops now stands fed cause.StoreFault all stop = absurd stop
counting_stops now stands fed cause.ReadFault all stop = absurd stop
counting_stops now stands fed cause.WriteFault all stop = absurd stop
counting_stops now stands fed cause.NotBuilt all stop = absurd stop
counting_stops now stands fed (cause.Damaged bad) all stop = absurd stop
counting_stops now stands fed cause.NoCollection all stop = absurd stop
counting_stops now stands fed (cause.TooLarge bytes most) all stop = absurd stop
counting_stops now stands fed cause.TooManyDocuments all stop = λ collection stand. let rest = all collection stand in subst (λ bytes. PassesFirst version_2 bytes start) rest.1 (stop rest.0)
counting_stops now stands fed (cause.TooManyPieces kind) all stop = λ collection stand. let rest = all collection stand in
    (stop.0, subst (λ bytes. PassesFirst version_2 bytes (piece kind stop.0)) rest.1 (stop.1 rest.0))
counting_stops now stands fed (cause.Changed what one two) all stop = absurd stop
counting_stops now stands fed cause.Memory all stop = tt
counting_stops now stands fed (cause.NameClash part) all stop = absurd stop
counting_stops now stands fed cause.InputTooLong all stop = absurd stop
counting_stops now stands fed cause.SameName all stop = absurd stop
counting_stops now stands fed (cause.TooManyRotations count) all stop = absurd stop

pub end_stops : (now : Type 0) (stands : List ℕ → Type 0) (fed : List ℕ) (fault : Fault) → ((collection : List ℕ) → stands collection → fed ≡ collection) →
    EndStops fed fault → CountingStops now stands fault
end_stops now stands fed cause.Usage all stop = absurd stop
end_stops now stands fed cause.StoreFault all stop = absurd stop
end_stops now stands fed cause.ReadFault all stop = absurd stop
end_stops now stands fed cause.WriteFault all stop = absurd stop
end_stops now stands fed cause.NotBuilt all stop = absurd stop
end_stops now stands fed (cause.Damaged bad) all stop = absurd stop
end_stops now stands fed cause.NoCollection all stop = absurd stop
end_stops now stands fed (cause.TooLarge bytes most) all stop = absurd stop
end_stops now stands fed cause.TooManyDocuments all stop = λ collection stand. subst (λ bytes. PassesFirst version_2 bytes start) (all collection stand) stop
end_stops now stands fed (cause.TooManyPieces kind) all stop = λ collection stand. (stop.0, subst (λ bytes. PassesFirst version_2 bytes (piece kind stop.0)) (all collection stand) stop.1)
end_stops now stands fed (cause.Changed what one two) all stop = absurd stop
end_stops now stands fed cause.Memory all stop = tt
end_stops now stands fed (cause.NameClash part) all stop = absurd stop
end_stops now stands fed cause.InputTooLong all stop = absurd stop
end_stops now stands fed cause.SameName all stop = absurd stop
end_stops now stands fed (cause.TooManyRotations count) all stop = absurd stop

pub end_stops_all : {T : Type 0} (r : Result T Fault) (P : List ℕ → Type 0) (now : Type 0) (stands : List ℕ → Type 0) (fed : List ℕ) →
    ((collection : List ℕ) → stands collection → fed ≡ collection) → P fed → IfErr r (λ fault. (x : List ℕ) → P x → EndStops x fault) →
    IfErr r (CountingStops now stands)
end_stops_all (Ok value) P now stands fed all counted stop = tt
end_stops_all (Err fault) P now stands fed all counted stop = end_stops now stands fed fault all (stop fed counted)

-- all documents were counted, and the counts gave this answer
pub counts_ended : {T U : Type 0} {t t_now : TwoTexts} {store store_now : StoreAt} {value : T} (r : Result U Fault) → CountsTexts {T = T} t t_now store store_now (Ok value) →
    IfErr r (CountingStops (StoreRose store store_now) (TextsStand t store.files)) → CountsTexts {T = U} t t_now store store_now r
counts_ended r counts stop = record { fits = counts.fits; same = counts.same; looks = counts.looks; refused = stop }

-- they were not all counted
pub counts_refused : {T U : Type 0} {t t_now : TwoTexts} {store store_now : StoreAt} {fault : Fault} → CountsTexts {T = T} t t_now store store_now (Err fault) →
    CountsTexts {T = U} t t_now store store_now (Err fault)
counts_refused counts = record { fits = counts.fits; same = counts.same; looks = counts.looks; refused = counts.refused }

-- ---- retelling

pub second_differs : (rose same : Type 0) (fault : Fault) → SecondStops rose same fault → Differ fault
second_differs rose same cause.Usage stop = tt
second_differs rose same cause.StoreFault stop = tt
second_differs rose same cause.ReadFault stop = tt
second_differs rose same cause.WriteFault stop = tt
second_differs rose same cause.NotBuilt stop = tt
second_differs rose same (cause.Damaged bad) stop = tt
second_differs rose same cause.NoCollection stop = tt
second_differs rose same (cause.TooLarge bytes most) stop = tt
second_differs rose same cause.TooManyDocuments stop = tt
second_differs rose same (cause.TooManyPieces kind) stop = tt
second_differs rose same (cause.Changed what one two) stop = stop.0
second_differs rose same cause.Memory stop = tt
second_differs rose same (cause.NameClash part) stop = tt
second_differs rose same cause.InputTooLong stop = tt
second_differs rose same cause.SameName stop = tt
second_differs rose same (cause.TooManyRotations count) stop = tt

pub list_differs : (rose same : Type 0) (fault : Fault) → ListStops rose same fault → Differ fault
list_differs rose same cause.Usage stop = tt
list_differs rose same cause.StoreFault stop = tt
list_differs rose same cause.ReadFault stop = tt
list_differs rose same cause.WriteFault stop = tt
list_differs rose same cause.NotBuilt stop = tt
list_differs rose same (cause.Damaged bad) stop = tt
list_differs rose same cause.NoCollection stop = tt
list_differs rose same (cause.TooLarge bytes most) stop = tt
list_differs rose same cause.TooManyDocuments stop = tt
list_differs rose same (cause.TooManyPieces kind) stop = tt
list_differs rose same (cause.Changed what one two) stop = stop.0
list_differs rose same cause.Memory stop = tt
list_differs rose same (cause.NameClash part) stop = tt
list_differs rose same cause.InputTooLong stop = tt
list_differs rose same cause.SameName stop = tt
list_differs rose same (cause.TooManyRotations count) stop = tt

-- a cause still is one where failures still rose and less is the same
pub second_wider : (rose now same less : Type 0) (fault : Fault) → (rose → now) → (less → same) → SecondStops rose same fault → SecondStops now less fault
second_wider rose now same less cause.Usage grows back stop = absurd stop
second_wider rose now same less cause.StoreFault grows back stop = grows stop
second_wider rose now same less cause.ReadFault grows back stop = absurd stop
second_wider rose now same less cause.WriteFault grows back stop = absurd stop
second_wider rose now same less cause.NotBuilt grows back stop = absurd stop
second_wider rose now same less (cause.Damaged bad) grows back stop = absurd stop
second_wider rose now same less cause.NoCollection grows back stop = absurd stop
second_wider rose now same less (cause.TooLarge bytes most) grows back stop = absurd stop
second_wider rose now same less cause.TooManyDocuments grows back stop = absurd stop
second_wider rose now same less (cause.TooManyPieces kind) grows back stop = absurd stop
second_wider rose now same less (cause.Changed what one two) grows back stop = (stop.0, λ is. stop.1 (back is))
second_wider rose now same less cause.Memory grows back stop = tt
second_wider rose now same less (cause.NameClash part) grows back stop = absurd stop
second_wider rose now same less cause.InputTooLong grows back stop = absurd stop
second_wider rose now same less cause.SameName grows back stop = absurd stop
second_wider rose now same less (cause.TooManyRotations count) grows back stop = absurd stop

-- damage comes where nothing stands
pub damage_stops : (now whole : Type 0) (fault : Fault) → IsDamagedPart fault → (whole → ⊥) → ReadStops now whole fault
damage_stops now whole cause.Usage is none = absurd is
damage_stops now whole cause.StoreFault is none = absurd is
damage_stops now whole cause.ReadFault is none = absurd is
damage_stops now whole cause.WriteFault is none = absurd is
damage_stops now whole cause.NotBuilt is none = absurd is
damage_stops now whole (cause.Damaged bad) is none = none
damage_stops now whole cause.NoCollection is none = absurd is
damage_stops now whole (cause.TooLarge bytes most) is none = absurd is
damage_stops now whole cause.TooManyDocuments is none = absurd is
damage_stops now whole (cause.TooManyPieces kind) is none = absurd is
damage_stops now whole (cause.Changed what one two) is none = absurd is
damage_stops now whole cause.Memory is none = absurd is
damage_stops now whole (cause.NameClash part) is none = absurd is
damage_stops now whole cause.InputTooLong is none = absurd is
damage_stops now whole cause.SameName is none = absurd is
damage_stops now whole (cause.TooManyRotations count) is none = absurd is

told_same : (now whole : Type 0) (fault told : Fault) → told ≡ fault → ReadStops now whole fault → ReadStops now whole told
told_same now whole fault told same stop = subst (ReadStops now whole) (sym same) stop

-- bytes that are not written, whatever follows them
pub put_stops : (rose now whole : Type 0) (plan : Plan) (f : List ℕ → List ℕ) (fault told : Fault) → (rose → now) → length (f []) < 2 ^ 32 →
    (whole → (rest : List ℕ) × (length (f rest) < 2 ^ 32) × IsPlanOf plan (f rest)) → IsRetold fault told
    → ((more : List ℕ) → length (f more) < 2 ^ 32 → SecondStops rose (IsPlanOf plan (f more)) fault) → ReadStops now whole told
put_stops rose now whole plan f cause.Usage told grows short all is stop = absurd (stop [] short)
put_stops rose now whole plan f cause.StoreFault told grows short all is stop = told_same now whole cause.StoreFault told is (grows (stop [] short))
put_stops rose now whole plan f cause.ReadFault told grows short all is stop = absurd (stop [] short)
put_stops rose now whole plan f cause.WriteFault told grows short all is stop = absurd (stop [] short)
put_stops rose now whole plan f cause.NotBuilt told grows short all is stop = absurd (stop [] short)
put_stops rose now whole plan f (cause.Damaged bad) told grows short all is stop = absurd (stop [] short)
put_stops rose now whole plan f cause.NoCollection told grows short all is stop = absurd (stop [] short)
put_stops rose now whole plan f (cause.TooLarge bytes most) told grows short all is stop = absurd (stop [] short)
put_stops rose now whole plan f cause.TooManyDocuments told grows short all is stop = absurd (stop [] short)
put_stops rose now whole plan f (cause.TooManyPieces kind) told grows short all is stop = absurd (stop [] short)
put_stops rose now whole plan f (cause.Changed what one two) told grows short all is stop = damage_stops now whole told is (λ w. let rest = all w in (stop rest.0 rest.1).1 rest.2)
put_stops rose now whole plan f cause.Memory told grows short all is stop = told_same now whole cause.Memory told is tt
put_stops rose now whole plan f (cause.NameClash part) told grows short all is stop = absurd (stop [] short)
put_stops rose now whole plan f cause.InputTooLong told grows short all is stop = absurd (stop [] short)
put_stops rose now whole plan f cause.SameName told grows short all is stop = absurd (stop [] short)
put_stops rose now whole plan f (cause.TooManyRotations count) told grows short all is stop = absurd (stop [] short)

-- the end
pub finish_stops : (rose now same whole : Type 0) (fault told : Fault) → (rose → now) → (whole → same) → IsRetold fault told → ListStops rose same fault → ReadStops now whole told
finish_stops rose now same whole cause.Usage told grows all is stop = absurd stop
finish_stops rose now same whole cause.StoreFault told grows all is stop = told_same now whole cause.StoreFault told is (grows stop)
finish_stops rose now same whole cause.ReadFault told grows all is stop = absurd stop
finish_stops rose now same whole cause.WriteFault told grows all is stop = absurd stop
finish_stops rose now same whole cause.NotBuilt told grows all is stop = absurd stop
finish_stops rose now same whole (cause.Damaged bad) told grows all is stop = told_same now whole (cause.Damaged bad) told is (λ w. stop (all w))
finish_stops rose now same whole cause.NoCollection told grows all is stop = absurd stop
finish_stops rose now same whole (cause.TooLarge bytes most) told grows all is stop = absurd stop
finish_stops rose now same whole cause.TooManyDocuments told grows all is stop = absurd stop
finish_stops rose now same whole (cause.TooManyPieces kind) told grows all is stop = absurd stop
finish_stops rose now same whole (cause.Changed what one two) told grows all is stop = damage_stops now whole told is (λ w. stop.1 (all w))
finish_stops rose now same whole cause.Memory told grows all is stop = told_same now whole cause.Memory told is tt
finish_stops rose now same whole (cause.NameClash part) told grows all is stop = absurd stop
finish_stops rose now same whole cause.InputTooLong told grows all is stop = absurd stop
finish_stops rose now same whole cause.SameName told grows all is stop = absurd stop
finish_stops rose now same whole (cause.TooManyRotations count) told grows all is stop = absurd stop

-- ---- files

pub still_told : (before now : Option Files) → is_some now ≡ is_some before → IsSome before → IsSome now
still_told before now same told = same ∙ told

pub still_put : (w : Putting) (before now : Option Files) (fed : List ℕ) → now ≡ before → HasPut w before fed → HasPut w now fed
still_put w before now fed same put = subst (λ files. HasPut w files fed) (sym same) put

-- what a start that was refused leaves
pub left_by_start : (base collection : List ℕ) (before now : Option Files) → IsSome before →
    (file_at now (full_name base Head) ≡ Some [] → StandsForNone now base) → IsUnbuilt base before now → Left base before now collection
left_by_start base collection before now told none (inl same) = inl same
left_by_start base collection before now told none (inr gone) = inr (inl (none (gone told)))
