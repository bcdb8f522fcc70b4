-- What is answered of refusals, by what the calls that refused answer.
use Rattle.std.proofs.Common.{◌≡◌, ◌⊎◌, ℕ, List, Option, Err, IsSome, refl, sym, ap, subst, inl, inr}
use Rattle.mg_dev.specs.Faults.{ReadStops}
use Rattle.mg_dev.specs.Files.{Files, bytes_at}
use Rattle.mg_dev.specs.Names.{full_name}
use Rattle.mg_dev.specs.declared.fault.Fault.{Fault}
use Rattle.mg_dev.specs.declared.fault.Fault.TheVariants as cause
use Rattle.mg_dev.specs.declared.part.Part.TheVariants as part
use Rattle.mg_defs.specs.declared.Stream.{Stream}
use Rattle.mg_defs.specs.Heads as defs
use Rattle.mg_defs.specs.Join.{join}
use Rattle.mg_defs.specs.Limits.{version_2}
use Rattle.mg_defs.specs.WithinLimits.{IsWithinLimits}
use Rattle.mg_defs.specs.Marks.{Mark, PassesFirst, piece, start}
use Rattle.mg_defs.specs.Stands.{head_of}
use Rattle.mg_laws.proofs.FirstMarks.{first_is_beyond, one_first, within_from}
use Rattle.mg_layout.specs.Stands.{HasNoHead}
use Rattle.mg_layout.proofs.CallerLemmas.{no_empty_head, own_head}
use Rattle.mg_dev.specs.Runs.{IsDone, RefusedFor}
use Rattle.mg_merge.specs.Merging.{BothStand, MergeStops}
use Rattle.mg_make.specs.Outcomes.{IsEarly}
use Rattle.mg_merge.specs.Stops.{AreHeads, CountingStops, HeadStops, TellBeyond}

-- the store failed and its failures rose, or memory lacks
abbrev pub OnlyFails : Type 0 → Fault → Type 0
OnlyFails rose fault = ((fault ≡ cause.StoreFault) × rose) ⊎ (fault ≡ cause.Memory)

pub only_refused : {T : Type 0} (rose : Type 0) (fault wanted : Fault) → OnlyFails rose fault → RefusedFor {T = T} (Err fault) wanted
only_refused rose fault wanted (inl only) = inr (inl (ap Err only.0))
only_refused rose fault wanted (inr only) = inr (inr (ap Err only))

pub only_done : (T : Type 0) (rose : Type 0) (fault : Fault) → (rose → ⊥) → OnlyFails rose fault → IsDone {T = T} (Err fault)
only_done T rose fault never (inl only) = absurd (never only.1)
only_done T rose fault never (inr only) = subst (λ f. IsDone {T = T} (Err f)) (sym only) tt

-- ---- limits

-- two marks of which each is the first beyond a limit are one
same_kind : (bytes : List ℕ) (one other : Stream) (x y : List ℕ) → PassesFirst version_2 bytes (piece one x) → PassesFirst version_2 bytes (piece other y) → one ≡ other
same_kind bytes one other x y first second = kinds (one_first version_2 bytes (piece one x) (piece other y) first second)
  where
    kinds : piece one x ≡ piece other y → one ≡ other
    kinds same = cc

not_both : (bytes : List ℕ) (stream : Stream) (x : List ℕ) → PassesFirst version_2 bytes start → PassesFirst version_2 bytes (piece stream x) → ⊥
not_both bytes stream x first second = never (one_first version_2 bytes start (piece stream x) first second)
  where
    never : start ≡ piece stream x → ⊥
    never same = cc

pub within_passes : (bytes : List ℕ) (mark : Mark) → IsWithinLimits 2 bytes → PassesFirst version_2 bytes mark → ⊥
within_passes bytes mark limits first = first_is_beyond version_2 bytes mark first (within_from 2 bytes limits)

-- ---- heads

-- heads that are there are not missing
pub none_missing : (files : Option Files) (first second : List ℕ) (a b : defs.Head) → AreHeads files first second a b → HasNoHead files first ⊎ HasNoHead files second → ⊥
none_missing files first second a b are (inl missing) = no_empty_head (bytes_at files (full_name first part.Head)) a are.first_is missing
none_missing files first second a b are (inr missing) = no_empty_head (bytes_at files (full_name second part.Head)) b are.second_is missing

pub heads_of_both : (files : Option Files) (first second a b : List ℕ) → BothStand files first second a b → (h : defs.Head) × (k : defs.Head) × AreHeads files first second h k
heads_of_both files first second a b both = (
  head_of both.first_stands.stand.version both.first_stands.stand.cap both.first_stands.stand.code a,
  head_of both.second_stands.stand.version both.second_stands.stand.cap both.second_stands.stand.code b,
  record { first_is = own_head files first a both.first_stands; second_is = own_head files second b both.second_stands },
)

pub heads_only : (rose : Type 0) (files : Option Files) (first second : List ℕ) (a b : defs.Head) (fault : Fault) → IsSome files →
    AreHeads files first second a b → HeadStops rose files first second fault → OnlyFails rose fault
heads_only rose files first second a b cause.Usage told are stop = absurd stop
heads_only rose files first second a b cause.StoreFault told are stop = inl (refl, stop)
heads_only rose files first second a b cause.ReadFault told are stop = absurd stop
heads_only rose files first second a b cause.WriteFault told are stop = absurd stop
heads_only rose files first second a b cause.NotBuilt told are stop = absurd (none_missing files first second a b are (stop told))
heads_only rose files first second a b (cause.Damaged bad) told are stop = absurd (stop told a b are)
heads_only rose files first second a b cause.NoCollection told are stop = absurd stop
heads_only rose files first second a b (cause.TooLarge bytes most) told are stop = absurd stop
heads_only rose files first second a b cause.TooManyDocuments told are stop = absurd stop
heads_only rose files first second a b (cause.TooManyPieces kind) told are stop = absurd stop
heads_only rose files first second a b (cause.Changed what one two) told are stop = absurd stop
heads_only rose files first second a b cause.Memory told are stop = inr refl
heads_only rose files first second a b (cause.NameClash part) told are stop = absurd stop
heads_only rose files first second a b cause.InputTooLong told are stop = absurd stop
heads_only rose files first second a b cause.SameName told are stop = absurd stop
heads_only rose files first second a b (cause.TooManyRotations count) told are stop = absurd stop

pub heads_cause : (rose now : Type 0) (files : Option Files) (first second new : List ℕ) (fault : Fault) → (rose → now) →
    HeadStops rose files first second fault → MergeStops now files first second new fault
heads_cause rose now files first second new cause.Usage grows stop = absurd stop
heads_cause rose now files first second new cause.StoreFault grows stop = grows stop
heads_cause rose now files first second new cause.ReadFault grows stop = absurd stop
heads_cause rose now files first second new cause.WriteFault grows stop = absurd stop
heads_cause rose now files first second new cause.NotBuilt grows stop = stop
heads_cause rose now files first second new (cause.Damaged bad) grows stop = λ a b both. let heads = heads_of_both files first second a b both in stop both.first_stands.told heads.0 heads.1 heads.2
heads_cause rose now files first second new cause.NoCollection grows stop = absurd stop
heads_cause rose now files first second new (cause.TooLarge bytes most) grows stop = absurd stop
heads_cause rose now files first second new cause.TooManyDocuments grows stop = absurd stop
heads_cause rose now files first second new (cause.TooManyPieces kind) grows stop = absurd stop
heads_cause rose now files first second new (cause.Changed what one two) grows stop = absurd stop
heads_cause rose now files first second new cause.Memory grows stop = tt
heads_cause rose now files first second new (cause.NameClash part) grows stop = absurd stop
heads_cause rose now files first second new cause.InputTooLong grows stop = absurd stop
heads_cause rose now files first second new cause.SameName grows stop = absurd stop
heads_cause rose now files first second new (cause.TooManyRotations count) grows stop = absurd stop

-- ---- texts

pub read_only : (rose whole : Type 0) (fault : Fault) → whole → ReadStops rose whole fault → OnlyFails rose fault
read_only rose whole cause.Usage is stop = absurd stop
read_only rose whole cause.StoreFault is stop = inl (refl, stop)
read_only rose whole cause.ReadFault is stop = absurd stop
read_only rose whole cause.WriteFault is stop = absurd stop
read_only rose whole cause.NotBuilt is stop = absurd stop
read_only rose whole (cause.Damaged bad) is stop = absurd (stop is)
read_only rose whole cause.NoCollection is stop = absurd stop
read_only rose whole (cause.TooLarge bytes most) is stop = absurd stop
read_only rose whole cause.TooManyDocuments is stop = absurd stop
read_only rose whole (cause.TooManyPieces kind) is stop = absurd stop
read_only rose whole (cause.Changed what one two) is stop = absurd stop
read_only rose whole cause.Memory is stop = inr refl
read_only rose whole (cause.NameClash part) is stop = absurd stop
read_only rose whole cause.InputTooLong is stop = absurd stop
read_only rose whole cause.SameName is stop = absurd stop
read_only rose whole (cause.TooManyRotations count) is stop = absurd stop

pub read_cause : (rose now whole : Type 0) (files : Option Files) (first second new : List ℕ) (fault : Fault) → (rose → now) →
    ((a b : List ℕ) → BothStand files first second a b → whole) → ReadStops rose whole fault → MergeStops now files first second new fault
read_cause rose now whole files first second new cause.Usage grows is stop = absurd stop
read_cause rose now whole files first second new cause.StoreFault grows is stop = grows stop
read_cause rose now whole files first second new cause.ReadFault grows is stop = absurd stop
read_cause rose now whole files first second new cause.WriteFault grows is stop = absurd stop
read_cause rose now whole files first second new cause.NotBuilt grows is stop = absurd stop
read_cause rose now whole files first second new (cause.Damaged bad) grows is stop = λ a b both. stop (is a b both)
read_cause rose now whole files first second new cause.NoCollection grows is stop = absurd stop
read_cause rose now whole files first second new (cause.TooLarge bytes most) grows is stop = absurd stop
read_cause rose now whole files first second new cause.TooManyDocuments grows is stop = absurd stop
read_cause rose now whole files first second new (cause.TooManyPieces kind) grows is stop = absurd stop
read_cause rose now whole files first second new (cause.Changed what one two) grows is stop = absurd stop
read_cause rose now whole files first second new cause.Memory grows is stop = tt
read_cause rose now whole files first second new (cause.NameClash part) grows is stop = absurd stop
read_cause rose now whole files first second new cause.InputTooLong grows is stop = absurd stop
read_cause rose now whole files first second new cause.SameName grows is stop = absurd stop
read_cause rose now whole files first second new (cause.TooManyRotations count) grows is stop = absurd stop

-- it was not before the first write
pub read_late : (rose whole : Type 0) (fault : Fault) → ReadStops rose whole fault → IsEarly fault → ⊥
read_late rose whole cause.Usage stop early = early
read_late rose whole cause.StoreFault stop early = early
read_late rose whole cause.ReadFault stop early = early
read_late rose whole cause.WriteFault stop early = early
read_late rose whole cause.NotBuilt stop early = stop
read_late rose whole (cause.Damaged bad) stop early = early
read_late rose whole cause.NoCollection stop early = stop
read_late rose whole (cause.TooLarge bytes most) stop early = stop
read_late rose whole cause.TooManyDocuments stop early = stop
read_late rose whole (cause.TooManyPieces kind) stop early = stop
read_late rose whole (cause.Changed what one two) stop early = early
read_late rose whole cause.Memory stop early = early
read_late rose whole (cause.NameClash part) stop early = stop
read_late rose whole cause.InputTooLong stop early = early
read_late rose whole cause.SameName stop early = stop
read_late rose whole (cause.TooManyRotations count) stop early = early

-- ---- counting

-- what is read with no document counted
pub read_counts : (rose now whole : Type 0) (stands : List ℕ → Type 0) (fault : Fault) → (rose → now) → ((collection : List ℕ) → stands collection → whole) →
    ReadStops rose whole fault → CountingStops now stands fault
read_counts rose now whole stands cause.Usage grows is stop = absurd stop
read_counts rose now whole stands cause.StoreFault grows is stop = grows stop
read_counts rose now whole stands cause.ReadFault grows is stop = absurd stop
read_counts rose now whole stands cause.WriteFault grows is stop = absurd stop
read_counts rose now whole stands cause.NotBuilt grows is stop = absurd stop
read_counts rose now whole stands (cause.Damaged bad) grows is stop = λ collection stand. stop (is collection stand)
read_counts rose now whole stands cause.NoCollection grows is stop = absurd stop
read_counts rose now whole stands (cause.TooLarge bytes most) grows is stop = absurd stop
read_counts rose now whole stands cause.TooManyDocuments grows is stop = absurd stop
read_counts rose now whole stands (cause.TooManyPieces kind) grows is stop = absurd stop
read_counts rose now whole stands (cause.Changed what one two) grows is stop = absurd stop
read_counts rose now whole stands cause.Memory grows is stop = tt
read_counts rose now whole stands (cause.NameClash part) grows is stop = absurd stop
read_counts rose now whole stands cause.InputTooLong grows is stop = absurd stop
read_counts rose now whole stands cause.SameName grows is stop = absurd stop
read_counts rose now whole stands (cause.TooManyRotations count) grows is stop = absurd stop

-- where documents pass a limit first, it is refused for them
pub counting_documents : {T : Type 0} (rose : Type 0) (stands : List ℕ → Type 0) (collection : List ℕ) (fault : Fault) → stands collection →
    PassesFirst version_2 collection start → CountingStops rose stands fault → RefusedFor {T = T} (Err fault) cause.TooManyDocuments
counting_documents rose stands collection cause.Usage stand first stop = absurd stop
counting_documents rose stands collection cause.StoreFault stand first stop = inr (inl refl)
counting_documents rose stands collection cause.ReadFault stand first stop = absurd stop
counting_documents rose stands collection cause.WriteFault stand first stop = absurd stop
counting_documents rose stands collection cause.NotBuilt stand first stop = absurd stop
counting_documents rose stands collection (cause.Damaged bad) stand first stop = absurd (stop collection stand)
counting_documents rose stands collection cause.NoCollection stand first stop = absurd stop
counting_documents rose stands collection (cause.TooLarge bytes most) stand first stop = absurd stop
counting_documents rose stands collection cause.TooManyDocuments stand first stop = inl refl
counting_documents rose stands collection (cause.TooManyPieces kind) stand first stop = let other = stop collection stand in absurd (not_both collection kind other.0 first other.1)
counting_documents rose stands collection (cause.Changed what one two) stand first stop = absurd stop
counting_documents rose stands collection cause.Memory stand first stop = inr (inr refl)
counting_documents rose stands collection (cause.NameClash part) stand first stop = absurd stop
counting_documents rose stands collection cause.InputTooLong stand first stop = absurd stop
counting_documents rose stands collection cause.SameName stand first stop = absurd stop
counting_documents rose stands collection (cause.TooManyRotations count) stand first stop = absurd stop

-- where a piece passes a limit first, it is refused for its stream
pub counting_pieces : {T : Type 0} (rose : Type 0) (stands : List ℕ → Type 0) (collection : List ℕ) (stream : Stream) (x : List ℕ) (fault : Fault) →
    stands collection → PassesFirst version_2 collection (piece stream x) → CountingStops rose stands fault →
    RefusedFor {T = T} (Err fault) (cause.TooManyPieces stream)
counting_pieces rose stands collection stream x cause.Usage stand first stop = absurd stop
counting_pieces rose stands collection stream x cause.StoreFault stand first stop = inr (inl refl)
counting_pieces rose stands collection stream x cause.ReadFault stand first stop = absurd stop
counting_pieces rose stands collection stream x cause.WriteFault stand first stop = absurd stop
counting_pieces rose stands collection stream x cause.NotBuilt stand first stop = absurd stop
counting_pieces rose stands collection stream x (cause.Damaged bad) stand first stop = absurd (stop collection stand)
counting_pieces rose stands collection stream x cause.NoCollection stand first stop = absurd stop
counting_pieces rose stands collection stream x (cause.TooLarge bytes most) stand first stop = absurd stop
counting_pieces rose stands collection stream x cause.TooManyDocuments stand first stop = absurd (not_both collection stream x (stop collection stand) first)
counting_pieces rose stands collection stream x (cause.TooManyPieces kind) stand first stop = let found = stop collection stand in
    inl (ap (λ s. Err (cause.TooManyPieces s)) (same_kind collection kind stream found.0 x found.1 first))
counting_pieces rose stands collection stream x (cause.Changed what one two) stand first stop = absurd stop
counting_pieces rose stands collection stream x cause.Memory stand first stop = inr (inr refl)
counting_pieces rose stands collection stream x (cause.NameClash part) stand first stop = absurd stop
counting_pieces rose stands collection stream x cause.InputTooLong stand first stop = absurd stop
counting_pieces rose stands collection stream x cause.SameName stand first stop = absurd stop
counting_pieces rose stands collection stream x (cause.TooManyRotations count) stand first stop = absurd stop

-- a collection within the limits is counted, unless the store fails or memory lacks
pub counting_only : (rose : Type 0) (stands : List ℕ → Type 0) (collection : List ℕ) (fault : Fault) → stands collection → IsWithinLimits 2 collection →
    CountingStops rose stands fault → OnlyFails rose fault
counting_only rose stands collection cause.Usage stand limits stop = absurd stop
counting_only rose stands collection cause.StoreFault stand limits stop = inl (refl, stop)
counting_only rose stands collection cause.ReadFault stand limits stop = absurd stop
counting_only rose stands collection cause.WriteFault stand limits stop = absurd stop
counting_only rose stands collection cause.NotBuilt stand limits stop = absurd stop
counting_only rose stands collection (cause.Damaged bad) stand limits stop = absurd (stop collection stand)
counting_only rose stands collection cause.NoCollection stand limits stop = absurd stop
counting_only rose stands collection (cause.TooLarge bytes most) stand limits stop = absurd stop
counting_only rose stands collection cause.TooManyDocuments stand limits stop = absurd (within_passes collection start limits (stop collection stand))
counting_only rose stands collection (cause.TooManyPieces kind) stand limits stop = let found = stop collection stand in absurd (within_passes collection (piece kind found.0) limits found.1)
counting_only rose stands collection (cause.Changed what one two) stand limits stop = absurd stop
counting_only rose stands collection cause.Memory stand limits stop = inr refl
counting_only rose stands collection (cause.NameClash part) stand limits stop = absurd stop
counting_only rose stands collection cause.InputTooLong stand limits stop = absurd stop
counting_only rose stands collection cause.SameName stand limits stop = absurd stop
counting_only rose stands collection (cause.TooManyRotations count) stand limits stop = absurd stop

pub counting_cause : (rose now : Type 0) (stands : List ℕ → Type 0) (files : Option Files) (first second new : List ℕ) (fault : Fault) → (rose → now) →
    ((a b : List ℕ) → BothStand files first second a b → stands (join a b)) → (IsSome files → TellBeyond files first second fault) → CountingStops rose stands fault
    → MergeStops now files first second new fault
counting_cause rose now stands files first second new cause.Usage grows is told stop = absurd stop
counting_cause rose now stands files first second new cause.StoreFault grows is told stop = grows stop
counting_cause rose now stands files first second new cause.ReadFault grows is told stop = absurd stop
counting_cause rose now stands files first second new cause.WriteFault grows is told stop = absurd stop
counting_cause rose now stands files first second new cause.NotBuilt grows is told stop = absurd stop
counting_cause rose now stands files first second new (cause.Damaged bad) grows is told stop = λ a b both. stop (join a b) (is a b both)
counting_cause rose now stands files first second new cause.NoCollection grows is told stop = absurd stop
counting_cause rose now stands files first second new (cause.TooLarge bytes most) grows is told stop = absurd stop
counting_cause rose now stands files first second new cause.TooManyDocuments grows is told stop = (λ a b both. stop (join a b) (is a b both), told)
counting_cause rose now stands files first second new (cause.TooManyPieces kind) grows is told stop = (λ a b both. stop (join a b) (is a b both), told)
counting_cause rose now stands files first second new (cause.Changed what one two) grows is told stop = absurd stop
counting_cause rose now stands files first second new cause.Memory grows is told stop = tt
counting_cause rose now stands files first second new (cause.NameClash part) grows is told stop = absurd stop
counting_cause rose now stands files first second new cause.InputTooLong grows is told stop = absurd stop
counting_cause rose now stands files first second new cause.SameName grows is told stop = absurd stop
counting_cause rose now stands files first second new (cause.TooManyRotations count) grows is told stop = absurd stop
