-- What a build answers, by what the calls that it makes answer.
use Rattle.std.proofs.Common.{◌+◌, ◌/◌, ◌≡◌, ◌≤◌, ◌⊎◌, ℕ, List, [], length, Option, None, Some, Ok, Err, IsSome, refl, sym, ap, subst, inl, inr}
use Rattle.std.specs.Prelude.{IfErr, OnOk, Result}
use Rattle.std.specs.Option.{unwrap_or}
use Rattle.mg_dev.specs.Files.{Files, HasSize, bytes_at, file_at}
use Rattle.mg_dev.specs.Laws.{size_is}
use Rattle.mg_dev.specs.Names.{full_name}
use Rattle.mg_dev.specs.declared.fault.Fault.{Fault}
use Rattle.mg_dev.specs.declared.fault.Fault.TheVariants as cause
use Rattle.mg_dev.specs.declared.part.Part.TheVariants as part
use Rattle.mg_defs.specs.declared.Stream.{Stream}
use Rattle.mg_defs.specs.Limits.{version_2}
use Rattle.mg_defs.specs.WithinLimits.{IsWithinLimits}
use Rattle.mg_defs.specs.Marks.{Mark, PassesFirst, piece, start}
use Rattle.mg_defs.specs.Split.{documents}
use Rattle.mg_defs.specs.TextBits.{text_bits}
use Rattle.mg_defs.proofs.TextBitsLaws.{text-within}
use Rattle.mg_laws.proofs.FirstMarks.{first_is_beyond, one_first, within_from}
use Rattle.mg_layout.specs.Stands.{StandsIn}
use Rattle.mg_build.specs.Building.{BuildStops, PassStops, WriteStops}
use Rattle.mg_dev.specs.Runs.{IsDone, RefusedFor}
use Rattle.mg_make.specs.Outcomes.{IsEarly}

-- ---- the file

-- a file that is there is told
pub is_told : (files : Option Files) (name bytes : List ℕ) → file_at files name ≡ Some bytes → IsSome files
unfolding file_at
is_told None name bytes is = cc
is_told (Some f) name bytes is = refl

pub its_bytes : (files : Option Files) (name bytes : List ℕ) → file_at files name ≡ Some bytes → bytes_at files name ≡ bytes
its_bytes files name bytes is = ap (λ (file : Option (List ℕ)). unwrap_or file []) is

-- ---- limits

-- two marks of which each is the first beyond a limit are one
same_kind : (bytes : List ℕ) (one other : Stream) (x y : List ℕ) → PassesFirst version_2 bytes (piece one x) → PassesFirst version_2 bytes (piece other y) → one ≡ other
same_kind bytes one other x y first second = kinds (one_first version_2 bytes (piece one x) (piece other y) first second)
  where
    kinds : piece one x ≡ piece other y → one ≡ other
    kinds same = cc

not_both : (bytes : List ℕ) (stream : Stream) (x : List ℕ) → PassesFirst version_2 bytes start → PassesFirst version_2 bytes (piece stream x) → ⊥
not_both bytes stream x first second = never (one_first version_2 bytes start (piece stream x) first second)
  where
    never : start ≡ piece stream x → ⊥
    never same = cc

pub within_passes : (bytes : List ℕ) (mark : Mark) → IsWithinLimits 2 bytes → PassesFirst version_2 bytes mark → ⊥
within_passes bytes mark limits first = first_is_beyond version_2 bytes mark first (within_from 2 bytes limits)

-- ---- it is refused

pub done_or_lacks : (T : Type 0) (rose : Type 0) (fault : Fault) → (rose → ⊥) → ((fault ≡ cause.StoreFault) × rose) ⊎ (fault ≡ cause.Memory) → IsDone {T = T} (Err fault)
done_or_lacks T rose fault never (inl only) = absurd (never only.1)
done_or_lacks T rose fault never (inr only) = subst (λ f. IsDone {T = T} (Err f)) (sym only) tt

-- ---- it is not counted

-- where documents pass a limit first, it is refused for them
pub pass_documents : {T : Type 0} (rose : Type 0) (files : Option Files) (name bytes : List ℕ) (size : ℕ) (fault : Fault) → file_at files name ≡ Some bytes →
    HasSize files name size → PassesFirst version_2 bytes start → PassStops rose files name size fault → RefusedFor {T = T} (Err fault) cause.TooManyDocuments
pass_documents rose files name bytes size cause.StoreFault is has first stop = inr (inl refl)
pass_documents rose files name bytes size cause.Memory is has first stop = inr (inr refl)
pass_documents rose files name bytes size cause.TooManyDocuments is has first stop = inl refl
pass_documents rose files name bytes size (cause.TooManyPieces stream) is has first stop =
    let told : IsSome files = is_told files name bytes is in
    let other = stop told (size_is files name size (has told)) in
    absurd (not_both bytes stream other.0 first (subst (λ b. PassesFirst version_2 b (piece stream other.0)) (its_bytes files name bytes is) other.1))
pass_documents rose files name bytes size (cause.Changed what one two) is has first stop = absurd (stop.1 (is_told files name bytes is) (size_is files name size (has (is_told files name bytes is))))
pass_documents rose files name bytes size cause.Usage is has first stop = absurd stop
pass_documents rose files name bytes size cause.ReadFault is has first stop = absurd stop
pass_documents rose files name bytes size cause.WriteFault is has first stop = absurd stop
pass_documents rose files name bytes size cause.NotBuilt is has first stop = absurd stop
pass_documents rose files name bytes size (cause.Damaged bad) is has first stop = absurd stop
pass_documents rose files name bytes size cause.NoCollection is has first stop = absurd stop
pass_documents rose files name bytes size (cause.TooLarge most_size most) is has first stop = absurd stop
pass_documents rose files name bytes size (cause.NameClash p) is has first stop = absurd stop
pass_documents rose files name bytes size cause.InputTooLong is has first stop = absurd stop
pass_documents rose files name bytes size cause.SameName is has first stop = absurd stop
pass_documents rose files name bytes size (cause.TooManyRotations count) is has first stop = absurd stop

-- where a piece passes a limit first, it is refused for its stream
pub pass_pieces : {T : Type 0} (rose : Type 0) (files : Option Files) (name bytes : List ℕ) (size : ℕ) (stream : Stream) (x : List ℕ) (fault : Fault) →
    file_at files name ≡ Some bytes → HasSize files name size → PassesFirst version_2 bytes (piece stream x) → PassStops rose files name size fault
    → RefusedFor {T = T} (Err fault) (cause.TooManyPieces stream)
pass_pieces rose files name bytes size stream x cause.StoreFault is has first stop = inr (inl refl)
pass_pieces rose files name bytes size stream x cause.Memory is has first stop = inr (inr refl)
pass_pieces rose files name bytes size stream x cause.TooManyDocuments is has first stop =
    let told : IsSome files = is_told files name bytes is in
    absurd (not_both bytes stream x (subst (λ b. PassesFirst version_2 b start) (its_bytes files name bytes is) (stop told (size_is files name size (has told)))) first)
pass_pieces rose files name bytes size stream x (cause.TooManyPieces other) is has first stop =
    let told : IsSome files = is_told files name bytes is in
    let found = stop told (size_is files name size (has told)) in
    inl (ap (λ s. Err (cause.TooManyPieces s)) (same_kind bytes other stream found.0 x (subst (λ b. PassesFirst version_2 b (piece other found.0)) (its_bytes files name bytes is) found.1) first))
pass_pieces rose files name bytes size stream x (cause.Changed what one two) is has first stop =
    absurd (stop.1 (is_told files name bytes is) (size_is files name size (has (is_told files name bytes is))))
pass_pieces rose files name bytes size stream x cause.Usage is has first stop = absurd stop
pass_pieces rose files name bytes size stream x cause.ReadFault is has first stop = absurd stop
pass_pieces rose files name bytes size stream x cause.WriteFault is has first stop = absurd stop
pass_pieces rose files name bytes size stream x cause.NotBuilt is has first stop = absurd stop
pass_pieces rose files name bytes size stream x (cause.Damaged bad) is has first stop = absurd stop
pass_pieces rose files name bytes size stream x cause.NoCollection is has first stop = absurd stop
pass_pieces rose files name bytes size stream x (cause.TooLarge most_size most) is has first stop = absurd stop
pass_pieces rose files name bytes size stream x (cause.NameClash p) is has first stop = absurd stop
pass_pieces rose files name bytes size stream x cause.InputTooLong is has first stop = absurd stop
pass_pieces rose files name bytes size stream x cause.SameName is has first stop = absurd stop
pass_pieces rose files name bytes size stream x (cause.TooManyRotations count) is has first stop = absurd stop

-- a collection within the limits is counted, unless the store fails or memory lacks
pub pass_only : (rose : Type 0) (files : Option Files) (name bytes : List ℕ) (size : ℕ) (fault : Fault) → file_at files name ≡ Some bytes →
    HasSize files name size → IsWithinLimits 2 bytes → PassStops rose files name size fault → ((fault ≡ cause.StoreFault) × rose) ⊎ (fault ≡ cause.Memory)
pass_only rose files name bytes size cause.StoreFault is has limits stop = inl (refl, stop)
pass_only rose files name bytes size cause.Memory is has limits stop = inr refl
pass_only rose files name bytes size cause.TooManyDocuments is has limits stop =
    let told : IsSome files = is_told files name bytes is in
    absurd (within_passes bytes start limits (subst (λ b. PassesFirst version_2 b start) (its_bytes files name bytes is) (stop told (size_is files name size (has told)))))
pass_only rose files name bytes size (cause.TooManyPieces stream) is has limits stop =
    let told : IsSome files = is_told files name bytes is in
    let found = stop told (size_is files name size (has told)) in
    absurd (within_passes bytes (piece stream found.0) limits (subst (λ b. PassesFirst version_2 b (piece stream found.0)) (its_bytes files name bytes is) found.1))
pass_only rose files name bytes size (cause.Changed what one two) is has limits stop = absurd (stop.1 (is_told files name bytes is) (size_is files name size (has (is_told files name bytes is))))
pass_only rose files name bytes size cause.Usage is has limits stop = absurd stop
pass_only rose files name bytes size cause.ReadFault is has limits stop = absurd stop
pass_only rose files name bytes size cause.WriteFault is has limits stop = absurd stop
pass_only rose files name bytes size cause.NotBuilt is has limits stop = absurd stop
pass_only rose files name bytes size (cause.Damaged bad) is has limits stop = absurd stop
pass_only rose files name bytes size cause.NoCollection is has limits stop = absurd stop
pass_only rose files name bytes size (cause.TooLarge most_size most) is has limits stop = absurd stop
pass_only rose files name bytes size (cause.NameClash p) is has limits stop = absurd stop
pass_only rose files name bytes size cause.InputTooLong is has limits stop = absurd stop
pass_only rose files name bytes size cause.SameName is has limits stop = absurd stop
pass_only rose files name bytes size (cause.TooManyRotations count) is has limits stop = absurd stop

-- ---- it is not written

pub write_only : (rose same : Type 0) (fault : Fault) → same → WriteStops rose same fault → ((fault ≡ cause.StoreFault) × rose) ⊎ (fault ≡ cause.Memory)
write_only rose same cause.StoreFault is stop = inl (refl, stop)
write_only rose same cause.Memory is stop = inr refl
write_only rose same (cause.Changed what one two) is stop = absurd (stop.1 is)
write_only rose same (cause.Damaged bad) is stop = absurd (stop is)
write_only rose same cause.Usage is stop = absurd stop
write_only rose same cause.ReadFault is stop = absurd stop
write_only rose same cause.WriteFault is stop = absurd stop
write_only rose same cause.NotBuilt is stop = absurd stop
write_only rose same cause.NoCollection is stop = absurd stop
write_only rose same (cause.TooLarge bytes most) is stop = absurd stop
write_only rose same cause.TooManyDocuments is stop = absurd stop
write_only rose same (cause.TooManyPieces stream) is stop = absurd stop
write_only rose same (cause.NameClash p) is stop = absurd stop
write_only rose same cause.InputTooLong is stop = absurd stop
write_only rose same cause.SameName is stop = absurd stop
write_only rose same (cause.TooManyRotations count) is stop = absurd stop

-- it was not before the first write
pub write_late : (rose same : Type 0) (fault : Fault) → WriteStops rose same fault → IsEarly fault → ⊥
write_late rose same cause.NoCollection stop early = stop
write_late rose same (cause.TooLarge size most) stop early = stop
write_late rose same cause.TooManyDocuments stop early = stop
write_late rose same (cause.TooManyPieces stream) stop early = stop
write_late rose same (cause.NameClash p) stop early = stop
write_late rose same cause.Usage stop early = early
write_late rose same cause.StoreFault stop early = early
write_late rose same cause.ReadFault stop early = early
write_late rose same cause.WriteFault stop early = early
write_late rose same cause.NotBuilt stop early = stop
write_late rose same (cause.Damaged bad) stop early = early
write_late rose same (cause.Changed what first second) stop early = early
write_late rose same cause.Memory stop early = early
write_late rose same cause.InputTooLong stop early = early
write_late rose same cause.SameName stop early = stop
write_late rose same (cause.TooManyRotations count) stop early = early

-- its cause is one of a build's
pub write_cause : (rose now same : Type 0) (files : Option Files) (name base : List ℕ) (fault : Fault) → (rose → now) → (IsSome files → same) →
    WriteStops rose same fault → BuildStops now files name base fault
write_cause rose now same files name base cause.StoreFault grows is stop = grows stop
write_cause rose now same files name base cause.Memory grows is stop = tt
write_cause rose now same files name base (cause.Changed what one two) grows is stop = (stop.0, λ told. stop.1 (is told))
write_cause rose now same files name base (cause.Damaged bad) grows is stop = λ told. stop (is told)
write_cause rose now same files name base cause.Usage grows is stop = absurd stop
write_cause rose now same files name base cause.ReadFault grows is stop = absurd stop
write_cause rose now same files name base cause.WriteFault grows is stop = absurd stop
write_cause rose now same files name base cause.NotBuilt grows is stop = absurd stop
write_cause rose now same files name base cause.NoCollection grows is stop = absurd stop
write_cause rose now same files name base (cause.TooLarge bytes most) grows is stop = absurd stop
write_cause rose now same files name base cause.TooManyDocuments grows is stop = absurd stop
write_cause rose now same files name base (cause.TooManyPieces stream) grows is stop = absurd stop
write_cause rose now same files name base (cause.NameClash p) grows is stop = absurd stop
write_cause rose now same files name base cause.InputTooLong grows is stop = absurd stop
write_cause rose now same files name base cause.SameName grows is stop = absurd stop
write_cause rose now same files name base (cause.TooManyRotations count) grows is stop = absurd stop

-- ---- whatever it answered

-- what holds of every refusal, and of none
pub early_all : {T : Type 0} (r : Result T Fault) (rose same kept : Type 0) → IfErr r (WriteStops rose same) → IfErr r (λ fault. IsEarly fault → kept)
early_all (Ok value) rose same kept stop = tt
early_all (Err fault) rose same kept stop = λ early. absurd (write_late rose same fault stop early)

pub cause_all : {T : Type 0} (r : Result T Fault) (rose now same : Type 0) (files : Option Files) (name base : List ℕ) → (rose → now) → (IsSome files → same) →
    IfErr r (WriteStops rose same) → IfErr r (BuildStops now files name base)
cause_all (Ok value) rose now same files name base grows is stop = tt
cause_all (Err fault) rose now same files name base grows is stop = write_cause rose now same files name base fault grows is stop

pub done_all : {T : Type 0} (r : Result T Fault) (rose now same : Type 0) → (rose → now) → (now → ⊥) → same → IfErr r (WriteStops rose same) → IsDone r
done_all (Ok value) rose now same grows never is stop = tt
done_all {T} (Err fault) rose now same grows never is stop = done_or_lacks T rose fault (λ rises. never (grows rises)) (write_only rose same fault is stop)

-- the bytes of Text of a set that stands
pub text_all : {T : Type 0} (r : Result T Fault) (cap : ℕ) (files : Option Files) (base collection : List ℕ) → OnOk r (StandsIn 2 cap files base collection) →
    OnOk r (length (bytes_at files (full_name base part.Text)) ≤ text_bits collection / 8 + length (documents collection))
text_all (Ok value) cap files base collection stands = subst (λ n. n ≤ text_bits collection / 8 + length (documents collection))
    (sym (ap length stands.are.text)) (text-within stands.code collection stands.are.code_is)
text_all (Err fault) cap files base collection stands = tt
