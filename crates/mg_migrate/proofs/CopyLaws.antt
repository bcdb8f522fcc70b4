-- Copies of files: what is added and what is left as it is.
use Rattle.std.proofs.Common.{arith, ◌≡◌, ◌≢◌, ◌≤◌, ◌∙◌, ◌+◌, ◌++◌, ℕ, List, [], length, take, drop, refl, sym, ap, subst, Ok, Err, IsSome, None, Some}
use Rattle.std.specs.Option.{is_some, option_map, unwrap_or}
use Rattle.std.specs.declared.option.Option.{Option}
use Rattle.std.specs.Prelude.{IfErr, OnOk}
use Rattle.std.specs.declared.result.Result.{Result}
use Rattle.std.proofs.Math.Seq.{take-add, take-length}
use Rattle.std.proofs.lemmas.List.{append_cancel_right, take-append-le, take-take}
use Rattle.mg_dev.specs.Faults.{ReadStops}
use Rattle.mg_dev.specs.Files.{AfterAppend, Files, bytes_at, file_at, grown, written}
use Rattle.mg_dev.specs.Laws.{append-others, append-told, file_at-written}
use Rattle.mg_dev.specs.Names.{ending, full_name}
use Rattle.mg_dev.specs.declared.part.Part.{Part}
use Rattle.mg_dev.specs.declared.fault.Fault.{Fault}
use Rattle.mg_dev.specs.declared.fault.Fault.TheVariants as fault
use Rattle.mg_migrate.specs.Copying.{ChangedAlone}

-- an append, and a reset, change one file alone
pub append_alone : {E : Type 0} (before old new : Option Files) (name piece : List ℕ) (r : Result (Unit {0}) E) → old ≡ before → AfterAppend old new name piece r → ChangedAlone name before new
append_alone before old new name piece r same after = record {
  told = append-told old new name piece r after ∙ ap is_some same;
  others = λ n apart. append-others old new name n piece r after apart ∙ ap (λ f. file_at f n) same;
}

-- nothing changed before
pub alone_since : (name : List ℕ) (before old now : Option Files) → old ≡ before → ChangedAlone name old now → ChangedAlone name before now
alone_since name before old now same alone = subst (λ f. ChangedAlone name f now) same alone

pub alone_more : (name : List ℕ) (f g h : Option Files) → ChangedAlone name f g → ChangedAlone name g h → ChangedAlone name f h
alone_more name f g h one two = record { told = two.told ∙ one.told; others = λ n apart. two.others n apart ∙ one.others n apart }

-- the first bytes of the buffer are those of the file
pub first_of_read : (buf bytes : List ℕ) (n m at : ℕ) → take n buf ≡ take (length buf) (drop at bytes) → m ≤ n → n ≤ length buf → take m buf ≡ take m (drop at bytes)
first_of_read buf bytes n m at is low within = sym (take-take m n buf low) ∙ ap (take m) is ∙ take-take m (length buf) (drop at bytes) (omega (arith, low, within))

-- a vector all of whose places were written holds what was written
pub written_whole : (n : ℕ) (held buf items : List ℕ) → held ≡ take n (buf ++ drop (length buf) items) → n ≡ length buf → held ≡ buf
written_whole n held buf items is whole = is ∙ ap (λ k. take k (buf ++ drop (length buf) items)) whole
    ∙ take-append-le (length buf) buf (drop (length buf) items) (omega arith) ∙ take-length buf

-- what an append of bytes that were read leaves
pub appended_here : (before read now : Option Files) (to piece more : List ℕ) → read ≡ before → IsSome before → now ≡ grown read to piece → piece ≡ more →
    file_at now to ≡ Some (bytes_at before to ++ more)
appended_here before read now to piece more same told grew is =
    ap (λ f. file_at f to) grew ∙ file_at-written read to (bytes_at read to ++ piece) (subst (λ f. IsSome f) (sym same) told)
    ∙ ap (λ f. Some (bytes_at f to ++ piece)) same ∙ ap (λ x. Some (bytes_at before to ++ x)) is

-- ---- names

-- the same part of two bases has two names
pub bases_apart : (a b : List ℕ) (p : Part) → b ≢ a → full_name a p ≢ full_name b p
unfolding full_name
bases_apart a b p apart same = apart (sym (append_cancel_right a b (ending p) same))

-- ---- sizes and beginnings

pub size_here : (files : Option Files) (name : List ℕ) (size : Option ℕ) (n : ℕ) → size ≡ option_map length (file_at files name) → n ≡ unwrap_or size 0 → length (bytes_at files name) ≡ n
size_here files name size n is taken = by_case (file_at files name) ∙ ap (λ (o : Option ℕ). unwrap_or o 0) (sym is) ∙ sym taken
  where
    by_case : (o : Option (List ℕ)) → length (unwrap_or o []) ≡ unwrap_or (option_map length o) 0
    by_case None = refl
    by_case (Some x) = refl

pub emptied : (before old now : Option Files) (name : List ℕ) → old ≡ before → IsSome before → now ≡ written old name [] → file_at now name ≡ Some []
emptied before old now name same told is = ap (λ f. file_at f name) is ∙ file_at-written old name [] (subst (λ f. IsSome f) (sym same) told)

-- ---- one block more

module _ (from to : List ℕ) (before loop now : Option Files) (at : ℕ) (alone : ChangedAlone to before loop) (apart : from ≢ to) where
  pub told_here : IsSome before → IsSome loop
  told_here told = alone.told ∙ told

  pub from_here : bytes_at loop from ≡ bytes_at before from
  from_here = ap (λ (file : Option (List ℕ)). unwrap_or file []) (alone.others from apart)

  pub copied_more : (n : ℕ) → IsSome before → bytes_at loop to ≡ take at (bytes_at before from) →
      (IsSome loop → file_at now to ≡ Some (bytes_at loop to ++ take n (drop at (bytes_at loop from)))) → bytes_at now to ≡ take (at + n) (bytes_at before from)
  copied_more n told so_far more =
      ap (λ (file : Option (List ℕ)). unwrap_or file []) (more (told_here told)) ∙ ap (λ x. x ++ take n (drop at (bytes_at loop from))) so_far
      ∙ ap (λ x. take at (bytes_at before from) ++ take n (drop at x)) from_here ∙ sym (take-add at n (bytes_at before from))

-- ---- why copying stops

pub stops_more : (fault : Fault) (rose rose_since whole whole_since : Type 0) → (rose → rose_since) → (whole_since → whole) → ReadStops rose whole fault → ReadStops rose_since whole_since fault
stops_more fault.Usage rose rose_since whole whole_since up down stops = stops
stops_more fault.StoreFault rose rose_since whole whole_since up down stops = up stops
stops_more fault.ReadFault rose rose_since whole whole_since up down stops = stops
stops_more fault.WriteFault rose rose_since whole whole_since up down stops = stops
stops_more fault.NotBuilt rose rose_since whole whole_since up down stops = stops
stops_more (fault.Damaged bad) rose rose_since whole whole_since up down stops = λ is. stops (down is)
stops_more fault.NoCollection rose rose_since whole whole_since up down stops = stops
stops_more (fault.TooLarge size most) rose rose_since whole whole_since up down stops = stops
stops_more fault.TooManyDocuments rose rose_since whole whole_since up down stops = stops
stops_more (fault.TooManyPieces stream) rose rose_since whole whole_since up down stops = stops
stops_more (fault.Changed what first second) rose rose_since whole whole_since up down stops = stops
stops_more fault.Memory rose rose_since whole whole_since up down stops = tt
stops_more (fault.NameClash p) rose rose_since whole whole_since up down stops = stops
stops_more fault.InputTooLong rose rose_since whole whole_since up down stops = stops
stops_more fault.SameName rose rose_since whole whole_since up down stops = stops
stops_more (fault.TooManyRotations count) rose rose_since whole whole_since up down stops = stops

pub refused_more : {T : Type 0} (r : Result T Fault) {rose rose_since whole whole_since : Type 0} → (rose → rose_since) → (whole_since → whole) →
    IfErr r (ReadStops rose whole) → IfErr r (ReadStops rose_since whole_since)
refused_more (Ok done) up down stops = tt
refused_more (Err refusal) up down stops = stops_more refusal _ _ _ _ up down stops

-- what follows from what holds at `Ok`
pub ok_more : (r : Result (Unit {0}) Fault) (one two : Type 0) → (one → two) → OnOk r one → OnOk r two
ok_more (Ok done) one two more is = more is
ok_more (Err refusal) one two more is = tt
