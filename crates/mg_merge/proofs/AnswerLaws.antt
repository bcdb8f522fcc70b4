-- What a merge answered is what it did.
use Rattle.std.proofs.Common.{◌≡◌, ◌≢◌, ◌⊎◌, ◌<◌, ◌≤◌, ℕ, List, [], length, Some, IsSome, Err, Option, ap, inl, inr, refl}
use Rattle.std.specs.Prelude.{Result, OnOk, IfErr}
use Rattle.mg_dev.specs.Files.{Files, file_at}
use Rattle.mg_dev.specs.Moments.{StoreAt, StoreRose}
use Rattle.mg_dev.specs.Names.{full_name}
use Rattle.mg_dev.specs.Runs.{IsDone, RefusedFor, status_of}
use Rattle.mg_dev.specs.declared.part.Part.TheVariants as part
use Rattle.mg_dev.specs.declared.fault.Fault.{Fault}
use Rattle.mg_dev.specs.declared.fault.Fault.TheVariants.{NotBuilt, TooLarge, TooManyDocuments, TooManyPieces, SameName}
use Rattle.mg_defs.specs.declared.Stream.{Stream}
use Rattle.mg_defs.specs.Join.{join}
use Rattle.mg_defs.specs.Limits.{version_2}
use Rattle.mg_defs.specs.WithinLimits.{IsWithinLimits}
use Rattle.mg_defs.specs.Marks.{PassesFirst, start, piece}
use Rattle.mg_layout.specs.Stands.{HasNoHead, Stands, StandsIn}
use Rattle.mg_make.specs.Putting.{OthersSame}
use Rattle.mg_merge.specs.Joined.{Joined}
use Rattle.mg_merge.specs.Looks.{IsUntouched, reads_index}
use Rattle.mg_make.specs.Outcomes.{IsEarly, Left, most_bytes}
use Rattle.mg_merge.specs.Merging.{BothStand, IsSizeByHeads, MergeStops}
use Rattle.mg_dev.specs.declared.status.Status.TheVariants.{Stopped}
use Rattle.mg_make.proofs.CallerLemmas.{others_none}
use Rattle.mg_merge.proofs.LookLaws.{outside_index}
use Rattle.mg_dev.proofs.CallerLemmas.{at_fault, done_or_lacks, stopped_by, stopped_for, when_ok}

-- both sets stand
both : (version cap : ℕ) (files : Option Files) (first second a b : List ℕ) → StandsIn version cap files first a → Stands files second b → BothStand files first second a b
both version cap files first second a b one two = record {
  first_stands = record { told = one.told; stand = record { version = version; cap = cap; code = one.code; are = one.are } };
  second_stands = two;
}

module _ {T : Type 0} (first second new : List ℕ) (store store_now : StoreAt) (r : Result T Fault)
    (stands : (version cap : ℕ) (a b : List ℕ) → StandsIn version cap store.files first a → Stands store.files second b → OnOk r (StandsIn 2 cap store_now.files new (join a b)))
    (merge_a : (a b : List ℕ) → BothStand store.files first second a b → OnOk r (file_at store_now.files (full_name new part.MergeA) ≡ Some []))
    (merge_b : (a b : List ℕ) → BothStand store.files first second a b → OnOk r (file_at store_now.files (full_name new part.MergeB) ≡ Some []))
    (others : OthersSame new store.files store_now.files)
    (index : reads_index store_now.reads ≡ reads_index store.reads)
    (left : (a b : List ℕ) → BothStand store.files first second a b → Left new store.files store_now.files (join a b))
    (early : IfErr r (λ fault. IsEarly fault → IsUntouched store store_now))
    (cause : IfErr r (MergeStops (StoreRose store store_now) store.files first second new))
    (same : (new ≡ first) ⊎ (new ≡ second) → r ≡ Err SameName)
    (missing : IsSome store.files → new ≢ first → new ≢ second → HasNoHead store.files first ⊎ HasNoHead store.files second → RefusedFor r NotBuilt)
    (large : (size : ℕ) → IsSome store.files → new ≢ first → new ≢ second → IsSizeByHeads store.files first second size → most_bytes < size → RefusedFor r (TooLarge size most_bytes))
    (documents : (a b : List ℕ) → BothStand store.files first second a b → new ≢ first → new ≢ second → length (join a b) ≤ most_bytes →
    PassesFirst version_2 (join a b) start → RefusedFor r TooManyDocuments)
    (pieces : (a b : List ℕ) (stream : Stream) (word : List ℕ) → BothStand store.files first second a b → new ≢ first → new ≢ second →
    length (join a b) ≤ most_bytes → PassesFirst version_2 (join a b) (piece stream word) → RefusedFor r (TooManyPieces stream))
    (complete : (a b : List ℕ) → BothStand store.files first second a b → new ≢ first → new ≢ second → IsWithinLimits 2 (join a b) → ¬ StoreRose store store_now → IsDone r) where
  pub joined_by : Joined first second new store store_now (status_of r)
  joined_by = record {
    done = λ version cap a b one two end.
        let stand = both version cap store.files first second a b one two in
        record { stands = when_ok _ r end (stands version cap a b one two); merge_a = when_ok _ r end (merge_a a b stand); merge_b = when_ok _ r end (merge_b a b stand) };
    unchanged = λ fault soon end. (at_fault (λ (f : Fault). IsEarly f → IsUntouched store store_now) r fault end early soon).files;
    unread = λ fault soon end. (at_fault (λ (f : Fault). IsEarly f → IsUntouched store store_now) r fault end early soon).unread;
    index = index;
    left = left;
    others = others;
    cause = stopped_by _ r cause;
    same = λ e. ap status_of (same e);
    missing = λ told one two none. stopped_for r _ (missing told one two none);
    large = λ size told one two by more. stopped_for r _ (large size told one two by more);
    documents = λ a b stand one two few passes. stopped_for r _ (documents a b stand one two few passes);
    pieces = λ a b stream word stand one two few passes. stopped_for r _ (pieces a b stream word stand one two few passes);
    complete = λ a b stand one two within never. done_or_lacks r (complete a b stand one two within never);
  }

-- A refusal while no file has changed, where the new name is none of the two: each cause that comes before is told.
module _ {T : Type 0} (first second new : List ℕ) (store store_now : StoreAt) (fault : Fault)
    (untouched : IsUntouched store store_now) (one : new ≢ first) (other : new ≢ second)
    (cause : MergeStops (StoreRose store store_now) store.files first second new fault)
    (missing : IsSome store.files → HasNoHead store.files first ⊎ HasNoHead store.files second → RefusedFor {T = T} (Err fault) NotBuilt)
    (large : (size : ℕ) → IsSome store.files → IsSizeByHeads store.files first second size → most_bytes < size → RefusedFor {T = T} (Err fault) (TooLarge size most_bytes))
    (documents : (a b : List ℕ) → BothStand store.files first second a b → length (join a b) ≤ most_bytes → RefusedFor {T = T} (Err fault) TooManyDocuments)
    (pieces : (a b : List ℕ) (stream : Stream) → BothStand store.files first second a b → length (join a b) ≤ most_bytes → RefusedFor {T = T} (Err fault) (TooManyPieces stream))
    (complete : (a b : List ℕ) → BothStand store.files first second a b → IsWithinLimits 2 (join a b) → ¬ StoreRose store store_now → IsDone {T = T} (Err fault)) where
  pub refused_by : Joined first second new store store_now (Stopped fault)
  refused_by = joined_by {T = T} first second new store store_now (Err fault)
      (λ version cap a b is stands. tt) (λ a b both. tt) (λ a b both. tt) (others_none new store.files store_now.files untouched.files)
      (outside_index _ _ untouched.unread) (λ a b both. inl untouched.files)
      (λ early. untouched) cause (λ same. elim same [ inl is ↦ absurd (one is) | inr is ↦ absurd (other is) ])
      (λ told new_one new_other. missing told) (λ size told new_one new_other. large size told)
      (λ a b both new_one new_other few passes. documents a b both few) (λ a b stream word both new_one new_other few passes. pieces a b stream both few)
      (λ a b both new_one new_other. complete a b both)

-- the new name is one of the two
pub same_by : (first second new : List ℕ) (store store_now : StoreAt) → IsUntouched store store_now → (new ≡ first) ⊎ (new ≡ second) →
    Joined first second new store store_now (Stopped SameName)
same_by first second new store store_now untouched same = joined_by {T = Unit {0}} first second new store store_now (Err SameName)
    (λ version cap a b is stands. tt) (λ a b both. tt) (λ a b both. tt) (others_none new store.files store_now.files untouched.files)
    (outside_index _ _ untouched.unread) (λ a b both. inl untouched.files)
    (λ early. untouched) same (λ is. refl) (λ told one other. never one other) (λ size told one other. never one other)
    (λ a b both one other. never one other) (λ a b stream word both one other. never one other) (λ a b both one other. never one other)
  where
    never : {P : Type 0} → new ≢ first → new ≢ second → P
    never one other = elim same [ inl is ↦ absurd (one is) | inr is ↦ absurd (other is) ]
