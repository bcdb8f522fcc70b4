-- What a check answered, and the put of its line, is what the run did.
use Rattle.std.proofs.Common.{◌≡◌, ◌≢◌, ◌⊎◌, ℕ, List, [], length, Ok, Err, IfErr, IfOk, IsSome, Option, refl, ap, subst, inl, inr}
use Rattle.std.specs.Prelude.{Result}
use Rattle.mg_dev.specs.Causes.{HasLack, HasPutCause}
use Rattle.mg_dev.specs.Files.{Files, bytes_at}
use Rattle.mg_dev.specs.Moments.{StoreAt, StoreRose, KeptFiles}
use Rattle.mg_dev.specs.Names.{full_name}
use Rattle.mg_dev.specs.Runs.{Run, Stops, status_of}
use Rattle.mg_dev.specs.Streams.{AfterPut}
use Rattle.mg_dev.specs.declared.device.PutErr.{PutErr}
use Rattle.mg_dev.specs.declared.fault.Fault.{Fault}
use Rattle.mg_dev.specs.declared.fault.Fault.TheVariants.{StoreFault, NotBuilt, Damaged, Memory}
use Rattle.mg_dev.specs.declared.part.Part.TheVariants as part
use Rattle.mg_dev.specs.declared.status.Status.TheVariants.{Done, Stopped}
use Rattle.mg_dev.proofs.CallerLemmas.{stopped_by, stopped_for}
use Rattle.mg_defs.specs.Split.{documents}
use Rattle.mg_defs.specs.Stands.{Parts, Stand}
use Rattle.mg_layout.specs.Stands.{HasNoHead, Stands, parts_at}
use Rattle.mg_check.specs.Found.{CheckStops, IfStands, IsDamagedSet, StandsWith, TellsNotBuilt}
use Rattle.mg_check.specs.Reads.{ReadsSet}
use Rattle.mg_check.specs.declared.found.Found.{Found}
use Rattle.mg_top.specs.Checked.{Checked, Finds, StoppedForDamage, standing_line}
use Rattle.mg_top.specs.Lines.{stands_line}
use Rattle.mg_top.proofs.EndLaws.{put_called, put_prints, refused_called, refused_prints, status_of_put}

-- ---- what the call answered

-- a refusal where there is a head is for damage, for the store, or for want of memory
tells_damage : (rose : Type 0) (files : Option Files) (name : List ℕ) (f : Fault) → IsSome files → bytes_at files (full_name name part.Head) ≢ [] → CheckStops rose files name f
    → StoppedForDamage (Stopped f) ⊎ (Stopped f ≡ Stopped StoreFault) ⊎ (Stopped f ≡ Stopped Memory)
tells_damage rose files name StoreFault told some cause = inr (inl refl)
tells_damage rose files name NotBuilt told some cause = absurd (some (cause told))
tells_damage rose files name (Damaged bad) told some cause = inl (bad, refl)
tells_damage rose files name Memory told some cause = inr (inr refl)
tells_damage rose files name other told some cause = absurd cause

module _ (name : List ℕ) (store store_now : StoreAt) (r : Result Found Fault)
    (stands : IsSome store.files → IfOk r (λ found. StandsWith store.files name found.documents found.bytes))
    (cause : IfErr r (CheckStops (StoreRose store store_now) store.files name))
    (not_built : IsSome store.files → HasNoHead store.files name → TellsNotBuilt r)
    (complete : IfStands store.files name (¬ StoreRose store store_now → IfErr r (λ refusal. refusal ≡ Memory)))
    (files : KeptFiles store store_now) (unread : ReadsSet store.reads store_now.reads) where
  stands_by : (q : Result Found Fault) → IfOk q (λ found. StandsWith store.files name found.documents found.bytes) → status_of q ≡ Done → (collection : List ℕ) × Stands store.files name collection
  stands_by (Ok found) with is = (with.collection, with.stands)
  stands_by (Err f) with is = cc

  damaged_by : (q : Result Found Fault) → IsSome store.files → IfOk q (λ found. StandsWith store.files name found.documents found.bytes)
      → IfErr q (CheckStops (StoreRose store store_now) store.files name) → IsDamagedSet store.files name
      → StoppedForDamage (status_of q) ⊎ (status_of q ≡ Stopped StoreFault) ⊎ (status_of q ≡ Stopped Memory)
  damaged_by (Ok found) told with stops bad = absurd (bad.none with.collection with.stands)
  damaged_by (Err f) told with stops bad = tells_damage (StoreRose store store_now) store.files name f told bad.head stops

  done_or : (q : Result Found Fault) → IfErr q (λ refusal. refusal ≡ Memory) → (status_of q ≡ Done) ⊎ (status_of q ≡ Stopped Memory)
  done_or (Ok found) lacks = inl refl
  done_or (Err f) lacks = inr (ap Stopped lacks)

  pub finds : Finds name store store_now (status_of r)
  finds = record {
    stands = λ told. stands_by r (stands told);
    cause = stopped_by _ r cause;
    damaged = λ told. damaged_by r told (stands told) cause;
    not_built = λ told none. stopped_for r NotBuilt (not_built told none);
    complete = λ collection it fine. done_or r (complete collection it fine);
    files = files;
    unread = unread;
  }

-- ---- what the run did

-- one set stands for one collection
pub one_set : (files : Option Files) (name : List ℕ) → ((parts : Parts) (c d : List ℕ) → Stand parts c → Stand parts d → c ≡ d) → (c d : List ℕ) → Stands files name c → Stands files name d → c ≡ d
one_set files name one c d s t = one (parts_at files name) c d s.stand t.stand

module _ (name : List ℕ) (run : Run) (input : run.input_now ≡ run.input) where
  pub refused_by : (f : Fault) → Stops run f → run.out_now ≡ run.out → Finds name run.store run.store_now (Stopped f) → Checked name run
  refused_by f is out found = record {
    found = refused_called (Finds name run.store run.store_now) run f is out found;
    prints = λ collection stands. refused_prints run f _ is out;
    input = input;
  }

  line : (n m : ℕ) (w : Result (Unit {0}) PutErr) (it : StandsWith run.store.files name n m) → AfterPut run.out.written run.out_now.written (stands_line n m) w
      → AfterPut run.out.written run.out_now.written (standing_line it.collection) w
  line n m w it content = subst (λ (k : ℕ). AfterPut run.out.written run.out_now.written (stands_line (length (documents it.collection)) k) w) it.bytes_are
      (subst (λ (k : ℕ). AfterPut run.out.written run.out_now.written (stands_line k m) w) it.documents_are content)

  pub found_by : (n m : ℕ) (w : Result (Unit {0}) PutErr) → run.status ≡ status_of_put w → Finds name run.store run.store_now Done
      → ((c d : List ℕ) → Stands run.store.files name c → Stands run.store.files name d → c ≡ d)
      → (IsSome run.store.files → StandsWith run.store.files name n m) → AfterPut run.out.written run.out_now.written (stands_line n m) w
      → HasPutCause run.out.faults run.out_now.faults w → HasLack run.out.lacks run.out_now.lacks w → Checked name run
  found_by n m w is found one stands content has lack = record {
    found = put_called (Finds name run.store run.store_now) run w is found has lack;
    prints = λ collection it. let is_with : StandsWith run.store.files name n m = stands it.told in
        put_prints run w _ is (subst (λ (d : List ℕ). AfterPut run.out.written run.out_now.written (standing_line d) w)
        (one is_with.collection collection is_with.stands it) (line n m w is_with content));
    input = input;
  }
