-- How far a set was made anew is what a call did.
use Rattle.std.proofs.Common.{◌≡◌, ◌≢◌, ◌∙◌, ℕ, List, Option, Ok, Err, IsSome, sym, ap, subst, inl, inr}
use Rattle.std.specs.Prelude.{Result, IfErr}
use Rattle.std.specs.Option.{is_some}
use Rattle.mg_dev.specs.Faults.{ReadStops}
use Rattle.mg_dev.specs.Files.{Files, file_at}
use Rattle.mg_dev.specs.Moments.{StoreAt, StoreRose, KeptFiles}
use Rattle.mg_dev.specs.Runs.{IsDone, StoppedFor, status_of}
use Rattle.mg_dev.specs.declared.fault.Fault.{Fault}
use Rattle.mg_dev.specs.declared.fault.Fault.TheVariants as fault
use Rattle.mg_dev.specs.declared.status.Status.TheVariants.{Done, Stopped}
use Rattle.mg_dev.proofs.CallerLemmas.{done_or_lacks, stopped_by}
use Rattle.mg_defs.specs.CodedText.{TextCode}
use Rattle.mg_defs.specs.Heads as defs
use Rattle.mg_defs.proofs.HeadLaws.{one_head}
use Rattle.mg_layout.specs.HeadAnswers.{fields_of}
use Rattle.mg_layout.specs.Stands.{HasNoHead, Stands, StandsBy}
use Rattle.mg_layout.specs.declared.head.Head as layout
use Rattle.mg_layout.proofs.CallerLemmas.{loaded_set, no_empty_head}
use Rattle.mg_make.specs.Outcomes.{AreMadeAnew}
use Rattle.mg_migrate.specs.MadeAnew.{MadeAnew}
use Rattle.mg_migrate.specs.MadeFrom.{MadeFrom}
use Rattle.mg_migrate.specs.Migrating.{ComesFirst, MigrateStops}
use Rattle.mg_migrate.specs.Sizes.{HasHeadIn, HasSizesOf, IsSized}
use Rattle.mg_migrate.proofs.MigrateStopLaws.{cap_is, in_stands, made_or_lacks}

stopped : (f : Fault) → Stopped f ≡ Done → ⊥
stopped f end = cc

-- it is done, or memory lacks, where the set stands
done_if : (r : Result ℕ Fault) (rose : Type 0) (files : Option Files) (name new collection : List ℕ) → Stands files name collection → new ≢ name → (rose → ⊥) →
    IfErr r (MigrateStops rose files name new) → IsDone r
done_if (Ok count) rose files name new collection stands apart calm stops = tt
done_if (Err f) rose files name new collection stands apart calm stops = made_or_lacks f rose files name new collection stands apart calm stops

-- ---- nothing was written

pub nothing_made : (name new : List ℕ) (store store_now : StoreAt) (f : Fault) → KeptFiles store store_now →
    MigrateStops (StoreRose store store_now) store.files name new f → (new ≡ name → f ≡ fault.SameName)
    → (IsSome store.files → new ≢ name → HasNoHead store.files name → StoppedFor (Stopped f) fault.NotBuilt) → MadeAnew name new store store_now (Stopped f)
nothing_made name new store store_now f kept cause same not_built = record {
  done = λ version cap c is_in end. absurd (stopped f end);
  copied = λ told end. absurd (stopped f end);
  sizes = λ head told has wrong. kept;
  unchanged = λ g first end. kept;
  left = λ c stands. inl kept;
  others = record { told = ap is_some kept; others = λ n apart. ap (λ files. file_at files n) kept };
  begun = λ told. inl kept;
  cause = cause;
  same = λ e. ap Stopped (same e);
  not_built = not_built;
  complete = λ c stands apart calm. done_or_lacks {T = ℕ} (Err f) (made_or_lacks f (StoreRose store store_now) store.files name new c stands apart calm cause);
}

-- ---- the set was made, or not

-- why it was not made is no refusal before the first write
pub never_first : {T : Type 0} (r : Result T Fault) (rose whole : Type 0) (g : Fault) → IfErr r (ReadStops rose whole) → ComesFirst g → status_of r ≡ Stopped g → ⊥
never_first (Ok u) rose whole g stops first end = done g end
  where
    done : (g : Fault) → Done ≡ Stopped g → ⊥
    done g e = cc
never_first (Err f) rose whole g stops first end = late g first (subst (λ x. ReadStops rose whole x) (same f g end) stops)
  where
    same : (f g : Fault) → Stopped f ≡ Stopped g → f ≡ g
    same f g e = cc

    late : (g : Fault) → ComesFirst g → ReadStops rose whole g → ⊥
    late fault.SameName first stops = stops
    late fault.NotBuilt first stops = stops
    late fault.Usage first stops = first
    late fault.StoreFault first stops = first
    late fault.ReadFault first stops = first
    late fault.WriteFault first stops = first
    late (fault.Damaged bad) first stops = first
    late fault.NoCollection first stops = first
    late (fault.TooLarge size most) first stops = first
    late fault.TooManyDocuments first stops = first
    late (fault.TooManyPieces stream) first stops = first
    late (fault.Changed what one two) first stops = first
    late fault.Memory first stops = first
    late (fault.NameClash p) first stops = first
    late fault.InputTooLong first stops = first
    late (fault.TooManyRotations count) first stops = first

module _ (name new : List ℕ) (store store_now : StoreAt) (head : layout.Head) (loaded : Option Files) (r : Result ℕ Fault) (same : loaded ≡ store.files)
    (sized : IsSome store.files → IsSized (fields_of head) store.files name) (apart : new ≢ name)
    (made : MadeFrom head name new loaded store_now.files (status_of r)) (late : (g : Fault) → ComesFirst g → status_of r ≡ Stopped g → ⊥)
    (cause : IfErr r (MigrateStops (StoreRose store store_now) store.files name new)) where
  from : MadeFrom head name new store.files store_now.files (status_of r)
  from = subst (λ f. MadeFrom head name new f store_now.files (status_of r)) same made

  by_head : (c : List ℕ) → Stands store.files name c → (code : TextCode) × StandsBy head code store.files name c
  by_head c stands = loaded_set store.files name c head stands (sized stands.told).has

  -- there is no other head
  only : (h : defs.Head) → IsSome store.files → HasHeadIn store.files name h → HasSizesOf h store.files name
  only h told has =
      let own = (sized told).has in
      subst (λ x. HasSizesOf x store.files name) (one_head (fields_of head) h own.within has.within (sym own.bytes_are ∙ has.bytes_are)) (sized told).sizes

  pub set_made : MadeAnew name new store store_now (status_of r)
  set_made = record {
    done = λ version cap c is_in end.
        let by = by_head c (in_stands version cap store.files name c is_in) in
        subst (λ n. AreMadeAnew store_now.files new c n) (cap_is version cap store.files name c head is_in (sized is_in.told).has) (from.done by.0 c by.1 end);
    copied = λ told end. (fields_of head, sized told, from.copied told end);
    sizes = λ h told has wrong. absurd (wrong (only h told has));
    unchanged = λ g first end. absurd (late g first end);
    left = λ c stands. let by = by_head c stands in from.left by.0 c by.1;
    others = from.others;
    begun = λ told. elim (from.begun told) [ inl kept ↦ inl kept | inr begun ↦ inr (fields_of head, sized told, begun) ];
    cause = stopped_by _ r cause;
    same = λ e. absurd (apart e);
    not_built = λ told differ none. absurd (no_empty_head _ (fields_of head) (sized told).has none);
    complete = λ c stands differ calm. done_or_lacks r (done_if r (StoreRose store store_now) store.files name new c stands differ calm cause);
  }
