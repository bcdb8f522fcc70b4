-- One call after another that asks places of a query.
use Rattle.std.proofs.Common.{arith, suc, ◌≡◌, ◌≢◌, ◌≤◌, ◌<◌, ℕ, List, [], ◌∷◌, length, refl, sym, ◌∙◌, ap, subst, inl, inr, Option, Some, None, Ok, Err}
use Rattle.std.specs.Prelude.{OnOk, Result, slice_index_or, slice_set}
use Rattle.std.proofs.lemmas.Bool.{cases_eq}
use Rattle.std.proofs.lemmas.List.{get_or-set_other, length-set}
use Rattle.std.proofs.lemmas.List.Sums.{sum_by-set, sum_by-cons}
use Rattle.mg_dev.specs.Files.{Files, Reads}
use Rattle.mg_dev.specs.PartCauses.{HasPartCause}
use Rattle.mg_dev.proofs.CallerLemmas.{cause_err}
use Rattle.mg_dev.specs.declared.part_err.PartErr.{PartErr}
use Rattle.mg_dev.specs.declared.part_err.PartErr.TheVariants as err
use Rattle.mg_defs.specs.Lists.{block_count}
use Rattle.mg_post.specs.Cursor.{CursorFits, Cursoring, NamesItsPart, SameList, SkipRises, skip_pages}
use Rattle.mg_post.specs.Finding.{entries_pages}
use Rattle.mg_post.specs.TermLists.{ReadsLists}
use Rattle.mg_bool.specs.Places.{Place, PlaceFits, PlacesFit, SamePlaces}
use Rattle.mg_bool.specs.Calls.{PlaceCall, PlaceSkips, PlacesCall, PlacesSkip, SkipsWithin, entries_of, place_entries, place_skips, skips_read}
use Rattle.mg_bool.proofs.AskLaws.{new_same, old_is, same_all, same_refl, same_then, set_self}

-- ---- what is read

pub lists_none : (reads : Reads) → ReadsLists reads reads
lists_none reads = record { later = λ p. omega arith; others = λ p a b. refl }

pub lists_on : {a b c : Reads} → ReadsLists a b → ReadsLists b c → ReadsLists a c
lists_on one two = record {
  later = λ p. omega (arith, one.later p, two.later p);
  others = λ p a b. two.others p a b ∙ one.others p a b;
}

pub skips_none : (places : List Place) (reads : Reads) → PlacesSkip places places reads reads
skips_none places reads = record { within = λ h. h; skip = omega arith }

pub skips_on : {a b c : List Place} {r s t : Reads} → PlacesSkip a b r s → PlacesSkip b c s t → PlacesSkip a c r t
skips_on one two = record { within = λ h. two.within (one.within h); skip = omega (arith, one.skip, two.skip) }

-- one of the places was asked
pub skips_set : (xs : List Place) (i : ℕ) (old v : Place) (before after : Reads) → i < length xs → old ≡ slice_index_or xs i old →
    PlaceSkips old v before after → PlacesSkip xs (slice_set xs i v) before after
skips_set xs i old v before after lt value one = record {
  within = λ h k inside. at h k (omega (arith, inside, length-set xs i v));
  skip = omega (arith, sum_by-set place_skips xs i v None lt, ap place_skips (old_is xs i old lt value), one.skip);
}
  where
    at : SkipsWithin xs → (k : ℕ) → k < length xs → place_skips (slice_index_or (slice_set xs i v) k None) ≤ place_entries (slice_index_or (slice_set xs i v) k None)
    at h k inside =
        elim (cases_eq k i) [
          | inl same ↦ rw same (subst (λ p. place_skips p ≤ place_entries p) (sym (set_self xs i v lt))
              (one.within (subst (λ p. place_skips p ≤ place_entries p) (old_is xs i old lt value) (h i lt))))
          | inr other ↦ subst (λ p. place_skips p ≤ place_entries p) (sym (get_or-set_other xs i k v None other)) (h k inside)
        ]

-- the sum over the places
pub skips_sum : (places : List Place) → SkipsWithin places → skips_read places ≤ entries_of places
skips_sum [] h = omega arith
skips_sum (p ∷ places) h =
    omega (
      arith,
      sum_by-cons place_skips p places,
      sum_by-cons place_entries p places,
      h 0 (omega arith),
      skips_sum places (λ k lt. h (suc k) (omega (arith, lt))),
    )

-- ---- refusals

-- a refusal, in the place of a value of this type
abbrev refusal_of : (T : Type 0) → PartErr → Result T PartErr
refusal_of T e = Err e

error_is : {T : Type 0} (e : PartErr) → refusal_of T e ≡ Err err.Memory → e ≡ err.Memory
error_is e is = cc

-- ---- a place

-- it has no list
pub none_called : (p : Place) (found : Option ℕ) (files : Option Files) (reads : Reads) (faults : ℕ) → PlaceFits files p → PlaceCall p p (Ok found) files files reads reads faults faults
none_called p found files reads faults fits = record {
  fits = fits;
  same = same_refl p;
  part = tt;
  reads = lists_none reads;
  skips = record { within = λ h. h; skip = omega arith };
  files = refl;
  memory = λ is. cc;
  cause = record { later = omega arith; device = tt };
}

-- its cursor answered
pub cursor_called : {c v : Cursoring} {f g : Option Files} {r s : Reads} {m n : ℕ} (found : Option ℕ) → CursorFits v g → SameList c v → ReadsLists r s →
    skip_pages v ≤ entries_pages v.skip_at (block_count v.docs) → SkipRises c v r s → g ≡ f → m ≤ n → PlaceCall (Some c) (Some v) (Ok found) f g r s m n
cursor_called found fits same reads third skips files faults = record {
  fits = fits;
  same = same;
  part = tt;
  reads = reads;
  skips = record { within = λ h. third; skip = skips };
  files = files;
  memory = λ is. cc;
  cause = record { later = faults; device = tt };
}

-- or refused
pub cursor_refused : {T V : Type 0} {c v : Cursoring} {f g : Option Files} {r s : Reads} {m n : ℕ} (e : PartErr) → SameList c v → NamesItsPart e → ReadsLists r s →
    skip_pages v ≤ entries_pages v.skip_at (block_count v.docs) → SkipRises c v r s → g ≡ f → refusal_of T e ≢ Err err.Memory →
    HasPartCause {T = T} m n (Err e) → PlaceCall {T = V} (Some c) (Some v) (Err e) f g r s m n
cursor_refused {T} {V} {m = m} {n = n} e same part reads third skips files memory cause = record {
  fits = tt;
  same = same;
  part = part;
  reads = reads;
  skips = record { within = λ h. third; skip = skips };
  files = files;
  memory = λ is. memory (ap (refusal_of T) (error_is {T = V} e is));
  cause = cause_err (omega arith) cause;
}

-- it is one of many
pub one_called : {T : Type 0} {result : Result T PartErr} {f h : Option Files} {r s : Reads} {m n : ℕ} (xs : List Place) (i : ℕ) (old v : Place) → i < length xs →
    old ≡ slice_index_or xs i old → PlacesFit f xs → PlaceCall old v result f h r s m n → PlacesCall xs (slice_set xs i v) result f h r s m n
one_called {T} {result} {f} {h} {r} {s} xs i old v lt value fits c = record {
  fits = by_result result c.fits;
  same = new_same xs i old v lt value c.same;
  part = c.part;
  reads = c.reads;
  skips = skips_set xs i old v r s lt value c.skips;
  files = c.files;
  memory = c.memory;
  cause = c.cause;
}
  where
    fits_set : PlaceFits h v → PlacesFit h (slice_set xs i v)
    fits_set now = record { each = λ k inside. at now k (omega (arith, inside, length-set xs i v)) }
      where
        at : PlaceFits h v → (k : ℕ) → k < length xs → PlaceFits h (slice_index_or (slice_set xs i v) k None)
        at one k inside =
            elim (cases_eq k i) [
              | inl same ↦ rw same (subst (PlaceFits h) (sym (set_self xs i v lt)) one)
              | inr other ↦ subst (PlaceFits h) (sym (get_or-set_other xs i k v None other)) (subst (λ fs. PlaceFits fs (slice_index_or xs k None)) (sym c.files) (fits.each k inside))
            ]

    by_result : (x : Result T PartErr) → OnOk x (PlaceFits h v) → OnOk x (PlacesFit h (slice_set xs i v))
    by_result (Ok value) one = fits_set one
    by_result (Err refusal) one = tt

-- ---- calls so far

-- what they did to the places and to the store
pub record Stepped (old now : List Place) (files_before files_now : Option Files) (reads_before reads_now : Reads) (faults_before faults_now : ℕ) : Type 0 where
  pub same : SamePlaces old now
  pub files : files_now ≡ files_before
  pub reads : ReadsLists reads_before reads_now
  pub skips : PlacesSkip old now reads_before reads_now
  pub faults : faults_before ≤ faults_now

pub stepped_none : (places : List Place) (files : Option Files) (reads : Reads) (faults : ℕ) → Stepped places places files files reads reads faults faults
stepped_none places files reads faults = record {
  same = same_all places;
  files = refl;
  reads = lists_none reads;
  skips = skips_none places reads;
  faults = omega arith;
}

pub stepped_on : {a b c : List Place} {f g h : Option Files} {r s t : Reads} {l m n : ℕ} → Stepped a b f g r s l m → Stepped b c g h s t m n → Stepped a c f h r t l n
stepped_on {a} {b} {c} one two = record {
  same = same_then a b c one.same two.same;
  files = two.files ∙ one.files;
  reads = lists_on one.reads two.reads;
  skips = skips_on one.skips two.skips;
  faults = omega (arith, one.faults, two.faults);
}

pub stepped : {T : Type 0} {a b : List Place} {x : Result T PartErr} {f g : Option Files} {r s : Reads} {l m : ℕ} → PlacesCall a b x f g r s l m → Stepped a b f g r s l m
stepped c = record { same = c.same; files = c.files; reads = c.reads; skips = c.skips; faults = c.cause.later }

-- so far all were answered
pub called : {T : Type 0} {a b : List Place} {f g : Option Files} {r s : Reads} {l m : ℕ} (answer : T) → PlacesFit g b → Stepped a b f g r s l m → PlacesCall a b (Ok answer) f g r s l m
called answer fits s = record {
  fits = fits;
  same = s.same;
  part = tt;
  reads = s.reads;
  skips = s.skips;
  files = s.files;
  memory = λ is. cc;
  cause = record { later = s.faults; device = tt };
}

-- the last one was refused
pub refused : {T V : Type 0} {a b c : List Place} {f g h : Option Files} {r s t : Reads} {l m n : ℕ} (e : PartErr) → Stepped a b f g r s l m →
    PlacesCall {T = T} b c (Err e) g h s t m n → PlacesCall {T = V} a c (Err e) f h r t l n
refused {T} {V} {l = l} {m = m} {n = n} e s call =
    let on = stepped_on s (stepped call) in
    record {
      fits = tt;
      same = on.same;
      part = call.part;
      reads = on.reads;
      skips = on.skips;
      files = on.files;
      memory = λ is. call.memory (ap (refusal_of T) (error_is {T = V} e is));
      cause = cause_err s.faults call.cause;
    }
