-- What the steps of a trial answer, and what the trial is then.
use Rattle.std.proofs.Common.{◌≡◌, ◌∙◌, ◌⊎◌, ◌<◌, ◌≤◌, ◌++◌, ℕ, Bool, true, List, [], length, get_or, unwrap_or, Some, Ok, Err, IsSome, Option, refl, sym, ap, subst, inl, inr, arith}
use Rattle.std.specs.Prelude.{Result, IfErr}
use Rattle.mg_dev.specs.Causes.{Rose}
use Rattle.mg_dev.specs.Files.{Files, file_at, bytes_at, grown, no_files}
use Rattle.mg_dev.specs.Laws.{file_at-written}
use Rattle.std.specs.Cmp.Lexicographic.{slice_cmp}
use Rattle.std.specs.FinMap.{get-empty}
use Rattle.std.specs.Ordering.{nat_cmp}
use Rattle.mg_dev.specs.Moments.{StoreAt, StoreRose}
use Rattle.mg_dev.specs.Names.{full_name}
use Rattle.mg_dev.specs.declared.part.Part.TheVariants as part
use Rattle.mg_dev.specs.declared.fault.Fault.{Fault}
use Rattle.mg_dev.specs.declared.fault.Fault.TheVariants.{Usage, StoreFault, ReadFault, WriteFault, NotBuilt, Damaged, NoCollection, TooLarge, TooManyDocuments, TooManyPieces, Changed, Memory, NameClash, InputTooLong, SameName, TooManyRotations}
use Rattle.mg_dev.specs.declared.status.Status.TheVariants.{Done, Stopped}
use Rattle.mg_defs.specs.Limits.{held_bytes, version_2}
use Rattle.mg_defs.specs.Marks.{PassesFirst, start, piece}
use Rattle.mg_layout.specs.Stands.{Stands, StandsIn}
use Rattle.mg_make.specs.Putting.{IsApart, OthersSame}
use Rattle.mg_make.specs.Summaries.{summary_of}
use Rattle.mg_make.specs.declared.summary.Summary.{Summary}
use Rattle.mg_build.specs.Building as building
use Rattle.mg_build.specs.Made.{Made}
use Rattle.mg_dev.specs.Runs.{IsDone, RefusedFor, StoppedFor}
use Rattle.mg_make.specs.Outcomes.{most_bytes}
use Rattle.mg_top.specs.Trials.{IsBuilt, Lacks, TrialStops, WorkEnds, replies_of, set_name, text_name, trial_summary}
use Rattle.mg_top.specs.declared.comparing.Replies.{Replies}
use Rattle.mg_top.proofs.EndLaws.{never_refused, never_stopped}
use Rattle.mg_top.proofs.TrialSteps.{bytes_there}
use Rattle.mg_top.specs.declared.trial_summary.TrialSummary.{TrialSummary}

-- ---- counts of faults

pub rose_within : (a b c d : ℕ) → a ≤ b → c ≤ d → Rose b c → Rose a d
rose_within a b c d low high rose = omega (arith, low, high, rose)

-- ---- names and files

pub text_is_apart : IsApart set_name text_name
unfolding full_name
text_is_apart p other e = let first : 116 ≡ 115 = ap (λ (l : List ℕ). get_or l 0 0) e in omega (arith, first)

none_there : bytes_at (Some no_files) text_name ≡ []
unfolding file_at
none_there = ap (λ (o : Option (List ℕ)). unwrap_or o []) (get-empty (slice_cmp nat_cmp) text_name)

once_name : full_name text_name part.Plain ≡ text_name
unfolding full_name
once_name = refl

grown_once : (bytes : List ℕ) → file_at (grown (Some no_files) text_name bytes) text_name ≡ Some bytes
grown_once bytes = file_at-written (Some no_files) text_name (bytes_at (Some no_files) text_name ++ bytes) refl ∙ ap (λ (b : List ℕ). Some (b ++ bytes)) none_there

-- the first bytes of a file are all that it has
pub there_by : (old new : Option Files) (bytes : List ℕ) → old ≡ Some no_files → new ≡ grown old (full_name text_name part.Plain) bytes → file_at new text_name ≡ Some bytes
there_by old new bytes none is =
    ap (λ (f : Option Files). file_at f text_name) (is ∙ ap (λ (f : Option Files). grown f (full_name text_name part.Plain) bytes) none
    ∙ ap (λ (n : List ℕ). grown (Some no_files) n bytes) once_name) ∙ grown_once bytes

pub stands_by : (before now : Option Files) (collection : List ℕ) (version cap : ℕ) → (version ≡ 1) ⊎ (version ≡ 2) →
    StandsIn version cap now set_name (bytes_at before text_name) → file_at before text_name ≡ Some collection → Stands now set_name collection
stands_by before now collection version cap known stands there = subst (λ (b : List ℕ). Stands now set_name b) (bytes_there before collection there) (record {
  told = stands.told;
  stand = record { version = version; cap = cap; code = stands.code; are = stands.are };
})

pub built_by : (before mid now : Option Files) (collection : List ℕ) (cap : ℕ) → file_at before text_name ≡ Some collection → StandsIn 2 cap mid set_name (bytes_at before text_name)
    → OthersSame set_name before mid → now ≡ mid → length collection ≤ held_bytes → IsBuilt now collection
built_by before mid now collection cap there stands others same few = subst (λ (f : Option Files). IsBuilt f collection) (sym same) (record {
  stands = stands_by before mid collection 2 cap (inr refl) stands there;
  text = others.others text_name text_is_apart ∙ there;
  few = few;
})

abbrev pub found : ℕ → ℕ → Summary → Bool → Replies → TrialSummary
found docs size s decoded r = record { documents = docs; bytes = size; terms = s.terms; occurrences = s.occurrences; replies = r.bytes; is_decoded = decoded; is_answered = r.are_same }

pub found_is : (docs budget : ℕ) (collection input : List ℕ) (before : Option Files) (s : Summary) (decoded : Bool) (r : Replies) → file_at before text_name ≡ Some collection
    → s ≡ summary_of budget (bytes_at before text_name) → decoded ≡ true → r ≡ replies_of collection input → found docs (length collection) s decoded r ≡ trial_summary docs collection input
found_is docs budget collection input before s decoded r there summary same replies =
    ap (λ (x : Summary). found docs (length collection) x decoded r) (summary ∙ ap (summary_of budget) (bytes_there before collection there))
    ∙ ap (λ (x : Bool). found docs (length collection) (summary_of budget collection) x r) same
    ∙ ap (λ (x : Replies). found docs (length collection) (summary_of budget collection) true x) replies

-- ---- want of memory and failed stores

pub lacks_wider : (s t : Type 0) (f : Fault) → (s → t) → Lacks s f → Lacks t f
lacks_wider s t StoreFault wider lacks = wider lacks
lacks_wider s t Memory wider lacks = tt
lacks_wider s t Usage wider lacks = lacks
lacks_wider s t ReadFault wider lacks = lacks
lacks_wider s t WriteFault wider lacks = lacks
lacks_wider s t NotBuilt wider lacks = lacks
lacks_wider s t (Damaged bad) wider lacks = lacks
lacks_wider s t NoCollection wider lacks = lacks
lacks_wider s t (TooLarge size most) wider lacks = lacks
lacks_wider s t TooManyDocuments wider lacks = lacks
lacks_wider s t (TooManyPieces stream) wider lacks = lacks
lacks_wider s t (Changed what first second) wider lacks = lacks
lacks_wider s t (NameClash p) wider lacks = lacks
lacks_wider s t InputTooLong wider lacks = lacks
lacks_wider s t SameName wider lacks = lacks
lacks_wider s t (TooManyRotations count) wider lacks = lacks

-- the fault is one of two
lacks_one_of : (s : Type 0) (f : Fault) → Lacks s f → ((f ≡ StoreFault) × s) ⊎ (f ≡ Memory)
lacks_one_of s StoreFault lacks = inl (refl, lacks)
lacks_one_of s Memory lacks = inr refl
lacks_one_of s Usage lacks = absurd lacks
lacks_one_of s ReadFault lacks = absurd lacks
lacks_one_of s WriteFault lacks = absurd lacks
lacks_one_of s NotBuilt lacks = absurd lacks
lacks_one_of s (Damaged bad) lacks = absurd lacks
lacks_one_of s NoCollection lacks = absurd lacks
lacks_one_of s (TooLarge size most) lacks = absurd lacks
lacks_one_of s TooManyDocuments lacks = absurd lacks
lacks_one_of s (TooManyPieces stream) lacks = absurd lacks
lacks_one_of s (Changed what first second) lacks = absurd lacks
lacks_one_of s (NameClash p) lacks = absurd lacks
lacks_one_of s InputTooLong lacks = absurd lacks
lacks_one_of s SameName lacks = absurd lacks
lacks_one_of s (TooManyRotations count) lacks = absurd lacks

failed_ends : (s : Type 0) (docs : ℕ) (collection input : List ℕ) → s → WorkEnds s docs collection input (Err StoreFault)
failed_ends s docs collection input rose = record {
  done = tt;
  cause = rose;
  large = λ more. inr (inl refl);
  documents = λ few passes. inr (inl refl);
  pieces = λ stream bytes few passes. inr (inl refl);
  complete = λ few within never. absurd (never rose);
}

memory_ends : (s : Type 0) (docs : ℕ) (collection input : List ℕ) → WorkEnds s docs collection input (Err Memory)
memory_ends s docs collection input = record {
  done = tt;
  cause = tt;
  large = λ more. inr (inr refl);
  documents = λ few passes. inr (inr refl);
  pieces = λ stream bytes few passes. inr (inr refl);
  complete = λ few within never. tt;
}

-- a step that only lacked something ends the work so
pub lacking_ends : (s t : Type 0) (docs : ℕ) (collection input : List ℕ) (f : Fault) → (s → t) → Lacks s f → WorkEnds t docs collection input (Err f)
lacking_ends s t docs collection input f wider lacks = by_case (lacks_one_of s f lacks)
  where
    by_case : ((f ≡ StoreFault) × s) ⊎ (f ≡ Memory) → WorkEnds t docs collection input (Err f)
    by_case (inl both) = subst (λ (g : Fault). WorkEnds t docs collection input (Err g)) (sym both.0) (failed_ends t docs collection input (wider both.1))
    by_case (inr is) = subst (λ (g : Fault). WorkEnds t docs collection input (Err g)) (sym is) (memory_ends t docs collection input)

-- ---- too many bytes

pub large_ends : (s : Type 0) (docs : ℕ) (collection input : List ℕ) (size most : ℕ) → size ≡ length collection → most ≡ held_bytes → held_bytes < size →
    WorkEnds s docs collection input (Err (TooLarge size most))
large_ends s docs collection input size most is at more = record {
  done = tt;
  cause = (at, omega (arith, at, more), sym is);
  large = λ long. inl (subst (λ (n : ℕ). ◌≡◌ {A = Result TrialSummary Fault} (Err (TooLarge size most)) (Err (TooLarge n held_bytes))) is (ap (λ m. Err (TooLarge size m)) at));
  documents = λ few passes. absurd (omega (arith, few, is, more));
  pieces = λ stream bytes few passes. absurd (omega (arith, few, is, more));
  complete = λ few within never. absurd (omega (arith, few, is, more));
}

-- ---- the build is refused

pub no_refusal : {T : Type 0} (value : T) (g : Fault) → RefusedFor (Ok value) g → ⊥
no_refusal value g (inl e) = cc
no_refusal value g (inr (inl e)) = cc
no_refusal value g (inr (inr e)) = cc

-- a cause in a part of a trial is one of the whole
pub stops_wider : (s t o p : Type 0) (collection : List ℕ) (f : Fault) → (s → t) → (o → p) → TrialStops s o collection f → TrialStops t p collection f
stops_wider s t o p collection StoreFault store output cause = store cause
stops_wider s t o p collection WriteFault store output cause = output cause
stops_wider s t o p collection Memory store output cause = cause
stops_wider s t o p collection Usage store output cause = cause
stops_wider s t o p collection ReadFault store output cause = cause
stops_wider s t o p collection NotBuilt store output cause = cause
stops_wider s t o p collection (Damaged bad) store output cause = cause
stops_wider s t o p collection NoCollection store output cause = cause
stops_wider s t o p collection (TooLarge size most) store output cause = cause
stops_wider s t o p collection TooManyDocuments store output cause = cause
stops_wider s t o p collection (TooManyPieces stream) store output cause = cause
stops_wider s t o p collection (Changed what first second) store output cause = cause
stops_wider s t o p collection (NameClash q) store output cause = cause
stops_wider s t o p collection InputTooLong store output cause = cause
stops_wider s t o p collection SameName store output cause = cause
stops_wider s t o p collection (TooManyRotations count) store output cause = cause

pub answer_wider : {T : Type 0} (s t o p : Type 0) (collection : List ℕ) (r : Result T Fault) → (s → t) → (o → p) → IfErr r (TrialStops s o collection) → IfErr r (TrialStops t p collection)
answer_wider s t o p collection (Ok value) store output cause = tt
answer_wider s t o p collection (Err f) store output cause = stops_wider s t o p collection f store output cause

module _ (budget : ℕ) (store store_now : StoreAt) (collection : List ℕ) (there : file_at store.files text_name ≡ Some collection) (told : IsSome store.files)
    (few : length collection ≤ held_bytes) where
  bytes_are : bytes_at store.files text_name ≡ collection
  bytes_are = bytes_there store.files collection there

  build_stops : (f : Fault) → building.BuildStops (StoreRose store store_now) store.files text_name set_name f → TrialStops (StoreRose store store_now) ⊥ collection f
  build_stops StoreFault cause = cause
  build_stops Memory cause = tt
  build_stops Usage cause = cause
  build_stops ReadFault cause = cause
  build_stops WriteFault cause = cause
  build_stops NotBuilt cause = cause
  build_stops (Damaged bad) cause = absurd (cause told)
  build_stops NoCollection cause = absurd (let none = cause told in cc)
  build_stops (TooLarge size most) cause = absurd (let is : length collection ≡ size = ap length (sym bytes_are) ∙ cause.2 told in omega (arith, few, is, cause.0, cause.1))
  build_stops TooManyDocuments cause = subst (λ c. PassesFirst version_2 c start) bytes_are (cause told)
  build_stops (TooManyPieces stream) cause = let passes = cause told in (passes.0, subst (λ c. PassesFirst version_2 c (piece stream passes.0)) bytes_are passes.1)
  build_stops (Changed what first second) cause = absurd (cause.1 told)
  build_stops (NameClash p) cause = absurd (text_is_apart p cause.0 cause.1)
  build_stops InputTooLong cause = cause
  build_stops SameName cause = cause
  build_stops (TooManyRotations count) cause = cause

  refused_too : (f g : Fault) → StoppedFor (Stopped f) g → RefusedFor {T = TrialSummary} (Err f) g
  refused_too f g (inl e) = inl cc
  refused_too f g (inr (inl e)) = inr (inl cc)
  refused_too f g (inr (inr e)) = inr (inr cc)

  done_too : (f : Fault) → (Stopped f ≡ Done) ⊎ (Stopped f ≡ Stopped Memory) → IsDone {T = TrialSummary} (Err f)
  done_too f (inl e) = absurd (never_stopped f (sym e))
  done_too f (inr e) = let is : Memory ≡ f = cc in subst (λ (g : Fault). IsDone {T = TrialSummary} (Err g)) is tt

  fits : length collection ≤ most_bytes
  fits = omega (arith, few)

  pub refused_ends : (wider : Type 0) (docs : ℕ) (input : List ℕ) (f : Fault) → (StoreRose store store_now → wider) →
      Made text_name set_name budget store store_now (Stopped f) → WorkEnds wider docs collection input (Err f)
  refused_ends wider docs input f widen made = record {
    done = tt;
    cause = stops_wider (StoreRose store store_now) wider ⊥ ⊥ collection f widen (λ bad. bad) (build_stops f made.cause);
    large = λ more. absurd (omega (arith, few, more));
    documents = λ small passes. refused_too f _ (made.documents collection there text_is_apart fits passes);
    pieces = λ stream bytes small passes. refused_too f _ (made.pieces collection stream bytes there text_is_apart fits passes);
    complete = λ small within never. done_too f (made.complete collection there text_is_apart within (λ rose. never (widen rose)));
  }

  pub done_ends : (wider : Type 0) (docs : ℕ) (input : List ℕ) (found : TrialSummary) → Made text_name set_name budget store store_now Done →
      found ≡ trial_summary docs collection input → WorkEnds wider docs collection input (Ok found)
  done_ends wider docs input found made is = record {
    done = is;
    cause = tt;
    large = λ more. absurd (omega (arith, few, more));
    documents = λ small passes. absurd (never_refused _ (made.documents collection there text_is_apart fits passes));
    pieces = λ stream bytes small passes. absurd (never_refused _ (made.pieces collection stream bytes there text_is_apart fits passes));
    complete = λ small within never. tt;
  }
