-- What is told of a session's opening and of its lines is what its run did, whatever kind of session it is.
use Rattle.std.proofs.Common.{arith, ◌≡◌, ◌+◌, ◌≤◌, ◌∙◌, ◌⊎◌, ℕ, false, List, ◌++◌, Some, Ok, Err, IsSome, Option, refl, sym, ap, subst, inl, inr}
use Rattle.std.specs.Prelude.{Result, IfErr}
use Rattle.mg_dev.specs.Causes.{Rose}
use Rattle.mg_dev.specs.Files.{Files, Reads}
use Rattle.mg_dev.specs.Moments.{SinkAt, SinkRose, SourceAt, SourceRose, StoreAt, StoreRose}
use Rattle.mg_dev.specs.Names.{number}
use Rattle.mg_dev.specs.Runs.{IfStopped, InputFailed, OutputFailed, RefusedFor, Run, Stops, StoreFailed, status_of}
use Rattle.mg_dev.specs.StreamLaws.{grew_nothing}
use Rattle.mg_dev.specs.Streams.{appended, GrewByPrefix}
use Rattle.mg_dev.specs.declared.fault.Fault.{Fault}
use Rattle.mg_dev.specs.declared.fault.Fault.TheVariants.{NotBuilt, Memory, StoreFault}
use Rattle.mg_dev.specs.declared.part.Part.{Part}
use Rattle.mg_dev.specs.declared.part.Part.TheVariants as part
use Rattle.mg_dev.specs.declared.part_err.PartErr.{PartErr}
use Rattle.mg_dev.specs.declared.part_err.PartErr.TheVariants as err
use Rattle.mg_dev.specs.declared.bad.Bad.{Bad}
use Rattle.mg_dev.specs.declared.status.Status.{Status}
use Rattle.mg_dev.specs.declared.status.Status.TheVariants.{Done, Stopped}
use Rattle.mg_dev.proofs.CallerLemmas.{when_ok, err_by, stopped_by, unless_by}
use Rattle.mg_defs.specs.CodedText.{TextCode}
use Rattle.mg_defs.specs.InputLimit.{is_too_much}
use Rattle.mg_defs.specs.Limits.{input_limit}
use Rattle.mg_defs.specs.Session.{Question, heard_questions, heard_session}
use Rattle.mg_defs.specs.declared.session.Hearing.{Hearing}
use Rattle.mg_defs.specs.declared.session.Settings.{Settings}
use Rattle.mg_layout.proofs.CallerLemmas.{loaded_set, no_empty_head}
use Rattle.mg_layout.specs.Stands.{HasNoHead, Stands, StandsBy, StandsForNone}
use Rattle.mg_layout.specs.declared.head.Head.{Head}
use Rattle.mg_reply.proofs.CallerLemmas.{none_broken, none_in_turn}
use Rattle.mg_reply.specs.Printed.{IsTooLong}
use Rattle.mg_reply.specs.PrintedLines.{PrintRule}
use Rattle.mg_session.specs.Opening.{HeadOpened, KeptByQueries, SetOpened}
use Rattle.mg_session.specs.Served.{LineStops, LinesServed, Served}
use Rattle.mg_session.specs.Serves.{IsFirst, ServeStops, StandsByNone}
use Rattle.mg_session.proofs.SetLaws.{loaded_too}
use Rattle.mg_session.proofs.StopLaws.{line_later, line_stops, only_memory, open_stops}
use Rattle.mg_session.proofs.AllowedLaws.{KeepsParts}

-- the run of a call
abbrev pub run_of : StoreAt → StoreAt → SourceAt → SourceAt → SinkAt → SinkAt → SinkAt → SinkAt → Result (Unit {0}) Fault → Run
run_of store store_now input input_now out out_now err err_now result = record {
  store = store;
  store_now = store_now;
  input = input;
  input_now = input_now;
  out = out;
  out_now = out_now;
  err = err;
  err_now = err_now;
  status = status_of result;
}

-- no part was read that is kept, and is not the head
abbrev pub KeptReads : (Part → Type 0) → Reads → Reads → Type 0
KeptReads IsKept before now = (p : Part) → IsKept p → 1 ≤ number p → now p ≡ before p

pub parts_kept : {r s : Reads} → KeptReads KeptByQueries r s → KeepsParts r s
parts_kept kept = record { post = kept part.Post tt (omega arith); skip = kept part.Skip tt (omega arith); weights = kept part.Weights tt (omega arith) }

-- A kind of session: what it prints of a collection and an input, and what it reads; what its answerer's states are; and why these fit together.
pub record Kind : Type 1 where
  pub text : List ℕ → List ℕ → List ℕ
  pub IsWithin : TextCode → List ℕ → List ℕ → Reads → Reads → Type 0
  pub IsUnread : Part → Type 0
  pub IsCounted : Option Files → List ℕ → ℕ → Type 0
  pub IsKept : Part → Type 0
  pub hearing : Hearing
  pub State : Type 0
  pub at : State → StoreAt
  pub Answers : State → (Settings → List ℕ → List ℕ) → Type 0
  pub After : State → State → List Question → Type 0
  pub Prints : State → PrintRule
  pub MayStop : State → State → PartErr → Type 0
  pub IsOver : State → TextCode → List ℕ → Type 0
  pub reply : List ℕ → Settings → List ℕ → List ℕ
  -- what is never read is neither the head nor read while a set is opened, and the head is not read then
  pub behind_head : (p : Part) → IsUnread p → 1 ≤ number p
  pub never_opened : (p : Part) → IsUnread p → IsKept p
  pub head_kept : IsKept part.Head
  pub within_none : (code : TextCode) (collection given : List ℕ) (r0 r1 : Reads) → KeptReads IsKept r0 r1 → IsWithin code collection given r0 r1
  pub within_from : (code : TextCode) (collection given : List ℕ) (r0 r1 r2 : Reads) → KeptReads IsKept r0 r1 → IsWithin code collection given r1 r2 → IsWithin code collection given r0 r2
  -- over a collection it answers as the session of the collection does
  pub answers : (s : State) (code : TextCode) (collection : List ℕ) → IsOver s code collection → Answers s (reply collection)
  pub text_is : (collection given : List ℕ) → text collection given ≡ heard_session hearing (reply collection) given
  -- what it reads for the first query lines of an input
  pub files : (s t : State) (qs : List Question) → After s t qs → (at t).files ≡ (at s).files
  pub unread : (s t : State) (qs : List Question) → After s t qs → (p : Part) → IsUnread p → (at t).reads p ≡ (at s).reads p
  pub head_unread : (s t : State) (qs : List Question) → After s t qs → (at t).reads part.Head ≡ (at s).reads part.Head
  pub within : (s t : State) (qs : List Question) (code : TextCode) (collection given : List ℕ) → After s t qs → (more : List Question) × (heard_questions hearing given ≡ qs ++ more)
      → IsOver s code collection → IsWithin code collection given (at s).reads (at t).reads
  -- why it stops
  pub device : (s t : State) → MayStop s t err.Device → Rose (at s).faults (at t).faults
  pub bad : (s t : State) (bad : Bad) → MayStop s t (err.Bad bad) → (code : TextCode) (collection : List ℕ) → IsOver s code collection → ⊥

-- its run
abbrev pub ServedAs : Kind → List ℕ → Run → Type 0
ServedAs k base run = Served k.text k.hearing k.reply k.IsWithin k.IsUnread k.IsCounted base run

-- a refusal is the same, whatever is answered else
pub refused_as : {A B : Type 0} (f g : Fault) → RefusedFor {T = A} (Err f) g → RefusedFor {T = B} (Err f) g
refused_as {A} {B} f g (inl e) = let same : f ≡ g = cc in inl (ap Err same)
refused_as {A} {B} f g (inr (inl e)) = let same : f ≡ StoreFault = cc in inr (inl (ap Err same))
refused_as {A} {B} f g (inr (inr e)) = let same : f ≡ Memory = cc in inr (inr (ap Err same))

-- ---- the opening

-- what is kept is read neither with the head nor while the set is opened
set_pages : {T : Type 0} (k : Kind) (IsOver : T → TextCode → List ℕ → Type 0) (counted : ℕ → Type 0) (head : Head) (base : List ℕ) (s0 s1 s2 : StoreAt) (r : Result Head Fault) (o : Result T Fault) →
    HeadOpened base s0 s1 r → SetOpened IsOver k.IsKept counted head base s1 s2 o → KeptReads k.IsKept s0.reads s2.reads
set_pages k IsOver counted head base s0 s1 s2 r o h set = λ p kept high. set.unread p kept ∙ h.unread p high

-- the files stand for a collection only where the set with the loaded head does
pub stands_opened : (base : List ℕ) (s0 s1 : StoreAt) (head : Head) → HeadOpened base s0 s1 (Ok head) → (collection : List ℕ) →
    Stands s0.files base collection → (code : TextCode) × StandsBy head code s1.files base collection
stands_opened base s0 s1 head h collection stands =
    let by = loaded_set s0.files base collection head stands (h.head stands.told) in
    (by.0, subst (λ (f : Option Files). StandsBy head by.0 f base collection) (sym h.files) by.1)

-- and with each head only where it does with that one
by_opened : (base : List ℕ) (s0 s1 : StoreAt) (head : Head) → HeadOpened base s0 s1 (Ok head) → (other : Head) (code : TextCode) (collection : List ℕ) →
    StandsBy other code s0.files base collection → StandsBy head code s1.files base collection
by_opened base s0 s1 head h other code collection stands =
    subst (λ (f : Option Files). StandsBy head code f base collection) (sym h.files) (loaded_too s0.files base collection other head code stands (h.head stands.told))

-- where there is no head, none is loaded
is_there : (base : List ℕ) (s0 s1 : StoreAt) (head : Head) (X : Type 0) → HeadOpened base s0 s1 (Ok head) → IsSome s0.files → HasNoHead s0.files base → X
is_there base s0 s1 head X h told none = absurd (no_empty_head _ _ (h.head told) none)

-- ---- a session that stops before the first line

-- what is told of the refusal is what the run did
stopped : (k : Kind) (base : List ℕ) (s0 s1 : StoreAt) (i : SourceAt) (o e e1 : SinkAt) (f : Fault) → s1.files ≡ s0.files → KeptReads k.IsKept s0.reads s1.reads →
    s1.reads part.Head ≤ s0.reads part.Head + 1 →
    ((p : Part) → k.IsUnread p → s1.reads p ≡ s0.reads p) →
    ServeStops k.IsCounted base (StoreRose s0 s1) (SourceRose i i) (SinkRose o o) s0.files i.left f → (IsSome s0.files → HasNoHead s0.files base → RefusedFor {T = Unit {0}} (Err f) NotBuilt) →
    ServedAs k base (run_of s0 s1 i i o o e e1 (Err f))
stopped k base s0 s1 i o e e1 f files pages once unread cause not_built = record {
  done = λ collection given stands some end. when_ok {T = Unit {0}} _ (Err f) end tt;
  left = λ given some end. when_ok {T = Unit {0}} _ (Err f) end tt;
  within = λ given some end. when_ok {T = Unit {0}} _ (Err f) end tt;
  prefix = λ collection given stands some. grew_nothing _ _;
  in_turn = λ collection stands. none_in_turn k.hearing (k.reply collection) refl refl;
  broken = λ collection given stands some end. none_broken k.hearing (k.reply collection) given refl refl some;
  silent = λ fault first is. refl;
  untouched = λ fault first is. refl;
  cause = cause;
  not_built = λ told none. unless_by {T = Unit {0}} (run_of s0 s1 i i o o e e1 (Err f)) (Err f) NotBuilt refl (not_built told none);
  files = files;
  pages = λ head code collection given stands some. k.within_none code collection given s0.reads s1.reads pages;
  unread = unread;
  head_page = once;
}

-- the head is refused
pub head_stopped : (k : Kind) (base : List ℕ) (s0 s1 : StoreAt) (i : SourceAt) (o e e1 : SinkAt) (f : Fault) → HeadOpened base s0 s1 (Err f) → ServedAs k base (run_of s0 s1 i i o o e e1 (Err f))
head_stopped k base s0 s1 i o e e1 f h =
    stopped k base s0 s1 i o e e1 f h.files (λ p kept high. h.unread p high) h.once (λ p never. h.unread p (k.behind_head p never))
    (open_stops f (StoreRose s0 s1) (StoreRose s0 s1) (SourceRose i i) (SinkRose o o) (IsSome s0.files → HasNoHead s0.files base) (IsSome s0.files → HasNoHead s0.files base)
    (StandsForNone s0.files base) (StandsForNone s0.files base) (λ n. ⊥) (k.IsCounted s0.files base) i.left (λ rose. rose) (λ none. none) (λ bad. bad) (λ n never. absurd never) h.cause)
    (λ told none. refused_as {A = Head} {B = Unit {0}} f NotBuilt (h.not_built told none))

-- the head is loaded, and a part of its set is refused
pub set_stopped : {T : Type 0} (k : Kind) (IsOver : T → TextCode → List ℕ → Type 0) (counted : ℕ → Type 0) (base : List ℕ) (s0 s1 s2 : StoreAt) (i : SourceAt)
    (o e e1 : SinkAt) (head : Head) (f : Fault) →
    HeadOpened base s0 s1 (Ok head) → SetOpened {T = T} IsOver k.IsKept counted head base s1 s2 (Err f) → ((n : ℕ) → counted n → k.IsCounted s0.files base n) →
    ServedAs k base (run_of s0 s2 i i o o e e1 (Err f))
set_stopped k IsOver counted base s0 s1 s2 i o e e1 head f h set counts =
    stopped k base s0 s2 i o e e1 f (set.files ∙ h.files) (set_pages k IsOver counted head base s0 s1 s2 (Ok head) (Err f) h set)
    (omega (arith, h.once, set.unread part.Head k.head_kept))
    (λ p never. set.unread p (k.never_opened p never) ∙ h.unread p (k.behind_head p never))
    (open_stops f (StoreRose s1 s2) (StoreRose s0 s2) (SourceRose i i) (SinkRose o o) ⊥ (IsSome s0.files → HasNoHead s0.files base)
    (StandsByNone head s1.files base) (StandsForNone s0.files base) counted (k.IsCounted s0.files base) i.left (λ rose. omega (arith, h.faults, rose)) (λ none. absurd none)
    (λ none collection stands. let by = stands_opened base s0 s1 head h collection stands in none by.0 collection by.1) counts set.cause)
    (λ told none. is_there base s0 s1 head _ h told none)

-- ---- a session that answers its lines

-- why it stops
lines_cause : (k : Kind) (base : List ℕ) (s0 : StoreAt) (old new : k.State) (i i1 : SourceAt) (o o1 : SinkAt) (r : Result (Unit {0}) Fault) → s0.faults ≤ (k.at old).faults →
    ((collection : List ℕ) → Stands s0.files base collection → (code : TextCode) × k.IsOver old code collection) →
    IfErr r (LineStops (SourceRose i i1) (SinkRose o o1) (IsTooLong i.left) (k.MayStop old new)) →
    IfErr r (ServeStops k.IsCounted base (StoreRose s0 (k.at new)) (SourceRose i i1) (SinkRose o o1) s0.files i.left)
lines_cause k base s0 old new i i1 o o1 (Ok value) later over cause = tt
lines_cause k base s0 old new i i1 o o1 (Err f) later over cause =
    line_stops f (StoreRose s0 (k.at new)) (SourceRose i i1) (SinkRose o o1) (IsSome s0.files → HasNoHead s0.files base) (StandsForNone s0.files base)
    (k.IsCounted s0.files base) (k.MayStop old new) i.left (λ may. omega (arith, later, k.device old new may))
    (λ b may collection stands. let is = over collection stands in k.bad old new b may is.0 collection is.1) cause

lines_first : (r : Result (Unit {0}) Fault) (I O L X : Type 0) (MayStop : PartErr → Type 0) (f : Fault) → status_of r ≡ Stopped f → IsFirst f → IfErr r (LineStops I O L MayStop) → X
lines_first r I O L X MayStop f is first cause =
    line_later f I O L X MayStop (subst (λ (x : Result (Unit {0}) Fault). IfErr x (LineStops I O L MayStop)) (err_by r f is) cause) first

-- the head is loaded, its set is opened, and lines are answered
pub lines_served : {T : Type 0} (k : Kind) (IsOver : T → TextCode → List ℕ → Type 0) (counted : ℕ → Type 0) (base : List ℕ) (s0 s1 : StoreAt)
    (old new : k.State) (i i1 : SourceAt) (o o1 e e1 : SinkAt) (head : Head) (opened : T) (r : Result (Unit {0}) Fault) →
    HeadOpened base s0 s1 (Ok head) → SetOpened IsOver k.IsKept counted head base s1 (k.at old) (Ok opened) →
    ((code : TextCode) (collection : List ℕ) → IsOver opened code collection → k.IsOver old code collection) →
    LinesServed k.hearing k.Answers k.After k.Prints k.MayStop old new i i1 o o1 r →
    ServedAs k base (run_of s0 (k.at new) i i1 o o1 e e1 r)
lines_served k IsOver counted base s0 s1 old new i i1 o o1 e e1 head opened r h set is_over lines =
    let over : (collection : List ℕ) → Stands s0.files base collection → (code : TextCode) × k.IsOver old code collection =
    λ collection stands. let by = stands_opened base s0 s1 head h collection stands in (by.0, is_over by.0 collection (set.over by.0 collection by.1)) in
    record {
      done = λ collection given stands some end.
          let is = over collection stands in
          subst (λ (t : List ℕ). o1.written ≡ appended o.written t) (sym (k.text_is collection given))
          (when_ok _ r end (lines.all (k.reply collection) given (k.answers old is.0 collection is.1) some));
      left = λ given some end. when_ok _ r end (lines.left given some);
      within = λ given some end. when_ok _ r end (lines.within given some);
      prefix = λ collection given stands some.
          let is = over collection stands in
          subst (λ (t : List ℕ). GrewByPrefix o.written o1.written t) (sym (k.text_is collection given)) (lines.prefix (k.reply collection) given (k.answers old is.0 collection is.1) some);
      in_turn = λ collection stands. let is = over collection stands in lines.in_turn (k.reply collection) (k.answers old is.0 collection is.1);
      broken = λ collection given stands some end.
          let is = over collection stands in lines.broken (k.reply collection) given (k.answers old is.0 collection is.1) some (err_by r _ end);
      silent = λ fault first is. lines_first r (SourceRose i i1) (SinkRose o o1) (IsTooLong i.left) _ (k.MayStop old new) fault is first lines.cause;
      untouched = λ fault first is. lines_first r (SourceRose i i1) (SinkRose o o1) (IsTooLong i.left) _ (k.MayStop old new) fault is first lines.cause;
      cause = stopped_by _ r (lines_cause k base s0 old new i i1 o o1 r (omega (arith, h.faults, set.faults)) over lines.cause);
      not_built = λ told none. is_there base s0 s1 head _ h told none;
      files = k.files old new lines.answered.answered lines.answered.after ∙ set.files ∙ h.files;
      pages = λ other code collection given stands some.
          let by = by_opened base s0 s1 head h other code collection stands in
          k.within_from code collection given s0.reads (k.at old).reads (k.at new).reads (set_pages k IsOver counted head base s0 s1 (k.at old) (Ok head) (Ok opened) h set)
          (k.within old new lines.answered.answered code collection given lines.answered.after (lines.answered.first given some) (is_over code collection (set.over code collection by)));
      unread = λ p never.
          k.unread old new lines.answered.answered lines.answered.after p never ∙ set.unread p (k.never_opened p never) ∙ h.unread p (k.behind_head p never);
      head_page = omega (arith, h.once, set.unread part.Head k.head_kept, k.head_unread old new lines.answered.answered lines.answered.after);
    }

-- ---- where nothing stands in the way

-- it is done, or memory is wanting
pub done_or : (IsCounted : Option Files → List ℕ → ℕ → Type 0) (base collection given : List ℕ) (run : Run) (r : Result (Unit {0}) Fault) → run.status ≡ status_of r
    → IfStopped run.status (ServeStops IsCounted base (StoreFailed run) (InputFailed run) (OutputFailed run) run.store.files run.input.left)
    → Stands run.store.files base collection → ((n : ℕ) → IsCounted run.store.files base n → ⊥) → run.input.left ≡ Some given → is_too_much input_limit given ≡ false
    → ¬ StoreFailed run → ¬ InputFailed run → ¬ OutputFailed run → (run.status ≡ Done) ⊎ Stops run Memory
done_or IsCounted base collection given run (Ok u) is cause stands few told short no_store no_input no_output = inl is
done_or IsCounted base collection given run (Err f) is cause stands few told short no_store no_input no_output =
    let stops = subst (λ (s : Status). IfStopped s (ServeStops IsCounted base (StoreFailed run) (InputFailed run) (OutputFailed run) run.store.files run.input.left)) is cause in
    inr (is ∙ ap Stopped (only_memory IsCounted _ _ _ _ base collection given _ f stops stands few told short no_store no_input no_output))
