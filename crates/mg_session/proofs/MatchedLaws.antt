-- What a session of patterns answered is what the run did.
use Rattle.std.proofs.Common.{arith, ◌≡◌, ◌<◌, ◌≤◌, ◌∙◌, ℕ, List, Ok, Err, IsSome, Option, refl, sym, subst, inl, inr}
use Rattle.std.specs.Prelude.{Result}
use Rattle.mg_dev.specs.Files.{Files, bytes_at}
use Rattle.mg_dev.specs.Moments.{SinkAt, SourceAt, StoreAt}
use Rattle.mg_dev.specs.Names.{full_name, number}
use Rattle.mg_dev.specs.Runs.{RefusedFor, Run, status_of}
use Rattle.mg_dev.specs.declared.fault.Fault.{Fault}
use Rattle.mg_dev.specs.declared.fault.Fault.TheVariants.{StoreFault, Memory, TooManyRotations}
use Rattle.mg_dev.specs.declared.part.Part.{Part}
use Rattle.mg_dev.specs.declared.part.Part.TheVariants as part
use Rattle.mg_dev.proofs.CallerLemmas.{unless_by}
use Rattle.mg_defs.specs.Heads as defs
use Rattle.mg_defs.specs.Rotations.{most_rotations, rotation_count}
use Rattle.mg_defs.specs.Session.{heard_session}
use Rattle.mg_defs.specs.Terms.{dictionary}
use Rattle.mg_defs.specs.WildSession.{wild_reply, wild_session}
use Rattle.mg_defs.specs.declared.session.Hearing.TheVariants.{Questions}
use Rattle.mg_defs.proofs.HeadLaws.{one_head}
use Rattle.mg_laws.proofs.PlainLaws.{plain_heard}
use Rattle.mg_layout.specs.HeadAnswers.{fields_of}
use Rattle.mg_layout.specs.Stands.{Stands}
use Rattle.mg_layout.specs.declared.head.Head.{Head}
use Rattle.mg_layout.proofs.CallerLemmas.{own_head}
use Rattle.mg_wild.specs.Loading.{HasTooMany}
use Rattle.mg_session.specs.Matched.{Matched}
use Rattle.mg_session.specs.Opening.{HeadOpened, IsLack, KeptByPatterns, SetOpened}
use Rattle.mg_session.specs.Served.{LinesServed}
use Rattle.mg_session.specs.WildAnswers.{NeverReadByPatterns, ReadsPatterns}
use Rattle.mg_session.specs.WildSearching.{PartsAreBy, WildAsked, WildBy, WildMayStop, WildParts, WildPrints, WildState}
use Rattle.mg_session.specs.WildServes.{CountedBy, CountsTooMany, HasTooManyTerms, TooManyBy}
use Rattle.mg_session.proofs.ServedLaws.{Kind, ServedAs, done_or, head_stopped, lines_served, refused_as, run_of, set_stopped, stands_opened}
use Rattle.mg_session.proofs.WildPageLaws.{patterns_within}
use Rattle.mg_session.proofs.WildReplyLaws.{patterns_over}
use Rattle.mg_session.proofs.WildSetLaws.{counted_of, set_has}
use Rattle.mg_session.proofs.WildTextLaws.{unread_post}

-- ---- the kind

pub text_is : (collection given : List ℕ) → wild_session collection given ≡ heard_session Questions (λ now. wild_reply collection) given
unfolding wild_session
text_is collection given = plain_heard (wild_reply collection) given

pub behind_head : (p : Part) → NeverReadByPatterns p → 1 ≤ number p
behind_head part.Head never = absurd never
behind_head part.Words never = omega arith
behind_head part.Nonwords never = omega arith
behind_head part.Text never = omega arith
behind_head part.Places never = omega arith
behind_head part.Lex never = absurd never
behind_head part.LexAt never = omega arith
behind_head part.Post never = absurd never
behind_head part.Skip never = omega arith
behind_head part.Weights never = omega arith
behind_head part.Run never = omega arith
behind_head part.MergeA never = omega arith
behind_head part.MergeB never = omega arith
behind_head part.Plain never = omega arith

pub kept : (p : Part) → NeverReadByPatterns p → KeptByPatterns p
kept part.Head never = absurd never
kept part.Words never = tt
kept part.Nonwords never = tt
kept part.Text never = tt
kept part.Places never = tt
kept part.Lex never = absurd never
kept part.LexAt never = tt
kept part.Post never = absurd never
kept part.Skip never = tt
kept part.Weights never = tt
kept part.Run never = tt
kept part.MergeA never = tt
kept part.MergeB never = tt
kept part.Plain never = tt

abbrev pub patterns : Kind
patterns = record {
  text = wild_session;
  IsWithin = ReadsPatterns;
  IsUnread = NeverReadByPatterns;
  IsCounted = CountsTooMany;
  IsKept = KeptByPatterns;
  hearing = Questions;
  State = WildState;
  at = λ (s : WildState). record { files = s.files; reads = s.reads; faults = s.faults };
  Answers = WildBy;
  After = WildAsked;
  Prints = WildPrints;
  MayStop = WildMayStop;
  IsOver = λ (s : WildState). PartsAreBy s.files s.parts;
  reply = λ collection now. wild_reply collection;
  behind_head = behind_head;
  never_opened = kept;
  head_kept = tt;
  within_none = λ code collection given r0 r1 none. record { post = omega (arith, none part.Post tt (omega arith)) };
  within_from = λ code collection given r0 r1 r2 none w. record { post = omega (arith, w.post, none part.Post tt (omega arith)) };
  answers = λ s code collection over. patterns_over s collection over;
  text_is = text_is;
  files = λ s t qs a. a.step.files;
  unread = λ s t qs a p never. a.step.unread p (unread_post p never) (λ e. absurd (subst NeverReadByPatterns e never));
  head_unread = λ s t qs a. a.step.unread part.Head (λ e. absurd cc) (λ e. absurd cc);
  within = λ s t qs code collection given a first over. patterns_within s t qs code collection given a first over;
  device = λ s t rose. rose;
  bad = λ s t b may code collection over. may collection over;
}

-- ---- its rotations

-- what is counted by the loaded head is counted by the head of the files
counted_by : (base : List ℕ) (s0 s1 : StoreAt) (head : Head) → HeadOpened base s0 s1 (Ok head) → (count : ℕ) → CountedBy head s1.files base count → CountsTooMany s0.files base count
counted_by base s0 s1 head h count counted =
    let over : (f : Option Files) → f ≡ s0.files → CountedBy head f base count → CountedBy head s0.files base count =
    λ f same by. subst (λ (g : Option Files). CountedBy head g base count) same by in
    let by = over s1.files h.files counted in
    (by.0, λ told. record { head = fields_of head; head_is = h.head told; many = by.1 told })

-- what the head of the files tells is told by the loaded head
told_by : (base : List ℕ) (s0 s1 : StoreAt) (head : Head) → HeadOpened base s0 s1 (Ok head) → IsSome s0.files → (count : ℕ) → HasTooManyTerms s0.files base count → TooManyBy head s1.files base count
told_by base s0 s1 head h told count many =
    let mine = h.head told in
    let same : many.head ≡ fields_of head = one_head many.head (fields_of head) many.head_is.within mine.within (sym many.head_is.bytes_are ∙ mine.bytes_are) in
    let here : HasTooMany (bytes_at s0.files (full_name base part.Lex)) head.terms count =
    subst (λ (f : defs.Head). HasTooMany (bytes_at s0.files (full_name base part.Lex)) f.terms count) same many.many in
    subst (λ (g : Option Files). TooManyBy head g base count) (sym h.files) here

-- too many are counted of no collection whose terms have few
few_counted : (files : Option Files) (base collection : List ℕ) → Stands files base collection → rotation_count (dictionary collection) ≤ most_rotations → (n : ℕ) → CountsTooMany files base n → ⊥
few_counted files base collection stands few n counted =
    let told = counted.1 stands.told in
    omega (arith, few, counted.0, counted_of files base collection stands n told.head.terms told.many)

-- ---- its run

matched_as : (base : List ℕ) (run : Run) (r : Result (Unit {0}) Fault) → run.status ≡ status_of r → ServedAs patterns base run →
    ((count : ℕ) → IsSome run.store.files → HasTooManyTerms run.store.files base count → RefusedFor r (TooManyRotations count)) →
    ((collection : List ℕ) → Stands run.store.files base collection → most_rotations < rotation_count (dictionary collection) →
    RefusedFor r (TooManyRotations (rotation_count (dictionary collection)))) →
    Matched base run
matched_as base run r is served too_many many = record {
  served = served;
  too_many = λ count told terms. unless_by run r _ is (too_many count told terms);
  many = λ collection stands more. unless_by run r _ is (many collection stands more);
  complete = λ collection given stands few some short no_store no_input no_output.
      done_or CountsTooMany base collection given run r is served.cause stands (few_counted run.store.files base collection stands few) some short no_store no_input no_output;
}

told_then : (s0 s1 : StoreAt) → s1.files ≡ s0.files → IsSome s0.files → IsSome s1.files
told_then s0 s1 same told = subst (λ (f : Option Files). IsSome f) (sym same) told

-- what is answered is not refused
not_refused : {T : Type 0} (value : T) (g : Fault) (X : Type 0) → RefusedFor (Ok value) g → X
not_refused value g X (inl e) = absurd cc
not_refused value g X (inr (inl e)) = absurd cc
not_refused value g X (inr (inr e)) = absurd cc

lacks : {T : Type 0} (f g : Fault) → IsLack f → RefusedFor {T = T} (Err f) g
lacks StoreFault g lack = inr (inl refl)
lacks Memory g lack = inr (inr refl)
lacks _ g lack = absurd lack

pub no_head : {base : List ℕ} {s0 s1 : StoreAt} {i : SourceAt} {o e e1 : SinkAt} (f : Fault) → HeadOpened base s0 s1 (Err f) → Matched base (run_of s0 s1 i i o o e e1 (Err f))
no_head {base} {s0} {s1} {i} {o} {e} {e1} f h =
    matched_as base (run_of s0 s1 i i o o e e1 (Err f)) (Err f) refl (head_stopped patterns base s0 s1 i o e e1 f h)
    (λ count told terms. lacks f _ (h.built terms.head told terms.head_is))
    (λ collection stands more. lacks f _ (h.built _ stands.told (own_head s0.files base collection stands)))

pub no_set : {base : List ℕ} {s0 s1 s2 : StoreAt} {i : SourceAt} {o e e1 : SinkAt} (head : Head) (f : Fault) → HeadOpened base s0 s1 (Ok head) →
    SetOpened (PartsAreBy s2.files) KeptByPatterns (CountedBy head s1.files base) head base s1 s2 (Err f) →
    (IsSome s1.files → (count : ℕ) → TooManyBy head s1.files base count → RefusedFor {T = WildParts} (Err f) (TooManyRotations count)) → Matched base (run_of s0 s2 i i o o e e1 (Err f))
no_set {base} {s0} {s1} {s2} {i} {o} {e} {e1} head f h set many =
    matched_as base (run_of s0 s2 i i o o e e1 (Err f)) (Err f) refl
    (set_stopped patterns (PartsAreBy s2.files) (CountedBy head s1.files base) base s0 s1 s2 i o e e1 head f h set (counted_by base s0 s1 head h))
    (λ count told terms. refused_as {A = WildParts} {B = Unit {0}} f _ (many (told_then s0 s1 h.files told) count (told_by base s0 s1 head h told count terms)))
    (λ collection stands more.
    let by = stands_opened base s0 s1 head h collection stands in
    refused_as {A = WildParts} {B = Unit {0}} f _ (many by.1.told _ (set_has base s1.files head by.0 collection by.1 more)))

pub matched : {base : List ℕ} {s0 s1 : StoreAt} (old new : WildState) {i i1 : SourceAt} {o o1 e e1 : SinkAt} (head : Head) (r : Result (Unit {0}) Fault) → HeadOpened base s0 s1 (Ok head) →
    SetOpened (PartsAreBy old.files) KeptByPatterns (CountedBy head s1.files base) head base s1 (patterns.at old) (Ok old.parts) →
    (IsSome s1.files → (count : ℕ) → TooManyBy head s1.files base count → RefusedFor {T = WildParts} (Ok old.parts) (TooManyRotations count)) →
    LinesServed Questions WildBy WildAsked WildPrints WildMayStop old new i i1 o o1 r →
    Matched base (run_of s0 (patterns.at new) i i1 o o1 e e1 r)
matched {base} {s0} {s1} old new {i} {i1} {o} {o1} {e} {e1} head r h set many lines =
    matched_as base (run_of s0 (patterns.at new) i i1 o o1 e e1 r) r refl
    (lines_served patterns (PartsAreBy old.files) (CountedBy head s1.files base) base s0 s1 old new i i1 o o1 e e1 head old.parts r h set (λ code collection over. over) lines)
    (λ count told terms. not_refused old.parts _ _ (many (told_then s0 s1 h.files told) count (told_by base s0 s1 head h told count terms)))
    (λ collection stands more.
    let by = stands_opened base s0 s1 head h collection stands in
    not_refused old.parts _ _ (many by.1.told _ (set_has base s1.files head by.0 collection by.1 more)))
