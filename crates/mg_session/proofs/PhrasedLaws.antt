-- What a session of phrases answered is what the run did.
use Rattle.std.proofs.Common.{arith, inl, inr, ◌≡◌, ℕ, List, Some, Ok, Err, IsSome, refl}
use Rattle.std.specs.Prelude.{Result}
use Rattle.mg_dev.specs.Files.{Reads}
use Rattle.mg_dev.specs.Moments.{SinkAt, SourceAt, StoreAt}
use Rattle.mg_dev.specs.Runs.{Run, Stops, status_of}
use Rattle.mg_dev.specs.declared.part.Part.TheVariants as part
use Rattle.mg_dev.specs.declared.fault.Fault.{Fault}
use Rattle.mg_dev.specs.declared.fault.Fault.TheVariants.{ReadFault}
use Rattle.mg_dev.specs.declared.status.Status.TheVariants.{Done}
use Rattle.mg_dev.proofs.CallerLemmas.{when_ok}
use Rattle.mg_defs.specs.CodedText.{TextCode}
use Rattle.mg_defs.specs.PhraseSession.{phrase_reply, phrase_session}
use Rattle.mg_defs.specs.Session.{heard_session}
use Rattle.mg_defs.specs.declared.session.Hearing.TheVariants.{Questions}
use Rattle.mg_laws.proofs.PlainLaws.{plain_heard}
use Rattle.mg_layout.specs.declared.head.Head.{Head}
use Rattle.mg_reply.proofs.CallerLemmas.{none_answered}
use Rattle.mg_reply.specs.PrintedLines.{AnsweredBroken, InputPrints}
use Rattle.mg_session.specs.Decided.{OpenedParts, PrintsOver, PhrasePrints}
use Rattle.mg_session.specs.LookLaws.{looks_behind, looks_kept, looks_none}
use Rattle.mg_session.specs.Opening.{HeadOpened, KeptByQueries, SetOpened}
use Rattle.mg_session.specs.Parts.{NeverRead}
use Rattle.mg_session.specs.PhraseAnswers.{ReadsPhrases}
use Rattle.mg_session.specs.PhraseSearching.{PhrasesAsked, PhrasesBy}
use Rattle.mg_session.specs.Phrased.{Phrased}
use Rattle.mg_session.specs.PrintedLaws.{PhraseRule}
use Rattle.mg_session.specs.Searching.{MayStop, OpenedOver, Over, Searching}
use Rattle.mg_session.specs.Served.{LinesServed}
use Rattle.mg_session.specs.Serves.{CountsNone}
use Rattle.mg_session.proofs.AllowedLaws.{allowed_behind, allowed_kept}
use Rattle.mg_session.proofs.PhraseReplyLaws.{phrases_over, phrases_within}
use Rattle.mg_session.proofs.PrintedOverLaws.{broken_over, printed_over}
use Rattle.mg_session.proofs.ServedLaws.{Kind, KeptReads, ServedAs, done_or, head_stopped, lines_served, parts_kept, run_of, set_stopped}
use Rattle.mg_session.proofs.StepLaws.{never_early}

-- ---- the kind

pub text_is : (collection given : List ℕ) → phrase_session collection given ≡ heard_session Questions (λ now. phrase_reply collection) given
unfolding phrase_session
text_is collection given = plain_heard (phrase_reply collection) given

pub within_none : (code : TextCode) (collection given : List ℕ) (r0 r1 : Reads) → KeptReads KeptByQueries r0 r1 → ReadsPhrases code collection given r0 r1
within_none code collection given r0 r1 none = record { allowed = allowed_kept _ (parts_kept none); looked = looks_kept (looks_none r0 _) (none part.Lex tt (omega arith)) (none part.LexAt tt (omega arith)); text = omega (arith, none part.Text tt (omega arith)) }

pub within_from : (code : TextCode) (collection given : List ℕ) (r0 r1 r2 : Reads) → KeptReads KeptByQueries r0 r1 → ReadsPhrases code collection given r1 r2 → ReadsPhrases code collection given r0 r2
within_from code collection given r0 r1 r2 none w = record { allowed = allowed_behind (parts_kept none) w.allowed; looked = looks_behind (none part.Lex tt (omega arith)) (none part.LexAt tt (omega arith)) w.looked; text = omega (arith, w.text, none part.Text tt (omega arith)) }

abbrev pub phrases : Kind
phrases = record {
  text = phrase_session;
  IsWithin = ReadsPhrases;
  IsUnread = NeverRead;
  IsCounted = CountsNone;
  IsKept = KeptByQueries;
  hearing = Questions;
  State = Searching;
  at = λ (s : Searching). record { files = s.files; reads = s.reads; faults = s.faults };
  Answers = PhrasesBy;
  After = PhrasesAsked;
  Prints = PhraseRule;
  MayStop = MayStop;
  IsOver = Over;
  reply = λ collection now. phrase_reply collection;
  behind_head = λ p never. omega (arith, never_early p never);
  never_opened = λ p never. tt;
  head_kept = tt;
  within_none = within_none;
  within_from = within_from;
  answers = phrases_over;
  text_is = text_is;
  files = λ s t qs a. a.step.files;
  unread = λ s t qs a p never. a.step.unread p (inl never);
  head_unread = λ s t qs a. a.step.unread part.Head (inr refl);
  within = λ s t qs code collection given a first over. phrases_within s t qs code collection given a first over;
  device = λ s t rose. rose;
  bad = λ s t b may. may;
}

-- ---- its run

phrased_as : (base : List ℕ) (run : Run) (r : Result (Unit {0}) Fault) → run.status ≡ status_of r → ServedAs phrases base run →
    ((given : List ℕ) → IsSome run.store.files → run.input.left ≡ Some given → run.status ≡ Done →
    InputPrints Questions (PrintsOver PhrasePrints base run.store.files) run.out.written run.out_now.written given) →
    ((given : List ℕ) → IsSome run.store.files → run.input.left ≡ Some given → Stops run ReadFault →
    AnsweredBroken Questions (PrintsOver PhrasePrints base run.store.files) run.out.written run.out_now.written run.input_now.left given) →
    Phrased base run
phrased_as base run r is served printed broken = record {
  served = served;
  printed = printed;
  answered_broken = broken;
  complete = λ collection given stands some short no_store no_input no_output.
      done_or CountsNone base collection given run r is served.cause stands (λ n counted. counted) some short no_store no_input no_output;
}

pub no_head : {base : List ℕ} {s0 s1 : StoreAt} {i : SourceAt} {o e e1 : SinkAt} (f : Fault) → HeadOpened base s0 s1 (Err f) → Phrased base (run_of s0 s1 i i o o e e1 (Err f))
no_head {base} {s0} {s1} {i} {o} {e} {e1} f h = phrased_as base (run_of s0 s1 i i o o e e1 (Err f)) (Err f) refl (head_stopped phrases base s0 s1 i o e e1 f h)
    (λ given told some end. when_ok {T = Unit {0}} _ (Err f) end tt) (λ given told some end. none_answered Questions (PrintsOver PhrasePrints base s0.files) given refl refl some)

pub no_set : {base : List ℕ} {s0 s1 s2 : StoreAt} {i : SourceAt} {o e e1 : SinkAt} (head : Head) (f : Fault) → HeadOpened base s0 s1 (Ok head) →
    SetOpened (OpenedOver s2.files) KeptByQueries (λ count. ⊥) head base s1 s2 (Err f) → Phrased base (run_of s0 s2 i i o o e e1 (Err f))
no_set {base} {s0} {s1} {s2} {i} {o} {e} {e1} head f h set =
    phrased_as base (run_of s0 s2 i i o o e e1 (Err f)) (Err f) refl (set_stopped phrases (OpenedOver s2.files) (λ count. ⊥) base s0 s1 s2 i o e e1 head f h set (λ n never. absurd never))
    (λ given told some end. when_ok {T = Unit {0}} _ (Err f) end tt) (λ given told some end. none_answered Questions (PrintsOver PhrasePrints base s0.files) given refl refl some)

pub phrased : {base : List ℕ} {s0 s1 : StoreAt} (old new : Searching) {i i1 : SourceAt} {o o1 e e1 : SinkAt} (head : Head) (r : Result (Unit {0}) Fault) → HeadOpened base s0 s1 (Ok head) →
    SetOpened (OpenedOver old.files) KeptByQueries (λ count. ⊥) head base s1 (phrases.at old) (Ok old.opened) → OpenedParts base head old.opened →
    LinesServed Questions PhrasesBy PhrasesAsked PhraseRule MayStop old new i i1 o o1 r →
    Phrased base (run_of s0 (phrases.at new) i i1 o o1 e e1 r)
phrased {base} {s0} {s1} old new {i} {i1} {o} {o1} {e} {e1} head r h set parts lines =
    phrased_as base (run_of s0 (phrases.at new) i i1 o o1 e e1 r) r refl
    (lines_served phrases (OpenedOver old.files) (λ count. ⊥) base s0 s1 old new i i1 o o1 e e1 head old.opened r h set (λ code collection over. over) lines)
    (printed_over PhrasePrints base s0 s1 old new i i1 o o1 head r h set.files parts lines) (broken_over PhrasePrints base s0 s1 old new i i1 o o1 head r h set.files parts lines)
