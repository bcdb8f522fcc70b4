-- What a session of queries answered is what the run did.
use Rattle.std.proofs.Common.{arith, inl, inr, ◌≡◌, ◌∙◌, ℕ, true, List, Some, Ok, Err, IsSome, refl}
use Rattle.std.specs.Prelude.{Result}
use Rattle.mg_dev.specs.Files.{Reads}
use Rattle.mg_dev.specs.Moments.{SinkAt, SourceAt, StoreAt}
use Rattle.mg_dev.specs.Runs.{Run, Stops, status_of}
use Rattle.mg_dev.specs.declared.part.Part.TheVariants as part
use Rattle.mg_dev.specs.declared.fault.Fault.{Fault}
use Rattle.mg_dev.specs.declared.fault.Fault.TheVariants.{ReadFault}
use Rattle.mg_dev.specs.declared.status.Status.TheVariants.{Done}
use Rattle.mg_dev.proofs.CallerLemmas.{when_ok}
use Rattle.mg_dev.specs.declared.part.Part.{Part}
use Rattle.mg_defs.specs.CodedText.{TextCode}
use Rattle.mg_defs.specs.Replies.{reply, session}
use Rattle.mg_defs.specs.Session.{heard_session, questions_of}
use Rattle.mg_defs.specs.declared.session.Hearing.TheVariants.{Commands}
use Rattle.mg_layout.specs.declared.head.Head.{Head}
use Rattle.mg_reply.proofs.CallerLemmas.{none_answered}
use Rattle.mg_reply.specs.PrintedLines.{AnsweredBroken, InputPrints}
use Rattle.mg_session.specs.Decided.{OpenedParts, PrintsOver, QuestionPrints}
use Rattle.mg_session.specs.LookLaws.{looks_behind, looks_kept, looks_none}
use Rattle.mg_session.specs.Opening.{HeadOpened, KeptByQueries, SetOpened}
use Rattle.mg_session.specs.Parts.{NeverRead, is_of_text}
use Rattle.mg_session.specs.Queried.{Queried}
use Rattle.mg_session.specs.PrintedLaws.{Prints}
use Rattle.mg_session.specs.Searching.{AnswersBy, AskForNoText, Asked, MayStop, OpenedOver, Over, Searching}
use Rattle.mg_session.specs.Served.{LinesServed}
use Rattle.mg_session.specs.Serves.{CountsNone, ReadsWithin}
use Rattle.mg_session.proofs.AllowedLaws.{allowed_behind, allowed_kept}
use Rattle.mg_session.proofs.PrintedOverLaws.{broken_over, printed_over}
use Rattle.mg_session.proofs.ServedLaws.{Kind, KeptReads, ServedAs, done_or, head_stopped, lines_served, parts_kept, run_of, set_stopped}
use Rattle.mg_session.proofs.SessionLaws.{answers_over, first_ask_none, pages_within}
use Rattle.mg_session.proofs.StepLaws.{never_early, text_behind}

-- ---- the kind

pub text_is : (collection given : List ℕ) → session collection given ≡ heard_session Commands (reply collection) given
unfolding session
text_is collection given = refl

pub within_none : (code : TextCode) (collection given : List ℕ) (r0 r1 : Reads) → KeptReads KeptByQueries r0 r1 → ReadsWithin code collection given r0 r1
within_none code collection given r0 r1 none = record { allowed = allowed_kept _ (parts_kept none); looked = looks_kept (looks_none r0 _) (none part.Lex tt (omega arith)) (none part.LexAt tt (omega arith)); text = omega (arith, none part.Text tt (omega arith)) }

pub within_from : (code : TextCode) (collection given : List ℕ) (r0 r1 r2 : Reads) → KeptReads KeptByQueries r0 r1 → ReadsWithin code collection given r1 r2 → ReadsWithin code collection given r0 r2
within_from code collection given r0 r1 r2 none w = record { allowed = allowed_behind (parts_kept none) w.allowed; looked = looks_behind (none part.Lex tt (omega arith)) (none part.LexAt tt (omega arith)) w.looked; text = omega (arith, w.text, none part.Text tt (omega arith)) }

abbrev pub queries : Kind
queries = record {
  text = session;
  IsWithin = ReadsWithin;
  IsUnread = NeverRead;
  IsCounted = CountsNone;
  IsKept = KeptByQueries;
  hearing = Commands;
  State = Searching;
  at = λ (s : Searching). record { files = s.files; reads = s.reads; faults = s.faults };
  Answers = AnswersBy;
  After = Asked;
  Prints = Prints;
  MayStop = MayStop;
  IsOver = Over;
  reply = reply;
  behind_head = λ p never. omega (arith, never_early p never);
  never_opened = λ p never. tt;
  head_kept = tt;
  within_none = within_none;
  within_from = within_from;
  answers = answers_over;
  text_is = text_is;
  files = λ s t qs a. a.files;
  unread = λ s t qs a p never. a.unread p (inl never);
  head_unread = λ s t qs a. a.unread part.Head (inr refl);
  within = λ s t qs code collection given a first over. pages_within s t qs code collection given a first over;
  device = λ s t rose. rose;
  bad = λ s t b may. may;
}

-- ---- its run

queried_as : (base : List ℕ) (run : Run) (r : Result (Unit {0}) Fault) → run.status ≡ status_of r → ServedAs queries base run →
    ((given : List ℕ) → IsSome run.store.files → run.input.left ≡ Some given → run.status ≡ Done →
    InputPrints Commands (PrintsOver QuestionPrints base run.store.files) run.out.written run.out_now.written given) →
    ((given : List ℕ) → IsSome run.store.files → run.input.left ≡ Some given → Stops run ReadFault →
    AnsweredBroken Commands (PrintsOver QuestionPrints base run.store.files) run.out.written run.out_now.written run.input_now.left given) →
    ((given : List ℕ) → run.input.left ≡ Some given → AskForNoText (questions_of given) → (p : Part) → is_of_text p ≡ true → run.store_now.reads p ≡ run.store.reads p) → Queried base run
queried_as base run r is served printed broken texts_unread = record {
  served = served;
  printed = printed;
  answered_broken = broken;
  complete = λ collection given stands some short no_store no_input no_output.
      done_or CountsNone base collection given run r is served.cause stands (λ n counted. counted) some short no_store no_input no_output;
  texts_unread = texts_unread;
}

pub no_head : {base : List ℕ} {s0 s1 : StoreAt} {i : SourceAt} {o e e1 : SinkAt} (f : Fault) → HeadOpened base s0 s1 (Err f) → Queried base (run_of s0 s1 i i o o e e1 (Err f))
no_head {base} {s0} {s1} {i} {o} {e} {e1} f h =
    queried_as base (run_of s0 s1 i i o o e e1 (Err f)) (Err f) refl (head_stopped queries base s0 s1 i o e e1 f h)
    (λ given told some end. when_ok {T = Unit {0}} _ (Err f) end tt) (λ given told some end. none_answered Commands (PrintsOver QuestionPrints base s0.files) given refl refl some)
    (λ given some asks p of_text. h.unread p (text_behind p of_text))

pub no_set : {base : List ℕ} {s0 s1 s2 : StoreAt} {i : SourceAt} {o e e1 : SinkAt} (head : Head) (f : Fault) → HeadOpened base s0 s1 (Ok head) →
    SetOpened (OpenedOver s2.files) KeptByQueries (λ count. ⊥) head base s1 s2 (Err f) → Queried base (run_of s0 s2 i i o o e e1 (Err f))
no_set {base} {s0} {s1} {s2} {i} {o} {e} {e1} head f h set =
    queried_as base (run_of s0 s2 i i o o e e1 (Err f)) (Err f) refl (set_stopped queries (OpenedOver s2.files) (λ count. ⊥) base s0 s1 s2 i o e e1 head f h set (λ n never. absurd never))
    (λ given told some end. when_ok {T = Unit {0}} _ (Err f) end tt) (λ given told some end. none_answered Commands (PrintsOver QuestionPrints base s0.files) given refl refl some)
    (λ given some asks p of_text. set.unread p tt ∙ h.unread p (text_behind p of_text))

pub queried : {base : List ℕ} {s0 s1 : StoreAt} (old new : Searching) {i i1 : SourceAt} {o o1 e e1 : SinkAt} (head : Head) (r : Result (Unit {0}) Fault) → HeadOpened base s0 s1 (Ok head) →
    SetOpened (OpenedOver old.files) KeptByQueries (λ count. ⊥) head base s1 (queries.at old) (Ok old.opened) → OpenedParts base head old.opened →
    LinesServed Commands AnswersBy Asked Prints MayStop old new i i1 o o1 r →
    Queried base (run_of s0 (queries.at new) i i1 o o1 e e1 r)
queried {base} {s0} {s1} old new {i} {i1} {o} {o1} {e} {e1} head r h set parts lines =
    queried_as base (run_of s0 (queries.at new) i i1 o o1 e e1 r) r refl
    (lines_served queries (OpenedOver old.files) (λ count. ⊥) base s0 s1 old new i i1 o o1 e e1 head old.opened r h set (λ code collection over. over) lines)
    (printed_over QuestionPrints base s0 s1 old new i i1 o o1 head r h set.files parts lines) (broken_over QuestionPrints base s0 s1 old new i i1 o o1 head r h set.files parts lines)
    (λ given some asks p of_text.
    first_ask_none old new lines.answered.answered given lines.answered.after (lines.answered.first given some) asks p of_text ∙ set.unread p tt ∙ h.unread p (text_behind p of_text))
