-- The reply to a query line.
use Rattle.std.proofs.Common.{arith, ◌≡◌, ◌≢◌, ◌*◌, ◌≤◌, ℕ, true, false, List, [], ◌∷◌, length, Ok, Err, refl, sym, subst}
use Rattle.std.specs.Prelude.{IfSome, IfErr, IsErrOf}
use Rattle.std.specs.declared.option.Option.{Option}
use Rattle.std.specs.declared.result.Result.{Result}
use Rattle.std.proofs.lemmas.List.Elements.{All-head}
use Rattle.std.proofs.lemmas.Option.{IfSome_then}
use Rattle.mg_dev.specs.Causes.{Rose}
use Rattle.mg_dev.specs.Faults.{show_of_put}
use Rattle.mg_dev.specs.Files.{Files, Reads}
use Rattle.mg_dev.specs.Streams.{AfterPut}
use Rattle.mg_dev.specs.StreamLaws.{grew_nothing}
use Rattle.mg_dev.specs.declared.device.PutErr.{PutErr}
use Rattle.mg_dev.specs.declared.device.PutErr.TheVariants as put
use Rattle.mg_dev.specs.declared.part.Part.TheVariants as part
use Rattle.mg_dev.specs.declared.part_err.PartErr.{PartErr}
use Rattle.mg_dev.specs.declared.part_err.PartErr.TheVariants.{Device, Memory, Bad}
use Rattle.mg_dev.specs.declared.show_err.ShowErr.{ShowErr}
use Rattle.mg_dev.specs.declared.show_err.ShowErr.TheVariants as show
use Rattle.mg_defs.specs.CodedText.{TextCode}
use Rattle.mg_defs.specs.Read.{boolean, ranked}
use Rattle.mg_defs.specs.Refusals.{Refusal, reads, refused}
use Rattle.mg_defs.specs.Replies.{refusal, reply, reply_as}
use Rattle.mg_defs.specs.ShownAnswers.{Shown, answer_text, ranking, satisfying}
use Rattle.mg_defs.specs.Sat.{Query}
use Rattle.mg_defs.specs.TextBounds.{answer_by, answer_of, line_text_bound}
use Rattle.mg_defs.specs.Session.{Question}
use Rattle.mg_defs.specs.declared.session.Mode.TheVariants as mode
use Rattle.mg_defs.specs.declared.session.Settings.{Settings}
use Rattle.mg_query.specs.RefusalOf.{refusal_of}
use Rattle.mg_query.specs.declared.query_err.QueryErr.{QueryErr}
use Rattle.mg_post.specs.Answers.{AnswersList}
use Rattle.mg_rank.specs.Ranked.{AnswersOr, AnswersTop}
use Rattle.mg_reply.specs.Refusals.{AnswerStops}
use Rattle.mg_reply.specs.Served.{PartStops}
use Rattle.mg_front.specs.Looks.{looks}
use Rattle.mg_text.specs.Reading.{ShowIsNotBad}
use Rattle.mg_session.specs.Answering.{Answered, AnswersFor, HasShowCause, HasShowLack, Replied, answer_pages}
use Rattle.mg_session.specs.PagesAllowed.{PartPages, ReadsAllowed, allowed_by, line_allows, line_terms, query_allows, ranked_allows, terms_by}
use Rattle.mg_session.specs.LookLaws.{terms_one}
use Rattle.mg_session.specs.Parts.{LineStepped, ReadsLexicon}
use Rattle.mg_session.specs.SearchLaws.{same_texts, texts_later, weights_later}
use Rattle.mg_session.specs.Searching.{Asked, MayStop, Opened, OpenedOver, Over, SameOpened, Searching}
use Rattle.mg_session.proofs.AllowedLaws.{KeepsParts, allowed_behind, allowed_kept, allowed_none}

-- ---- refusals that say of no part that it is bad

pub put_sound : (refusal : PutErr) (error : ShowErr) → error ≡ show_of_put refusal → ShowIsNotBad (Err error)
put_sound put.Failed error is = subst (λ e. ShowIsNotBad (Err e)) (sym is) tt
put_sound put.Memory error is = subst (λ e. ShowIsNotBad (Err e)) (sym is) tt

pub part_sound : {T : Type 0} (refusal : PartErr) (error : ShowErr) (fact : T → Type 0) → error ≡ show.Part refusal → AnswersOr {T = T} (Err refusal) fact → ShowIsNotBad (Err error)
part_sound Device error fact is or = subst (λ e. ShowIsNotBad (Err e)) (sym is) tt
part_sound Memory error fact is or = subst (λ e. ShowIsNotBad (Err e)) (sym is) tt
part_sound (Bad bad) error fact is or = absurd or

pub memory_sound : (error : ShowErr) → error ≡ show.Part Memory → ShowIsNotBad (Err error)
memory_sound error is = subst (λ e. ShowIsNotBad (Err e)) (sym is) tt

pub list_sound : {T : Type 0} (refusal : PartErr) (error : ShowErr) (fact : T → Type 0) → error ≡ show.Part refusal → AnswersList {T = T} (Err refusal) fact → ShowIsNotBad (Err error)
list_sound Device error fact is or = subst (λ e. ShowIsNotBad (Err e)) (sym is) tt
list_sound Memory error fact is or = absurd or
list_sound (Bad bad) error fact is or = absurd or

pub top_sound : (refusal : PartErr) (error : ShowErr) (collection : List ℕ) (ts : List (List ℕ)) (most : ℕ) → error ≡ show.Part refusal →
    AnswersTop (Err refusal) collection ts most → ShowIsNotBad (Err error)
top_sound Device error collection ts most is or = subst (λ e. ShowIsNotBad (Err e)) (sym is) tt
top_sound Memory error collection ts most is or = subst (λ e. ShowIsNotBad (Err e)) (sym is) tt
top_sound (Bad bad) error collection ts most is or = absurd or

-- nothing was printed or read
pub none_answered : (code : TextCode) (collection : List ℕ) (now : Settings) (answer : List Shown) (most : PartPages) (w : Option (List ℕ)) (r : Reads) →
    Answered code collection now answer most w w r r (Err (show.Part Memory))
none_answered code collection now answer most w r = record { put = grew_nothing w (answer_text collection now answer); sound = tt; allowed = allowed_none most r; text = omega arith }

-- it stopped before anything was printed, and neither lists nor text were read
pub nothing_answered : (code : TextCode) (collection : List ℕ) (now : Settings) (answer : List Shown) (most : PartPages) (w : Option (List ℕ)) (r0 r1 : Reads) (error : ShowErr)
    → ShowIsNotBad (Err error) → KeepsParts r0 r1 → r1 part.Text ≡ r0 part.Text → Answered code collection now answer most w w r0 r1 (Err error)
nothing_answered code collection now answer most w r0 r1 error sound kept text = record {
  put = grew_nothing w (answer_text collection now answer);
  sound = sound;
  allowed = allowed_kept most kept;
  text = omega (arith, text);
}

-- what was answered behind a look at other parts
pub answered_behind : (code : TextCode) (collection : List ℕ) (now : Settings) (answer : List Shown) (most : PartPages) (w0 w1 : Option (List ℕ))
    (r0 r1 r2 : Reads) (result : Result (Unit {0}) ShowErr) → Answered code collection now answer most w0 w1 r1 r2 result → KeepsParts r0 r1 → r1 part.Text ≡ r0 part.Text
    → Answered code collection now answer most w0 w1 r0 r2 result
answered_behind code collection now answer most w0 w1 r0 r1 r2 result a kept text = record {
  put = a.put;
  sound = a.sound;
  allowed = allowed_behind kept a.allowed;
  text = omega (arith, a.text, text);
}

-- ---- a line that is no query

-- what was answered says of no part that it is bad
pub refused_sound : (P Q : Type 0) (r : Result (Unit {0}) ShowErr) → IfErr r (AnswerStops P Q) → ShowIsNotBad r
refused_sound P Q (Ok done) stops = tt
refused_sound P Q (Err (show.Part Device)) stops = tt
refused_sound P Q (Err (show.Part Memory)) stops = tt
refused_sound P Q (Err (show.Part (Bad bad))) stops = stops
refused_sound P Q (Err show.Write) stops = tt
refused_sound P Q (Err show.Memory) stops = tt

-- and has a cause
pub refused_cause : (Q : Type 0) (r : Result (Unit {0}) ShowErr) (s f g : ℕ) → f ≤ g → IfErr r (AnswerStops (Rose f g) Q) → HasShowCause r s s f g
refused_cause Q (Ok done) s f g later stops = record { store = omega arith; output = later; caused = tt }
refused_cause Q (Err (show.Part Device)) s f g later stops = absurd stops
refused_cause Q (Err (show.Part Memory)) s f g later stops = record { store = omega arith; output = later; caused = tt }
refused_cause Q (Err (show.Part (Bad bad))) s f g later stops = absurd stops
refused_cause Q (Err show.Write) s f g later stops = record { store = omega arith; output = later; caused = stops }
refused_cause Q (Err show.Memory) s f g later stops = record { store = omega arith; output = later; caused = tt }

pub refused_lack : (P : Type 0) (r : Result (Unit {0}) ShowErr) (l m : ℕ) → l ≤ m → IfErr r (AnswerStops P (Rose l m)) → HasShowLack l m r
refused_lack P (Ok done) l m later stops = record { later = later; lacked = tt }
refused_lack P (Err (show.Part refusal)) l m later stops = record { later = later; lacked = tt }
refused_lack P (Err show.Write) l m later stops = record { later = later; lacked = tt }
refused_lack P (Err show.Memory) l m later stops = record { later = later; lacked = stops }

boolean_says : (collection : List ℕ) (now : Settings) (line : List ℕ) (why : Refusal) → boolean line ≡ refused why → reply_as false collection now line ≡ refusal why
boolean_says collection now line why e = rw e refl

ranked_says : (collection : List ℕ) (now : Settings) (line : List ℕ) (why : Refusal) → ranked line ≡ refused why → reply_as true collection now line ≡ refusal why
ranked_says collection now line why e = rw e refl

pub boolean_refused : (e : QueryErr) (code : TextCode) (collection : List ℕ) {now : Settings} {line : List ℕ} {w0 w1 : Option (List ℕ)} {r : Reads} {result : Result (Unit {0})
    ShowErr} (P Q : Type 0) → IfSome (refusal_of e) (λ why. boolean line ≡ refused why) →
    ((text : List ℕ) → IfSome (refusal_of e) (λ why. text ≡ refusal why) → AfterPut w0 w1 text result) → IfErr result (AnswerStops P Q) →
    Replied code collection false now line w0 w1 r r result
boolean_refused e code collection {now} {line} {w0} {w1} {r} {result} P Q said put stops = record {
  put = put (reply_as false collection now line) (IfSome_then (refusal_of e) said (boolean_says collection now line));
  sound = refused_sound P Q result stops;
  allowed = allowed_none _ r;
  text = omega arith;
}

pub ranked_refused : (e : QueryErr) (code : TextCode) (collection : List ℕ) {now : Settings} {line : List ℕ} {w0 w1 : Option (List ℕ)} {r : Reads} {result : Result (Unit {0})
    ShowErr} (P Q : Type 0) → IfSome (refusal_of e) (λ why. ranked line ≡ refused why) →
    ((text : List ℕ) → IfSome (refusal_of e) (λ why. text ≡ refusal why) → AfterPut w0 w1 text result) → IfErr result (AnswerStops P Q) →
    Replied code collection true now line w0 w1 r r result
ranked_refused e code collection {now} {line} {w0} {w1} {r} {result} P Q said put stops = record {
  put = put (reply_as true collection now line) (IfSome_then (refusal_of e) said (ranked_says collection now line));
  sound = refused_sound P Q result stops;
  allowed = allowed_none _ r;
  text = omega arith;
}

-- ---- a query

pub boolean_answered : (code : TextCode) (collection : List ℕ) (q : Query) {now : Settings} {line : List ℕ} {w0 w1 : Option (List ℕ)} {r0 r1 : Reads}
    {result : Result (Unit {0}) ShowErr} → boolean line ≡ reads q →
    Answered code collection now (satisfying collection q) (query_allows collection q) w0 w1 r0 r1 result → Replied code collection false now line w0 w1 r0 r1 result
boolean_answered code collection q {now} {line} {w0} {w1} {r0} {r1} {result} is a =
    let same_text : reply_as false collection now line ≡ answer_text collection now (satisfying collection q) = rw is refl in
    let same_most : allowed_by false collection now line ≡ query_allows collection q = rw is refl in
    let same_pages : answer_pages code collection now (answer_by false collection line) ≡ answer_pages code collection now (satisfying collection q) = rw is refl in
    record {
      put = subst (λ t. AfterPut w0 w1 t result) (sym same_text) a.put;
      sound = a.sound;
      allowed = subst (λ m. ReadsAllowed m r0 r1) (sym same_most) a.allowed;
      text = omega (arith, a.text, same_pages);
    }

pub ranked_answered : (code : TextCode) (collection : List ℕ) (terms : List (List ℕ)) {now : Settings} {line : List ℕ} {w0 w1 : Option (List ℕ)} {r0 r1 : Reads}
    {result : Result (Unit {0}) ShowErr} → ranked line ≡ reads terms →
    Answered code collection now (ranking collection terms) (ranked_allows collection now terms) w0 w1 r0 r1 result →
    Replied code collection true now line w0 w1 r0 r1 result
ranked_answered code collection terms {now} {line} {w0} {w1} {r0} {r1} {result} is a =
    let same_text : reply_as true collection now line ≡ answer_text collection now (ranking collection terms) = rw is refl in
    let same_most : allowed_by true collection now line ≡ ranked_allows collection now terms = rw is refl in
    let same_pages : answer_pages code collection now (answer_by true collection line) ≡ answer_pages code collection now (ranking collection terms) = rw is refl in
    record {
      put = subst (λ t. AfterPut w0 w1 t result) (sym same_text) a.put;
      sound = a.sound;
      allowed = subst (λ m. ReadsAllowed m r0 r1) (sym same_most) a.allowed;
      text = omega (arith, a.text, same_pages);
    }

-- what stands for the answer, after the lexicon was read
pub answers_for : (files now : Option Files) (o : Opened) (code : TextCode) (collection : List ℕ) → now ≡ files → OpenedOver files o code collection →
    AnswersFor o.base now o.texts o.all code collection
answers_for files now o code collection same over = record {
  weights = weights_later o.base o.base files now collection refl same over.weights;
  texts_are = texts_later o.texts o.texts files now code collection (same_texts o.texts) same over.texts;
  all_is = over.all;
}

-- ---- a line of a session

pub line_put : (code : TextCode) (collection : List ℕ) (now : Settings) (line : List ℕ) (w0 w1 : Option (List ℕ)) (r0 r1 : Reads)
    (result : Result (Unit {0}) ShowErr) → Replied code collection now.ranked now line w0 w1 r0 r1 result → AfterPut w0 w1 (reply collection now line) result
unfolding reply
line_put code collection now line w0 w1 r0 r1 result replied = replied.put

pub asked_one : (s t : Searching) (now : Settings) (line : List ℕ) (w0 w1 : Option (List ℕ)) (result : Result (Unit {0}) ShowErr) →
    LineStepped now.mode (length (terms_by now.ranked line) * looks s.opened.lex.count) s.files t.files s.reads t.reads s.faults t.faults →
    SameOpened s.opened t.opened →
    ((code : TextCode) (collection : List ℕ) → Over s code collection → Replied code collection now.ranked now line w0 w1 s.reads t.reads result) →
    Asked s t (record { now = now; line = line } ∷ [])
unfolding line_allows line_terms line_text_bound answer_of
asked_one s t now line w0 w1 result step same replied = record {
  files = step.files;
  faults = step.faults;
  same = same;
  unread = step.unread;
  texts_unread = λ none p of_text. step.texts (All-head (λ (q : Question). q.now.mode ≢ mode.Text) (record { now = now; line = line }) [] none) p of_text;
  looked = subst (λ n. ReadsLexicon s.reads t.reads (n * looks s.opened.lex.count)) (sym (terms_one line_terms (record { now = now; line = line }))) step.looked;
  allowed = λ code collection over.
      let a = (replied code collection over).allowed in
      record { post = omega (arith, a.post); skip = omega (arith, a.skip); weights = omega (arith, a.weights) };
  shown = λ code collection over. omega (arith, (replied code collection over).text);
}

pub line_stops : (s t : Searching) (f g : ℕ) (error : ShowErr) → HasShowCause (Err error) s.faults t.faults f g →
    ((code : TextCode) (collection : List ℕ) → Over s code collection → ShowIsNotBad (Err error)) → PartStops (MayStop s t) error
line_stops s t f g (show.Part Device) cause sound = cause.caused
line_stops s t f g (show.Part Memory) cause sound = tt
line_stops s t f g (show.Part (Bad bad)) cause sound = sound
line_stops s t f g show.Write cause sound = tt
line_stops s t f g show.Memory cause sound = tt

pub line_written : (r : Result (Unit {0}) ShowErr) (s t f g : ℕ) → HasShowCause r s t f g → IsErrOf r show.Write → Rose f g
line_written r s t f g cause is = (subst (λ x. HasShowCause x s t f g) is cause).caused

pub line_part : (s t : Searching) (f g : ℕ) (r : Result (Unit {0}) ShowErr) → HasShowCause r s.faults t.faults f g →
    ((code : TextCode) (collection : List ℕ) → Over s code collection → ShowIsNotBad r) → IfErr r (PartStops (MayStop s t))
line_part s t f g (Ok value) cause sound = tt
line_part s t f g (Err error) cause sound = line_stops s t f g error cause sound
