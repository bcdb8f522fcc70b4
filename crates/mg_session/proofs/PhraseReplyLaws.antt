-- The reply to a phrase.
use Rattle.std.proofs.Common.{arith, ◌≡◌, ℕ, ◌+◌, ◌*◌, ◌≤◌, List, [], ◌∷◌, ◌++◌, length, None, Err, refl, sym, ◌∙◌, ap, subst, sum_by, length-append}
use Rattle.std.specs.Prelude.{IfSome, IfErr, flat_map, map, nat_le, nat_lt}
use Rattle.std.specs.declared.option.Option.{Option}
use Rattle.std.specs.declared.result.Result.{Result}
use Rattle.std.proofs.lemmas.Bool.{cond_both, leb-false}
use Rattle.std.proofs.lemmas.Option.{IfSome_then}
use Rattle.std.proofs.lemmas.List.Sums.{sum_by-append, sum_by-cons}
use Rattle.mg_dev.specs.Bads.{IsNotBad}
use Rattle.mg_dev.specs.Files.{Reads}
use Rattle.mg_dev.specs.Streams.{AfterPut}
use Rattle.mg_dev.specs.StreamLaws.{grew_nothing}
use Rattle.mg_dev.specs.declared.part.Part.TheVariants as part
use Rattle.mg_dev.specs.declared.part_err.PartErr.{PartErr}
use Rattle.mg_dev.specs.declared.part_err.PartErr.TheVariants.{Device, Memory, Bad}
use Rattle.mg_dev.specs.declared.show_err.ShowErr.{ShowErr}
use Rattle.mg_dev.specs.declared.show_err.ShowErr.TheVariants as show
use Rattle.mg_defs.specs.CodedText.{TextCode}
use Rattle.mg_defs.specs.Lines.{lines}
use Rattle.mg_defs.specs.Phrases.{phrase_from, phrase_next, phrase_of, phrase_places, phrase_token, phrase_with}
use Rattle.mg_defs.specs.PhraseSession.{found_text, phrase_reply, with_places}
use Rattle.mg_defs.specs.PlainSession.{plain_questions}
use Rattle.mg_defs.specs.Refusals.{Reading, Refusal, reads, refused}
use Rattle.mg_defs.specs.Replies.{refusal}
use Rattle.mg_defs.specs.Session.{Question, heard_questions}
use Rattle.mg_defs.specs.Split.{documents}
use Rattle.mg_defs.specs.Terms.{dictionary, folded}
use Rattle.mg_defs.specs.Texts.{count}
use Rattle.mg_defs.specs.Tokens.{PlacedToken, Token, amp, bang, bar, closing, opening, tokens, word}
use Rattle.mg_defs.specs.declared.session.Hearing.TheVariants.{Questions}
use Rattle.mg_defs.specs.declared.session.Mode.TheVariants as mode
use Rattle.mg_defs.specs.declared.session.Settings.{Settings}
use Rattle.mg_laws.proofs.PlainLaws.{questions_heard}
use Rattle.mg_query.specs.AllOf.{IsAllOf}
use Rattle.mg_query.specs.RefusalOf.{refusal_of}
use Rattle.mg_query.specs.declared.query_err.QueryErr.{QueryErr}
use Rattle.mg_reply.specs.Refusals.{AnswerStops}
use Rattle.mg_front.specs.Looks.{looks}
use Rattle.mg_text.specs.Reading.{ShowIsNotBad}
use Rattle.mg_session.specs.PhraseAnswers.{PhraseAnswered, PhraseReplied, ReadsPhrases, candidate_pages, line_pages}
use Rattle.mg_session.specs.LookLaws.{looks_first, terms_one}
use Rattle.mg_session.specs.PagesAllowed.{PartPages, ReadsAllowed, sum_allows}
use Rattle.mg_session.specs.Parts.{LineStepped, ReadsLexicon}
use Rattle.mg_session.specs.PhraseSearching.{PhrasesAsked, PhrasesBy}
use Rattle.mg_session.specs.PhrasesAllowed.{phrase_allows, phrase_line_allows, phrase_terms, phrases_allow, phrases_terms}
use Rattle.mg_session.specs.Searching.{Over, SameOpened, Searching}
use Rattle.mg_session.proofs.AllowedLaws.{KeepsParts, allowed_behind, allowed_kept, allowed_none}
use Rattle.mg_session.proofs.ReplyLaws.{refused_sound}

-- ---- a phrase has at most 64 words

abbrev IsFew : Reading (List (List ℕ)) → Type 0
IsFew (reads phrase) = length phrase ≤ 64
IsFew (refused why) = Unit {0}

few_with : (phrase : List (List ℕ)) (at : ℕ) (w : List ℕ) → length phrase ≤ 64 → IsFew (phrase_with phrase at w)
few_with phrase at w few =
    cond_both (nat_lt 255 (length w)) _ _ IsFew (λ _. tt)
    (λ _. cond_both (nat_le 64 (length phrase)) _ _ IsFew (λ _. tt)
    (λ f. omega (arith, length-append phrase (folded w ∷ []), leb-false 64 (length phrase) f)))

few_token : (phrase : List (List ℕ)) (at : ℕ) (t : Token) → length phrase ≤ 64 → IsFew (phrase_token phrase at t)
few_token phrase at (word w) few = few_with phrase at w few
few_token phrase at bar few = few
few_token phrase at amp few = few
few_token phrase at bang few = few
few_token phrase at opening few = few
few_token phrase at closing few = few

few_next : (r : Reading (List (List ℕ))) (t : PlacedToken) → IsFew r → IsFew (phrase_next r t)
few_next (reads phrase) t few = few_token phrase t.at t.token few
few_next (refused why) t few = tt

few_from : (r : Reading (List (List ℕ))) (ts : List PlacedToken) → IsFew r → IsFew (phrase_from r ts)
few_from r [] few = few
few_from r (t ∷ ts) few = few_from (phrase_next r t) ts (few_next r t few)

pub line_words : (line : List ℕ) (phrase : List (List ℕ)) → phrase_of line ≡ reads phrase → length phrase ≤ 64
unfolding phrase_of
line_words line phrase e = subst IsFew e (few_from (reads []) (tokens line) (omega arith))

-- ---- a line that is no phrase

says_refused : (collection line : List ℕ) (why : Refusal) → phrase_of line ≡ refused why → phrase_reply collection line ≡ refusal why
unfolding phrase_reply
says_refused collection line why e = rw e refl

pub line_refused : (e : QueryErr) (code : TextCode) (collection line : List ℕ) (w0 w1 : Option (List ℕ)) (r : Reads) (result : Result (Unit {0}) ShowErr)
    (P Q : Type 0) → IfSome (refusal_of e) (λ why. phrase_of line ≡ refused why) →
    ((text : List ℕ) → IfSome (refusal_of e) (λ why. text ≡ refusal why) → AfterPut w0 w1 text result) → IfErr result (AnswerStops P Q) →
    PhraseReplied code collection line w0 w1 r r result
line_refused e code collection line w0 w1 r result P Q said put stops = record {
  put = put (phrase_reply collection line) (IfSome_then (refusal_of e) said (says_refused collection line));
  sound = refused_sound P Q result stops;
  allowed = allowed_none _ r;
  text = omega arith;
}

-- ---- a phrase

pub none_answered : (code : TextCode) (collection : List ℕ) (phrase : List (List ℕ)) (w : Option (List ℕ)) (r : Reads) → PhraseAnswered code collection phrase w w r r (Err (show.Part Memory))
none_answered code collection phrase w r = record { put = grew_nothing w (found_text (with_places phrase 1 (documents collection))); sound = tt; allowed = allowed_none _ r; text = omega arith }

-- it stopped before anything was printed, and neither lists nor text were read
pub nothing_answered : (code : TextCode) (collection : List ℕ) (phrase : List (List ℕ)) (w : Option (List ℕ)) (r0 r1 : Reads) (error : ShowErr)
    → ShowIsNotBad (Err error) → KeepsParts r0 r1 → r1 part.Text ≡ r0 part.Text → PhraseAnswered code collection phrase w w r0 r1 (Err error)
nothing_answered code collection phrase w r0 r1 error sound kept text = record {
  put = grew_nothing w (found_text (with_places phrase 1 (documents collection)));
  sound = sound;
  allowed = allowed_kept _ kept;
  text = omega (arith, text);
}

-- what was answered behind a look at other parts
pub answered_behind : (code : TextCode) (collection : List ℕ) (phrase : List (List ℕ)) (w0 w1 : Option (List ℕ)) (r0 r1 r2 : Reads) (result : Result (Unit {0}) ShowErr)
    → PhraseAnswered code collection phrase w0 w1 r1 r2 result → KeepsParts r0 r1 → r1 part.Text ≡ r0 part.Text
    → PhraseAnswered code collection phrase w0 w1 r0 r2 result
answered_behind code collection phrase w0 w1 r0 r1 r2 result a kept text = record {
  put = a.put;
  sound = a.sound;
  allowed = allowed_behind kept a.allowed;
  text = omega (arith, a.text, text);
}

-- no document has a phrase without words
no_places : (n : ℕ) (ds : List (List ℕ)) → with_places [] n ds ≡ []
unfolding with_places phrase_places
no_places n [] = refl
no_places n (d ∷ ds) = no_places (n + 1) ds

no_text : (ds : List (List ℕ)) → found_text (with_places [] 1 ds) ≡ count 0
unfolding found_text
no_text ds = rw (no_places 1 ds) refl

no_words : (phrase : List (List ℕ)) → IsAllOf phrase None → phrase ≡ []
no_words [] none = refl
no_words (t ∷ us) none = absurd none

pub none_counted : (code : TextCode) (collection : List ℕ) (phrase : List (List ℕ)) (w0 w1 : Option (List ℕ)) (r : Reads) (result : Result (Unit {0}) ShowErr) →
    IsAllOf phrase None → AfterPut w0 w1 (count 0) result → ShowIsNotBad result → PhraseAnswered code collection phrase w0 w1 r r result
none_counted code collection phrase w0 w1 r result none put sound = record {
  put = subst (λ t. AfterPut w0 w1 t result) (sym (ap (λ (p : List (List ℕ)). found_text (with_places p 1 (documents collection))) (no_words phrase none) ∙ no_text (documents collection))) put;
  sound = sound;
  allowed = allowed_none _ r;
  text = omega arith;
}

pub terms_read : (line : List ℕ) (phrase : List (List ℕ)) → phrase_of line ≡ reads phrase → phrase_terms line ≡ phrase
unfolding phrase_terms
terms_read line phrase e = rw e refl

says_found : (collection line : List ℕ) (phrase : List (List ℕ)) → phrase_of line ≡ reads phrase → phrase_reply collection line ≡ found_text (with_places phrase 1 (documents collection))
unfolding phrase_reply
says_found collection line phrase e = rw e refl

pub line_answered : (code : TextCode) (collection line : List ℕ) (phrase : List (List ℕ)) {w0 w1 : Option (List ℕ)} {r0 r1 : Reads}
    {result : Result (Unit {0}) ShowErr} → phrase_of line ≡ reads phrase → PhraseAnswered code collection phrase w0 w1 r0 r1 result →
    PhraseReplied code collection line w0 w1 r0 r1 result
unfolding phrase_line_allows
line_answered code collection line phrase {w0} {w1} {r0} {r1} {result} is a =
    let same_most : phrase_line_allows collection line ≡ phrase_allows collection phrase = rw is refl in
    let same_pages : line_pages code collection line ≡ candidate_pages code collection phrase = rw is refl in
    record {
      put = subst (λ t. AfterPut w0 w1 t result) (sym (says_found collection line phrase is)) a.put;
      sound = a.sound;
      allowed = subst (λ most. ReadsAllowed most r0 r1) (sym same_most) a.allowed;
      text = omega (arith, a.text, same_pages);
    }

-- ---- a document that could not be decoded

pub decoded_sound : (refusal : PartErr) (error : ShowErr) → error ≡ show.Part refusal → IsNotBad refusal → ShowIsNotBad (Err error)
decoded_sound Device error is sound = subst (λ e. ShowIsNotBad (Err e)) (sym is) tt
decoded_sound Memory error is sound = subst (λ e. ShowIsNotBad (Err e)) (sym is) tt
decoded_sound (Bad bad) error is sound = absurd sound

-- ---- a session

pub phrases_over : (s : Searching) (code : TextCode) (collection : List ℕ) → Over s code collection → PhrasesBy s (λ now. phrase_reply collection)
phrases_over s code collection over = record { code = code; collection = collection; over = over; by_is = refl }

pub phrases_asked : (s t : Searching) (now : Settings) (line : List ℕ) (w0 w1 : Option (List ℕ)) (result : Result (Unit {0}) ShowErr) →
    LineStepped mode.Text (length (phrase_terms line) * looks s.opened.lex.count) s.files t.files s.reads t.reads s.faults t.faults →
    SameOpened s.opened t.opened →
    ((code : TextCode) (collection : List ℕ) → Over s code collection → PhraseReplied code collection line w0 w1 s.reads t.reads result) →
    PhrasesAsked s t (record { now = now; line = line } ∷ [])
phrases_asked s t now line w0 w1 result step same replied = record {
  step = subst (λ n. LineStepped mode.Text (n * looks s.opened.lex.count) s.files t.files s.reads t.reads s.faults t.faults)
      (sym (terms_one (λ (q : Question). phrase_terms q.line) (record { now = now; line = line }))) step;
  same = same;
  allowed = λ code collection over.
      let a = (replied code collection over).allowed in
      record { post = omega (arith, a.post); skip = omega (arith, a.skip); weights = omega (arith, a.weights) };
  text = λ code collection over. omega (arith, (replied code collection over).text);
}

sum_by-map : (f : List ℕ → ℕ) (qs : List Question) → sum_by f (map (λ (q : Question). q.line) qs) ≡ sum_by (λ (q : Question). f q.line) qs
sum_by-map f [] = refl
sum_by-map f (q ∷ qs) =
    sum_by-cons f q.line (map (λ (p : Question). p.line) qs) ∙ ap (λ n. f q.line + n) (sum_by-map f qs) ∙ sym (sum_by-cons (λ (p : Question). f p.line) q qs)

-- a number for each line of an input is that of the first of them and of the rest
pub asked_lines : (f : List ℕ → ℕ) (given : List ℕ) (answered more : List Question) → heard_questions Questions given ≡ answered ++ more →
    sum_by f (plain_questions (lines given)) ≡ sum_by (λ (q : Question). f q.line) answered + sum_by (λ (q : Question). f q.line) more
asked_lines f given answered more is =
    ap (sum_by f) (questions_heard given) ∙ sum_by-map f (heard_questions Questions given) ∙ ap (sum_by (λ (q : Question). f q.line)) is ∙ sum_by-append (λ (q : Question). f q.line) answered more

-- the words of some lines
flat_map-map : (qs : List Question) → flat_map phrase_terms (map (λ (q : Question). q.line) qs) ≡ flat_map (λ (q : Question). phrase_terms q.line) qs
flat_map-map [] = refl
flat_map-map (q ∷ qs) = ap (λ ts. phrase_terms q.line ++ ts) (flat_map-map qs)

-- the first of the lines of an input
lines_allowed : (allows : List ℕ → PartPages) (given : List ℕ) (answered : List Question) {r s : Reads} →
    (more : List Question) × (heard_questions Questions given ≡ answered ++ more) → ReadsAllowed (sum_allows (λ (q : Question). allows q.line) answered) r s →
    ReadsAllowed (sum_allows allows (plain_questions (lines given))) r s
lines_allowed allows given answered first a = record {
  post = omega (arith, a.post, asked_lines (λ line. (allows line).post) given answered first.0 first.1);
  skip = omega (arith, a.skip, asked_lines (λ line. (allows line).skip) given answered first.0 first.1);
  weights = omega (arith, a.weights, asked_lines (λ line. (allows line).weights) given answered first.0 first.1);
}

pub phrases_within : (s t : Searching) (answered : List Question) (code : TextCode) (collection given : List ℕ) → PhrasesAsked s t answered →
    (more : List Question) × (heard_questions Questions given ≡ answered ++ more) → Over s code collection →
    ReadsPhrases code collection given s.reads t.reads
unfolding phrases_allow phrases_terms
phrases_within s t answered code collection given a first over = record {
  looked =
      let terms = λ (q : Question). phrase_terms q.line in
      let same = ap length (ap (flat_map phrase_terms) (questions_heard given) ∙ flat_map-map (heard_questions Questions given)) in
      subst (λ n. ReadsLexicon s.reads t.reads (n * looks (length (dictionary collection)))) (sym same)
      (looks_first terms (heard_questions Questions given) answered first.0 (looks s.opened.lex.count) (looks (length (dictionary collection))) first.1
      (ap looks over.lex.terms) a.step.looked);
  allowed = lines_allowed (phrase_line_allows collection) given answered first (a.allowed code collection over);
  text = omega (arith, a.text code collection over, asked_lines (line_pages code collection) given answered first.0 first.1);
}
