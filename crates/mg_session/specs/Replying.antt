-- How queries and lines are answered, by what the types of the store and the output tell.
use Rattle.std.specs.Prelude.{ℕ, Bool, List, length}
use Rattle.std.specs.List.{IsDistinct}
use Rattle.std.specs.Str.{bytes_eq}
use Rattle.std.specs.declared.option.Option.{Option}
use Rattle.std.specs.declared.result.Result.{Result}
use Rattle.mg_dev.specs.Files.{Files}
use Rattle.mg_dev.specs.declared.show_err.ShowErr.{ShowErr}
use Rattle.mg_dev.specs.declared.sink.Sink as sinks
use Rattle.mg_dev.specs.declared.store.Store as stores
use Rattle.mg_defs.specs.CodedText.{TextCode}
use Rattle.mg_defs.specs.Patterns.{Pattern}
use Rattle.mg_defs.specs.QueryTerms.{query_terms}
use Rattle.mg_defs.specs.ShownAnswers.{Shown, ranking, satisfying}
use Rattle.mg_defs.specs.Sat.{Query}
use Rattle.mg_defs.specs.declared.session.Mode.TheVariants as mode
use Rattle.mg_defs.specs.declared.session.Settings.{Settings}
use Rattle.mg_bool.specs.Matches.{Matching, MatchesOver}
use Rattle.mg_bool.specs.Places.{AreInfos}
use Rattle.mg_layout.specs.declared.term_info.TermInfo.{TermInfo}
use Rattle.mg_query.specs.QueryOf.{query_of}
use Rattle.mg_session.specs.Answering.{Answered, AnswersFor, Replied}
use Rattle.mg_session.specs.Calls.{StepsOpened, StepsText}
use Rattle.mg_session.specs.Decided.{BooleanRow, PhraseRow, PrintsLine, PrintsMatches, PrintsPhrase, PrintsQuery, PrintsTerms, PrintsTold, PrintsWords, RanksTold}
use Rattle.mg_session.specs.DocStands.{ArePlacesIn, AreRowsOf, IsDocOf}
use Rattle.mg_session.specs.PagesAllowed.{PartPages, query_allows, ranked_allows, terms_by}
use Rattle.mg_session.specs.Parts.{Stepped}
use Rattle.mg_session.specs.PhraseAnswers.{DocumentSearched, PhraseAnswered, PhraseReplied}
use Rattle.mg_session.specs.PhrasesAllowed.{phrase_terms}
use Rattle.mg_session.specs.Searching.{Opened}
use Rattle.mg_session.specs.Sessions.{ForOpened, ForText}
use Rattle.mg_session.specs.Texts.{Texting}
use Rattle.mg_session.specs.WildAnswers.{WildAnswered, WildReplied}
use Rattle.mg_session.specs.declared.rows.Rows.{Rows}

-- ---- what is promised of a question

-- A question was answered.
pub record AnsweredOver (IsAnswered IsPrinted IsStepped : Type 0) : Type 0 where
  -- where the parts are those of a collection, this is answered of it
  pub answer : IsAnswered
  -- whatever the parts have, this is printed
  pub printed : IsPrinted
  -- and this is done to the parts and to the devices
  pub stepped : IsStepped

-- ---- queries and ranked terms

-- for each collection, and the codes of its text, that lists, weights and text are of
abbrev pub ForAnswers : List ℕ → Option Files → Texting → ℕ → (TextCode → List ℕ → Type 0) → Type 0
ForAnswers base files texts all holds = (code : TextCode) (collection : List ℕ) →
    AnswersFor base files texts all code collection → holds code collection

-- over the lists, weights and text of a base: where this is told of its terms, a query is answered
abbrev pub AnswersQuery : {X Y : Type 0} → stores.Ghosts X → sinks.Ghosts Y → X → X → Y → Y →
    Result (Unit {0}) ShowErr → List ℕ → Texting → ℕ → Query → List (Option TermInfo) → Settings → Type 0
AnswersQuery of_store of_out store store_now out out_now result base texts all q infos now =
    ForAnswers base (of_store.files store) texts all (λ code collection.
    AreInfos collection (query_terms q) infos →
    Answered code collection now (satisfying collection q) (query_allows collection q) (of_out.written out)
    (of_out.written out_now) (of_store.reads store) (of_store.reads store_now) result)

-- over the lists, weights and text of some base, of which none was asked for yet: those that satisfy the query are the answer
abbrev pub AnswersMatches : {X Y : Type 0} → stores.Ghosts X → sinks.Ghosts Y → X → X → Y → Y →
    Result (Unit {0}) ShowErr → Texting → Matching → Settings → Type 0
AnswersMatches of_store of_out store store_now out out_now result texts m now = (base : List ℕ) →
    ForAnswers base (of_store.files store) texts m.all (λ code collection.
    MatchesOver base collection m →
    Answered code collection now (satisfying collection (query_of m.asks)) (query_allows collection (query_of m.asks))
    (of_out.written out) (of_out.written out_now) (of_store.reads store) (of_store.reads store_now) result)

-- where this is told of distinct terms, their ranking is the answer
abbrev pub AnswersTerms : {X Y : Type 0} → stores.Ghosts X → sinks.Ghosts Y → X → X → Y → Y →
    Result (Unit {0}) ShowErr → List ℕ → Texting → ℕ → List (Option TermInfo) → Settings → Type 0
AnswersTerms of_store of_out store store_now out out_now result base texts all infos now =
    ForAnswers base (of_store.files store) texts all (λ code collection.
    (terms : List (List ℕ)) → AreInfos collection terms infos → IsDistinct bytes_eq terms →
    Answered code collection now (ranking collection terms) (ranked_allows collection now terms) (of_out.written out)
    (of_out.written out_now) (of_store.reads store) (of_store.reads store_now) result)

-- the documents that satisfy a query are shown, whose lists those of the terms are
abbrev pub ShowsQuery : {X Y : Type 0} → stores.Ghosts X → sinks.Ghosts Y → X → X → Y → Y →
    Result (Unit {0}) ShowErr → List ℕ → Texting → Texting → ℕ → Query → List (Option TermInfo) → Settings → Type 0
ShowsQuery of_store of_out store store_now out out_now result base texts texts_now all q infos now = AnsweredOver
    (AnswersQuery of_store of_out store store_now out out_now result base texts all q infos now)
    (PrintsQuery (of_out.written out) (of_out.written out_now) result base (of_store.files store) q infos all
    (BooleanRow (IsDocOf texts (of_store.files store)) now))
    (StepsText of_store of_out store store_now out out_now result texts texts_now (Stepped now.mode))

-- those of which none was asked for yet
abbrev pub ShowsMatches : {X Y : Type 0} → stores.Ghosts X → sinks.Ghosts Y → X → X → Y → Y →
    Result (Unit {0}) ShowErr → Texting → Texting → Matching → Settings → Type 0
ShowsMatches of_store of_out store store_now out out_now result texts texts_now m now = AnsweredOver
    (AnswersMatches of_store of_out store store_now out out_now result texts m now)
    (PrintsMatches (of_out.written out) (of_out.written out_now) result (of_store.files store) m
    (BooleanRow (IsDocOf texts (of_store.files store)) now))
    (StepsText of_store of_out store store_now out out_now result texts texts_now (Stepped now.mode))

-- the documents with one of the terms are shown, ranked
abbrev pub ShowsTerms : {X Y : Type 0} → stores.Ghosts X → sinks.Ghosts Y → X → X → Y → Y →
    Result (Unit {0}) ShowErr → List ℕ → Texting → Texting → ℕ → List (Option TermInfo) → Settings → Type 0
ShowsTerms of_store of_out store store_now out out_now result base texts texts_now all infos now = AnsweredOver
    (AnswersTerms of_store of_out store store_now out out_now result base texts all infos now)
    (PrintsTerms (of_out.written out) (of_out.written out_now) result infos all
    (AreRowsOf (IsDocOf texts (of_store.files store)) now.mode))
    (StepsText of_store of_out store store_now out out_now result texts texts_now (Stepped now.mode))

-- over the open parts: an answer is shown, and no more pages of Post, Skip and Weights are read than it allows
abbrev pub AnswersOpened : {X Y : Type 0} → stores.Ghosts X → sinks.Ghosts Y → X → X → Y → Y →
    Result (Unit {0}) ShowErr → Opened → Settings → (List ℕ → List Shown) → (List ℕ → PartPages) → Type 0
AnswersOpened of_store of_out store store_now out out_now result opened now answer allows =
    ForOpened (of_store.files store) opened (λ code collection.
    Answered code collection now (answer collection) (allows collection) (of_out.written out) (of_out.written out_now)
    (of_store.reads store) (of_store.reads store_now) result)

-- over the open parts: a line is replied to, ranked or Boolean
abbrev pub RepliesTo : {X Y : Type 0} → stores.Ghosts X → sinks.Ghosts Y → X → X → Y → Y → Result (Unit {0}) ShowErr →
    Opened → Bool → Settings → List ℕ → Type 0
RepliesTo of_store of_out store store_now out out_now result opened ranked now line =
    ForOpened (of_store.files store) opened (λ code collection.
    Replied code collection ranked now line (of_out.written out) (of_out.written out_now) (of_store.reads store)
    (of_store.reads store_now) result)

-- ---- phrases

-- where the text is that of a collection, a document of it is searched for a phrase, and its row is passed on where it has places
abbrev pub SearchesDocument : {X Y : Type 0} → stores.Ghosts X → sinks.Ghosts Y → X → X → Y → Y →
    Result (Unit {0}) ShowErr → Texting → Rows → Rows → List (List ℕ) → ℕ → Type 0
SearchesDocument of_store of_out store store_now out out_now result texts rows rows_now phrase number =
    ForText texts (of_store.files store) (λ code collection.
    DocumentSearched code collection phrase number (of_out.written out) (of_out.written out_now) rows rows_now
    (of_store.reads store) (of_store.reads store_now) result)

-- over the lists and the text of a base: where this is told of its terms, which the query joins, a phrase is answered
abbrev pub AnswersPhrase : {X Y : Type 0} → stores.Ghosts X → sinks.Ghosts Y → X → X → Y → Y →
    Result (Unit {0}) ShowErr → List ℕ → Texting → ℕ → Query → List (Option TermInfo) → List (List ℕ) → Type 0
AnswersPhrase of_store of_out store store_now out out_now result base texts all q infos phrase =
    ForAnswers base (of_store.files store) texts all (λ code collection.
    AreInfos collection (query_terms q) infos →
    PhraseAnswered code collection phrase (of_out.written out) (of_out.written out_now) (of_store.reads store)
    (of_store.reads store_now) result)

-- over the lists and the text of some base, of which none was asked for yet: a phrase is answered by those that have all its terms
abbrev pub AnswersCandidates : {X Y : Type 0} → stores.Ghosts X → sinks.Ghosts Y → X → X → Y → Y →
    Result (Unit {0}) ShowErr → Texting → Matching → List (List ℕ) → Type 0
AnswersCandidates of_store of_out store store_now out out_now result texts m phrase = (base : List ℕ) →
    ForAnswers base (of_store.files store) texts m.all (λ code collection.
    MatchesOver base collection m →
    PhraseAnswered code collection phrase (of_out.written out) (of_out.written out_now) (of_store.reads store)
    (of_store.reads store_now) result)

-- the documents that have a phrase are shown, whose lists those of the terms are
abbrev pub ShowsPhrase : {X Y : Type 0} → stores.Ghosts X → sinks.Ghosts Y → X → X → Y → Y →
    Result (Unit {0}) ShowErr → List ℕ → Texting → Texting → ℕ → Query → List (Option TermInfo) → List (List ℕ) →
    Type 0
ShowsPhrase of_store of_out store store_now out out_now result base texts texts_now all q infos phrase = AnsweredOver
    (AnswersPhrase of_store of_out store store_now out out_now result base texts all q infos phrase)
    (PrintsQuery (of_out.written out) (of_out.written out_now) result base (of_store.files store) q infos all
    (PhraseRow (ArePlacesIn texts (of_store.files store) phrase)))
    (StepsText of_store of_out store store_now out out_now result texts texts_now (Stepped mode.Text))

-- those of which none was asked for yet
abbrev pub ShowsCandidates : {X Y : Type 0} → stores.Ghosts X → sinks.Ghosts Y → X → X → Y → Y →
    Result (Unit {0}) ShowErr → Texting → Texting → Matching → List (List ℕ) → Type 0
ShowsCandidates of_store of_out store store_now out out_now result texts texts_now m phrase = AnsweredOver
    (AnswersCandidates of_store of_out store store_now out out_now result texts m phrase)
    (PrintsMatches (of_out.written out) (of_out.written out_now) result (of_store.files store) m
    (PhraseRow (ArePlacesIn texts (of_store.files store) phrase)))
    (StepsText of_store of_out store store_now out out_now result texts texts_now (Stepped mode.Text))

-- over the open parts: a phrase of these words is answered
abbrev pub AnswersWords : {X Y : Type 0} → stores.Ghosts X → sinks.Ghosts Y → X → X → Y → Y →
    Result (Unit {0}) ShowErr → Opened → List (List ℕ) → Type 0
AnswersWords of_store of_out store store_now out out_now result opened phrase =
    ForOpened (of_store.files store) opened (λ code collection.
    PhraseAnswered code collection phrase (of_out.written out) (of_out.written out_now) (of_store.reads store)
    (of_store.reads store_now) result)

-- over the open parts: a line is replied to as a phrase
abbrev pub RepliesToPhrase : {X Y : Type 0} → stores.Ghosts X → sinks.Ghosts Y → X → X → Y → Y →
    Result (Unit {0}) ShowErr → Opened → List ℕ → Type 0
RepliesToPhrase of_store of_out store store_now out out_now result opened line =
    ForOpened (of_store.files store) opened (λ code collection.
    PhraseReplied code collection line (of_out.written out) (of_out.written out_now) (of_store.reads store)
    (of_store.reads store_now) result)

-- ---- over the open parts: what is answered where they stand, what is printed whatever they have, and what is done

-- a query
abbrev pub AsksQuery : {X Y : Type 0} → stores.Ghosts X → sinks.Ghosts Y → X → X → Y → Y →
    Result (Unit {0}) ShowErr → Opened → Opened → Settings → Query → Type 0
AsksQuery of_store of_out store store_now out out_now result opened opened_now now q = AnsweredOver
    (AnswersOpened of_store of_out store store_now out out_now result opened now (λ collection. satisfying collection q)
    (λ collection. query_allows collection q))
    (PrintsTold (of_out.written out) (of_out.written out_now) result (of_store.files store) opened q
    (BooleanRow (IsDocOf opened.texts (of_store.files store)) now))
    (StepsOpened of_store of_out store store_now out out_now result opened opened_now now.mode (length (query_terms q)))

-- distinct terms, which are ranked
abbrev pub AsksTerms : {X Y : Type 0} → stores.Ghosts X → sinks.Ghosts Y → X → X → Y → Y →
    Result (Unit {0}) ShowErr → Opened → Opened → Settings → List (List ℕ) → Type 0
AsksTerms of_store of_out store store_now out out_now result opened opened_now now ts = AnsweredOver
    (AnswersOpened of_store of_out store store_now out out_now result opened now (λ collection. ranking collection ts)
    (λ collection. ranked_allows collection now ts))
    (RanksTold (of_out.written out) (of_out.written out_now) result (of_store.files store) opened ts
    (AreRowsOf (IsDocOf opened.texts (of_store.files store)) now.mode))
    (StepsOpened of_store of_out store store_now out out_now result opened opened_now now.mode (length ts))

-- a line, ranked or Boolean
abbrev pub AsksLine : {X Y : Type 0} → stores.Ghosts X → sinks.Ghosts Y → X → X → Y → Y →
    Result (Unit {0}) ShowErr → Opened → Opened → Bool → Settings → List ℕ → Type 0
AsksLine of_store of_out store store_now out out_now result opened opened_now is_ranked now line = AnsweredOver
    (RepliesTo of_store of_out store store_now out out_now result opened is_ranked now line)
    (PrintsLine (of_out.written out) (of_out.written out_now) result (of_store.files store) opened is_ranked now line)
    (StepsOpened of_store of_out store store_now out out_now result opened opened_now now.mode
    (length (terms_by is_ranked line)))

-- a phrase of these words
abbrev pub AsksWords : {X Y : Type 0} → stores.Ghosts X → sinks.Ghosts Y → X → X → Y → Y →
    Result (Unit {0}) ShowErr → Opened → Opened → List (List ℕ) → Type 0
AsksWords of_store of_out store store_now out out_now result opened opened_now words = AnsweredOver
    (AnswersWords of_store of_out store store_now out out_now result opened words)
    (PrintsWords (of_out.written out) (of_out.written out_now) result (of_store.files store) opened words)
    (StepsOpened of_store of_out store store_now out out_now result opened opened_now mode.Text (length words))

-- a line that is a phrase
abbrev pub AsksPhrase : {X Y : Type 0} → stores.Ghosts X → sinks.Ghosts Y → X → X → Y → Y →
    Result (Unit {0}) ShowErr → Opened → Opened → List ℕ → Type 0
AsksPhrase of_store of_out store store_now out out_now result opened opened_now line = AnsweredOver
    (RepliesToPhrase of_store of_out store store_now out out_now result opened line)
    (PrintsPhrase (of_out.written out) (of_out.written out_now) result (of_store.files store) opened line)
    (StepsOpened of_store of_out store store_now out out_now result opened opened_now mode.Text
    (length (phrase_terms line)))

-- ---- patterns

-- a pattern is answered
abbrev pub AnswersPattern : {Y : Type 0} → (Y → Option (List ℕ)) → Y → Y → Result (Unit {0}) ShowErr → Pattern →
    List ℕ → Type 0
AnswersPattern written out out_now result p collection = WildAnswered collection p (written out) (written out_now)
    result

-- a line is replied to as a pattern
abbrev pub RepliesToPattern : {Y : Type 0} → (Y → Option (List ℕ)) → Y → Y → Result (Unit {0}) ShowErr → List ℕ →
    List ℕ → Type 0
RepliesToPattern written out out_now result line collection = WildReplied collection line (written out)
    (written out_now) result
