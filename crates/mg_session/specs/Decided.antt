-- By what an answer is decided, and what is printed of it, whatever the parts have.
use Rattle.std.specs.Prelude.{◌≡◌, ◌⊎◌, ℕ, zero, suc, ◌+◌, ◌<◌, Bool, true, false, List, [], ◌∷◌, ◌++◌, length, get_or, slice_index_or, None, Ok, IfOk, IfSome, IsSome, OnOk}
use Rattle.std.specs.declared.option.Option.{Option}
use Rattle.std.specs.declared.result.Result.{Result}
use Rattle.mg_dev.specs.Files.{Files}
use Rattle.mg_dev.specs.Moments.{StoreAt}
use Rattle.mg_dev.specs.Streams.{appended}
use Rattle.mg_dev.specs.declared.fault.Fault.{Fault}
use Rattle.mg_dev.specs.declared.show_err.ShowErr.{ShowErr}
use Rattle.mg_defs.specs.Phrases.{all_of, phrase_of}
use Rattle.mg_defs.specs.QueryTerms.{query_terms}
use Rattle.mg_defs.specs.Read.{boolean, ranked}
use Rattle.mg_defs.specs.Refusals.{reads}
use Rattle.mg_defs.specs.Sat.{Query}
use Rattle.mg_defs.specs.Session.{Question}
use Rattle.mg_defs.specs.ShownAnswers.{shown_as}
use Rattle.mg_defs.specs.Texts.{count}
use Rattle.mg_defs.specs.Weights.{Hit}
use Rattle.mg_defs.specs.declared.session.Mode.{Mode}
use Rattle.mg_defs.specs.declared.session.Settings.{Settings}
use Rattle.mg_bool.specs.Leads.{NeedsPlace}
use Rattle.mg_bool.specs.Matches.{Matching}
use Rattle.mg_bool.specs.Places.{AreInfos, Place}
use Rattle.mg_bool.specs.Shown.{AreLists, IsPassed, IsShown, MatchesStand, SameLists}
use Rattle.mg_front.specs.Reading.{Fronted}
use Rattle.mg_layout.specs.Stands.{HasHead}
use Rattle.mg_layout.specs.declared.head.Head.{Head}
use Rattle.mg_layout.specs.declared.term_info.TermInfo.{TermInfo}
use Rattle.mg_lex.specs.Reading.{IsLexiconReader}
use Rattle.mg_lex.specs.Stood.{TermTold}
use Rattle.mg_query.specs.QueryOf.{query_of}
use Rattle.mg_rank.specs.Added.{CountsWhole}
use Rattle.mg_rank.specs.Ranked.{Ranking}
use Rattle.mg_reply.specs.Pending.{Passed}
use Rattle.mg_reply.specs.Printed.{at_score, hit_by}
use Rattle.mg_reply.specs.PrintedLines.{PrintRule}
use Rattle.mg_session.specs.Answering.{known_infos}
use Rattle.mg_session.specs.DocStands.{ArePlacesIn, AreRowsOf, IfShown, IsDocOf}
use Rattle.mg_session.specs.Opening.{KeptByQueries, SetOpened}
use Rattle.mg_session.specs.PhraseAnswers.{found_at, rows_of}
use Rattle.mg_session.specs.Searching.{Opened, OpenedOver, SearchFits, opened_at}
use Rattle.mg_session.specs.Sessions.{ForLexicon}
use Rattle.mg_session.specs.declared.rows.Rows.{Rows}

-- ---- one document

-- at `Ok` this was passed on of such a text, whatever the parts have
abbrev pub PassesSome : Option (List ℕ) → Option (List ℕ) → List ℕ → List ℕ → Result (Unit {0}) ShowErr →
    (List ℕ → Type 0) → (List ℕ → List ℕ) → Type 0
PassesSome before now waited waiting result IsSuch of = OnOk result ((doc : List ℕ) × IsSuch doc
    × Passed before now waited waiting (of doc))

-- at `Ok` such a text was put, whatever the parts have
abbrev pub PutsDoc : Option (List ℕ) → Option (List ℕ) → Result (Unit {0}) ShowErr → (List ℕ → Type 0) → Type 0
PutsDoc before now result IsSuch = OnOk result ((doc : List ℕ) × IsSuch doc × (now ≡ appended before doc))

-- at `Ok` this was put behind such rows
abbrev pub PutsSome : Option (List ℕ) → Option (List ℕ) → Result (Unit {0}) ShowErr → (List ℕ → Type 0) → List ℕ →
    Type 0
PutsSome before now result AreSuch last = OnOk result ((rows : List ℕ) × AreSuch rows
    × (now ≡ appended before (rows ++ last)))

-- at `Ok` the row of a document with such a number of places was passed on, and it is counted if there are any
abbrev pub PassesRow : Option (List ℕ) → Option (List ℕ) → Rows → Rows →
    Result (Unit {0}) ShowErr → ℕ → (ℕ → Type 0) → Type 0
PassesRow before now rows rows_now result number AreSuch = OnOk result ((places : ℕ) × AreSuch places
    × Passed before now rows.pending rows_now.pending (rows_of (found_at number places))
    × (rows_now.total ≡ rows.total + length (found_at number places)))

-- what a mode shows of a document with this text
abbrev pub shown_of : Mode → ℕ → Option ℕ → List ℕ → List ℕ
shown_of m number score doc = shown_as doc m (at_score number score)

-- the same under these settings, after so many documents
abbrev pub hit_of : Settings → ℕ → ℕ → List ℕ → List ℕ
hit_of now total number doc = hit_by now doc total (at_score number None)

-- ---- the documents of a query

-- what is printed for a document of this number, and how many are counted before it and with it
abbrev pub RowRule : Type 1
RowRule = (number before now : ℕ) → List ℕ → Type 0

-- a document of a Boolean answer is counted, and shown with its text
abbrev pub BooleanRow : (ℕ → List ℕ → Type 0) → Settings → RowRule
BooleanRow IsDoc now number before total row = (total ≡ before + 1) × ((doc : List ℕ)
    × IfShown now before (IsDoc number doc) × (row ≡ hit_of now before number doc))

-- a document that has all terms of a phrase is counted and shown if the phrase has places in it
abbrev pub PhraseRow : (ℕ → ℕ → Type 0) → RowRule
PhraseRow ArePlaces number before total row = (places : ℕ) × ArePlaces number places × (total ≡ before + length (found_at number places))
    × (row ≡ rows_of (found_at number places))

-- each of the first so many documents is shown to satisfy the query or not to; for those that do, so many are counted and this is printed
abbrev pub PrintsShown : Query → Option Files → List Place → Option ℕ → RowRule → ℕ → ℕ → List ℕ → Type 0
PrintsShown q files places lead IsRow zero total text = (total ≡ 0) × (text ≡ [])
PrintsShown q files places lead IsRow (suc n) total text =
    (IsPassed q files places lead (suc n) × PrintsShown q files places lead IsRow n total text)
    ⊎ (IsShown q files places (suc n) true × ((before : ℕ) × (first : List ℕ) × (row : List ℕ)
    × PrintsShown q files places lead IsRow n before first × IsRow (suc n) before total row × (text ≡ first ++ row)))

-- The answer to a query was printed: each document is decided by the lists of which this is told.
pub record QueryPrinted (q : Query) (base : List ℕ) (files : Option Files) (infos : List (Option TermInfo)) (all : ℕ)
    (IsRow : RowRule) (before now : Option (List ℕ)) : Type 0 where
  -- the lists; where one leads, the query needs its term
  pub places : List Place
  pub lead : Option ℕ
  pub lists : AreLists base infos all places
  pub needs : IfSome lead (NeedsPlace q)
  -- each document is decided by blocks of them that stand
  pub total : ℕ
  pub text : List ℕ
  pub each : PrintsShown q files places lead IsRow all total text
  -- that text was printed, and how many are counted
  pub put : now ≡ appended before (text ++ count total)

-- While the documents that satisfy a query are shown: so many were counted, and their rows passed on.
pub record QueryPrinting (files files_now : Option Files) (start now : Matching) (IsRow : RowRule)
    (before after : Option (List ℕ)) (waiting : List ℕ) (total : ℕ) : Type 0 where
  pub stands : MatchesStand files_now now
  pub lists : SameLists start now
  pub text : List ℕ
  pub each : PrintsShown (query_of start.asks) files start.places start.lead IsRow now.decided total text
  pub passed : Passed before after [] waiting text

-- The ranking of terms was printed: behind rows with the texts of documents the number of those to whose sums the list of each term was added whole.
pub record TermsPrinted (known : List TermInfo) (all : ℕ) (AreSuch : List Hit → List ℕ → Type 0)
    (before now : Option (List ℕ)) : Type 0 where
  pub ranking : Ranking
  pub whole : CountsWhole all known ranking
  pub rows : List ℕ
  pub rows_are : AreSuch ranking.rows rows
  pub put : now ≡ appended before (rows ++ count ranking.total)

-- ---- what calls print at `Ok`

abbrev pub PrintsQuery : Option (List ℕ) → Option (List ℕ) → Result (Unit {0}) ShowErr → List ℕ →
    Option Files → Query → List (Option TermInfo) → ℕ → RowRule → Type 0
PrintsQuery before now result base files q infos all IsRow = OnOk result
    (QueryPrinted q base files infos all IsRow before now)

abbrev pub PrintsTerms : Option (List ℕ) → Option (List ℕ) → Result (Unit {0}) ShowErr →
    List (Option TermInfo) → ℕ → (List Hit → List ℕ → Type 0) → Type 0
PrintsTerms before now result infos all AreSuch = OnOk result
    (TermsPrinted (known_infos infos) all AreSuch before now)

-- of the documents that are gone over, whose lists are those of its places
abbrev pub PrintsMatches : Option (List ℕ) → Option (List ℕ) → Result (Unit {0}) ShowErr → Option Files →
    Matching → RowRule → Type 0
PrintsMatches before now result files m IsRow = OnOk result ((total : ℕ) × (text : List ℕ)
    × PrintsShown (query_of m.asks) files m.places m.lead IsRow m.all total text
    × (now ≡ appended before (text ++ count total)))

-- ---- over open parts: by the lists of which the lexicon tells

-- What a lexicon told of some terms, whatever it holds.
pub record TermsTold (lex : Fronted) (files : Option Files) (ts : List (List ℕ)) (infos : List (Option TermInfo)) :
    Type 0 where
  -- something of each
  pub size : length infos ≡ length ts
  -- its entry stands, or those around the term do and show that it has none
  pub each : IsSome files → (k : ℕ) → k < length ts → TermTold lex files (get_or ts k []) (slice_index_or infos k None)
  -- where the lexicon is that of a collection, this is what stands of its terms
  pub are : ForLexicon lex files (λ collection. AreInfos collection ts infos)

abbrev pub QueryToldPrinted : Query → Option Files → Opened → RowRule → Option (List ℕ) → Option (List ℕ) → Type 0
QueryToldPrinted q files opened IsRow before now = (infos : List (Option TermInfo))
    × TermsTold opened.lex files (query_terms q) infos
    × QueryPrinted q opened.base files infos opened.all IsRow before now

abbrev pub TermsToldPrinted : List (List ℕ) → Option Files → Opened → (List Hit → List ℕ → Type 0) →
    Option (List ℕ) → Option (List ℕ) → Type 0
TermsToldPrinted ts files opened AreSuch before now = (infos : List (Option TermInfo))
    × TermsTold opened.lex files ts infos × TermsPrinted (known_infos infos) opened.all AreSuch before now

abbrev pub PrintsTold : Option (List ℕ) → Option (List ℕ) → Result (Unit {0}) ShowErr → Option Files →
    Opened → Query → RowRule → Type 0
PrintsTold before now result files opened q IsRow = OnOk result (QueryToldPrinted q files opened IsRow before now)

abbrev pub RanksTold : Option (List ℕ) → Option (List ℕ) → Result (Unit {0}) ShowErr → Option Files →
    Opened → List (List ℕ) → (List Hit → List ℕ → Type 0) → Type 0
RanksTold before now result files opened ts AreSuch = OnOk result
    (TermsToldPrinted ts files opened AreSuch before now)

-- of a phrase of these words; nothing is sought for one without words
abbrev pub PrintsWords : Option (List ℕ) → Option (List ℕ) → Result (Unit {0}) ShowErr → Option Files →
    Opened → List (List ℕ) → Type 0
PrintsWords before now result files opened words = (t : List ℕ) (us : List (List ℕ)) → words ≡ t ∷ us →
    PrintsTold before now result files opened (all_of t us) (PhraseRow (ArePlacesIn opened.texts files words))

-- of a line, ranked or Boolean, that is not refused, into an output that is told
abbrev pub PrintsLine : Option (List ℕ) → Option (List ℕ) → Result (Unit {0}) ShowErr → Option Files →
    Opened → Bool → Settings → List ℕ → Type 0
PrintsLine before now result files opened true settings line = (ts : List (List ℕ)) → ranked line ≡ reads ts →
    IsSome before → RanksTold before now result files opened ts (AreRowsOf (IsDocOf opened.texts files) settings.mode)
PrintsLine before now result files opened false settings line = (q : Query) → boolean line ≡ reads q →
    IsSome before → PrintsTold before now result files opened q (BooleanRow (IsDocOf opened.texts files) settings)

-- and of one that is a phrase
abbrev pub PrintsPhrase : Option (List ℕ) → Option (List ℕ) → Result (Unit {0}) ShowErr → Option Files →
    Opened → List ℕ → Type 0
PrintsPhrase before now result files opened line = (ts : List (List ℕ)) → phrase_of line ≡ reads ts →
    IsSome before → PrintsWords before now result files opened ts

-- ---- a query line and a line that is a phrase, where they were answered

abbrev pub QuestionPrints : Option Files → Opened → PrintRule
QuestionPrints files opened question before now = PrintsLine before now (Ok tt) files opened question.now.ranked
    question.now question.line

abbrev pub PhrasePrints : Option Files → Opened → PrintRule
PhrasePrints files opened question before now = PrintsPhrase before now (Ok tt) files opened question.line

-- over parts of a base that were opened: its lexicon was loaded with the number of terms that its head tells
pub record OpenedParts (base : List ℕ) (head : Head) (opened : Opened) : Type 0 where
  pub lex : Fronted
  pub reader : IsLexiconReader base head.terms lex
  pub opened_is : opened ≡ opened_at base lex head

-- The parts of a set with this head were opened for queries or phrases, or one of them is refused.
pub record SearchOpened (head : Head) (base : List ℕ) (before now : StoreAt) (result : Result Opened Fault) : Type 0
  where
    -- what the readers keep agrees with the files
    pub fits : IfOk result (SearchFits now.files)
    -- they are over each collection for which the set stands; no file changed, and no part was read
    pub set : SetOpened (OpenedOver now.files) KeptByQueries (λ count. ⊥) head base before now result
    -- they are of this base, by its head
    pub parts : IfOk result (OpenedParts base head)

-- By parts of a set under a base that were opened by its head, this is printed.
pub record PrintsOver (IsPrinted : Option Files → Opened → PrintRule) (base : List ℕ) (files : Option Files)
    (question : Question) (before now : Option (List ℕ)) : Type 0 where
  pub head : Head
  pub head_is : HasHead files base head
  pub opened : Opened
  pub parts : OpenedParts base head opened
  pub printed : IsPrinted files opened question before now
