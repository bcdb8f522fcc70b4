-- What a line prints by one state of a search it prints by an earlier one.
use Rattle.std.proofs.Common.{◌≡◌, ◌<◌, ◌/◌, ◌%◌, ℕ, List, [], Bool, true, false, get_or, slice_index_or, Some, None, Ok, IsSome, sym, subst}
use Rattle.std.specs.declared.option.Option.{Option}
use Rattle.mg_dev.specs.Files.{Files}
use Rattle.mg_defs.specs.Phrases.{all_of}
use Rattle.mg_defs.specs.Sat.{Query}
use Rattle.mg_defs.specs.Session.{Question}
use Rattle.mg_defs.specs.Weights.{Hit}
use Rattle.mg_defs.specs.declared.session.Settings.{Settings}
use Rattle.mg_front.specs.Reading.{Fronted, SameParts}
use Rattle.mg_front.proofs.CallerLemmas.{absent_as, stands_as}
use Rattle.mg_layout.specs.declared.term_info.TermInfo.{TermInfo}
use Rattle.mg_lex.specs.Stood.{TermTold}
use Rattle.mg_reply.specs.PrintedLines.{PrintRule}
use Rattle.mg_session.specs.Answering.{known_infos}
use Rattle.mg_session.specs.DocStands.{ArePlacesIn, AreRowsOf, IsDocOf}
use Rattle.mg_session.specs.Decided.{BooleanRow, PhrasePrints, PhraseRow, PrintsLine, PrintsPhrase, PrintsTold, QueryPrinted, QuestionPrints, RanksTold, RowRule, TermsPrinted, TermsTold}
use Rattle.mg_session.specs.PhraseSearching.{PhrasesAsked}
use Rattle.mg_session.specs.SearchLaws.{lex_later}
use Rattle.mg_session.specs.Searching.{Asked, SameOpened, Searching}

-- by the open parts of a state
abbrev pub Prints : Searching → PrintRule
Prints s question before now = QuestionPrints s.files s.opened question before now

abbrev pub PhraseRule : Searching → PrintRule
PhraseRule s question before now = PhrasePrints s.files s.opened question before now

-- ---- by the same parts

pub told_as : (r u : Fronted) (files now : Option Files) (term : List ℕ) (info : Option TermInfo) → SameParts r u →
    now ≡ files → TermTold u now term info → TermTold r files term info
told_as r u files now term (Some info) same e told = record {
  among = subst (λ n. info.number < n) same.count told.among;
  entry = told.entry;
  stands = stands_as r u files now (info.number / 4) (info.number % 4) told.entry same e told.stands;
  string = told.string;
  field = told.field;
}
told_as r u files now term None same e told = absent_as r u files now term same e told

module _ (s t : Searching) (files : t.files ≡ s.files) (same : SameOpened s.opened t.opened) where
  terms_back : {ts : List (List ℕ)} {infos : List (Option TermInfo)} → TermsTold t.opened.lex t.files ts infos →
      TermsTold s.opened.lex s.files ts infos
  terms_back {ts} {infos} told = record {
    size = told.size;
    each = λ known k lt. told_as s.opened.lex t.opened.lex s.files t.files (get_or ts k []) (slice_index_or infos k None)
        same.lex files (told.each (subst IsSome (sym files) known) k lt);
    are = λ version collection limits stands. told.are version collection limits
        (lex_later s.opened.lex t.opened.lex s.files t.files collection same.lex files stands);
  }

  query_back : (q : Query) (IsRow : RowRule) (before now : Option (List ℕ)) → PrintsTold before now (Ok tt) t.files t.opened q IsRow →
      PrintsTold before now (Ok tt) s.files s.opened q IsRow
  query_back q IsRow before now is = (
    is.0,
    terms_back is.1,
    subst (λ n. QueryPrinted q s.opened.base s.files is.0 n IsRow before now) same.all
        (subst (λ b. QueryPrinted q b s.files is.0 t.opened.all IsRow before now) same.base
        (subst (λ f. QueryPrinted q t.opened.base f is.0 t.opened.all IsRow before now) files is.2)),
  )

  ranked_back : (ts : List (List ℕ)) (AreSuch : List Hit → List ℕ → Type 0) (before now : Option (List ℕ)) →
      RanksTold before now (Ok tt) t.files t.opened ts AreSuch → RanksTold before now (Ok tt) s.files s.opened ts AreSuch
  ranked_back ts AreSuch before now is =
      (is.0, terms_back is.1, subst (λ n. TermsPrinted (known_infos is.0) n AreSuch before now) same.all is.2)

  -- what the parts tell of documents, and of a phrase's places in them
  docs_back : (P : (ℕ → List ℕ → Type 0) → Type 0) → P (IsDocOf t.opened.texts t.files) →
      P (IsDocOf s.opened.texts s.files)
  docs_back P is =
      let texts = s.opened.texts in
      subst (λ b. P (IsDocOf (record { base = b; head = texts.head; reader = None }) s.files)) same.texts.base
      (subst (λ h. P (IsDocOf (record { base = t.opened.texts.base; head = h; reader = None }) s.files)) same.texts.head
      (subst (λ f. P (IsDocOf t.opened.texts f)) files is))

  places_back : (words : List (List ℕ)) (P : (ℕ → ℕ → Type 0) → Type 0) → P (ArePlacesIn t.opened.texts t.files words) →
      P (ArePlacesIn s.opened.texts s.files words)
  places_back words P is =
      let texts = s.opened.texts in
      subst (λ b. P (ArePlacesIn (record { base = b; head = texts.head; reader = None }) s.files words)) same.texts.base
      (subst (λ h. P (ArePlacesIn (record { base = t.opened.texts.base; head = h; reader = None }) s.files words))
      same.texts.head (subst (λ f. P (ArePlacesIn t.opened.texts f words)) files is))

  line_back : (is_ranked : Bool) (now : Settings) (line : List ℕ) (before after : Option (List ℕ)) →
      PrintsLine before after (Ok tt) t.files t.opened is_ranked now line →
      PrintsLine before after (Ok tt) s.files s.opened is_ranked now line
  line_back true now line before after printed = λ ts is told.
      docs_back (λ IsDoc. RanksTold before after (Ok tt) s.files s.opened ts (AreRowsOf IsDoc now.mode))
      (ranked_back ts (AreRowsOf (IsDocOf t.opened.texts t.files) now.mode) before after (printed ts is told))
  line_back false now line before after printed = λ q is told.
      docs_back (λ IsDoc. PrintsTold before after (Ok tt) s.files s.opened q (BooleanRow IsDoc now))
      (query_back q (BooleanRow (IsDocOf t.opened.texts t.files) now) before after (printed q is told))

  phrase_back : (line : List ℕ) (before after : Option (List ℕ)) → PrintsPhrase before after (Ok tt) t.files t.opened line →
      PrintsPhrase before after (Ok tt) s.files s.opened line
  phrase_back line before after printed = λ ts is told word words whole.
      places_back ts (λ ArePlaces. PrintsTold before after (Ok tt) s.files s.opened (all_of word words) (PhraseRow ArePlaces))
      (query_back (all_of word words) (PhraseRow (ArePlacesIn t.opened.texts t.files ts)) before after
      (printed ts is told word words whole))

-- ---- one state after another

pub prints_later : (s t : Searching) (xs : List Question) (question : Question) (before now : Option (List ℕ)) →
    Asked s t xs → Prints t question before now → Prints s question before now
prints_later s t xs question before now a printed =
    line_back s t a.files a.same question.now.ranked question.now question.line before now printed

pub phrase_later : (s t : Searching) (xs : List Question) (question : Question) (before now : Option (List ℕ)) →
    PhrasesAsked s t xs → PhraseRule t question before now → PhraseRule s question before now
phrase_later s t xs question before now a printed =
    phrase_back s t a.step.files a.same question.line before now printed
