use Rattle.std.proofs.Common.{◌≡◌, ◌≤◌, ◌-◌, ℕ, List, Ok}
use Rattle.mg_defs.specs.CodedText.{TextCode}
use Rattle.mg_defs.specs.declared.session.Mode.TheVariants as mode
use Rattle.mg_bool.specs.Matches.{MatchesFit, MatchesOver, SameMatches}
use Rattle.mg_query.specs.QueryOf.{query_of}
use Rattle.mg_session.specs.Answering.{AnswersFor}
use Rattle.mg_session.specs.Calls.{TextStep, at_sink, at_store}
use Rattle.mg_session.specs.Decided.{PhraseRow, QueryPrinting}
use Rattle.mg_session.specs.DocStands.{ArePlacesIn}
use Rattle.mg_session.specs.Parts.{Stepped}
use Rattle.mg_session.specs.PhraseAnswers.{PhraseWalked}
use Rattle.mg_session.specs.PhraseTexts.{AreMarksOf}
use Rattle.mg_session.proofs.phrase_answer.search_matches.Given as goal

abbrev pub invariant-matches : goal.invariant-matches
invariant-matches g l = record {
  so_far : TextStep (g.T.Searched.texts l.fn.texts) (g.T.Searched.texts l.texts) (at_store g.S.Store l.fn.store) (at_store g.S.Store l.store) (at_sink g.O.Sink l.fn.out) (at_sink g.O.Sink l.out)
      (Ok tt) (Stepped mode.Text);
  on : (base : List ℕ) × MatchesFit base (g.S.Store.files l.store) l.matches;
  kept : SameMatches l.fn.matches l.matches;
  marked : AreMarksOf (g.T.Searched.texts l.texts).reader l.marks;
  phrase : l.marks.phrase ≡ l.fn.marks.phrase;
  few : l.rows.total ≤ l.matches.decided;
  within : l.matches.decided ≤ l.matches.all;
  printing : QueryPrinting (g.S.Store.files l.fn.store) (g.S.Store.files l.store) l.fn.matches l.matches
      (PhraseRow (ArePlacesIn (g.T.Searched.texts l.fn.texts) (g.S.Store.files l.fn.store) l.fn.marks.phrase)) (g.O.Sink.written l.fn.out)
      (g.O.Sink.written l.out) l.rows.pending l.rows.total;
  walked : (base : List ℕ) (code : TextCode) (collection : List ℕ) →
      AnswersFor base (g.S.Store.files l.fn.store) (g.T.Searched.texts l.fn.texts) l.fn.matches.all code collection →
      MatchesOver base collection l.fn.matches →
      PhraseWalked base code collection l.fn.marks.phrase (query_of l.fn.matches.asks) (g.O.Sink.written l.fn.out) (g.O.Sink.written l.out) l.rows.pending l.rows.total l.matches
      (g.S.Store.reads l.fn.store) (g.S.Store.reads l.store);
}

abbrev pub decreases-matches : goal.decreases-matches
decreases-matches g l = l.matches.all - l.matches.decided
