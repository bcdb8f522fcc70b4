use Rattle.std.proofs.Common.{◌≤◌, ◌-◌, ℕ, List, Ok}
use Rattle.mg_defs.specs.CodedText.{TextCode}
use Rattle.mg_bool.specs.Matches.{MatchesFit, MatchesOver, SameMatches}
use Rattle.mg_query.specs.QueryOf.{query_of}
use Rattle.mg_session.specs.Answering.{AnswersFor, Walked}
use Rattle.mg_session.specs.Calls.{TextStep, at_sink, at_store}
use Rattle.mg_session.specs.Decided.{BooleanRow, QueryPrinting}
use Rattle.mg_session.specs.DocStands.{IsDocOf}
use Rattle.mg_session.specs.Parts.{Stepped}
use Rattle.mg_session.proofs.boolean_answer.show_matches.Given as goal

abbrev pub invariant-matches : goal.invariant-matches
invariant-matches g l = record {
  so_far : TextStep (g.D.Documents.texts l.fn.texts) (g.D.Documents.texts l.texts) (at_store g.S.Store l.fn.store) (at_store g.S.Store l.store) (at_sink g.O.Sink l.fn.out) (at_sink g.O.Sink l.out)
      (Ok tt) (Stepped l.fn.now.mode);
  on : (base : List ℕ) × MatchesFit base (g.S.Store.files l.store) l.matches;
  kept : SameMatches l.fn.matches l.matches;
  few : l.rows.total ≤ l.matches.decided;
  within : l.matches.decided ≤ l.matches.all;
  printing : QueryPrinting (g.S.Store.files l.fn.store) (g.S.Store.files l.store) l.fn.matches l.matches
      (BooleanRow (IsDocOf (g.D.Documents.texts l.fn.texts) (g.S.Store.files l.fn.store)) l.fn.now) (g.O.Sink.written l.fn.out)
      (g.O.Sink.written l.out) l.rows.pending l.rows.total;
  walked : (base : List ℕ) (code : TextCode) (collection : List ℕ) →
      AnswersFor base (g.S.Store.files l.fn.store) (g.D.Documents.texts l.fn.texts) l.fn.matches.all code collection →
      MatchesOver base collection l.fn.matches →
      Walked base code collection (query_of l.fn.matches.asks) l.fn.now (g.O.Sink.written l.fn.out) (g.O.Sink.written l.out) l.rows.pending l.rows.total l.matches
      (g.S.Store.reads l.fn.store) (g.S.Store.reads l.store);
}

abbrev pub decreases-matches : goal.decreases-matches
decreases-matches g l = l.matches.all - l.matches.decided
