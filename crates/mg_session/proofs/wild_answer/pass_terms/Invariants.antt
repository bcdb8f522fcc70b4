use Rattle.std.proofs.Common.{◌≤◌, ℕ, List, take}
use Rattle.mg_reply.specs.Pending.{Passed}
use Rattle.mg_wild.specs.Loading.{HasTermsOf, TellsOf}
use Rattle.mg_session.specs.WildMarks.{term_rows, terms_at}
use Rattle.mg_session.proofs.wild_answer.pass_terms.Given as goal

abbrev pub invariant-loop-number : goal.invariant-loop-number
invariant-loop-number g l = record {
  output : g.O.Sink.faults l.fn.out ≤ g.O.Sink.faults l.out;
  lacks : g.O.Sink.lacks l.fn.out ≤ g.O.Sink.lacks l.out;
  passed : (collection : List ℕ) → HasTermsOf l.terms collection → TellsOf l.terms collection →
      Passed (g.O.Sink.written l.fn.out) (g.O.Sink.written l.out) l.fn.pending l.pending
      (term_rows collection (terms_at collection (take l.number-index l.numbers)));
}
