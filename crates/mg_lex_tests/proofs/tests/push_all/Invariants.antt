use Rattle.std.proofs.Common.{◌≡◌, List}
use Rattle.mg_lex.specs.Terms.{Term}
use Rattle.mg_lex.specs.Writing.{TookTerms}
use Rattle.mg_lex_tests.proofs.tests.push_all.Given as goal

abbrev pub invariant-loop-term : goal.invariant-loop-term
invariant-loop-term g l = record {
  took : (ts : List Term) × TookTerms l.writer (g.S.Store.files l.store) ts;
  count : l.writer.front.count ≡ l.number;
  last : l.writer.front.last ≡ l.before;
}
