use Rattle.std.proofs.Common.{arith}
use Rattle.mg_plain.proofs.RankingUnderWayLaws.{tallied_start, tallied_more, tallied_all, tallied_found, tallied_small, next_small}
use Rattle.mg_plain.proofs.rows.count_documents.Goals as goal

pub docs-init : goal.docs-init
docs-init c = record {
  tallied = rw c.new-docs.ensures (tallied_start _ _ _ (omega arith) (λ k lt. c.loop-one.invariant k (omega arith)));
  size = omega arith;
}

pub overflow_add-number : goal.overflow_add-number
overflow_add-number c = omega (arith, (next_small _ _ _ _ _ _ c.docs.invariant.tallied.docs_is c.docs.invariant.tallied.count c.in-Some.ensures c.requires.small).0)

pub count_terms-requires-clause-small : goal.count_terms-requires-clause-small
count_terms-requires-clause-small c = omega (arith, (next_small _ _ _ _ _ _ c.docs.invariant.tallied.docs_is c.docs.invariant.tallied.count c.in-Some.ensures c.requires.small).1)

pub add_document-requires-clause-same : goal.add_document-requires-clause-same
add_document-requires-clause-same c = omega (arith, c.count_terms.ensures.size, c.docs.invariant.tallied.size)

pub add_document-requires-clause-small : goal.add_document-requires-clause-small
add_document-requires-clause-small c = λ k lt. tallied_small _ _ _ _ _ c.docs.invariant.tallied c.requires.small k (omega (arith, lt, c.count_terms.ensures.size))

pub docs-preserved : goal.docs-preserved
docs-preserved c = record {
  tallied = tallied_more c.docs.invariant.tallied c.in-Some.ensures c.count_terms.ensures c.add_document.ensures.same c.add_document.ensures.each;
  size = c.count_terms.ensures.size;
}

pub returns-clause-all : goal.returns-clause-all
returns-clause-all c = tallied_all c.docs.invariant.tallied c.in_default.ensures.0

pub returns-clause-found : goal.returns-clause-found
returns-clause-found c = tallied_found c.docs.invariant.tallied c.in_default.ensures.0
