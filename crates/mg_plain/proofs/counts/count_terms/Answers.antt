use Rattle.std.proofs.Common.{[], get_or, arith, ◌∙◌}
use Rattle.mg_plain.proofs.CountLaws.{freq-few, word_counted, word_passed, none_counted, all_counted}
use Rattle.mg_plain.proofs.counts.count_terms.Goals as goal

pub loop-pair-init : goal.loop-pair-init
loop-pair-init c = record {
  size = omega arith;
  each = λ k lt. none_counted c.args.doc.now _ _ _ (c.into_iter-pair-iterator.ensures.into_iter_gives ∙ c.new-pair-items.ensures.pairs) (c.loop-count.invariant k (omega arith));
}

pub count_word-requires-clause-small : goal.count_word-requires-clause-small
count_word-requires-clause-small c = λ k lt. omega (arith, c.loop-pair.invariant.each k lt, freq-few c.args.doc.now (get_or c.args.terms.now k []), c.requires.small)

pub loop-pair-preserved-then-not-is_empty : goal.loop-pair-preserved-then-not-is_empty
loop-pair-preserved-then-not-is_empty c = record {
  size = c.count_word.ensures.size;
  each = λ k lt. word_counted _ _ c.in-Some.ensures.steps c.is_empty.ensures c.if-not-is_empty.true (c.count_word.ensures.each k lt) (c.loop-pair.invariant.each k lt);
}

pub loop-pair-preserved : goal.loop-pair-preserved
loop-pair-preserved c = record {
  size = c.loop-pair.invariant.size;
  each = λ k lt. word_passed _ _ _ _ _ _ _ c.in-Some.ensures.steps c.is_empty.ensures c.if-not-is_empty.false (c.loop-pair.invariant.each k lt);
}

pub returns : goal.returns
returns c = record {
  size = c.loop-pair.invariant.size;
  each = λ k lt. all_counted c.args.doc.now _ _ _ c.in-None.ensures.steps.0 (c.loop-pair.invariant.each k lt);
}
