use Rattle.std.proofs.Common.{refl, ◌∙◌}
use Rattle.mg_plain.proofs.WordLaws.{none_taken, all_taken, word_taken, empty_passed}
use Rattle.mg_plain.proofs.weigh.collect_words.Goals as goal

pub loop-pair-init : goal.loop-pair-init
loop-pair-init c = none_taken c.args.doc.now _ _ (c.into_iter-pair-iterator.ensures.into_iter_gives ∙ c.new-pair-items.ensures.pairs) c.clear.ensures.items

pub loop-pair-preserved-in-Continue-1 : goal.loop-pair-preserved-in-Continue-1
loop-pair-preserved-in-Continue-1 c = word_taken _ _ c.in-Some.pair.word _ _ _ _ _ c.in-Some.ensures.steps refl c.is_empty.ensures c.if-not-is_empty.true
    c.in_ok-push.ensures.items c.loop-pair.invariant

pub loop-pair-preserved : goal.loop-pair-preserved
loop-pair-preserved c = empty_passed _ _ _ _ _ _ c.in-Some.ensures.steps c.is_empty.ensures c.if-not-is_empty.false c.loop-pair.invariant

pub returns : goal.returns
returns c = all_taken c.args.doc.now _ _ c.in-None.ensures.steps.0 c.loop-pair.invariant
