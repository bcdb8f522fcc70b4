use Rattle.std.proofs.Common.{arith, ap, length}
use Rattle.mg_check_parts.proofs.UseLaws.{none-counted}
use Rattle.mg_check_parts.proofs.uses.Uses.none.Goals as goal

pub returns-clause-words : goal.returns-clause-words
returns-clause-words c = none-counted c.args.model.now.words c.count-words.result c.in_ok-vec.field-0.items
    (c.in_ok-vec.ensures.items_if_clones_equal (λ y same. same))
    (omega (arith, c.canon.ensures.keeps.each, c.count-words.ensures.count, ap length c.canon.ensures.lengths))

pub returns-clause-others : goal.returns-clause-others
returns-clause-others c = none-counted c.args.model.now.others c.count-others.result c.in_ok-vec-2.field-0.items
    (c.in_ok-vec-2.ensures.items_if_clones_equal (λ y same. same))
    (omega (arith, c.canon-2.ensures.keeps.each, c.count-others.ensures.count, ap length c.canon-2.ensures.lengths))
