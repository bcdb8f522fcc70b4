use Rattle.std.proofs.Common.{◌≡◌, refl, sym, ap, ◌∙◌}
use Rattle.mg_defs.specs.Fixed.{digit, digits_of, lg, next}
use Rattle.mg_defs.specs.Weights.{weight_in_doc}
use Rattle.mg_rank.proofs.list.weight_of_count.Goals as goal

once : weight_in_doc 1 ≡ 256
unfolding weight_in_doc lg digits_of digit next
once = refl

twice : weight_in_doc 2 ≡ 512
unfolding weight_in_doc lg digits_of digit next
twice = refl

pub returns-then-freq-eq1-clause-is : goal.returns-then-freq-eq1-clause-is
returns-then-freq-eq1-clause-is c = sym once ∙ ap weight_in_doc (sym c.if-freq-eq1.true)

pub returns-then-freq-eq2-clause-is : goal.returns-then-freq-eq2-clause-is
returns-then-freq-eq2-clause-is c = sym twice ∙ ap weight_in_doc (sym c.if-freq-eq2.true)
