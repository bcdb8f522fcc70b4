use Rattle.std.proofs.Common.{arith, ◌+◌, ◌/◌, refl}
use Rattle.mg_session.proofs.MarkLaws.{no_marks, none_marked}
use Rattle.mg_session.proofs.document_set.DocumentSet.new.Goals as goal

pub invariant_of-result : goal.invariant_of-result
invariant_of-result c = no_marks c.args.all c.in_ok-words.words.items ((c.args.all + 63) / 64) (omega (arith, c.ranges.all.fits)) (c.in_ok-words.ensures.items_if_clones_equal (λ y h. h)) refl

pub returns-clause-none : goal.returns-clause-none
returns-clause-none c = λ doc. none_marked c.in_ok-words.words.items ((c.args.all + 63) / 64) doc (c.in_ok-words.ensures.items_if_clones_equal (λ y h. h))
