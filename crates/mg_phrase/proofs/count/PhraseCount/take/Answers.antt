use Rattle.std.proofs.Common.{arith, ◌+◌, ◌∷◌, ◌∙◌, ap}
use Rattle.mg_defs.specs.OnePass.{carry_on}
use Rattle.mg_defs.specs.Terms.{folded}
use Rattle.mg_phrase.specs.Flags.{to_come}
use Rattle.mg_phrase.proofs.MarkLaws.{mark_other, mark_term}
use Rattle.mg_phrase.proofs.PlaceLaws.{counts_as, counts_not}
use Rattle.mg_phrase.proofs.count.PhraseCount.take.Goals as goal

pub returns-then-place-phrase-clause-count : goal.returns-then-place-phrase-clause-count
returns-then-place-phrase-clause-count c = rw (← c.self.view_is) (λ word words is.
    mark_other c.self.inside.phrase.now c.self.inside.begun c.self.inside.places c.args.mark word words
    (omega (arith, c.if-place-phrase.true, c.from-place.ensures, c.if-mark-lt-FIRST.false)) is)

pub returns-then-carry_on-clause-count : goal.returns-then-carry_on-clause-count
returns-then-carry_on-clause-count c = rw (← c.self.view_is) (λ word words is.
    let phrase = c.self.inside.phrase.now in
    mark_term phrase c.self.inside.begun c.carry_on.new.begun c.self.inside.places (c.self.inside.places + 1) c.args.mark c.from-place.result c.carry_on.result c.index-phrase-place.result word words
    (omega (arith, c.if-place-phrase.false)) (omega (arith, c.from-place.ensures, c.if-mark-lt-FIRST.false)) c.index-phrase-place.is is
    (c.carry_on.ensures.carried ∙ ap (λ t. carry_on (folded t) (phrase ∷ to_come phrase c.self.inside.begun)) c.as_bytes.ensures)
    c.carry_on.ensures.complete (omega (arith, counts_as c.carry_on.result c.if-carry_on.true)))

pub returns-else-carry_on-clause-count : goal.returns-else-carry_on-clause-count
returns-else-carry_on-clause-count c = rw (← c.self.view_is) (λ word words is.
    let phrase = c.self.inside.phrase.now in
    mark_term phrase c.self.inside.begun c.carry_on.new.begun c.self.inside.places c.self.inside.places c.args.mark c.from-place.result c.carry_on.result c.index-phrase-place.result word words
    (omega (arith, c.if-place-phrase.false)) (omega (arith, c.from-place.ensures, c.if-mark-lt-FIRST.false)) c.index-phrase-place.is is
    (c.carry_on.ensures.carried ∙ ap (λ t. carry_on (folded t) (phrase ∷ to_come phrase c.self.inside.begun)) c.as_bytes.ensures)
    c.carry_on.ensures.complete (omega (arith, counts_not c.carry_on.result c.if-carry_on.false)))
