use Rattle.std.proofs.Common.{arith, sym, subst, ap, length}
use Rattle.mg_rank.specs.Ranked.{WeightsStand}
use Rattle.mg_rank.proofs.SizeLaws.{not_sized, size_not_lex, weights_long}
use Rattle.mg_rank.proofs.ranking.rank.Goals as goal

pub returns-in-Err-clause-answer : goal.returns-in-Err-clause-answer
returns-in-Err-clause-answer g c = λ collection ts stand told all_is.
    not_sized c.in-Err.refusal _ collection ts _ c.args.most (omega (arith, ap length stand.weights, weights_long collection, all_is)) (c.in-Err.ensures.answer stand.lists.told)

pub returns-clause-answer : goal.returns-clause-answer
returns-clause-answer g c = λ collection ts stand told all_is.
    c.rank_sized.ensures.answer collection ts (subst (λ fs. WeightsStand c.args.base.now fs collection) (sym c.expect_size.ensures.files) stand) told all_is

pub returns-in-Err-clause-lexicon : goal.returns-in-Err-clause-lexicon
returns-in-Err-clause-lexicon g c = λ told. size_not_lex c.args.all c.args.terms.now c.in-Err.refusal _ _ (c.in-Err.ensures.answer told)

pub returns-clause-lexicon : goal.returns-clause-lexicon
returns-clause-lexicon g c = λ told. c.rank_sized.ensures.lexicon
