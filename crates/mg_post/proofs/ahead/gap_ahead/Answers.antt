use Rattle.mg_post.proofs.AheadLaws.{golomb_takes}
use Rattle.mg_post.proofs.ahead.gap_ahead.Goals as goal

pub returns-clause-takes : goal.returns-clause-takes
returns-clause-takes c =
    golomb_takes c.args.code.parameter.value c.args.code.size c.args.code.few c.in-Some.lead.value c.in-Some-short_ahead.low.value _ _ _ _ _ _ c.args.code.code
    c.in-Some-short_ahead.ensures.low c.in-Some.ensures.takes c.in-Some-short_ahead.ensures.takes
