use Rattle.mg_post.proofs.AheadLaws.{posting_takes}
use Rattle.mg_post.proofs.ahead.posting_ahead.Goals as goal

pub returns-clause-takes : goal.returns-clause-takes
returns-clause-takes c =
    posting_takes c.args.code.parameter.value c.args.bounds.after c.in-Some.gap.value c.in-Some-count_ahead.freq.value _ _ _ _ _ _
    c.in-Some.ensures.takes c.in-Some-count_ahead.ensures.takes
