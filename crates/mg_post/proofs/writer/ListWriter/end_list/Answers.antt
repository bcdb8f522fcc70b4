use Rattle.mg_post.proofs.WriterLaws.{took_ended, skip_ended}
use Rattle.mg_post.proofs.writer.ListWriter.end_list.Goals as goal

pub returns-clause-took : goal.returns-clause-took
returns-clause-took g c =
    let whole = rw (← c.self.view_is) at c.requires.whole in
    rw (c.place-self-inside.ensures, ← c.self.view_is)
    (λ lists ps took. took_ended lists ps _
    (skip_ended _ _ _ _ _ _ lists ps _ c.in_ok-blocks.ensures.some c.in_ok-blocks.ensures.none c.in_ok-blocks.ensures.step.wrote took) c.in_ok-blocks.ensures.step.wrote
    c.in_ok-align.ensures.bits c.in_ok-align.ensures.wrote c.in_ok-align.ensures.holds whole took)
