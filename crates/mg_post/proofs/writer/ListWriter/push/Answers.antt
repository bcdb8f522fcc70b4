use Rattle.std.proofs.Common.{ap, ◌-◌}
use Rattle.mg_post.specs.Writing.{posting_of}
use Rattle.mg_post.proofs.WriterLaws.{took_posting, took_entry}
use Rattle.mg_post.proofs.writer.ListWriter.push.Goals as goal

pub returns-in_ok-put_entry-clause-took : goal.returns-in_ok-put_entry-clause-took
returns-in_ok-put_entry-clause-took g c =
    let few = rw (← c.self.view_is) at c.requires.total in
    let within = rw (← c.self.view_is) at c.requires.within in
    rw (← c.self.view_is)
    (λ lists ps took. took_entry lists ps (posting_of c.args.doc c.args.freq) _ c.in_ok-put_posting.ensures.bits
    c.in_ok-put_posting.ensures.step.wrote c.in_ok-put_posting.ensures.holds c.in_ok-put_posting.ensures.short within few
    c.in_ok-put_entry.ensures.bytes c.in_ok-put_entry.ensures.step.wrote c.if-self-eq0.true (ap (λ n. n - c.self.inside.start) c.place.ensures) took)

pub returns-else-self-eq0-clause-took : goal.returns-else-self-eq0-clause-took
returns-else-self-eq0-clause-took g c =
    let few = rw (← c.self.view_is) at c.requires.total in
    let within = rw (← c.self.view_is) at c.requires.within in
    rw (← c.self.view_is)
    (λ lists ps took. took_posting _ _ _ _ _ _ lists ps (posting_of c.args.doc c.args.freq) c.in_ok-put_posting.ensures.bits c.in_ok-put_posting.ensures.step.wrote
    c.in_ok-put_posting.ensures.holds c.in_ok-put_posting.ensures.short within few c.if-self-eq0.false took)
