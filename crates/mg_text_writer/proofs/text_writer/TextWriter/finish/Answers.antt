use Rattle.std.proofs.Common.{[]}
use Rattle.mg_text_writer.proofs.WriterLaws.{text_counts, text_finished}
use Rattle.mg_text_writer.proofs.text_writer.TextWriter.finish.Goals as goal

pub returns-clause-finished : goal.returns-clause-finished
returns-clause-finished g c =
    let closed = rw (← c.self.view_is) at c.requires.closed in
    rw (← c.self.view_is)
    (λ docs took told. text_finished docs told closed (rw c.place-size.ensures at c.in_ok-put_place.ensures.bytes)
    c.in_ok-put_place.ensures.wrote (λ t. c.in_ok-finish.ensures.file t) c.in_ok-finish.ensures.wrote c.in_ok-finish.ensures.name
    c.in_ok-finish.ensures.holds c.in_ok-finish-2.ensures.bytes c.in_ok-finish-2.ensures.nothing c.in_ok-finish-2.ensures.wrote took)

pub returns-clause-bytes : goal.returns-clause-bytes
returns-clause-bytes g c docs took told = (returns-clause-finished g c docs took told).bytes

pub finish-requires-clause-holds : goal.finish-requires-clause-holds
finish-requires-clause-holds g c =
    let took = rw (← c.self.view_is) at c.requires.took in
    text_counts _ _ _ _ _ took.0 [] took.1 c.in_ok-put_place.ensures.wrote
