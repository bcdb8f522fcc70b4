use Rattle.mg_post.proofs.WriterLaws.{finished, finished_bytes}
use Rattle.mg_post.proofs.writer.ListWriter.finish.Goals as goal

pub returns-clause-finished : goal.returns-clause-finished
returns-clause-finished g c =
    rw (← c.self.view_is)
    (λ lists took told. finished lists told c.in_ok-finish.ensures.wrote.told (λ t. c.in_ok-finish.ensures.file t) c.in_ok-finish.ensures.wrote
    c.in_ok-finish-2.ensures.bytes c.in_ok-finish-2.ensures.nothing c.in_ok-finish-2.ensures.wrote took)

pub returns-clause-bytes : goal.returns-clause-bytes
returns-clause-bytes g c =
    rw (← c.self.view_is)
    (λ lists took told.
    finished_bytes lists told c.in_ok-finish.ensures.wrote.told c.in_ok-finish-2.ensures.wrote.told c.in_ok-finish.ensures.name
    c.in_ok-finish.ensures.holds c.in_ok-finish.ensures.wrote c.in_ok-finish-2.ensures.bytes c.in_ok-finish-2.ensures.nothing c.in_ok-finish-2.ensures.wrote
    took
    (finished lists told c.in_ok-finish.ensures.wrote.told (λ t. c.in_ok-finish.ensures.file t) c.in_ok-finish.ensures.wrote
    c.in_ok-finish-2.ensures.bytes c.in_ok-finish-2.ensures.nothing c.in_ok-finish-2.ensures.wrote took))
