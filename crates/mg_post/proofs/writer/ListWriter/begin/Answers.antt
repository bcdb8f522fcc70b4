use Rattle.mg_post.proofs.WriterLaws.{took_begun}
use Rattle.mg_post.proofs.writer.ListWriter.begin.Goals as goal

pub returns-clause-took : goal.returns-clause-took
returns-clause-took g c = rw (← c.self.view_is) (λ lists took. took_begun _ _ c.args.docs c.parameter_of-self-inside.result.value lists c.requires.some c.parameter_of-self-inside.ensures took)
