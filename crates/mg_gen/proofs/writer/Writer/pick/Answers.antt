use Rattle.std.proofs.Common.{refl, ◌∙◌}
use Rattle.mg_defs.specs.Generator.{pick}
use Rattle.mg_gen.proofs.Making.{put_made}
use Rattle.mg_gen.proofs.writer.Writer.pick.Goals as goal

pub returns-clause-made : goal.returns-clause-made
returns-clause-made c =
    put_made c.args.self.now pick c.as_slice.result.now refl c.pick-word.ensures.state (c.as_slice.ensures.value ∙ c.pick-word.ensures.word) c.put.ensures.made
