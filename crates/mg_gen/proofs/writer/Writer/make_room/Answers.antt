use Rattle.std.proofs.Common.{◌∙◌, ap, refl}
use Rattle.mg_dev.specs.Streams.{appended}
use Rattle.mg_gen.proofs.Handing.{handed_put}
use Rattle.mg_gen.proofs.writer.Writer.make_room.Goals as goal

pub returns-clause-handed : goal.returns-clause-handed
returns-clause-handed g c = λ old made handed.
    handed_put handed (c.in_ok-put.ensures.content ∙ ap (λ b. appended (g.O.Sink.written c.args.out.now) b) c.as_slice.ensures.value) c.clear.ensures refl
