use Rattle.std.proofs.Common.{◌≡◌, take, ap, ◌∙◌, subst}
use Rattle.mg_dev.specs.Streams.{AfterPut}
use Rattle.mg_text.specs.Decoding.{Gathering}
use Rattle.mg_text.proofs.Shows.{shown_put}
use Rattle.mg_text.proofs.show_buffer.ShowBuffer.flush.Goals as goal

pub returns-clause-shown : goal.returns-clause-shown
returns-clause-shown g c = λ before bytes most shown.
    let here : take c.self.inside.used c.deref.result.now ≡ c.args.self.now.held = ap (take c.self.inside.used) c.deref.ensures.value ∙ ap (λ (b : Gathering). b.held) c.self.view_is in
    shown_put c.put-sent.result before (g.O.Sink.written c.args.out.now) (g.O.Sink.written c.put-sent.new.self) c.args.self.now bytes shown
    (subst (λ l. AfterPut (g.O.Sink.written c.args.out.now) (g.O.Sink.written c.put-sent.new.self) l c.put-sent.result) here c.put-sent.ensures.content)
