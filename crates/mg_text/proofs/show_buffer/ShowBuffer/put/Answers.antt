use Rattle.std.proofs.Common.{rules, arith}
use Rattle.mg_dev.specs.StreamLaws.{grew_first}
use Rattle.mg_text.proofs.Shows.{adds_less, adds_none, keeps_most, shown_grew, shown_held, shown_prefix, shown_sent}
use Rattle.mg_text.proofs.show_buffer.ShowBuffer.put.Goals as goal

pub returns-then-piece-self : goal.returns-then-piece-self
returns-then-piece-self g c = record {
  shown = λ before bytes most shown. shown_held before _ c.args.self.now _ bytes c.args.piece.now shown c.keep.ensures;
  added = adds_none (keeps_most _ _ _ c.keep.ensures);
  cause = tt;
}

pub returns-then-piece-left : goal.returns-then-piece-left
returns-then-piece-left g c = record {
  shown = λ before bytes most shown. grew_first _ _ bytes c.args.piece.now (shown_prefix before _ c.args.self.now bytes shown);
  added = adds_none (omega arith);
  cause = search rules;
}

pub returns-in-Ok : goal.returns-in-Ok
returns-in-Ok g c = record {
  shown = λ before bytes most shown.
      let sent = shown_sent before (g.O.Sink.written c.args.out.now) (g.O.Sink.written c.flush.new.out) c.args.self.now c.flush.new.self bytes shown c.in-Ok.ensures.content c.in-Ok.ensures.empty in
      shown_held before (g.O.Sink.written c.flush.new.out) c.flush.new.self _ bytes c.args.piece.now sent c.keep-in-Ok.ensures;
  added = adds_less c.in-Ok.ensures.added (keeps_most _ _ _ c.keep-in-Ok.ensures);
  cause = tt;
}

pub returns-in-Err : goal.returns-in-Err
returns-in-Err g c = record {
  shown = λ before bytes most shown. grew_first _ _ bytes c.args.piece.now
      (shown_grew before (g.O.Sink.written c.args.out.now) (g.O.Sink.written c.flush.new.out) c.args.self.now bytes shown c.in-Err.ensures.content);
  added = c.in-Err.ensures.added;
  cause = search rules;
}
