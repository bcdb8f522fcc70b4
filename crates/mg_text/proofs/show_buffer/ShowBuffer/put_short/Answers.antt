use Rattle.mg_text.proofs.Shows.{adds_none, keeps_most, shown_held}
use Rattle.mg_text.proofs.show_buffer.ShowBuffer.put_short.Goals as goal

pub returns-then-self-ge-MOST : goal.returns-then-self-ge-MOST
returns-then-self-ge-MOST g c = record {
  shown = λ before bytes most shown. shown_held before _ c.args.self.now _ bytes _ shown c.keep_short.ensures;
  added = adds_none (keeps_most _ _ _ c.keep_short.ensures);
  cause = tt;
}
