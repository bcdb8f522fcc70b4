use Rattle.std.proofs.Common.{rules}
use Rattle.mg_text_writer.proofs.WriterLaws.{took_ended}
use Rattle.mg_text_writer.proofs.text_writer.TextWriter.end_doc.Goals as goal

pub returns : goal.returns
returns g c =
    let is_open = rw (← c.self.view_is) at c.requires.begun in
    let whole = rw (← c.self.view_is) at c.requires.whole in
    let e = c.in_ok-align.ensures in
    record {
      took = rw (← c.self.view_is) (λ docs bits took. took_ended _ _ _ _ _ _ docs bits e.bits e.wrote e.holds is_open whole took);
      numbers = search rules;
      base = search rules;
      others = search rules;
      told = search rules;
      reads = search rules;
      cause = search rules;
    }
