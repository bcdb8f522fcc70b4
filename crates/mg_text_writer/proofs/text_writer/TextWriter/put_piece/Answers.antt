use Rattle.std.proofs.Common.{rules}
use Rattle.mg_text_writer.proofs.WriterLaws.{codeword_short, took_piece}
use Rattle.mg_text_writer.proofs.text_writer.TextWriter.put_piece.Goals as goal

pub returns : goal.returns
returns g c =
    let more = rw (← c.self.view_is) at c.requires.more in
    let e = c.in_ok-put.ensures in
    record {
      took = rw (← c.self.view_is)
          (λ docs bits took. took_piece _ _ _ _ _ _ docs bits _ (rw c.canon.ensures.lengths at e.bits) e.wrote e.holds
          (codeword_short _ c.args.symbol c.canon.ensures.keeps c.requires.symbol) more took);
      numbers = search rules;
      base = search rules;
      others = search rules;
      told = search rules;
      reads = search rules;
      cause = search rules;
    }
