use Rattle.mg_text_writer.proofs.WriterStays.{writer_stays}
use Rattle.mg_text_writer.proofs.laws.text_stays.Goals as goal

pub returns : goal.returns
returns c = writer_stays
