-- What the crates above cite.

-- a writer, as long as its files stay
pub use Rattle.mg_text_writer.proofs.WriterStays.{writer_stays}
