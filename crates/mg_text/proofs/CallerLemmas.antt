-- What the crates above cite.

-- bytes that went to a sink or are held, step by step
pub use Rattle.mg_text.proofs.Shows.{shown_none, shown_from, shown_grew, shown_prefix, added_none, added_more, adds_none, adds_more, adds_less, adds_within, adds_some}
-- readers, as long as their files stay
pub use Rattle.mg_text.proofs.ReaderLaws.{text_fits, text_stays}
pub use Rattle.mg_text.proofs.Sets.{set_is_text}
-- the words of the symbols of pairs
pub use Rattle.mg_text.proofs.ListLaws.{words_of_symbols}
