-- What callers may cite: calls that only read parts of a set, the numbers of terms, and documents of words.
-- calls one behind another, and with another answer
pub use Rattle.mg_check_parts.proofs.LookLaws.{cause_behind, not_device}
pub use Rattle.mg_check_parts.proofs.LookLaws.{looks_none, looks_own, looks_ok, looks_err, looks_bad, looks_pure, looks_then}
-- calls that read a part of a set
pub use Rattle.mg_check_parts.proofs.UnreadLaws.{looks_bytes, looks_size, looks_two, head_read}
-- terms rise by their numbers
pub use Rattle.mg_check_parts.proofs.CountedTerms.{rising_of}
-- documents of words
pub use Rattle.mg_check_parts.proofs.WordLaws.{collection_words, has_terms, some_document, words_few, words_of_symbols}
