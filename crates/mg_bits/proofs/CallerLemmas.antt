-- What the proofs of crates above cite of this crate's. No other module of them can be named from there.

-- no read, one read after another, and a read of a part that goes on: which pages were read, and which is held
pub use Rattle.mg_bits.proofs.Ranges.{read_none, read_more, read_step, part_step, part_wider}
-- the same where only the pages that may be read are known
pub use Rattle.mg_bits.proofs.Ranges.{within_more, within_wider}
-- what no call changes, over none and over two
pub use Rattle.mg_bits.proofs.Ranges.{calm_none, calm_more}
-- the page that is held after a range, and the pages that a next range lacks
pub use Rattle.mg_bits.proofs.Ranges.{held_after_none, held_after_some, held_after_more, lacks_next}
-- a code that is read a bit at a time: no bit yet, a bit more, a whole code, no code, and a refusal
pub use Rattle.mg_bits.proofs.CodeReads.{HasRead, read_nothing, read_a_bit, code_is_read, no_code_is_read, a_code_is_cut}
-- what is told where a whole code stands
pub use Rattle.mg_bits.proofs.Walks.{walk_whole}
-- what is told of a feed's source stays, and nothing is told of no bits
pub use Rattle.mg_bits.proofs.Told.{same_told, told_nothing}
-- the bits of a number in two parts, of its bytes, and of bytes from one on
pub use Rattle.mg_bits.proofs.EightBytes.{digits_split, bits_of_high, drop_bits}
-- bits of the page that is held: a range within them, its reading, and what is told of the first of them
pub use Rattle.mg_bits.proofs.EightBytes.{holds_inside, read_held, told_first}
-- writes of no bits and of bits after bits, by what they wrote and by the files that they left
pub use Rattle.mg_bits.proofs.BitsWritten.{bits_none, bits_more, to_none, to_more}
-- what was written stays where its file stays
pub use Rattle.mg_bits.proofs.BitsWritten.{bits_stay, holds_stay}
-- bytes and the bits that make them
pub use Rattle.mg_bits.proofs.ByteLaws.{bits_are_bytes, bytes_again, same_bytes}
-- two looks at a part, one after the other; the second may tell the part by another word
pub use Rattle.mg_bits.proofs.Fills.{looked_twice, looked_then}
-- the page that a feed holds, where other files change
pub use Rattle.mg_bits.proofs.HeldPages.{held_page_stays}
-- the answer of a reader of a code where the code of a value stands
pub use Rattle.mg_bits.proofs.CodeLaws.{told_got}
-- what a store that tells its files tells of one, and names under which every store tells the same
pub use Rattle.mg_bits.proofs.SameNames.{is_told, same_name}
