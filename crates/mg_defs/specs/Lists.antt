-- Inverted lists: their bits, their blocks of 64 postings, and the skip entries that lead to a block.
use Rattle.std.specs.Prelude.{◌≡◌, ℕ, ◌+◌, ◌-◌, ◌*◌, ◌/◌, ◌^◌, ◌<◌, ◌≤◌, nat_lt, nat_le, List, [], ◌∷◌, ◌++◌, length, filter, map, flat_map, take, drop}
use Rattle.std.specs.List.{enumerate_from, range_with_len}
use Rattle.mg_defs.specs.declared.Posting.{Posting}
use Rattle.mg_defs.specs.Split.{documents}
use Rattle.mg_defs.specs.Terms.{freq_in, dictionary}
use Rattle.mg_defs.specs.Bits.{Begins, Bits, as_bytes, digits, filled}
use Rattle.mg_defs.specs.Codes.{golomb, gamma, golomb_parameter}
use Rattle.mg_defs.specs.PagesOf.{pages}

-- the documents that have the term, rising, each with its count
abbrev pub postings : List ℕ → List ℕ → List Posting
postings collection t = filter (λ (p : Posting). nat_lt 0 p.freq)
    (map (λ (d : ℕ × List ℕ). record { doc = d.0; freq = freq_in d.1 t }) (enumerate_from 1 (documents collection)))

-- a posting that may follow a document, among so many documents
pub record Follows (all before : ℕ) (p : Posting) : Type 0 where
  pub after : before < p.doc
  pub within : p.doc ≤ all
  pub some : 1 ≤ p.freq
  pub fits : p.freq < 2 ^ 32

-- documents rise from above one to at most all
unfoldable pub Rises : ℕ → ℕ → List Posting → Type 0
Rises all before [] = Unit {0}
Rises all before (p ∷ ps) = Follows all before p × Rises all p.doc ps

-- ---- bits

-- of a posting after the document before it: the gap with the list's parameter, and the count
unfoldable pub posting_bits : ℕ → ℕ → Posting → Bits
posting_bits b before p = golomb b (p.doc - before) ++ gamma p.freq

unfoldable pub bits_after : ℕ → ℕ → List Posting → Bits
bits_after b before [] = []
bits_after b before (p ∷ ps) = posting_bits b before p ++ bits_after b p.doc ps

-- of a whole list among so many documents, the first gap counted from 0
abbrev pub bits_of_list : ℕ → List Posting → Bits
bits_of_list all ps = bits_after (golomb_parameter all (length ps)) 0 ps

-- ---- blocks

-- the last document, or the one before where there is none
unfoldable pub last_doc : ℕ → List Posting → ℕ
last_doc before [] = before
last_doc before (p ∷ ps) = last_doc p.doc ps

-- the last document of the first n postings, and the number of their bits
unfoldable pub doc_before : ℕ → List Posting → ℕ
doc_before n ps = last_doc 0 (take n ps)

unfoldable pub bits_before : ℕ → ℕ → List Posting → ℕ
bits_before b n ps = length (bits_after b 0 (take n ps))

-- block k: the postings 64 k to 64 k + 63, as far as there are
unfoldable pub block_of : ℕ → List Posting → List Posting
block_of k ps = take 64 (drop (64 * k) ps)

-- how many blocks so many postings make
abbrev pub block_count : ℕ → ℕ
block_count count = (count + 63) / 64

-- the document lies in the range of block k
pub record InRange (k : ℕ) (ps : List Posting) (doc : ℕ) : Type 0 where
  pub after : doc_before (64 * k) ps < doc
  pub within : doc ≤ doc_before (64 * (k + 1)) ps

-- the pages of block k of a list that begins at a bit place of its file
unfoldable pub block_pages : ℕ → ℕ → ℕ → List Posting → ℕ
block_pages b at k ps = pages (at + bits_before b (64 * k) ps) (at + bits_before b (64 * (k + 1)) ps)

-- the postings whose document is at least this one
unfoldable pub from_doc : ℕ → List Posting → List Posting
from_doc doc ps = filter (λ (p : Posting). nat_le doc p.doc) ps

-- ---- skip entries

-- a block's last document, and the number of bits of its list before it
pub record SkipEntry : Type 0 where
  pub last : ℕ
  pub bits : ℕ

abbrev pub entry_of : ℕ → ℕ → List Posting → SkipEntry
entry_of b k ps = record { last = doc_before (64 * (k + 1)) ps; bits = bits_before b (64 * k) ps }

-- of the first n blocks
unfoldable pub entries_to : ℕ → ℕ → List Posting → List SkipEntry
entries_to b n ps = map (λ k. entry_of b k ps) (range_with_len 0 n)

-- of a whole list among so many documents
abbrev pub entries_of_list : ℕ → List Posting → List SkipEntry
entries_of_list all ps = entries_to (golomb_parameter all (length ps)) (block_count (length ps)) ps

-- two numbers of 8 bytes
unfoldable pub entry_bits : SkipEntry → Bits
entry_bits e = digits 64 e.last ++ digits 64 e.bits

-- ---- several lists in a row

-- each filled to a byte
unfoldable pub lists_bits : ℕ → List (List Posting) → Bits
lists_bits all lists = flat_map (λ ps. filled (bits_of_list all ps)) lists

unfoldable pub lists_entries : ℕ → List (List Posting) → List SkipEntry
lists_entries all lists = flat_map (entries_of_list all) lists

-- the bytes of all skip entries
abbrev pub entries_bytes : ℕ → List (List Posting) → List ℕ
entries_bytes all lists = as_bytes (flat_map entry_bits (lists_entries all lists))

-- ---- what stands at a block's first bit

-- the bits of these postings, the first gap counted from the last document before block k
abbrev pub BlockBegins : ℕ → ℕ → List Posting → List Posting → Bits → Type 0
BlockBegins b k ps qs bits = Begins (bits_after b (doc_before (64 * k) ps) qs) (drop (bits_before b (64 * k) ps) bits)

-- where a list with this parameter begins
abbrev pub WhereListBegins : ℕ → ℕ → List Posting → Bits → Type 0 → Type 0
WhereListBegins b all ps bits fact = 1 ≤ b → b ≤ 2 ^ 64 → Rises all 0 ps → Begins (bits_after b 0 ps) bits → fact

-- where postings that rise there, as many as the block has, begin
abbrev pub WhereBlockBegins : ℕ → ℕ → ℕ → List Posting → List Posting → Bits → Type 0 → Type 0
WhereBlockBegins b all k ps qs bits fact = Rises all (doc_before (64 * k) ps) qs → length qs ≡ length (block_of k ps) →
    BlockBegins b k ps qs bits → fact

-- ---- of a collection

abbrev pub list_bits : List ℕ → List ℕ → Bits
list_bits collection t = bits_of_list (length (documents collection)) (postings collection t)

abbrev pub skip_entries : List ℕ → List ℕ → List SkipEntry
skip_entries collection t = entries_of_list (length (documents collection)) (postings collection t)

-- the list of each term, in the order of the terms
abbrev pub inverted : List ℕ → List (List Posting)
inverted collection = map (postings collection) (dictionary collection)

-- the bits of the file of lists
abbrev pub post_bits : List ℕ → Bits
post_bits collection = lists_bits (length (documents collection)) (inverted collection)

-- and of the file of skip entries
abbrev pub skip_bits : List ℕ → Bits
skip_bits collection = flat_map entry_bits (lists_entries (length (documents collection)) (inverted collection))

-- the byte at which the list of the term with this number begins, and its first skip entry
abbrev pub list_byte : List ℕ → ℕ → ℕ
list_byte collection number = length (lists_bits (length (documents collection)) (take number (inverted collection))) /
    8

abbrev pub first_entry : List ℕ → ℕ → ℕ
first_entry collection number = length (lists_entries (length (documents collection))
    (take number (inverted collection)))
