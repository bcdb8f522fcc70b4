-- The worked rows of inverted lists, computed.
use Rattle.std.proofs.Common.{◌≡◌, ℕ, List, [], ◌∷◌, ◌++◌, refl, map, ◌==◌}
use Rattle.std.specs.Prelude.{codes}
use Rattle.std.specs.List.{repeat}
use Rattle.mg_defs.specs.declared.Posting.{Posting}
use Rattle.mg_defs.specs.Bits.{Bits, digits, bits_of, filled}
use Rattle.mg_defs.specs.Codes.{gamma, golomb, unary, ones, short, shorter, ceil_log2}
use Rattle.mg_defs.specs.Parse.{parse}
use Rattle.mg_defs.specs.Terms.{dictionary}
use Rattle.mg_defs.specs.Lists.{SkipEntry, posting_bits, bits_after, last_doc, doc_before, bits_before, entries_to, entry_bits, lists_bits, lists_entries, list_bits, skip_entries, inverted, post_bits, skip_bits, list_byte, first_entry}

-- bits from their digits
abbrev bits : List ℕ → Bits
bits text = map (λ c. c == 49) text

abbrev posting : ℕ → ℕ → Posting
posting doc freq = record { doc = doc; freq = freq }

abbrev entry : ℕ → ℕ → SkipEntry
entry last bits = record { last = last; bits = bits }

-- 200 documents of one x
abbrev many : List ℕ
many = repeat 200 (120 ∷ 2 ∷ [])

skips : skip_entries many (120 ∷ []) ≡ entry 64 0 ∷ entry 128 128 ∷ entry 192 256 ∷ entry 200 384 ∷ []
unfolding golomb unary ones short shorter ceil_log2 gamma parse digits posting_bits bits_after last_doc doc_before bits_before entries_to
skips = refl

zeros : post_bits many ≡ bits_of (repeat 50 (0 ∷ []))
unfolding golomb unary ones short shorter ceil_log2 gamma parse digits bits_of posting_bits bits_after filled lists_bits
zeros = refl

-- "a a a a ", with an open end
four : (post_bits (codes "a a a a ") ≡ bits_of (96 ∷ [])) × (skip_entries (codes "a a a a ") (codes "a") ≡ entry 1 0 ∷ [])
unfolding golomb unary ones short shorter ceil_log2 gamma parse digits bits_of posting_bits bits_after filled last_doc doc_before bits_before entries_to lists_bits
four = (refl, refl)

abbrev line : List ℕ → List ℕ
line bytes = bytes ++ 10 ∷ []

-- three documents, all closed
abbrev k : List ℕ
k = line (codes "the cat sat") ++ 2 ∷ line (codes "the dog") ++ 2 ∷ line (codes "Cat, cat & dog!") ++ 2 ∷ []

k_terms : dictionary k ≡ codes "cat" ∷ codes "dog" ∷ codes "sat" ∷ codes "the" ∷ []
unfolding parse
k_terms = refl

k_lists : inverted k ≡ (posting 1 1 ∷ posting 3 2 ∷ []) ∷ (posting 2 1 ∷ posting 3 1 ∷ []) ∷ (posting 1 1 ∷ []) ∷ (posting 1 1 ∷ posting 2 1 ∷ []) ∷ []
unfolding parse
k_lists = refl

k_bits : map (list_bits k) (dictionary k) ≡ bits (codes "0010100") ∷ bits (codes "10000") ∷ bits (codes "000") ∷ bits (codes "0000") ∷ []
unfolding golomb unary ones short shorter ceil_log2 gamma parse digits posting_bits bits_after
k_bits = refl

k_post : post_bits k ≡ bits_of (40 ∷ 128 ∷ 0 ∷ 0 ∷ [])
unfolding golomb unary ones short shorter ceil_log2 gamma parse digits bits_of posting_bits bits_after filled lists_bits
k_post = refl

k_places : (map (list_byte k) (0 ∷ 1 ∷ 2 ∷ 3 ∷ []) ≡ 0 ∷ 1 ∷ 2 ∷ 3 ∷ []) × (map (first_entry k) (0 ∷ 1 ∷ 2 ∷ 3 ∷ []) ≡ 0 ∷ 1 ∷ 2 ∷ 3 ∷ [])
unfolding golomb unary ones short shorter ceil_log2 gamma parse digits posting_bits bits_after filled last_doc doc_before bits_before entries_to lists_bits lists_entries
k_places = (refl, refl)

-- an entry of a file of skip entries
abbrev bytes_of_entry : ℕ → List ℕ
bytes_of_entry last = 0 ∷ 0 ∷ 0 ∷ 0 ∷ 0 ∷ 0 ∷ 0 ∷ last ∷ 0 ∷ 0 ∷ 0 ∷ 0 ∷ 0 ∷ 0 ∷ 0 ∷ 0 ∷ []

k_entries : skip_bits k ≡ bits_of (bytes_of_entry 3 ++ (bytes_of_entry 3 ++ (bytes_of_entry 1 ++ bytes_of_entry 2)))
unfolding golomb unary ones short shorter ceil_log2 gamma parse digits bits_of posting_bits bits_after last_doc doc_before bits_before entries_to entry_bits lists_entries
k_entries = refl
