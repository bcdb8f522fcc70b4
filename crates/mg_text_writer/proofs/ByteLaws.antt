-- Bytes are told by their bits.
use Rattle.std.proofs.Common.{◌≡◌, ◌^◌, ◌<◌, ℕ, List, [], ◌∷◌}
use Rattle.std.specs.List.{All}
use Rattle.std.proofs.lemmas.List.Elements.{All-nil, All-append}
use Rattle.mg_bits.proofs.CallerLemmas.{bits_are_bytes, same_bytes}
use Rattle.mg_defs.specs.Bits.{Bits, bits_of, as_bytes}
use Rattle.mg_text_writer.specs.Writing.{text_bytes}

docs_bytes : (docs : List Bits) → All (λ byte. byte < 2 ^ 8) (text_bytes docs)
docs_bytes [] = All-nil (λ byte. byte < 2 ^ 8)
docs_bytes (bits ∷ docs) = All-append (λ byte. byte < 2 ^ 8) (as_bytes bits) (text_bytes docs) (bits_are_bytes bits) (docs_bytes docs)

-- numbers of bytes with the bits of documents are the bytes of these
pub written_bytes : (bytes : List ℕ) (docs : List Bits) → All (λ byte. byte < 2 ^ 8) bytes → bits_of bytes ≡ bits_of (text_bytes docs) → bytes ≡ text_bytes docs
written_bytes bytes docs fit same = same_bytes bytes (text_bytes docs) fit (docs_bytes docs) same
