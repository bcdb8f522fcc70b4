-- The bytes of skip entries and their bits.
use Rattle.std.proofs.Common.{arith, suc, zero, ◌≡◌, ◌<◌, ◌^◌, ℕ, List, [], ◌∷◌, ◌++◌, refl, ◌∙◌, ap}
use Rattle.std.specs.Prelude.{flat_map}
use Rattle.std.specs.Int.{bytes_high_first, byte_at}
use Rattle.std.proofs.lemmas.List.Elements.{All-nil, All-cons, All-append}
use Rattle.mg_defs.specs.Bits.{bits_of, digits}
use Rattle.mg_defs.specs.Lists.{SkipEntry, entry_bits}
use Rattle.mg_defs.specs.Numbers.{eight}
use Rattle.mg_defs.proofs.BitLaws.{bits_of_append}
use Rattle.mg_bits.specs.Writer.{AreBytes}
use Rattle.mg_bits.proofs.CallerLemmas.{bits_of_high}
use Rattle.mg_post.specs.Writing.{entry_bytes}

bits_of_eight : (n : ℕ) → bits_of (eight n) ≡ digits 64 n
unfolding eight
bits_of_eight n = bits_of_high 8 n

bits_of_entry : (e : SkipEntry) → bits_of (entry_bytes e) ≡ entry_bits e
unfolding entry_bits
bits_of_entry e = bits_of_append (eight e.last) (eight e.bits) ∙ ap (λ l. l ++ bits_of (eight e.bits)) (bits_of_eight e.last) ∙ ap (λ l. digits 64 e.last ++ l) (bits_of_eight e.bits)

pub bits_of_entries : (es : List SkipEntry) → bits_of (flat_map entry_bytes es) ≡ flat_map entry_bits es
unfolding bits_of
bits_of_entries [] = refl
bits_of_entries (e ∷ es) =
    bits_of_append (entry_bytes e) (flat_map entry_bytes es) ∙ ap (λ l. l ++ bits_of (flat_map entry_bytes es)) (bits_of_entry e) ∙ ap (λ l. entry_bits e ++ l) (bits_of_entries es)

byte_small : (k n : ℕ) → byte_at k n < 2 ^ 8
byte_small zero n = omega arith
byte_small (suc k) n = omega arith

are_high : (k n : ℕ) → AreBytes (bytes_high_first k n)
are_high zero n = All-nil (λ byte. byte < 2 ^ 8)
are_high (suc k) n = All-cons (λ byte. byte < 2 ^ 8) (byte_at k n) (bytes_high_first k n) (byte_small k n) (are_high k n)

are_eight : (n : ℕ) → AreBytes (eight n)
unfolding eight
are_eight n = are_high 8 n

pub are_bytes_of : (es : List SkipEntry) → AreBytes (flat_map entry_bytes es)
are_bytes_of [] = All-nil (λ byte. byte < 2 ^ 8)
are_bytes_of (e ∷ es) =
    All-append (λ byte. byte < 2 ^ 8) (entry_bytes e) (flat_map entry_bytes es)
    (All-append (λ byte. byte < 2 ^ 8) (eight e.last) (eight e.bits) (are_eight e.last) (are_eight e.bits)) (are_bytes_of es)
