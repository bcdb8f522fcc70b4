-- The bits of a piece of a byte, and the numbers that join pieces.
use Rattle.std.proofs.Common.{arith, ◌≡◌, ◌+◌, ◌*◌, ◌≤◌, ◌<◌, ◌-◌, ◌/◌, ◌%◌, ◌^◌, ℕ, List, [], drop, Some, None, refl, sym, IfSome, slice_get, Fits, w64, one-mul}
use Rattle.std.specs.declared.option.Option.{Option}
use Rattle.std.proofs.Math.Pow.{pow_mono, pow-lt}
use Rattle.std.proofs.Math.Nat.{mod-eq_of_lt}
use Rattle.mg_defs.specs.Bits.{digits, bits_of, Begins, FromPlace}
use Rattle.mg_defs.proofs.BitLaws.{length_digits, bits_from, no_bits_from, digits_mod, take_digits, high_below}

-- the bits of a piece of one byte
pub piece_at : (bytes : List ℕ) (place byte count k : ℕ) → slice_get bytes (place / 8) ≡ Some byte → 8 - place % 8 ≡ count + k →
    Begins (digits count (byte / 2 ^ k % 2 ^ count)) (drop place (bits_of bytes))
piece_at bytes place byte count k is room =
    rw (length_digits count (byte / 2 ^ k % 2 ^ count), digits_mod count count (byte / 2 ^ k) (omega arith), bits_from bytes place byte is)
    (take_digits count (8 - place % 8) k byte _ room)

pub told_piece : (told : Option (List ℕ)) (place byte count k : ℕ) → 8 - place % 8 ≡ count + k →
    IfSome told (λ bytes. Some byte ≡ slice_get bytes (place / 8)) →
    FromPlace told place (Begins (digits count (byte / 2 ^ k % 2 ^ count)))
told_piece None place byte count k room is = tt
told_piece (Some bytes) place byte count k room is = piece_at bytes place byte count k (sym is) room

pub told_no_bit : (told : Option (List ℕ)) (place : ℕ) →
    IfSome told (λ bytes. None ≡ slice_get bytes (place / 8)) →
    IfSome told (λ bytes. (drop place (bits_of bytes) ≡ []) × (place ≡ place))
told_no_bit None place is = tt
told_no_bit (Some bytes) place is = (no_bits_from bytes place (sym is), refl)

pub small_power : (k : ℕ) → k ≤ 32 → 1 * 2 ^ k % 18446744073709551616 ≡ 2 ^ k
small_power k le = rw one-mul (mod-eq_of_lt (let lt : k < 33 = omega arith in let below : 2 ^ k < 2 ^ 33 = pow-lt lt in omega arith))

pub within_word : (d t v m : ℕ) → d + t ≤ 64 → v < 2 ^ d → m < 2 ^ t → Fits w64 (v * 2 ^ t + m)
within_word d t v m le high low =
    let below : v * 2 ^ t + m < 2 ^ (d + t) = high_below d t v m high low in
    let most : 2 ^ (d + t) ≤ 2 ^ 64 = pow_mono le in
    omega arith
