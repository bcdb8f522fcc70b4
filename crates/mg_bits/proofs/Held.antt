-- Bits that are held on the page: a number of eight bytes is written there, of which the first ones count.
use Rattle.std.proofs.Common.{arith, zero, suc, ◌≡◌, ◌+◌, ◌*◌, ◌/◌, ◌%◌, ◌≤◌, ◌<◌, ◌-◌, ◌^◌, ℕ, List, ◌++◌, length, take, refl, sym, ◌∙◌, ap}
use Rattle.std.proofs.Common.{append_assoc, append-nil, length-take}
use Rattle.std.specs.Int.{bytes_high_first}
use Rattle.std.proofs.Math.Nat.{mul-div_cancel}
use Rattle.std.proofs.lemmas.Nat.{shr-shr, pow_pos}
use Rattle.mg_defs.specs.Bits.{bits_of, digits}
use Rattle.mg_defs.proofs.BitLaws.{bits_of_append, digits_append, digits_mod, length_bits_of, length_digits, take_digits}
use Rattle.mg_bits.specs.Writer.{Writing}
use Rattle.mg_bits.specs.BitWriting.{HoldsMore}
use Rattle.mg_bits.proofs.EightBytes.{begins_bytes, bits_of_high, digits_split}
use Rattle.mg_bits.proofs.Growing.{held_few}
use Rattle.mg_bits.proofs.PutLaws.{bits_in}

length_high : (k n : ℕ) → length (bytes_high_first k n) ≡ k
length_high zero n = refl
length_high (suc k) n = ap suc (length_high k n)

-- the first bytes of a number have its highest bits
first_bytes : (k n : ℕ) → k ≤ 8 → bits_of (take k (bytes_high_first 8 n)) ≡ digits (8 * k) (n / 2 ^ (64 - 8 * k))
first_bytes k n few =
    let bytes : List ℕ = bytes_high_first 8 n in
    let long : length (bits_of (take k bytes)) ≡ 8 * k = omega (arith, length_bits_of (take k bytes), length-take k bytes, length_high 8 n, few) in
    let first : take (8 * k) (bits_of bytes) ≡ bits_of (take k bytes) = ap (λ m. take m (bits_of bytes)) (sym long) ∙ begins_bytes k bytes in
    sym first ∙ ap (take (8 * k)) (bits_of_high 8 n ∙ sym (append-nil (digits 64 n))) ∙ take_digits (8 * k) 64 (64 - 8 * k) n _ (omega (arith, few))

-- so many bits in front of 64, without the lowest of them
shifted_back : (word total over whole : ℕ) → total ≤ 40 → total ≡ 8 * whole + over → word * 2 ^ (64 - total) / 2 ^ (64 - 8 * whole) ≡ word / 2 ^ over
shifted_back word total over whole few is =
    let e : 64 - total + over ≡ 64 - 8 * whole = omega (arith, few, is) in
    ap (λ k. word * 2 ^ (64 - total) / 2 ^ k) (sym e) ∙ sym (shr-shr (word * 2 ^ (64 - total)) (64 - total) over)
    ∙ ap (λ x. x / 2 ^ over) (mul-div_cancel word (pow_pos (64 - total)))

-- the bits of a byte that isn't full and those behind them, in whole bytes and others
pub held_bits : (rest count bits size word over whole aligned : ℕ) → bits < 2 ^ size → word ≡ rest * 2 ^ size + bits → count + size ≤ 40 →
    count + size ≡ 8 * whole + over → aligned ≡ word * 2 ^ (64 - (count + size)) →
    bits_of (take whole (bytes_high_first 8 aligned)) ++ digits over (word % 2 ^ over) ≡ digits count rest ++ digits size bits
held_bits rest count bits size word over whole aligned low is few total front =
    ap (λ l. l ++ digits over (word % 2 ^ over)) (first_bytes whole aligned (omega (arith, few, total)))
    ∙ ap (λ n. digits (8 * whole) n ++ digits over (word % 2 ^ over)) (ap (λ n. n / 2 ^ (64 - 8 * whole)) front ∙ shifted_back word (count + size) over whole few total)
    ∙ ap (λ l. digits (8 * whole) (word / 2 ^ over) ++ l) (digits_mod over over word (omega arith))
    ∙ sym (digits_split (8 * whole) over word) ∙ ap (λ n. digits n word) (sym total) ∙ ap (digits (count + size)) is ∙ digits_append count size rest bits low

-- they are held
pub word_held : (w v : Writing) (rest count bits size place step word over whole aligned : ℕ) → bits < 2 ^ size → word ≡ rest * 2 ^ size + bits → count + size ≤ 40 →
    count + size ≡ 8 * whole + over → aligned ≡ word * 2 ^ (64 - (count + size)) → over < 8 → step ≡ size → v.name ≡ w.name → length v.buffered < 4096 →
    v.buffered ≡ w.buffered ++ take whole (bytes_high_first 8 aligned) →
    HoldsMore (bits_in w count rest place) (bits_in v over (word % 2 ^ over) (place + step)) (digits size bits)
word_held w v rest count bits size place step word over whole aligned low is few total front small steps name page kept = record {
  name = name;
  place = omega (arith, steps, length_digits size bits);
  buffered =
      ap (λ b. bits_of b ++ digits over (word % 2 ^ over)) kept
      ∙ ap (λ l. l ++ digits over (word % 2 ^ over)) (bits_of_append w.buffered (take whole (bytes_high_first 8 aligned)))
      ∙ append_assoc (bits_of w.buffered) (bits_of (take whole (bytes_high_first 8 aligned))) (digits over (word % 2 ^ over))
      ∙ ap (λ l. bits_of w.buffered ++ l) (held_bits rest count bits size word over whole aligned low is few total front)
      ∙ sym (append_assoc (bits_of w.buffered) (digits count rest) (digits size bits));
  held = held_few v.buffered over (word % 2 ^ over) page small;
}
