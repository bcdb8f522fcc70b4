-- Bytes, by their bits and through writes.
use Rattle.std.proofs.Common.{arith, ◌≡◌, ◌<◌, ◌^◌, ◌++◌, inl, inr, ℕ, zero, suc, true, false, List, [], ◌∷◌, length, take}
use Rattle.std.proofs.Common.{drop, replicate, Ok, Err, unwrap_or, IsSome, refl, sym, ◌∙◌, ap, subst, append-nil, length-append, length-take-le, pow-suc, get_or, Fits, w8}
use Rattle.std.specs.declared.option.Option.{Option}
use Rattle.std.specs.declared.result.Result.{Result}
use Rattle.std.proofs.Math.Seq.{take-append_seam}
use Rattle.std.proofs.lemmas.List.{append_cancel_left}
use Rattle.std.proofs.lemmas.List.Elements.{All-nil, All-cons, All-head, All-tail, All-append, All-take, All-from_get_or}
use Rattle.mg_dev.specs.Files.{Files, AfterAppend, GrewInPart, bytes_at, grown}
use Rattle.mg_dev.specs.Laws.{file_at-written}
use Rattle.mg_defs.specs.Bits.{Bits, bits_of, digits, filled, number, to_byte, as_bytes, bytes_upto}
use Rattle.mg_defs.proofs.BitLaws.{length_bits_of, length_digits, digits_same}
use Rattle.mg_defs.proofs.CodedTextLaws.{bits-of_as_bytes}
use Rattle.mg_bits.specs.Writer.{AreBytes, KeepsBytes}

-- ---- bytes and their bits

front_byte : (x : ℕ) (more : Bits) → take 8 (digits 8 x ++ more) ≡ digits 8 x
front_byte x more = ap (λ n. take n (digits 8 x ++ more)) (sym (length_digits 8 x)) ∙ take-append_seam (digits 8 x) more

same_front : (x y : ℕ) (a b : Bits) → digits 8 x ++ a ≡ digits 8 y ++ b → digits 8 x ≡ digits 8 y
same_front x y a b same = sym (front_byte x a) ∙ ap (take 8) same ∙ front_byte y b

-- bytes of the same bits are the same
pub same_bytes : (a b : List ℕ) → AreBytes a → AreBytes b → bits_of a ≡ bits_of b → a ≡ b
unfolding bits_of
same_bytes [] [] fits also same = refl
same_bytes [] (y ∷ b) fits also same = absurd (omega (arith, ap length same, length-append (digits 8 y) (bits_of b), length_digits 8 y))
same_bytes (x ∷ a) [] fits also same = absurd (omega (arith, ap length same, length-append (digits 8 x) (bits_of a), length_digits 8 x))
same_bytes (x ∷ a) (y ∷ b) fits also same =
    let front : digits 8 x ≡ digits 8 y = same_front x y (bits_of a) (bits_of b) same in
    let low : x < 2 ^ 8 = All-head (λ byte. byte < 2 ^ 8) x a fits in
    let low_too : y < 2 ^ 8 = All-head (λ byte. byte < 2 ^ 8) y b also in
    let byte : x ≡ y = omega (arith, digits_same 8 x y front, low, low_too) in
    let rest : bits_of a ≡ bits_of b = append_cancel_left (digits 8 y) (bits_of a) (bits_of b) (ap (λ d. d ++ bits_of a) (sym front) ∙ same) in
    ap (λ n. n ∷ a) byte ∙ ap (λ l. y ∷ l) (same_bytes a b (All-tail (λ byte. byte < 2 ^ 8) x a fits) (All-tail (λ byte. byte < 2 ^ 8) y b also) rest)

number_below : (bits : Bits) → number bits < 2 ^ length bits
unfolding number
number_below [] = omega arith
number_below (true ∷ bits) = rw (pow-suc 2 (length bits)) (omega (arith, number_below bits))
number_below (false ∷ bits) = rw (pow-suc 2 (length bits)) (omega (arith, number_below bits))

eight_below : (bits : Bits) → length bits ≡ 8 → number bits < 2 ^ 8
eight_below bits long = subst (λ n. number bits < 2 ^ n) long (number_below bits)

upto_are_bytes : (n : ℕ) (bits : Bits) → AreBytes (bytes_upto n bits)
upto_are_bytes zero bits = All-nil (λ byte. byte < 2 ^ 8)
upto_are_bytes (suc n) [] = All-nil (λ byte. byte < 2 ^ 8)
upto_are_bytes (suc n) (b ∷ bits) =
    let long : length (take 8 (b ∷ bits ++ replicate 7 false)) ≡ 8 = length-take-le 8 (b ∷ bits ++ replicate 7 false) (omega (arith, length-append bits (replicate 7 false))) in
    All-cons (λ byte. byte < 2 ^ 8) (number (take 8 (b ∷ bits ++ replicate 7 false))) (bytes_upto n (drop 7 bits))
    (eight_below (take 8 (b ∷ bits ++ replicate 7 false)) long) (upto_are_bytes n (drop 7 bits))

-- bits as bytes
pub bits_are_bytes : (bits : Bits) → AreBytes (as_bytes bits)
unfolding as_bytes
bits_are_bytes bits = upto_are_bytes (length bits) bits

whole_bytes : (bytes : List ℕ) → filled (bits_of bytes) ≡ bits_of bytes
unfolding filled digits
whole_bytes bytes =
    let none : to_byte (length (bits_of bytes)) ≡ 0 = omega (arith, length_bits_of bytes) in
    rw none (append-nil (bits_of bytes))

-- bytes are those of their bits
pub bytes_again : (bytes : List ℕ) → AreBytes bytes → as_bytes (bits_of bytes) ≡ bytes
bytes_again bytes fits =
    same_bytes (as_bytes (bits_of bytes)) bytes (bits_are_bytes (bits_of bytes)) fits (bits-of_as_bytes (bits_of bytes) ∙ whole_bytes bytes)

-- ---- writes

-- the items of a slice of bytes
pub items_are_bytes : (bytes : List ℕ) → ((i : ℕ) → Fits w8 (get_or bytes i 0)) → AreBytes bytes
items_are_bytes bytes small = All-from_get_or (λ byte. byte < 2 ^ 8) bytes 0 (λ i within. omega (arith, small i))

-- a file that stayed
pub same_keeps : (name : List ℕ) (files now : Option Files) → now ≡ files → KeepsBytes name files now
same_keeps name files now e = record { bytes = λ told fits. subst (λ f. AreBytes (bytes_at f name)) (sym e) fits }

-- a file that grew by bytes
grown_keeps : (name piece : List ℕ) (files now : Option Files) → AreBytes piece → now ≡ grown files name piece → KeepsBytes name files now
grown_keeps name piece files now small e = record {
  bytes = λ told fits.
      let is : bytes_at now name ≡ bytes_at files name ++ piece = ap (λ f. bytes_at f name) e ∙ ap (λ o. unwrap_or o []) (file_at-written files name (bytes_at files name ++ piece) told) in
      subst AreBytes (sym is) (All-append (λ byte. byte < 2 ^ 8) (bytes_at files name) piece fits small);
}

part_keeps : (name piece : List ℕ) (files now : Option Files) → AreBytes piece → GrewInPart files now name piece → KeepsBytes name files now
part_keeps name piece files now small (inl e) = same_keeps name files now e
part_keeps name piece files now small (inr (k, within, e)) = grown_keeps name (take k piece) files now (All-take (λ byte. byte < 2 ^ 8) k piece small) e

-- bytes were appended, or some of them
pub append_keeps : {E : Type 0} (name piece : List ℕ) (files now : Option Files) (r : Result (Unit {0}) E) → AreBytes piece → AfterAppend files now name piece r → KeepsBytes name files now
append_keeps name piece files now (Ok u) small after = grown_keeps name piece files now small after
append_keeps name piece files now (Err e) small after = part_keeps name piece files now small after

-- one call after the other
pub keeps_more : (name : List ℕ) (f g h : Option Files) → (IsSome f → IsSome g) → KeepsBytes name f g → KeepsBytes name g h → KeepsBytes name f h
keeps_more name f g h told one two = record { bytes = λ t fits. two.bytes (told t) (one.bytes t fits) }
