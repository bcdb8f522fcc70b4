-- What bytes and bits written are of the file and the buffer.
use Rattle.std.proofs.Common.{◌≡◌, ◌+◌, ◌*◌, ◌/◌, ◌%◌, ◌≤◌, ◌<◌, ◌-◌, ◌^◌, [], ◌∷◌, ◌++◌, ◌∙◌}
use Rattle.std.proofs.Common.{arith, ℕ, List, length, refl, sym, ap, subst, length-append, append_assoc, append-nil, IsSome, is_some, unwrap_or}
use Rattle.std.specs.declared.option.Option.{Option}
use Rattle.std.proofs.lemmas.Nat.{shr_split, shr-shr, mod_below}
use Rattle.std.proofs.Math.Pow.{pow_pos}
use Rattle.mg_dev.specs.Files.{Files, Reads, bytes_at, file_at}
use Rattle.mg_defs.specs.Bits.{Bits, digits, bits_of}
use Rattle.mg_defs.proofs.BitLaws.{length_digits, digits_append, bits_of_append}
use Rattle.mg_bits.specs.Writer.{Writing, put_to, AreBytes, KeepsBytes, Wrote, WroteTo}
use Rattle.mg_bits.specs.BitWriting.{BitWriting, Holds, WroteBits, bits_put}

-- eight bits more than were held go out as a byte
pub byte_out : (rest count bits size over word : ℕ) → count + size ≡ 8 + over → bits < 2 ^ size → word ≡ rest * 2 ^ size + bits →
    digits 8 (word / 2 ^ over) ++ digits over (word % 2 ^ over) ≡ digits count rest ++ digits size bits
byte_out rest count bits size over word same low is =
    let e : word / 2 ^ over * 2 ^ over + word % 2 ^ over ≡ word = shr_split word over in
    sym (digits_append 8 over (word / 2 ^ over) (word % 2 ^ over) (mod_below word (2 ^ over) (pow_pos over)))
    ∙ ap (digits (8 + over)) (e ∙ is) ∙ ap (λ n. digits n (rest * 2 ^ size + bits)) (sym same) ∙ digits_append count size rest bits low

pub bits_of_one : (byte : ℕ) → bits_of (byte ∷ []) ≡ digits 8 byte
unfolding bits_of
bits_of_one byte = append-nil (digits 8 byte)

-- the bits of the bytes that were written, and those of a byte that isn't full
pub as_bits : (w : Writing) (files : Option Files) (more : Bits) → bits_of (bytes_at files w.name) ++ (bits_of w.buffered ++ more) ≡ bits_of (put_to w files) ++ more
as_bits w files more = sym (append_assoc (bits_of (bytes_at files w.name)) (bits_of w.buffered) more) ∙ ap (λ l. l ++ more) (sym (bits_of_append (bytes_at files w.name) w.buffered))

-- bits kept in the writer
pub wrote_kept : (w : Writing) (files : Option Files) (rest count bits size place step : ℕ) → bits < 2 ^ size → step ≡ size →
    WroteBits (record { name = w.name; buffered = bits_of w.buffered ++ digits count rest; place = place })
    (record { name = w.name; buffered = bits_of w.buffered ++ digits (count + size) (rest * 2 ^ size + bits); place = place + step }) files files (digits size bits)
wrote_kept w files rest count bits size place step low is = record {
  name = refl;
  place = ap (λ n. place + n) (is ∙ sym (length_digits size bits));
  told = λ told.
      as_bits w files (digits (count + size) (rest * 2 ^ size + bits))
      ∙ ap (λ l. bits_of (put_to w files) ++ l) (digits_append count size rest bits low)
      ∙ sym (append_assoc (bits_of (put_to w files)) (digits count rest) (digits size bits))
      ∙ ap (λ l. l ++ digits size bits) (sym (as_bits w files (digits count rest)));
}

-- a byte sent to the bytes that are written
pub wrote_sent : (w v : Writing) (before now : Option Files) (rest count bits size over word byte place step : ℕ) →
    Wrote w v before now (byte ∷ []) → byte ≡ word / 2 ^ over → count + size ≡ 8 + over → bits < 2 ^ size →
    word ≡ rest * 2 ^ size + bits → step ≡ size →
    WroteBits (record { name = w.name; buffered = bits_of w.buffered ++ digits count rest; place = place })
    (record { name = v.name; buffered = bits_of v.buffered ++ digits over (word % 2 ^ over); place = place + step }) before now (digits size bits)
wrote_sent w v before now rest count bits size over word byte place step sent high same low is steps = record {
  name = sent.name;
  place = ap (λ n. place + n) (steps ∙ sym (length_digits size bits));
  told = λ told.
      as_bits v now (digits over (word % 2 ^ over))
      ∙ ap (λ l. bits_of l ++ digits over (word % 2 ^ over)) (sent.bytes told)
      ∙ ap (λ l. l ++ digits over (word % 2 ^ over)) (bits_of_append (put_to w before) (byte ∷ []) ∙ ap (λ l. bits_of (put_to w before) ++ l) (bits_of_one byte ∙ ap (digits 8) high))
      ∙ append_assoc (bits_of (put_to w before)) (digits 8 (word / 2 ^ over)) (digits over (word % 2 ^ over))
      ∙ ap (λ l. bits_of (put_to w before) ++ l) (byte_out rest count bits size over word same low is)
      ∙ sym (append_assoc (bits_of (put_to w before)) (digits count rest) (digits size bits))
      ∙ ap (λ l. l ++ digits size bits) (sym (as_bits w before (digits count rest)));
}

pub bits_more : (f0 f1 f2 : Option Files) (w0 w1 w2 : BitWriting) (a b : Bits) → is_some f1 ≡ is_some f0 → WroteBits w0 w1 f0 f1 a → WroteBits w1 w2 f1 f2 b → WroteBits w0 w2 f0 f2 (a ++ b)
bits_more f0 f1 f2 w0 w1 w2 a b told one two = record {
  name = two.name ∙ one.name;
  place = omega (arith, length-append a b, one.place, two.place);
  told = λ t. two.told (told ∙ t) ∙ ap (λ l. l ++ b) (one.told t) ∙ append_assoc (bits_put w0 f0) a b;
}

pub bits_none : (f : Option Files) (w : BitWriting) → WroteBits w w f f []
bits_none f w = record { name = refl; place = omega arith; told = λ t. sym (append-nil (bits_put w f)) }

pub holds_kept : (f0 f1 : Option Files) (w0 w1 : BitWriting) (a : Bits) → is_some f1 ≡ is_some f0 → WroteBits w0 w1 f0 f1 a → KeepsBytes w0.name f0 f1 → Holds w0 f0 → Holds w1 f1
holds_kept f0 f1 w0 w1 a told wrote keeps holds = record {
  count = λ t.
      let back : IsSome f0 = sym told ∙ t in
      omega (arith, ap length (wrote.told back), length-append (bits_put w0 f0) a, holds.count back, wrote.place);
  bytes = λ t.
      let back : IsSome f0 = sym told ∙ t in
      subst (λ n. AreBytes (bytes_at f1 n)) (sym wrote.name) (keeps.bytes back (holds.bytes back));
}

-- what was written stays where its file stays
pub bits_stay : (w : BitWriting) (f g : Option Files) → file_at g w.name ≡ file_at f w.name → bits_put w g ≡ bits_put w f
bits_stay w f g same = ap (λ o. bits_of (unwrap_or o []) ++ w.buffered) same

pub holds_stay : (w : BitWriting) (f g : Option Files) → is_some g ≡ is_some f → file_at g w.name ≡ file_at f w.name → Holds w f → Holds w g
holds_stay w f g told same holds = record {
  count = λ t. ap length (bits_stay w f g same) ∙ holds.count (sym told ∙ t);
  bytes = λ t. subst (λ o. AreBytes (unwrap_or o [])) (sym same) (holds.bytes (sym told ∙ t));
}

-- a number in two pieces
pub digits_next : (count left size value : ℕ) → size ≤ left → left ≤ count →
    digits (count - left) (value / 2 ^ left) ++ digits size (value / 2 ^ (left - size) % 2 ^ size) ≡ digits (count - (left - size)) (value / 2 ^ (left - size))
digits_next count left size value le1 le2 =
    let x : ℕ = value / 2 ^ (left - size) in
    let high : value / 2 ^ (left - size) / 2 ^ size ≡ value / 2 ^ left = shr-shr value (left - size) size ∙ (let e : left - size + size ≡ left = omega arith in ap (λ n. value / 2 ^ n) e) in
    let whole : value / 2 ^ (left - size) / 2 ^ size * 2 ^ size + value / 2 ^ (left - size) % 2 ^ size ≡ value / 2 ^ (left - size) = shr_split (value / 2 ^ (left - size)) size in
    let n : count - left + size ≡ count - (left - size) = omega arith in
    ap (λ h. digits (count - left) h ++ digits size (value / 2 ^ (left - size) % 2 ^ size)) (sym high)
    ∙ sym (digits_append (count - left) size (value / 2 ^ (left - size) / 2 ^ size) (value / 2 ^ (left - size) % 2 ^ size) (mod_below (value / 2 ^ (left - size)) (2 ^ size) (pow_pos size)))
    ∙ ap (digits (count - left + size)) whole ∙ ap (λ m. digits m (value / 2 ^ (left - size))) n

-- calls that write one after the other
pub to_more : (name : List ℕ) (f g h : Option Files) (r s t : Reads) → WroteTo name f g r s → WroteTo name g h s t → WroteTo name f h r t
to_more name f g h r s t one two = record {
  told = two.told ∙ one.told;
  others = λ n apart. two.others n apart ∙ one.others n apart;
  reads = λ part. two.reads part ∙ one.reads part;
}

pub to_none : (name : List ℕ) (f : Option Files) (r : Reads) → WroteTo name f f r r
to_none name f r = record { told = refl; others = λ n apart. refl; reads = λ part. refl }

-- the held bytes go out
pub flushed : (w v : Writing) (before now : Option Files) (rest count place : ℕ) → Wrote w v before now [] → count ≡ 0 →
    WroteBits (record { name = w.name; buffered = bits_of w.buffered ++ digits count rest; place = place })
    (record { name = v.name; buffered = bits_of v.buffered ++ digits count rest; place = place }) before now []
flushed w v before now rest count place sent none = record {
  name = sent.name;
  place = omega arith;
  told = λ told.
      as_bits v now (digits count rest)
      ∙ ap (λ l. bits_of l ++ digits count rest) (sent.bytes told ∙ append-nil (put_to w before))
      ∙ sym (as_bits w before (digits count rest))
      ∙ sym (append-nil (bits_of (bytes_at before w.name) ++ (bits_of w.buffered ++ digits count rest)));
}
