-- What the file of a writer grows by, whatever a call answers.
use Rattle.std.proofs.Common.{arith, ◌≡◌, ◌+◌, ◌*◌, ◌/◌, ◌%◌, ◌≤◌, ◌<◌, ◌-◌, ◌^◌, inl, inr, ℕ, List, [], ◌∷◌, ◌++◌, length, take, drop, sym, ◌∙◌, ap, subst}
use Rattle.std.proofs.Common.{is_some, unwrap_or, length-append, append_assoc, append-nil}
use Rattle.std.specs.declared.option.Option.{Option}
use Rattle.std.proofs.Math.Seq.{take-append_seam, take-append-add}
use Rattle.std.proofs.Math.Pow.{pow_pos}
use Rattle.std.proofs.lemmas.Nat.{shr_split, mod_below}
use Rattle.std.proofs.lemmas.List.{take_all, take-append-drop, take-append-le, append_cancel_left}
use Rattle.mg_dev.specs.Files.{Files, GrewInPart, bytes_at, grown, written}
use Rattle.mg_dev.specs.Laws.{file_at-written, written-grown}
use Rattle.mg_defs.specs.Bits.{Bits, digits, bits_of}
use Rattle.mg_defs.proofs.BitLaws.{length_bits_of, length_digits, digits_append, bits_of_append}
use Rattle.mg_bits.specs.Writer.{Writing}
use Rattle.mg_bits.specs.BitWriting.{BitWriting, GrewBits, GrewBy, WroteBits}
use Rattle.mg_bits.proofs.BitsWritten.{byte_out, bits_of_one}

-- ---- bytes

-- all that was held and handed over went out
pub grew_all : (old new : Option Files) (name sent piece : List ℕ) → new ≡ grown old name sent → sent ≡ piece → GrewInPart old new name piece
grew_all old new name sent piece e is = inr (length piece, omega arith, e ∙ ap (λ p. grown old name p) (is ∙ sym (take_all (length piece) piece (omega arith))))

-- or a part of it
pub grew_part : (old new : Option Files) (name sent piece : List ℕ) → GrewInPart old new name sent → sent ≡ piece → GrewInPart old new name piece
grew_part old new name sent piece grew is = subst (λ p. GrewInPart old new name p) is grew

-- a part of the first bytes is one of all
pub grew_within : (old new : Option Files) (name a b : List ℕ) → GrewInPart old new name a → GrewInPart old new name (a ++ b)
grew_within old new name a b (inl e) = inl e
grew_within old new name a b (inr (k, within, e)) = inr (k, omega (arith, length-append a b), e ∙ ap (λ p. grown old name p) (sym (take-append-le k a b within)))

grown-grown : (files : Option Files) (name a b : List ℕ) → grown (grown files name a) name b ≡ grown files name (a ++ b)
grown-grown files name a b = written-grown files name (bytes_at files name ++ a) b ∙ ap (λ p. written files name p) (append_assoc (bytes_at files name) a b)

-- the bytes that were held went out, and then a part of a piece behind them
pub grew_then : (old mid new : Option Files) (name held piece : List ℕ) → mid ≡ grown old name held → GrewInPart mid new name piece → GrewInPart old new name (held ++ piece)
grew_then old mid new name held piece e (inl still) =
    inr (length held, omega (arith, length-append held piece), still ∙ e ∙ ap (λ p. grown old name p) (sym (take-append_seam held piece)))
grew_then old mid new name held piece e (inr (k, within, grew)) =
    inr (
      length held + k,
      omega (arith, length-append held piece),
      grew ∙ ap (λ f. grown f name (take k piece)) e ∙ grown-grown old name held (take k piece) ∙ ap (λ p. grown old name p) (sym (take-append-add held piece k)),
    )

-- ---- bits

pub by_none : (old bits : Bits) → GrewBy old old bits
by_none old bits = record { count = 0; within = omega arith; is = sym (append-nil old) }

pub by_within : (old new a b : Bits) → GrewBy old new a → GrewBy old new (a ++ b)
by_within old new a b g = record { count = g.count; within = omega (arith, length-append a b, g.within); is = g.is ∙ ap (λ l. old ++ l) (sym (take-append-le g.count a b g.within)) }

-- more bits behind bits that were written
pub by_more : (f0 f1 f2 b0 b1 s p : Bits) → GrewBy f0 f1 (b0 ++ s) → f1 ++ b1 ≡ (f0 ++ b0) ++ s → GrewBy f1 f2 (b1 ++ p) → GrewBy f0 f2 (b0 ++ (s ++ p))
by_more f0 f1 f2 b0 b1 s p one wrote two =
    let out : Bits = take one.count (b0 ++ s) in
    let held : b0 ++ s ≡ out ++ b1 = append_cancel_left f0 (b0 ++ s) (out ++ b1) (sym (append_assoc f0 b0 s) ∙ sym wrote ∙ ap (λ l. l ++ b1) one.is ∙ append_assoc f0 out b1) in
    let all : b0 ++ (s ++ p) ≡ out ++ (b1 ++ p) = sym (append_assoc b0 s p) ∙ ap (λ l. l ++ p) held ∙ append_assoc out b1 p in
    record {
      count = length out + two.count;
      within = omega (arith, ap length all, length-append out (b1 ++ p), two.within);
      is = two.is ∙ ap (λ l. l ++ take two.count (b1 ++ p)) one.is ∙ append_assoc f0 out (take two.count (b1 ++ p))
          ∙ ap (λ l. f0 ++ l) (sym (take-append-add out (b1 ++ p) two.count) ∙ ap (λ l. take (length out + two.count) l) (sym all));
    }

-- the bits of a file that grew by bytes
pub by_bytes : (before now : Option Files) (name bytes : List ℕ) (bits more : Bits) → GrewInPart before now name bytes → bits ≡ bits_of bytes ++ more → GrewBits name before now bits
by_bytes before now name bytes bits more (inl e) is told =
    subst (λ f. GrewBy (bits_of (bytes_at before name)) (bits_of (bytes_at f name)) bits) (sym e) (by_none (bits_of (bytes_at before name)) bits)
by_bytes before now name bytes bits more (inr (k, within, e)) is told =
    let out : Bits = bits_of (take k bytes) in
    let halves : bits_of bytes ≡ out ++ bits_of (drop k bytes) = ap bits_of (sym (take-append-drop k bytes)) ∙ bits_of_append (take k bytes) (drop k bytes) in
    let all : bits ≡ out ++ (bits_of (drop k bytes) ++ more) = is ∙ ap (λ l. l ++ more) halves ∙ append_assoc out (bits_of (drop k bytes)) more in
    let file : bytes_at now name ≡ bytes_at before name ++ take k bytes = ap (λ f. bytes_at f name) e
    ∙ ap (λ o. unwrap_or o []) (file_at-written before name (bytes_at before name ++ take k bytes) told) in
    record {
      count = length out;
      within = omega (arith, ap length all, length-append out (bits_of (drop k bytes) ++ more));
      is = ap bits_of file ∙ bits_of_append (bytes_at before name) (take k bytes) ∙ ap (λ l. bits_of (bytes_at before name) ++ l)
          (sym (ap (λ l. take (length out) l) all ∙ take-append_seam out (bits_of (drop k bytes) ++ more)));
    }

-- a byte sent to the bytes that are written
pub by_byte : (w : Writing) (before now : Option Files) (rest count bits size over word byte : ℕ) → GrewInPart before now w.name (w.buffered ++ byte ∷ []) →
    byte ≡ word / 2 ^ over → count + size ≡ 8 + over → bits < 2 ^ size → word ≡ rest * 2 ^ size + bits →
    GrewBits w.name before now ((bits_of w.buffered ++ digits count rest) ++ digits size bits)
by_byte w before now rest count bits size over word byte grew high same low is =
    let tail : Bits = digits over (word % 2 ^ over) in
    let sent : bits_of (w.buffered ++ byte ∷ []) ≡ bits_of w.buffered ++ digits 8 (word / 2 ^ over) =
    bits_of_append w.buffered (byte ∷ []) ∙ ap (λ l. bits_of w.buffered ++ l) (bits_of_one byte ∙ ap (digits 8) high) in
    by_bytes before now w.name (w.buffered ++ byte ∷ []) ((bits_of w.buffered ++ digits count rest) ++ digits size bits) tail grew
    (append_assoc (bits_of w.buffered) (digits count rest) (digits size bits) ∙ ap (λ l. bits_of w.buffered ++ l) (sym (byte_out rest count bits size over word same low is))
    ∙ sym (append_assoc (bits_of w.buffered) (digits 8 (word / 2 ^ over)) tail) ∙ ap (λ l. l ++ tail) (sym sent))

-- fewer bits than a page has are held
pub held_few : (bytes : List ℕ) (count rest : ℕ) → length bytes < 4096 → count < 8 → length (bits_of bytes ++ digits count rest) < 32768
held_few bytes count rest few small = omega (arith, length-append (bits_of bytes) (digits count rest), length_bits_of bytes, length_digits count rest)

-- ---- calls one after the other

-- bits behind bits that were written
pub bits_through : (w0 w1 : BitWriting) (f0 f1 f2 : Option Files) (s p : Bits) → is_some f1 ≡ is_some f0 → GrewBits w0.name f0 f1 (w0.buffered ++ s) →
    WroteBits w0 w1 f0 f1 s → GrewBits w1.name f1 f2 (w1.buffered ++ p) → GrewBits w0.name f0 f2 (w0.buffered ++ (s ++ p))
bits_through w0 w1 f0 f1 f2 s p same one wrote two told =
    by_more (bits_of (bytes_at f0 w0.name)) (bits_of (bytes_at f1 w0.name)) (bits_of (bytes_at f2 w0.name)) w0.buffered w1.buffered s p (one told)
    (ap (λ n. bits_of (bytes_at f1 n) ++ w1.buffered) (sym wrote.name) ∙ wrote.told told)
    (subst (λ n. GrewBy (bits_of (bytes_at f1 n)) (bits_of (bytes_at f2 n)) (w1.buffered ++ p)) wrote.name (two (same ∙ told)))

-- the first bits of a number are a part of all
first_digits : (count left value : ℕ) → left ≤ count → digits (count - left) (value / 2 ^ left) ++ digits left (value % 2 ^ left) ≡ digits count value
first_digits count left value within =
    let n : count - left + left ≡ count = omega arith in
    sym (digits_append (count - left) left (value / 2 ^ left) (value % 2 ^ left) (mod_below value (2 ^ left) (pow_pos left)))
    ∙ ap (digits (count - left + left)) (shr_split value left) ∙ ap (λ m. digits m value) n

pub bits_front : (name : List ℕ) (f0 f1 : Option Files) (held : Bits) (count left value : ℕ) → left ≤ count →
    GrewBits name f0 f1 (held ++ digits (count - left) (value / 2 ^ left)) → GrewBits name f0 f1 (held ++ digits count value)
bits_front name f0 f1 held count left value within grew told =
    let rest : Bits = digits left (value % 2 ^ left) in
    let first : Bits = digits (count - left) (value / 2 ^ left) in
    subst (λ l. GrewBy (bits_of (bytes_at f0 name)) (bits_of (bytes_at f1 name)) l) (append_assoc held first rest ∙ ap (λ l. held ++ l) (first_digits count left value within))
    (by_within (bits_of (bytes_at f0 name)) (bits_of (bytes_at f1 name)) (held ++ first) rest (grew told))
