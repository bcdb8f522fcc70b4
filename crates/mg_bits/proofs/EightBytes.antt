-- Eight bytes of a page as bits.
use Rattle.std.proofs.Common.{◌≡◌, ◌+◌, ◌*◌, ◌≤◌, ◌<◌, ◌-◌, ◌/◌, ◌%◌, ◌^◌, [], ◌∷◌, ◌++◌, ◌∙◌}
use Rattle.std.proofs.Common.{arith, suc, zero, ℕ, Bool, List, length, take, drop, None, Some, IfSome, IsSome, refl, sym, ap, subst, zero-add, slice_index}
use Rattle.std.specs.declared.option.Option.{Option}
use Rattle.std.specs.List.{slice_range}
use Rattle.std.specs.Int.{bytes_high_first, byte_at, from_be_bytes, w64}
use Rattle.std.proofs.Math.Seq.{drop-append-add}
use Rattle.std.proofs.Math.Nat.{div-add-mod}
use Rattle.std.proofs.lemmas.List.{take-append-drop, drop-drop, drop-take, take-take}
use Rattle.std.proofs.Math.ListN.{drop_of_length-le}
use Rattle.std.proofs.lemmas.Nat.{be_bytes_8, div_below, shr-shr, pow-add, pow_pos}
use Rattle.mg_dev.specs.Files.{Files, bytes_at}
use Rattle.mg_defs.specs.Bits.{Bits, Begins, FromPlace, bits_of, digits}
use Rattle.mg_defs.proofs.BitLaws.{bits_of_append, digits_mod, length_digits}
use Rattle.mg_defs.proofs.FrontLaws.{begins_append, begins_first, begins_second, begins_through}
use Rattle.mg_bits.specs.Feed.{Feeding, Device, HoldsBits, Read, page_of, to_read, told_at}
use Rattle.mg_bits.specs.Pages.{IsPageIn, IsWordIn}
use Rattle.mg_bits.proofs.Places.{lacks_held, page_of_byte, page_of_place}
use Rattle.mg_bits.proofs.Ranges.{calm_none, held_after_some, page_mono, to_read_some}

-- ---- the bits of eight bytes

-- a number's bits are those of its high part and those of its low one
pub digits_split : (a b n : ℕ) → digits (a + b) n ≡ digits a (n / 2 ^ b) ++ digits b n
unfolding digits
digits_split zero b n = rw zero-add refl
digits_split (suc a) b n =
    let e : suc a + b ≡ suc (a + b) = omega arith in
    let h : n / 2 ^ b / 2 ^ a ≡ n / 2 ^ (a + b) = shr-shr n b a ∙ ap (λ k. n / 2 ^ k) (omega arith) in
    rw (e, h, digits_split a b n) refl

power_of_bytes : (k : ℕ) → 256 ^ k ≡ 2 ^ (8 * k)
power_of_bytes zero = refl
power_of_bytes (suc k) =
    let e : 1 + k ≡ suc k = omega arith in
    let d : 8 + 8 * k ≡ 8 * suc k = omega arith in
    ap (λ n. 256 ^ n) (sym e) ∙ pow-add 256 1 k ∙ ap (λ x. 256 * x) (power_of_bytes k) ∙ sym (pow-add 2 8 (8 * k)) ∙ ap (λ n. 2 ^ n) d

bits_of_byte : (k n : ℕ) → digits 8 (byte_at k n) ≡ digits 8 (n / 2 ^ (8 * k))
bits_of_byte zero n = digits_mod 8 8 n (omega arith) ∙ ap (digits 8) (omega arith)
bits_of_byte (suc k) n = digits_mod 8 8 (n / 256 ^ suc k) (omega arith) ∙ ap (λ p. digits 8 (n / p)) (power_of_bytes (suc k))

-- the bits of a number's bytes, the high one first, are its own
pub bits_of_high : (k n : ℕ) → bits_of (bytes_high_first k n) ≡ digits (8 * k) n
unfolding bits_of digits
bits_of_high zero n = refl
bits_of_high (suc k) n =
    let e : 8 + 8 * k ≡ 8 * suc k = omega arith in
    ap (λ l. digits 8 (byte_at k n) ++ l) (bits_of_high k n) ∙ ap (λ d. d ++ digits (8 * k) n) (bits_of_byte k n) ∙ sym (digits_split 8 (8 * k) n) ∙ ap (λ m. digits m n) e

-- the first bytes have the first bits
pub begins_bytes : (k : ℕ) (bytes : List ℕ) → Begins (bits_of (take k bytes)) (bits_of bytes)
begins_bytes k bytes =
    subst (Begins (bits_of (take k bytes))) (sym (ap bits_of (sym (take-append-drop k bytes)) ∙ bits_of_append (take k bytes) (drop k bytes)))
    (begins_append (bits_of (take k bytes)) (bits_of (drop k bytes)))

-- eight bytes and the bits of the number that they are
pub bits_of_word : (bytes : List ℕ) (n : ℕ) → length bytes ≡ 8 → ((i : ℕ) → slice_index bytes i < 256) → n ≡ from_be_bytes w64 bytes → digits 64 n ≡ bits_of bytes
bits_of_word bytes n long small is = sym (bits_of_high 8 n) ∙ ap bits_of (be_bytes_8 bytes n long small is)

-- the eight bytes from an index on
pub word_within : (bytes eight : List ℕ) (index end word : ℕ) → end ≡ index + 8 → end ≤ length bytes → eight ≡ take 8 (slice_range bytes index end) →
    digits 64 word ≡ bits_of eight → IsWordIn bytes index word
word_within bytes eight index end word e long is bits =
    let all : end - index ≡ 8 = omega arith in
    let same : eight ≡ take 8 (drop index bytes) = is ∙ ap (λ n. take 8 (take n (drop index bytes))) all ∙ take-take 8 8 (drop index bytes) (omega arith) in
    record { within = omega arith; bits = subst (λ b. Begins b (bits_of (drop index bytes))) (sym (bits ∙ ap bits_of same)) (begins_bytes 8 (drop index bytes)) }

-- the bits from a byte on are those of the bytes from it on
pub drop_bits : (at : ℕ) (bytes : List ℕ) → drop (8 * at) (bits_of bytes) ≡ bits_of (drop at bytes)
unfolding bits_of
drop_bits zero bytes = refl
drop_bits (suc at) [] = drop_of_length-le {A = Bool} [] (omega arith)
drop_bits (suc at) (byte ∷ bytes) =
    let e : 8 * suc at ≡ length (digits 8 byte) + 8 * at = omega (arith, length_digits 8 byte) in
    rw e (drop-append-add (digits 8 byte) (bits_of bytes) (8 * at)) ∙ drop_bits at bytes

-- ---- on a page

-- the bytes of a page from an index on are the first ones of the file from that place on
pub page_from : (size number index at : ℕ) (file : List ℕ) → index ≤ size → size * number + index ≡ at → drop index (take size (drop (size * number) file)) ≡ take (size - index) (drop at file)
page_from size number index at file within place =
    let e : index + (size - index) ≡ size = omega arith in
    ap (λ n. drop index (take n (drop (size * number) file))) (sym e) ∙ drop-take index (size - index) (drop (size * number) file)
    ∙ ap (take (size - index)) (drop-drop index (size * number) file ∙ ap (λ n. drop n file) place)

-- eight bytes of a held page are those of the file
pub page_word : (size : ℕ) (held : Option ℕ) (page file : List ℕ) (at index word : ℕ) → 0 < size → held ≡ Some (at / size) → index ≡ at % size → IsPageIn size held page file →
    IsWordIn page index word → Begins (digits 64 word) (drop (8 * at) (bits_of file))
page_word size held page file at index word some is offset agrees found =
    let here : IsPageIn size (Some (at / size)) page file = subst (λ h. IsPageIn size h page file) is agrees in
    let below : index ≤ size = omega arith in
    let place : size * (at / size) + index ≡ at = rw offset (div-add-mod at size) in
    let same : drop index page ≡ take (size - index) (drop at file) = ap (drop index) here ∙ page_from size (at / size) index at file below place in
    let first : Begins (digits 64 word) (bits_of (take (size - index) (drop at file))) = subst (λ b. Begins (digits 64 word) (bits_of b)) same found.bits in
    subst (Begins (digits 64 word)) (sym (drop_bits at file))
    (begins_through (digits 64 word) (bits_of (take (size - index) (drop at file))) (bits_of (drop at file)) first
    (begins_bytes (size - index) (drop at file)))

-- eight bytes on one page
pub holds_word : (f : Feeding) (at : ℕ) → f.held ≡ Some (at / f.page) → (at + 7) / f.page ≡ at / f.page → HoldsBits f (8 * at) 64
holds_word f at held last =
    let e : 8 * at + 64 - 1 ≡ 8 * at + 63 = omega arith in
    let b : (8 * at + 63) / 8 ≡ at + 7 = omega arith in
    record {
      first = held ∙ ap Some (sym (page_of_byte f.page at));
      last = ap (page_of f.page) e ∙ sym (page_of_place f.page (8 * at + 63)) ∙ ap (λ n. page_of f.page (8 * n)) b ∙ page_of_byte f.page (at + 7) ∙ last ∙ sym (page_of_byte f.page at);
    }

-- ---- the bits within them

-- the bits behind the first ones
pub word_middle : (word skip : ℕ) (s : Bits) → skip ≤ 7 → Begins (digits 64 word) s → Begins (digits 57 (word / 2 ^ (7 - skip) % 2 ^ 57)) (drop skip s)
word_middle word skip s few begins =
    let e : skip + (57 + (7 - skip)) ≡ 64 = omega arith in
    let low : ℕ = word / 2 ^ (7 - skip) in
    let first : Begins (digits skip (word / 2 ^ (57 + (7 - skip))) ++ digits (57 + (7 - skip)) word) s =
    subst (λ d. Begins d s) (ap (λ n. digits n word) (sym e) ∙ digits_split skip (57 + (7 - skip)) word) begins in
    let second : Begins (digits (57 + (7 - skip)) word) (drop skip s) =
    subst (λ n. Begins (digits (57 + (7 - skip)) word) (drop n s)) (length_digits skip (word / 2 ^ (57 + (7 - skip))))
    (begins_second (digits skip (word / 2 ^ (57 + (7 - skip)))) (digits (57 + (7 - skip)) word) s first) in
    let third : Begins (digits 57 low) (drop skip s) = begins_first (digits 57 low) (digits (7 - skip) word) (drop skip s)
    (subst (λ d. Begins d (drop skip s)) (digits_split 57 (7 - skip) word) second) in
    subst (λ d. Begins d (drop skip s)) (sym (digits_mod 57 57 low (omega arith))) third

-- the first of them
pub first_digits : (count more n : ℕ) (s : Bits) → Begins (digits (count + more) n) s → Begins (digits count (n / 2 ^ more)) s
first_digits count more n s begins = begins_first (digits count (n / 2 ^ more)) (digits more n) s (subst (λ d. Begins d s) (digits_split count more n) begins)

-- a shorter range, further on
pub holds_inside : (f : Feeding) (a p n m : ℕ) → 0 < f.page → a ≤ p → 0 < m → p + m ≤ a + n → HoldsBits f a n → HoldsBits f p m
holds_inside f a p n m some from more to holds =
    let width : 0 < 8 * f.page = omega arith in
    let m1 : page_of f.page a ≤ page_of f.page p = page_mono (8 * f.page) a p width from in
    let m2 : page_of f.page p ≤ page_of f.page (p + m - 1) = page_mono (8 * f.page) p (p + m - 1) width (omega arith) in
    let m3 : page_of f.page (p + m - 1) ≤ page_of f.page (a + n - 1) = page_mono (8 * f.page) (p + m - 1) (a + n - 1) width (omega arith) in
    let e : page_of f.page a ≡ page_of f.page p = omega (arith, holds.last) in
    record { first = holds.first ∙ ap Some e; last = omega (arith, holds.last) }

-- bits on the page that is held are read without the device
pub read_held : (f : Feeding) (d : Device) (place count : ℕ) → 0 < count → HoldsBits f place count → Read f f d d place (place + count)
read_held f d place count some holds =
    let lt : place < place + count = omega arith in
    let none : to_read f.page f.held place (place + count) ≡ 0 = to_read_some f.page f.held place (place + count) lt
    ∙ omega (arith, holds.last, lacks_held f.held (page_of f.page place) holds.first) in
    record {
      calm = calm_none f d;
      pages = record { device = λ part own. omega (arith, none); feed = omega (arith, none) };
      held = holds.first ∙ ap Some (sym holds.last) ∙ sym (held_after_some f.page f.held place (place + count) lt);
    }

-- what is told of eight bytes of a page
pub told_word : (size : ℕ) (held : Option ℕ) (page name : List ℕ) (at index : ℕ) (found : Option ℕ) (files : Option Files) → 0 < size → held ≡ Some (at / size) → index ≡ at % size →
    IfSome found (IsWordIn page index) → (IsSome files → IsPageIn size held page (bytes_at files name)) → IfSome found (λ word. FromPlace (told_at files name) (8 * at) (Begins (digits 64 word)))
told_word size held page name at index None files some is offset word agrees = tt
told_word size held page name at index (Some n) None some is offset word agrees = tt
told_word size held page name at index (Some n) (Some f) some is offset word agrees = page_word size held page (bytes_at (Some f) name) at index n some is offset (agrees refl) word

-- they lie on the page
pub held_word : (f : Feeding) (at index : ℕ) (page : List ℕ) (found : Option ℕ) → f.held ≡ Some (at / f.page) →
    (index + 8 ≤ length page → (at + 7) / f.page ≡ at / f.page) → IfSome found (IsWordIn page index) → IfSome found (λ word. HoldsBits f (8 * at) 64)
held_word f at index page None held last word = tt
held_word f at index page (Some n) held last word = holds_word f at held (last word.within)

-- what is told of eight bytes in memory
pub told_in_memory : (bytes : List ℕ) (at : ℕ) (found : Option ℕ) → IfSome found (IsWordIn bytes at) → IfSome found (λ word. Begins (digits 64 word) (drop (8 * at) (bits_of bytes)))
told_in_memory bytes at None word = tt
told_in_memory bytes at (Some n) word = subst (Begins (digits 64 n)) (sym (drop_bits at bytes)) word.bits

-- what is told of the bits within eight bytes
pub told_middle : (told : Option (List ℕ)) (at skip place word : ℕ) → skip ≤ 7 → place ≡ 8 * at + skip → FromPlace told (8 * at) (Begins (digits 64 word)) →
    FromPlace told place (Begins (digits 57 (word / 2 ^ (7 - skip) % 2 ^ 57)))
told_middle None at skip place word few is begins = tt
told_middle (Some bytes) at skip place word few is begins =
    let e : drop skip (drop (8 * at) (bits_of bytes)) ≡ drop place (bits_of bytes) = drop-drop skip (8 * at) (bits_of bytes) ∙ ap (λ n. drop n (bits_of bytes)) (sym is) in
    subst (Begins (digits 57 (word / 2 ^ (7 - skip) % 2 ^ 57))) e (word_middle word skip (drop (8 * at) (bits_of bytes)) few begins)

-- what is told of the first of them
pub told_first : (told : Option (List ℕ)) (place all count more n : ℕ) → all ≡ count + more → FromPlace told place (Begins (digits all n)) → FromPlace told place (Begins (digits count (n / 2 ^ more)))
told_first None place all count more n e begins = tt
told_first (Some bytes) place all count more n e begins = first_digits count more n (drop place (bits_of bytes)) (subst (λ k. Begins (digits k n) (drop place (bits_of bytes))) e begins)

pub first_below : (all count more n : ℕ) → all ≡ count + more → n < 2 ^ all → n / 2 ^ more < 2 ^ count
first_below all count more n e below =
    let some : 0 < 2 ^ more = pow_pos more in
    let wide : n < 2 ^ count * 2 ^ more = omega (arith, ap (λ k. 2 ^ k) e, pow-add 2 count more) in
    div_below n (2 ^ more) (2 ^ count) some wide
