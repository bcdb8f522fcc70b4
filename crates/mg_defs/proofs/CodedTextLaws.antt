-- Laws of coded documents in bytes.
use Rattle.std.proofs.Common.{◌≡◌, ℕ, zero, suc, ◌+◌, ◌-◌, ◌*◌, ◌^◌, ◌<◌, ◌≤◌, true, false, List, [], ◌∷◌, ◌++◌, length, take, drop, get_or, map, sum_by, zero-add, replicate, refl, sym, ◌∙◌, ap, arith, inl, inr, append_assoc, append-nil, length-append, length-take-le, length-drop, take-append-drop, one-add, pow-suc}
use Rattle.std.proofs.Math.Nat.{zero-div}
use Rattle.std.proofs.Math.ListN.{drop_of_length-le}
use Rattle.std.specs.List.{flat_map}
use Rattle.std.proofs.Math.Seq.{take-append-add, take-append_seam, take-length, drop-append-add}
use Rattle.std.proofs.lemmas.List.Concat.{length-flat_map}
use Rattle.std.proofs.lemmas.List.Sums.{sum_by-cons}
use Rattle.std.proofs.lemmas.Bool.{cases_lt}
use Rattle.std.proofs.lemmas.List.{take-append-le, take-replicate}
use Rattle.mg_defs.specs.Bits.{Bits, digits, number, bits_of, to_byte, filled, bytes_upto, as_bytes}
use Rattle.mg_defs.specs.Split.{documents}
use Rattle.mg_defs.specs.CodedText.{TextCode, coded_doc, coded_size, text_part, place_after, running, places}
use Rattle.mg_defs.proofs.BitLaws.{length_digits, digits_append, length_bits_of}

number-below : (bits : Bits) → number bits < 2 ^ length bits
unfolding number
number-below [] = omega arith
number-below (true ∷ bits) = rw (pow-suc 2 (length bits)) (omega (arith, number-below bits))
number-below (false ∷ bits) = rw (pow-suc 2 (length bits)) (omega (arith, number-below bits))

first-digit : (v : ℕ) (bits : Bits) → digits (suc (length bits)) (v * 2 ^ length bits + number bits) ≡ digits 1 v ++ digits (length bits) (number bits)
first-digit v bits = ap (λ k. digits k (v * 2 ^ length bits + number bits)) (sym (one-add (length bits))) ∙ digits_append 1 (length bits) v (number bits) (number-below bits)

-- the bits of the number that bits write
pub digits-number : (bits : Bits) → digits (length bits) (number bits) ≡ bits
unfolding number digits
digits-number [] = refl
digits-number (true ∷ bits) =
    let whole : 2 ^ length bits + number bits ≡ 1 * 2 ^ length bits + number bits = omega arith in
    ap (digits (suc (length bits))) whole ∙ (first-digit 1 bits ∙ ap (λ (x : Bits). true ∷ x) (digits-number bits))
digits-number (false ∷ bits) =
    let whole : number bits ≡ 0 * 2 ^ length bits + number bits = omega arith in
    ap (digits (suc (length bits))) whole ∙ (first-digit 0 bits ∙ ap (λ (x : Bits). false ∷ x) (digits-number bits))

digits-zero : (n : ℕ) → digits n 0 ≡ replicate n false
unfolding digits
digits-zero zero = refl
digits-zero (suc n) = rw (zero-div (2 ^ n)) (ap (λ (x : Bits). false ∷ x) (digits-zero n))

-- eight bits in one byte
eight-bits : (bits : Bits) → length bits ≡ 8 → digits 8 (number bits) ≡ bits
eight-bits bits long = rw long at (digits-number bits)

-- at most eight bits, and zero-bits up to a byte
short-byte : (bits : Bits) → 0 < length bits → length bits ≤ 8 → take 8 (bits ++ replicate 7 false) ≡ filled bits
unfolding filled
short-byte bits some few =
    let left = 8 - length bits in
    let rest : length bits + left ≡ 8 = omega arith in
    let zeros : to_byte (length bits) ≡ left = omega arith in
    ap (λ n. take n (bits ++ replicate 7 false)) (sym rest)
    ∙ (take-append-add bits (replicate 7 false) left ∙ ap (λ (x : Bits). bits ++ x) (take-replicate left 7 false (omega arith)
    ∙ (sym (digits-zero left) ∙ ap (λ n. digits n 0) (sym zeros))))

-- eight bits, and the others
long-byte : (bits : Bits) → 8 ≤ length bits → take 8 (bits ++ replicate 7 false) ++ filled (drop 8 bits) ≡ filled bits
unfolding filled
long-byte bits many =
    let same : to_byte (length (drop 8 bits)) ≡ to_byte (length bits) = omega (arith, length-drop 8 bits) in
    rw (take-append-le 8 bits (replicate 7 false) many, same, ← append_assoc (take 8 bits) (drop 8 bits) (digits (to_byte (length bits)) 0), take-append-drop 8 bits) refl

whole-byte : (bits : Bits) → 0 < length bits → length (take 8 (bits ++ replicate 7 false)) ≡ 8
whole-byte bits some = length-take-le 8 (bits ++ replicate 7 false) (omega (arith, length-append bits (replicate 7 false)))

none-filled : filled [] ≡ []
unfolding filled digits
none-filled = refl

upto-bits : (n : ℕ) (bits : Bits) → length bits ≤ n → bits_of (bytes_upto n bits) ≡ filled bits
unfolding bits_of
upto-bits zero [] h = sym none-filled
upto-bits zero (b ∷ bits) h = elim h [ ]
upto-bits (suc n) [] h = sym none-filled
upto-bits (suc n) (b ∷ bits) h =
    let first = eight-bits (take 8 (b ∷ bits ++ replicate 7 false)) (whole-byte (b ∷ bits) (omega arith)) in
    let more = upto-bits n (drop 7 bits) (omega (arith, h, length-drop 7 bits)) in
    elim (cases_lt (length bits) 7) [
      | inl few ↦
          let no_more : bits_of (bytes_upto n (drop 7 bits)) ≡ [] = more ∙ (ap filled (drop_of_length-le bits {i = 7} (omega (arith, few))) ∙ none-filled) in
          rw (first, no_more, append-nil (take 8 (b ∷ bits ++ replicate 7 false))) (short-byte (b ∷ bits) (omega arith) (omega (arith, few)))
      | inr many ↦ rw (first, more) (long-byte (b ∷ bits) (omega (arith, many)))
    ]

-- the bits of the bytes are the bits, filled to a byte
pub bits-of_as_bytes : (bits : Bits) → bits_of (as_bytes bits) ≡ filled bits
unfolding as_bytes
bits-of_as_bytes bits = upto-bits (length bits) bits (omega arith)

-- so many bytes
pub length-as_bytes : (bits : Bits) → 8 * length (as_bytes bits) ≡ length bits + to_byte (length bits)
unfolding filled
length-as_bytes bits =
    sym (length_bits_of (as_bytes bits)) ∙ (ap length (bits-of_as_bytes bits)
    ∙ (length-append bits (digits (to_byte (length bits)) 0) ∙ ap (λ n. length bits + n) (length_digits (to_byte (length bits)) 0)))

-- ---- places

running-at : (f : List ℕ → ℕ) (at d : ℕ) (docs : List (List ℕ)) → d ≤ length docs → get_or (running at (map f docs)) d 0 ≡ at + sum_by f (take d docs)
running-at f at zero [] h = omega arith
running-at f at (suc d) [] h = elim h [ ]
running-at f at zero (doc ∷ docs) h = omega arith
running-at f at (suc d) (doc ∷ docs) h = running-at f (at + f doc) d docs (omega (arith, h)) ∙ omega (arith, sum_by-cons f doc (take d docs))

running-long : (f : List ℕ → ℕ) (at : ℕ) (docs : List (List ℕ)) → length (running at (map f docs)) ≡ length docs + 1
running-long f at [] = refl
running-long f at (doc ∷ docs) = omega (arith, running-long f (at + f doc) docs)

pub places-at : (code : TextCode) (collection : List ℕ) (d : ℕ) → d ≤ length (documents collection) → get_or (places code collection) d 0 ≡ place_after code collection d
places-at code collection d h = running-at (coded_size code) 0 d (documents collection) h ∙ zero-add (place_after code collection d)

pub places-long : (code : TextCode) (collection : List ℕ) → length (places code collection) ≡ length (documents collection) + 1
places-long code collection = running-long (coded_size code) 0 (documents collection)

-- what stands in the text behind the first d documents
text-from : (f : List ℕ → List ℕ) (d : ℕ) (docs : List (List ℕ)) → drop (sum_by (λ doc. length (f doc)) (take d docs)) (flat_map f docs) ≡ flat_map f (drop d docs)
text-from f zero [] = refl
text-from f zero (doc ∷ docs) = refl
text-from f (suc d) [] = refl
text-from f (suc d) (doc ∷ docs) =
    rw (sum_by-cons (λ x. length (f x)) doc (take d docs), drop-append-add (f doc) (flat_map f docs) (sum_by (λ x. length (f x)) (take d docs))) (text-from f d docs)

next-doc : (f : List ℕ → List ℕ) (d : ℕ) (docs : List (List ℕ)) → d < length docs → flat_map f (drop d docs) ≡ f (get_or docs d []) ++ flat_map f (drop (suc d) docs)
next-doc f d [] h = elim h [ ]
next-doc f zero (doc ∷ docs) h = refl
next-doc f (suc d) (doc ∷ docs) h = next-doc f d docs (omega (arith, h))

-- a document's bytes stand in the text from its place on
pub text-at : (code : TextCode) (collection : List ℕ) (d : ℕ) → d < length (documents collection) →
    take (coded_size code (get_or (documents collection) d [])) (drop (place_after code collection d) (text_part code collection))
    ≡ as_bytes (coded_doc code (get_or (documents collection) d []))
text-at code collection d h =
    let docs = documents collection in
    let f : List ℕ → List ℕ = λ doc. as_bytes (coded_doc code doc) in
    ap (take (length (f (get_or docs d [])))) (text-from f d docs ∙ next-doc f d docs h) ∙ take-append_seam (f (get_or docs d [])) (flat_map f (drop (suc d) docs))

-- the last place is the size of the text
pub text-long : (code : TextCode) (collection : List ℕ) → length (text_part code collection) ≡ place_after code collection (length (documents collection))
text-long code collection =
    length-flat_map (λ doc. as_bytes (coded_doc code doc)) (documents collection) ∙ ap (sum_by (coded_size code)) (sym (take-length (documents collection)))
