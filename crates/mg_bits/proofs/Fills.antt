-- Bytes that are read one after the other into a buffer.
use Rattle.std.proofs.Common.{◌≡◌, ◌+◌, ◌-◌, ◌*◌, ◌/◌, ◌%◌, ◌≤◌, ◌<◌, [], ◌∷◌, ◌++◌, ◌∙◌}
use Rattle.std.proofs.Common.{arith, zero, suc, ℕ, List, length, take, drop, set, Some, None, inl, inr, slice_get, refl, sym, ap, subst, length-take, length-drop}
use Rattle.std.specs.declared.option.Option.{Option}
use Rattle.std.specs.List.{slice_range}
use Rattle.std.proofs.Math.Nat.{div-add-mod}
use Rattle.std.proofs.Math.Seq.{take-add}
use Rattle.std.proofs.lemmas.Slice.{take-put_mid}
use Rattle.std.proofs.lemmas.List.{drop-drop, drop-take, take-take, take_all, take_more, take_more_set}
use borrow.Rule.Slice.PartMut.{put_mid}
use Rattle.std.proofs.lemmas.Option.{slice_get_cases, slice_get_within, get_or_from_slice_get}
use Rattle.mg_bits.specs.Feed.{Feeding, Device, Calm, HoldsBits, Read, ReadPart, ReadsWithin, held_after, page_of}
use Rattle.mg_dev.specs.declared.part.Part.{Part}
use Rattle.mg_dev.specs.Files.{Files, Reads}
use Rattle.mg_bits.specs.Pages.{IsPageIn, Looked, Paging, SameFile}
use Rattle.mg_bits.proofs.EightBytes.{page_from, read_held}
use Rattle.mg_bits.proofs.Places.{slice_get-drop}
use Rattle.mg_bits.proofs.Ranges.{within_piece, held_piece, read_more, part_more, part_wider}

-- one byte more
pub filled_more : (buf bytes : List ℕ) (at i byte : ℕ) → i < length buf → take i buf ≡ take i (drop at bytes) → Some byte ≡ slice_get bytes (at + i) →
    take (i + 1) (set buf i byte) ≡ take (i + 1) (drop at bytes)
filled_more buf bytes at i byte within before is =
    let there : slice_get (drop at bytes) i ≡ Some byte = slice_get-drop at bytes i ∙ sym is in
    let short : i < length (drop at bytes) = slice_get_within (drop at bytes) i byte there in
    take_more_set buf i byte within ∙ ap (λ r. r ++ byte ∷ []) before ∙ ap (λ b. take i (drop at bytes) ++ b ∷ [])
    (sym (get_or_from_slice_get (drop at bytes) i byte byte there)) ∙ sym (take_more (drop at bytes) i byte short)

-- bytes of a page, copied behind the first ones of a buffer
pub page_copied : (size : ℕ) (held : Option ℕ) (items buf piece file : List ℕ) (kept at index from count : ℕ) → 0 < size → held ≡ Some (at / size) →
    index ≡ at % size → IsPageIn size held (take kept items) file →
    kept ≤ size → kept ≤ length items → index + count ≤ kept → from + count ≤ length buf → piece ≡ slice_range items index (index + count) →
    take (from + count) (put_mid from (from + count - from) buf piece) ≡ take from buf ++ take count (drop at file)
page_copied size held items buf piece file kept at index from count some is offset agrees short long within room copied =
    let here : take kept items ≡ take size (drop (size * (at / size)) file) = subst (λ h. IsPageIn size h (take kept items) file) is agrees in
    let below : index ≤ size = omega arith in
    let place : size * (at / size) + index ≡ at = rw offset (div-add-mod at size) in
    let left : index + (kept - index) ≡ kept = omega arith in
    let of_page : drop index (take kept items) ≡ take (kept - index) (drop index items) = ap (λ n. drop index (take n items)) (sym left) ∙ drop-take index (kept - index) items in
    let of_file : drop index (take kept items) ≡ take (size - index) (drop at file) = ap (drop index) here ∙ page_from size (at / size) index at file below place in
    let n : index + count - index ≡ count = omega arith in
    let piece_is : piece ≡ take count (drop at file) =
    copied ∙ ap (λ k. take k (drop index items)) n ∙ sym (take-take count (kept - index) (drop index items) (omega arith)) ∙ ap (take count) (sym of_page ∙ of_file)
    ∙ take-take count (size - index) (drop at file) (omega arith) in
    let size_is : length piece ≡ count = ap length copied ∙ length-take (index + count - index) (drop index items) ∙ omega (arith, length-drop index items) in
    take-put_mid from (from + count - from) buf piece (from + count) (omega arith) (omega arith) ∙ ap (λ l. take from buf ++ l) piece_is

-- what is taken of a list, by its length
take_its : (m : ℕ) (xs : List ℕ) → take m xs ≡ take (length (take m xs)) xs
take_its zero xs = refl
take_its (suc m) [] = refl
take_its (suc m) (x ∷ xs) = ap (λ t. x ∷ t) (take_its m xs)

-- the bytes of a page from an index on
pub page_lent : (size : ℕ) (held : Option ℕ) (items file : List ℕ) (kept at index : ℕ) → 0 < size → held ≡ Some (at / size) → index ≡ at % size →
    IsPageIn size held (take kept items) file → kept ≤ size → index < kept →
    take (kept - index) (drop index items) ≡ take (length (take (kept - index) (drop index items))) (drop at file)
page_lent size held items file kept at index some is offset agrees short within =
    let here : take kept items ≡ take size (drop (size * (at / size)) file) = subst (λ h. IsPageIn size h (take kept items) file) is agrees in
    let place : size * (at / size) + index ≡ at = rw offset (div-add-mod at size) in
    let left : index + (kept - index) ≡ kept = omega arith in
    let of_page : drop index (take kept items) ≡ take (kept - index) (drop index items) = ap (λ n. drop index (take n items)) (sym left) ∙ drop-take index (kept - index) items in
    let of_file : take (kept - index) (drop index items) ≡ take (size - index) (drop at file) =
    sym of_page ∙ ap (drop index) here ∙ page_from size (at / size) index at file (omega arith) place in
    of_file ∙ take_its (size - index) (drop at file) ∙ ap (λ l. take (length l) (drop at file)) (sym of_file)

-- what was copied behind the first bytes
pub filled_on : (old buf bytes : List ℕ) (at i n p q : ℕ) → p ≡ at + i → q ≡ i + n → take q buf ≡ take i old ++ take n (drop p bytes) →
    take i old ≡ take i (drop at bytes) → take q buf ≡ take q (drop at bytes)
filled_on old buf bytes at i n p q here next copied before =
    copied ∙ ap (λ l. l ++ take n (drop p bytes)) before ∙ ap (λ k. take i (drop at bytes) ++ take n (drop k bytes)) here
    ∙ ap (λ l. take i (drop at bytes) ++ take n l) (sym (drop-drop i at bytes)) ∙ sym (take-add i n (drop at bytes)) ∙ ap (λ k. take k (drop at bytes)) (sym next)

-- the pages of a byte are those of its first bit
pub byte_within : (f0 f1 : Feeding) (d0 d1 : Device) (at : ℕ) → ReadsWithin f0 f1 d0 d1 (8 * at) (8 * at + 1) → ReadsWithin f0 f1 d0 d1 (8 * at) (8 * at + 8)
byte_within f0 f1 d0 d1 at within =
    let e : 8 * (8 * at / 8) ≡ 8 * at = omega arith in
    within_piece f0 f1 d0 d1 (8 * at) 8 (omega arith) (omega arith) (rw e within)

-- a byte that was read after those before it
pub byte_read : (f0 f1 f2 : Feeding) (d0 d1 d2 : Device) (at i p q : ℕ) → 0 < f0.page → p ≡ at + i → q ≡ at + (i + 1) → Read f0 f1 d0 d1 (8 * at) (8 * p) →
    Calm f1 f2 d1 d2 → ReadsWithin f1 f2 d1 d2 (8 * p) (8 * p + 1) → f2.held ≡ Some (page_of f1.page (8 * p)) → Read f0 f2 d0 d2 (8 * at) (8 * q)
byte_read f0 f1 f2 d0 d1 d2 at i p q some here next before calm within held =
    let e : 8 * p + 8 ≡ 8 * q = omega arith in
    subst (Read f0 f2 d0 d2 (8 * at)) e
    (read_more f0 f1 f2 d0 d1 d2 (8 * at) (8 * p) (8 * p + 8) some (omega arith) (omega arith) before
    (record { calm = calm; pages = byte_within f1 f2 d1 d2 p within; held = held ∙ sym (held_piece f1.page f1.held (8 * p) 8 (omega arith) (omega arith)) }))

-- bytes that were copied from the page that is held after those before them
pub copied_read : (f0 f1 : Feeding) (d0 d1 : Device) (at i p q n : ℕ) → 0 < f0.page → p ≡ at + i → q ≡ at + (i + n) → Read f0 f1 d0 d1 (8 * at) (8 * p) →
    (0 < n → HoldsBits f1 (8 * p) (8 * n)) → Read f0 f1 d0 d1 (8 * at) (8 * q)
copied_read f0 f1 d0 d1 at i p q zero some here next before holds =
    let e : 8 * p ≡ 8 * q = omega arith in
    subst (Read f0 f1 d0 d1 (8 * at)) e before
copied_read f0 f1 d0 d1 at i p q (suc n) some here next before holds =
    let e : 8 * p + 8 * suc n ≡ 8 * q = omega arith in
    subst (Read f0 f1 d0 d1 (8 * at)) e
    (read_more f0 f1 f1 d0 d1 d1 (8 * at) (8 * p) (8 * p + 8 * suc n) some (omega arith) (omega arith) before
    (read_held f1 d1 (8 * p) (8 * suc n) (omega arith) (holds (omega arith))))

-- a byte that was not read after those before it
pub byte_part : (f0 f1 f2 : Feeding) (d0 d1 d2 : Device) (at i p q n : ℕ) → 0 < f0.page → p ≡ at + i → q ≡ at + n → i < n → Read f0 f1 d0 d1 (8 * at) (8 * p) →
    Calm f1 f2 d1 d2 → ReadsWithin f1 f2 d1 d2 (8 * p) (8 * p + 1) → ReadPart f0 f2 d0 d2 (8 * at) (8 * q)
byte_part f0 f1 f2 d0 d1 d2 at i p q n some here end below before calm within =
    part_wider f0 f2 d0 d2 (8 * at) (8 * p + 8) (8 * q) some (omega arith) (omega arith)
    (part_more f0 f1 f2 d0 d1 d2 (8 * at) (8 * p) (8 * p + 8) some (omega arith) (omega arith) before
    (record { calm = calm; pages = byte_within f1 f2 d1 d2 p within }))

pub looked_twice : (part : Part) (f g h : Option Files) (r s t : Reads) (a b c : ℕ) → Looked part f g r s a b → Looked part g h s t b c → Looked part f h r t a c
looked_twice part f g h r s t a b c one two = record {
  files = two.files ∙ one.files;
  faults = omega (arith, one.faults, two.faults);
  later = λ p. omega (arith, one.later p, two.later p);
  others = λ p apart. two.others p apart ∙ one.others p apart;
}

-- one look at a file after the other
pub same_then : {a b c : Paging} → SameFile a b → SameFile b c → SameFile a c
same_then one two = record { name = two.name ∙ one.name; part = two.part ∙ one.part }

pub looked_then : {part own : Part} {f g h : Option Files} {r s t : Reads} {a b c : ℕ} → own ≡ part → Looked part f g r s a b → Looked own g h s t b c → Looked part f h r t a c
looked_then {part} {own} {f} {g} {h} {r} {s} {t} {a} {b} {c} same one two = looked_twice part f g h r s t a b c one (subst (λ p. Looked p g h s t b c) same two)

-- the bytes end before the buffer is full
pub ends_within : (buf bytes : List ℕ) (at i : ℕ) → i < length buf → None ≡ slice_get bytes (at + i) → length (drop at bytes) < length buf
ends_within buf bytes at i within none = elim ((slice_get_cases bytes (at + i)).1) [
  | inl found ↦ absurd (let there : None ≡ Some found.0 = none ∙ found.2 in cc)
  | inr past ↦ omega (arith, length-drop at bytes, past.0, within)
]

-- the buffer is full
pub whole_buffer : (buf bytes : List ℕ) (at i : ℕ) → i ≡ length buf → take i buf ≡ take i (drop at bytes) → buf ≡ take (length buf) (drop at bytes)
whole_buffer buf bytes at i full same = sym (take_all (length buf) buf (omega arith)) ∙ subst (λ n. take n buf ≡ take n (drop at bytes)) full same

pub whole_part : {f0 f1 : Feeding} {d0 d1 : Device} (at i n : ℕ) → i ≡ n → Read f0 f1 d0 d1 (8 * at) (8 * (at + i)) → ReadPart f0 f1 d0 d1 (8 * at) (8 * (at + n))
whole_part {f0} {f1} {d0} {d1} at i n full read = subst (λ k. ReadPart f0 f1 d0 d1 (8 * at) (8 * (at + k))) full (record { calm = read.calm; pages = read.pages })

pub whole_held : {f0 f1 : Feeding} {d0 d1 : Device} (at i n : ℕ) → i ≡ n → Read f0 f1 d0 d1 (8 * at) (8 * (at + i)) →
    f1.held ≡ held_after f0.page f0.held (8 * at) (8 * (at + n))
whole_held {f0} {f1} at i n full read = subst (λ k. f1.held ≡ held_after f0.page f0.held (8 * at) (8 * (at + k))) full read.held
