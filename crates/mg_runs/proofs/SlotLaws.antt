-- A slot that is filled, among others.
use Rattle.std.proofs.Common.{◌≡◌, ℕ, zero, suc, ◌+◌, ◌*◌, ◌<◌, ◌≤◌, List, [], length, sym, ap, ◌∙◌, subst, arith, take, drop, set, get_or, length-set, inl, inr}
use Rattle.std.specs.Simd.{first_chunks}
use Rattle.std.specs.declared.option.Option.{Option}
use Rattle.std.proofs.lemmas.Bool.{cases_eq, cases_lt}
use Rattle.std.proofs.lemmas.List.{drop-drop, drop-take, ext_get_or, get_or-set_other, get_or-set_same}
use Rattle.std.proofs.Math.Nat.{mul-le-mul_right}
use Rattle.std.proofs.lemmas.Slice.{take-put_mid_below, drop-put_mid}
use borrow.Rule.Slice.PartMut.{put_mid}
use Rattle.mg_dev.specs.declared.part.Part.{Part}
use Rattle.mg_dev.specs.Files.{Files, Reads, OneRead}
use Rattle.mg_dev.specs.Laws.{with_read-other, with_read-later}
use Rattle.mg_bits.specs.Pages.{Looked}
use Rattle.mg_runs.proofs.Chunks.{here-put, length-chunks}

pub looked_once : (part : Part) (f g : Option Files) (r s : Reads) (m n : ℕ) → g ≡ f → m ≤ n → OneRead r s part → Looked part f g r s m n
looked_once part f g r s m n files faults one = record {
  files = files;
  faults = faults;
  later = λ p. subst (λ k. r p ≤ k) (sym (one p)) (with_read-later r part p);
  others = λ p apart. one p ∙ with_read-other r part p apart;
}

-- one of the chunks
pub chunk_at : (n count k : ℕ) (xs : List ℕ) → k < count → get_or (first_chunks n count xs) k [] ≡ take n (drop (k * n) xs)
chunk_at n zero k xs h = absurd (omega arith)
chunk_at n (suc count) zero xs h = let z : 0 ≡ zero * n = omega arith in ap (λ m. take n (drop m xs)) z
chunk_at n (suc count) (suc k) xs h =
    let e : n + k * n ≡ suc k * n = omega arith in
    chunk_at n count k (drop n xs) (omega arith) ∙ ap (λ t. take n t) (drop-drop (k * n) n xs ∙ ap (λ m. drop m xs) e)

-- lists of chunks that differ in one place
chunks_put : (n count k : ℕ) (xs ys : List ℕ) → k < count →
    ((j : ℕ) → j < count → (j ≡ k → ⊥) → get_or (first_chunks n count ys) j [] ≡ get_or (first_chunks n count xs) j []) →
    first_chunks n count ys ≡ set (first_chunks n count xs) k (get_or (first_chunks n count ys) k [])
chunks_put n count k xs ys h same =
    let us : List (List ℕ) = first_chunks n count xs in
    let vs : List (List ℕ) = first_chunks n count ys in
    let size = length-chunks n count xs in
    let next = length-chunks n count ys in
    ext_get_or [] vs (set us k (get_or vs k [])) (next ∙ sym (length-set us k (get_or vs k []) ∙ size))
    (λ j low. elim (cases_eq j k) [
      | inl here ↦ ap (λ i. get_or vs i []) here ∙ sym (ap (λ i. get_or (set us k (get_or vs k [])) i []) here ∙ get_or-set_same us k (get_or vs k []) [] (omega arith))
      | inr other ↦ same j (omega arith) other ∙ sym (get_or-set_other us k j (get_or vs k []) [] other)
    ])

front-put : (n m a k : ℕ) (xs ys : List ℕ) → m + n ≤ a → a + k ≤ length xs → length ys ≡ k → take (m + n) (put_mid a k xs ys) ≡ take (m + n) xs
front-put n m a k xs ys below h w = take-put_mid_below a k xs ys (m + n) below (omega arith)

-- a chunk before or behind the part that was put
chunk_other : (n a k j : ℕ) (xs ys : List ℕ) → a ≡ k * n → a + n ≤ length xs → length ys ≡ n → (j ≡ k → ⊥) → take n (drop (j * n) (put_mid a n xs ys)) ≡ take n (drop (j * n) xs)
chunk_other n a k j xs ys at room whole other = elim (cases_lt j k) [
  | inl before ↦
      let le : suc j ≤ k = omega arith in
      let m : suc j * n ≤ k * n = mul-le-mul_right n le in
      let next : suc j * n ≡ j * n + n = omega arith in
      sym (drop-take (j * n) n (put_mid a n xs ys)) ∙ ap (λ t. drop (j * n) t) (front-put n (j * n) a n xs ys (omega arith) room whole) ∙ drop-take (j * n) n xs
  | inr ge ↦
      let le : suc k ≤ j = after j k ge other in
      let m : suc k * n ≤ j * n = mul-le-mul_right n le in
      let next : suc k * n ≡ k * n + n = omega arith in
      ap (λ t. take n t) (drop-put_mid a n xs ys (j * n) (omega arith) (omega arith) whole)
]
  where
    after : (j k : ℕ) → k ≤ j → (j ≡ k → ⊥) → suc k ≤ j
    after j k h e = omega arith

pub slots_put : (n a size count k : ℕ) (xs ys : List ℕ) → a ≡ n * k → size ≡ n → a + n ≤ length xs → length ys ≡ n → k < count →
    first_chunks n count (put_mid a size xs ys) ≡ set (first_chunks n count xs) k (get_or (first_chunks n count (put_mid a size xs ys)) k [])
slots_put n a size count k xs ys at is room whole h =
    let swap : a ≡ k * n = omega arith in
    chunks_put n count k xs (put_mid a size xs ys) h
    (λ j low other. chunk_at n count j (put_mid a size xs ys) low ∙ ap (λ z. take n (drop (j * n) (put_mid a z xs ys))) is
    ∙ chunk_other n a k j xs ys swap room whole other ∙ sym (chunk_at n count j xs low))

pub slot_put : (n a size count k : ℕ) (xs ys : List ℕ) → a ≡ n * k → size ≡ n → a + n ≤ length xs → length ys ≡ n → k < count → get_or (first_chunks n count (put_mid a size xs ys)) k [] ≡ ys
slot_put n a size count k xs ys at is room whole h =
    let swap : k * n ≡ a = omega arith in
    chunk_at n count k (put_mid a size xs ys) h ∙ ap (λ z. take n (drop (k * n) (put_mid a z xs ys))) is ∙ here-put a (k * n) n xs ys swap room whole

pub slot_is : (n a size count k : ℕ) (xs : List ℕ) → a ≡ n * k → size ≡ n → k < count → take size (drop a xs) ≡ get_or (first_chunks n count xs) k []
slot_is n a size count k xs at is h =
    let swap : a ≡ k * n = omega arith in
    ap (λ z. take z (drop a xs)) is ∙ ap (λ m. take n (drop m xs)) swap ∙ sym (chunk_at n count k xs h)
