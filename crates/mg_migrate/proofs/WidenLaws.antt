-- Numbers in four bytes and in eight.
use Rattle.std.proofs.Common.{arith, ◌≡◌, ◌<◌, ◌^◌, ◌+◌, ◌*◌, ◌∙◌, ◌++◌, min, ℕ, zero, suc, Bool, true, false, List, [], ◌∷◌, length, take, drop, get_or, append-nil, append_assoc, length-take, length-append, refl, sym, ap, Err}
use Rattle.std.specs.List.{flat_map}
use Rattle.std.proofs.Math.Seq.{drop-append-add}
use Rattle.std.proofs.lemmas.List.Elements.{All-get_or}
use Rattle.mg_bits.specs.Pages.{IsFilled}
use Rattle.mg_defs.specs.Numbers.{four, four_at}
use Rattle.mg_defs.proofs.NumberLaws.{four_back}
use Rattle.mg_dev.specs.Causes.{Rose}
use Rattle.mg_dev.specs.Faults.{ReadStops, fault_of_part}
use Rattle.mg_dev.specs.PartCauses.{IsCaused}
use Rattle.mg_dev.specs.declared.part.Part.TheVariants.{Places}
use Rattle.mg_dev.specs.declared.part_err.PartErr.{PartErr}
use Rattle.mg_dev.specs.declared.part_err.PartErr.TheVariants.{Bad, Device, Memory}
use Rattle.mg_layout.specs.Sizes.{AnswersSize}
use Rattle.mg_migrate.specs.Copying.{AreNarrow, HasFour}

four_long : (n : ℕ) → length (four n) ≡ 4
unfolding four
four_long n = refl

-- a number in a buffer that was filled
pub filled_number : (whole : Bool) (buf bytes : List ℕ) (at index number n m : ℕ) → whole ≡ true → IsFilled whole buf at bytes → length buf ≡ 4 →
    at ≡ 4 * index → HasFour bytes index number → n ≡ four_at buf 0 → m ≡ n → m ≡ number
filled_number false buf bytes at index number n m is filled long here has told same = absurd cc
filled_number true buf bytes at index number n m is filled long here has told same =
    let e : buf ≡ four number ++ [] = filled ∙ ap (λ k. take k (drop at bytes)) long ∙ ap (λ q. take 4 (drop q bytes)) here ∙ has.here ∙ sym (append-nil (four number)) in
    same ∙ told ∙ ap (λ b. four_at b 0) e ∙ four_back number has.small []

pub unfilled_number : (whole : Bool) (buf bytes : List ℕ) (at index number : ℕ) → whole ≡ false → IsFilled whole buf at bytes → length buf ≡ 4 → at ≡ 4 * index → HasFour bytes index number → ⊥
unfilled_number true buf bytes at index number is filled long here has = absurd cc
unfilled_number false buf bytes at index number is filled long here has =
    let e : min 4 (length (drop (4 * index) bytes)) ≡ 4 = sym (length-take 4 (drop (4 * index) bytes)) ∙ ap length has.here ∙ four_long number in
    omega (arith, e, filled, long, ap (λ q. length (drop q bytes)) here)

-- ---- lists of numbers

first_four : (n : ℕ) (rest : List ℕ) → take 4 (four n ++ rest) ≡ four n
unfolding four
first_four n rest = refl

behind_four : (n k : ℕ) (rest : List ℕ) → drop (4 + k) (four n ++ rest) ≡ drop k rest
behind_four n k rest = ap (λ m. drop (m + k) (four n ++ rest)) (sym (four_long n)) ∙ drop-append-add (four n) rest k

four_here : (numbers : List ℕ) (index : ℕ) → index < length numbers → take 4 (drop (4 * index) (flat_map four numbers)) ≡ four (get_or numbers index 0)
four_here [] index within = absurd (omega (arith, within))
four_here (n ∷ numbers) zero within = first_four n (flat_map four numbers)
four_here (n ∷ numbers) (suc index) within =
    let e : 4 * suc index ≡ 4 + 4 * index = omega arith in
    ap (λ k. take 4 (drop k (four n ++ flat_map four numbers))) e ∙ ap (take 4) (behind_four n (4 * index) (flat_map four numbers)) ∙ four_here numbers index (omega (arith, within))

pub has_four : (numbers bytes : List ℕ) (count index : ℕ) → AreNarrow numbers bytes count → index < count → HasFour bytes index (get_or numbers index 0)
has_four numbers bytes count index are within = record {
  small = All-get_or (λ number. number < 2 ^ 32) numbers index 0 inside are.small;
  here = ap (λ b. take 4 (drop (4 * index) b)) are.bytes_are ∙ four_here numbers index inside;
}
  where
    inside : index < length numbers
    inside = omega (arith, within, are.count_is)

one_behind : (f : ℕ → List ℕ) (numbers : List ℕ) (index : ℕ) → index < length numbers → flat_map f (take index numbers) ++ f (get_or numbers index 0) ≡ flat_map f (take (suc index) numbers)
one_behind f [] index within = absurd (omega (arith, within))
one_behind f (n ∷ numbers) zero within = sym (append-nil (f n))
one_behind f (n ∷ numbers) (suc index) within = append_assoc (f n) (flat_map f (take index numbers)) (f (get_or numbers index 0))
    ∙ ap (λ r. f n ++ r) (one_behind f numbers index (omega (arith, within)))

one_more : (f : ℕ → List ℕ) (numbers : List ℕ) (index : ℕ) → index < length numbers → flat_map f (take index numbers) ++ f (get_or numbers index 0) ≡ flat_map f (take (index + 1) numbers)
one_more f numbers index within = let e : suc index ≡ index + 1 = omega arith in one_behind f numbers index within ∙ ap (λ k. flat_map f (take k numbers)) e

-- a number more was put behind others
pub put_more : (f : ℕ → List ℕ) (before put more numbers : List ℕ) (index : ℕ) → index < length numbers → put ≡ before ++ flat_map f (take index numbers) →
    more ≡ put ++ f (get_or numbers index 0) → more ≡ before ++ flat_map f (take (index + 1) numbers)
put_more f before put more numbers index within so_far is = is ∙ ap (λ x. x ++ f (get_or numbers index 0)) so_far
    ∙ append_assoc before (flat_map f (take index numbers)) (f (get_or numbers index 0)) ∙ ap (λ x. before ++ x) (one_more f numbers index within)

narrow_size : (numbers : List ℕ) → length (flat_map four numbers) ≡ 4 * length numbers
narrow_size [] = refl
narrow_size (n ∷ numbers) = omega (arith, length-append (four n) (flat_map four numbers), four_long n, narrow_size numbers)

pub narrow_long : (numbers bytes : List ℕ) (count : ℕ) → AreNarrow numbers bytes count → length bytes ≡ 4 * count
narrow_long numbers bytes count are = omega (arith, ap length are.bytes_are, narrow_size numbers, are.count_is)

-- ---- why numbers are not widened

pub size_stops : (refusal : PartErr) (a b n count : ℕ) (bytes : List ℕ) (told : Type 0) → n ≡ count → (told → AnswersSize Places (4 * n) bytes (Err refusal)) →
    IsCaused {T = Unit {0}} a b (Err refusal)
    → ReadStops (Rose a b) (told × (numbers : List ℕ) × AreNarrow numbers bytes count) (fault_of_part refusal)
size_stops Device a b n count bytes told same answer caused = caused
size_stops Memory a b n count bytes told same answer caused = tt
size_stops (Bad bad) a b n count bytes told same answer caused = λ is. (answer is.0).0 (narrow_long is.1 bytes count is.2 ∙ ap (λ k. 4 * k) (sym same))
