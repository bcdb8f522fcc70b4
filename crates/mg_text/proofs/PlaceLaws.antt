-- A place in the bytes that a page feed filled in.
use Rattle.std.proofs.Common.{arith, ◌≡◌, ◌+◌, ◌*◌, ◌^◌, ◌≤◌, ◌<◌, ℕ, Bool, true, false, List, [], ◌++◌, length, take, drop, min, Option, Some, None, refl, sym, ◌∙◌, ap, append-nil, length-take}
use Rattle.std.proofs.lemmas.Grind.{common_steps}
use Rattle.mg_dev.specs.Files.{Files, Reads}
use Rattle.mg_bits.specs.Feed.{ReadPart, of_store, to_read}
use Rattle.mg_bits.specs.Pages.{Fits, IsFilled, Looked, Paging, SameFile, feeding_of}
use Rattle.mg_defs.specs.Numbers.{four, eight, four_at, eight_at}
use Rattle.mg_defs.proofs.NumberLaws.{four_back, eight_back}
use Rattle.mg_text.specs.Places.{NumberStands, ReadsPlace, number_in, slot_at}

-- four bytes at a multiple of four lie on one page
four_read : (held : Option ℕ) (index : ℕ) → to_read 4096 held (8 * (4 * index)) (8 * (4 * index + 4)) ≤ 1
four_read None index = grind (arith, common_steps)
four_read (Some page) index = grind (arith, common_steps)

-- eight bytes at a multiple of eight lie on one page
eight_read : (held : Option ℕ) (index : ℕ) → to_read 4096 held (8 * (8 * index)) (8 * (8 * index + 8)) ≤ 1
eight_read None index = grind (arith, common_steps)
eight_read (Some page) index = grind (arith, common_steps)

module _ {claim : Type 0} {caused : ℕ → ℕ → Type 0} {old new : Paging} {f g : Option Files} {r s : Reads} {m n : ℕ} (fits : Fits new g) (file : SameFile old new)
    (looked : Looked old.part f g r s m n) (cause : caused m n) (told : claim) where
  -- a place of four bytes was looked for
  pub read_four : (index : ℕ) → ReadPart (feeding_of 4096 old) (feeding_of 4096 new) (of_store f m r) (of_store g n s) (8 * (4 * index)) (8 * (4 * index + 4)) →
      ReadsPlace claim caused old new f g r s m n
  read_four index read = record { fits = fits; file = file; looked = looked; page = omega (arith, read.pages.device old.part refl, four_read old.held index); told = told; cause = cause }

  -- a place of eight bytes was looked for
  pub read_eight : (index : ℕ) → ReadPart (feeding_of 4096 old) (feeding_of 4096 new) (of_store f m r) (of_store g n s) (8 * (8 * index)) (8 * (8 * index + 8)) →
      ReadsPlace claim caused old new f g r s m n
  read_eight index read = record { fits = fits; file = file; looked = looked; page = omega (arith, read.pages.device old.part refl, eight_read old.held index); told = told; cause = cause }

four_long : (n : ℕ) → length (four n) ≡ 4
unfolding four
four_long n = refl

eight_long : (n : ℕ) → length (eight n) ≡ 8
unfolding eight
eight_long n = refl

pub filled_four : (whole : Bool) (buf bytes : List ℕ) (at place n m p : ℕ) → whole ≡ true → IsFilled whole buf at bytes → length buf ≡ 4 → at ≡ place →
    p < 2 ^ 32 → take 4 (drop place bytes) ≡ four p → n ≡ four_at buf 0 → m ≡ n → m ≡ p
filled_four false buf bytes at place n m p is filled long here small stands told same = absurd cc
filled_four true buf bytes at place n m p is filled long here small stands told same =
    let e : buf ≡ four p ++ [] = filled ∙ ap (λ k. take k (drop at bytes)) long ∙ ap (λ q. take 4 (drop q bytes)) here ∙ stands ∙ sym (append-nil (four p)) in
    same ∙ told ∙ ap (λ b. four_at b 0) e ∙ four_back p small []

pub filled_eight : (whole : Bool) (buf bytes : List ℕ) (at place n p : ℕ) → whole ≡ true → IsFilled whole buf at bytes → length buf ≡ 8 → at ≡ place →
    p < 2 ^ 64 → take 8 (drop place bytes) ≡ eight p → n ≡ eight_at buf 0 → n ≡ p
filled_eight false buf bytes at place n p is filled long here small stands told = absurd cc
filled_eight true buf bytes at place n p is filled long here small stands told =
    let e : buf ≡ eight p ++ [] = filled ∙ ap (λ k. take k (drop at bytes)) long ∙ ap (λ q. take 8 (drop q bytes)) here ∙ stands ∙ sym (append-nil (eight p)) in
    told ∙ ap (λ b. eight_at b 0) e ∙ eight_back p small []

too_short : (whole : Bool) (buf bytes some : List ℕ) (at place n : ℕ) → whole ≡ false → IsFilled whole buf at bytes → length buf ≡ n → at ≡ place →
    take n (drop place bytes) ≡ some → length some ≡ n → ⊥
too_short true buf bytes some at place n is filled long here stands size = absurd cc
too_short false buf bytes some at place n is filled long here stands size =
    let e : min n (length (drop place bytes)) ≡ n = sym (length-take n (drop place bytes)) ∙ ap length stands ∙ size in
    omega (arith, e, filled, long, ap (λ q. length (drop q bytes)) here)

pub unfilled_four : (whole : Bool) (buf bytes : List ℕ) (at place p : ℕ) → whole ≡ false → IsFilled whole buf at bytes → length buf ≡ 4 → at ≡ place → take 4 (drop place bytes) ≡ four p → ⊥
unfilled_four whole buf bytes at place p is filled long here stands = too_short whole buf bytes (four p) at place 4 is filled long here stands (four_long p)

pub unfilled_eight : (whole : Bool) (buf bytes : List ℕ) (at place p : ℕ) → whole ≡ false → IsFilled whole buf at bytes → length buf ≡ 8 → at ≡ place → take 8 (drop place bytes) ≡ eight p → ⊥
unfilled_eight whole buf bytes at place p is filled long here stands = too_short whole buf bytes (eight p) at place 8 is filled long here stands (eight_long p)

-- what was read is the number that stands there
number_stands : (width : ℕ) (whole : Bool) (buf bytes : List ℕ) (at index : ℕ) {n : ℕ} → whole ≡ true → IsFilled whole buf at bytes → length buf ≡ width → at ≡ width * index →
    n ≡ number_in width buf → NumberStands width index n bytes
number_stands width false buf bytes at index is filled long here told = absurd cc
number_stands width true buf bytes at index {n} is filled long here told =
    let same : slot_at width index bytes ≡ buf = sym (filled ∙ ap (λ k. take k (drop at bytes)) long ∙ ap (λ q. take width (drop q bytes)) here) in
    record { whole = ap length same ∙ long; number_is = told ∙ ap (number_in width) (sym same) }

pub four_stands : (whole : Bool) (buf bytes : List ℕ) (at index : ℕ) {n : ℕ} → whole ≡ true → IsFilled whole buf at bytes → length buf ≡ 4 → at ≡ 4 * index →
    n ≡ four_at buf 0 → NumberStands 4 index n bytes
four_stands whole buf bytes at index is filled long here told = number_stands 4 whole buf bytes at index is filled long here told

pub eight_stands : (whole : Bool) (buf bytes : List ℕ) (at index : ℕ) {n : ℕ} → whole ≡ true → IsFilled whole buf at bytes → length buf ≡ 8 → at ≡ 8 * index →
    n ≡ eight_at buf 0 → NumberStands 8 index n bytes
eight_stands whole buf bytes at index is filled long here told = number_stands 8 whole buf bytes at index is filled long here told
