-- The front of a block, filled with bytes of a file.
use Rattle.std.proofs.Common.{arith, ◌≡◌, ◌≢◌, ◌<◌, ◌≤◌, ◌∙◌, ℕ, List, length, take, drop, get_or, slice_get, Bool, true, false, Option, None, Some, ap, sym, subst, length-drop, length-take-le}
use Rattle.std.proofs.lemmas.Option.{slice_get-get_or}
use Rattle.std.proofs.lemmas.Slice.{take-put_mid}
use borrow.Rule.Slice.PartMut.{put_mid}
use Rattle.std.specs.Option.{IsSome}
use Rattle.mg_dev.specs.Files.{Files, bytes_at}
use Rattle.mg_bits.specs.Pages.{IsFilled}
use Rattle.mg_build.specs.Sources.{FillsFront, IsFrom}

-- so many bytes stand at its front, or the file ends before
pub front_told : (whole : Bool) (old buf bytes : List ℕ) (count k at : ℕ) → length buf ≡ count → IsFilled whole buf at bytes → FillsFront whole at count bytes (put_mid 0 k old buf)
front_told true old buf bytes count k at long filled =
    take-put_mid 0 k old buf count (omega (arith, long)) (omega arith) ∙ filled ∙ ap (λ n. take n (drop at bytes)) long
front_told false old buf bytes count k at long filled = omega (arith, filled, long, length-drop at bytes)

-- the same, told of the file as it was
pub front_here : (at count : ℕ) (block : List ℕ) (before now : Option Files) (name same : List ℕ) (whole wanted : Bool) → now ≡ before → same ≡ name → whole ≡ wanted →
    (IsSome now → FillsFront whole at count (bytes_at now same) block) → IsSome before → FillsFront wanted at count (bytes_at before name) block
front_here at count block before now name same whole wanted files names is front told =
    subst (λ (n : List ℕ). FillsFront wanted at count (bytes_at before n) block) names
    (subst (λ (f : Option Files). IsSome f → FillsFront wanted at count (bytes_at f same) block) files
    (λ there. subst (λ (w : Bool). FillsFront w at count (bytes_at now same) block) is (front there)) told)

-- its front is that of the file
pub front_is : (count at : ℕ) (bytes block : List ℕ) → count ≤ length block → FillsFront true at count bytes block → IsFrom at bytes (take count block)
front_is count at bytes block room is = is ∙ ap (λ n. take n (drop at bytes)) (sym (length-take-le count block room))

-- a file that has no byte at a place below a size has not this size
pub ends_before : (bytes : List ℕ) (at size : ℕ) → at < size → ◌≡◌ {A = Option ℕ} None (slice_get bytes at) → length bytes ≢ size
ends_before bytes at size below none same = never (none ∙ slice_get-get_or bytes at 0 (omega (arith, below, same)))
  where
    never : ◌≡◌ {A = Option ℕ} None (Some (get_or bytes at 0)) → ⊥
    never bad = cc
