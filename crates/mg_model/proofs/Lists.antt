-- Lists of any elements.
use Rattle.std.proofs.Common.{◌≡◌, ℕ, zero, suc, ◌+◌, ◌<◌, ◌≤◌, List, [], ◌∷◌, ◌++◌, length, take, get_or, slice_get, Some, refl, sym, ap, subst, ◌∙◌, arith}
use Rattle.std.specs.List.{AllByRecursion}

-- one element more at the front
pub take-there : {X : Type 0} (xs : List X) (i : ℕ) (x : X) → slice_get xs i ≡ Some x → take (i + 1) xs ≡ take i xs ++ x ∷ []
take-there [] i x h = absurd cc
take-there (y ∷ ys) zero x h = let same : y ≡ x = cc in ap (λ z. z ∷ []) same
take-there (y ∷ ys) (suc i) x h =
    let n : suc i + 1 ≡ suc (i + 1) = omega arith in
    ap (λ m. take m (y ∷ ys)) n ∙ ap (λ t. y ∷ t) (take-there ys i x h)

pub take-all : {X : Type 0} (xs : List X) (n : ℕ) → length xs ≤ n → take n xs ≡ xs
take-all [] zero h = refl
take-all [] (suc n) h = refl
take-all (x ∷ xs) zero h = absurd (omega arith)
take-all (x ∷ xs) (suc n) h = ap (λ t. x ∷ t) (take-all xs n (omega arith))

pub there-is : {X : Type 0} (xs : List X) (i : ℕ) (x : X) → i < length xs → x ≡ get_or xs i x → slice_get xs i ≡ Some x
there-is [] i x low h = absurd (omega arith)
there-is (y ∷ ys) zero x low h = ap Some (sym h)
there-is (y ∷ ys) (suc i) x low h = there-is ys i x (omega arith) h

pub all-there : {X : Type 0} (P : X → Type 0) (xs : List X) (i : ℕ) (x : X) → AllByRecursion P xs → slice_get xs i ≡ Some x → P x
all-there P [] i x all h = absurd cc
all-there P (y ∷ ys) zero x all h = let same : y ≡ x = cc in subst P same all.0
all-there P (y ∷ ys) (suc i) x all h = all-there P ys i x all.1 h
