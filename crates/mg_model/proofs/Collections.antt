-- Symbols both ways, and words with no term.
use Rattle.std.proofs.Common.{arith, ◌≡◌, ◌<◌, ◌+◌, ◌↔◌, ℕ, Bool, true, false, not, List, [], ◌∷◌, length, refl, sym, ◌∙◌, ap, Some, None, slice_get, position, zero, suc, cond, ltb}
use Rattle.std.specs.List.{list_any, position_or_len}
use Rattle.std.specs.List.Sorted.{IsStrictlySortedBy}
use Rattle.std.specs.Ordering.{nat_cmp}
use Rattle.std.specs.Cmp.Lexicographic.{slice_cmp}
use Rattle.std.specs.Str.{bytes_eq}
use Rattle.std.proofs.lemmas.Bool.Decides.{nat_tests}
use Rattle.mg_defs.specs.Sorted.{number_of}
use Rattle.mg_defs.proofs.SortedLaws.{same-is, number-at}
use Rattle.mg_defs.specs.Marks.{term_in}
use Rattle.mg_model.proofs.Seeking.{there-or}

abbrev has : List (List ℕ) → List ℕ → Bool
has strings s = list_any (bytes_eq s) strings

-- ---- symbols

pub there-within : {X : Type 0} (xs : List X) (i : ℕ) (x : X) → slice_get xs i ≡ Some x → i < length xs
there-within [] i x h = absurd cc
there-within (y ∷ ys) zero x h = omega arith
there-within (y ∷ ys) (suc i) x h = omega (arith, there-within ys i x h)

under : (m n : ℕ) → m < n → ltb m n ≡ true
under m n h = grind (arith, nat_tests)

pub symbol-is : (pieces : List (List ℕ)) (symbol : ℕ) (piece : List ℕ) → IsStrictlySortedBy (slice_cmp nat_cmp) pieces → slice_get pieces symbol ≡ Some piece →
    position (bytes_eq piece) pieces ≡ Some symbol
symbol-is pieces symbol piece rising there =
    let within = there-within pieces symbol piece there in
    let number : number_of pieces piece ≡ symbol = ap (number_of pieces) (sym (there-or pieces symbol piece [] there)) ∙ number-at pieces symbol [] rising within in
    ap (λ n. cond (ltb n (length pieces)) (Some n) None) number ∙ ap (λ b. cond b (Some symbol) None) (under symbol (length pieces) within)

found : (b : Bool) (n symbol : ℕ) → cond b (Some n) None ≡ Some symbol → (b ≡ true) × (n ≡ symbol)
found true n symbol h = (refl, cc)
found false n symbol h = absurd cc

pub number-is : (pieces : List (List ℕ)) (symbol : ℕ) (piece : List ℕ) → position (bytes_eq piece) pieces ≡ Some symbol → number_of pieces piece ≡ symbol
number-is pieces symbol piece h = (found (ltb (position_or_len (bytes_eq piece) pieces) (length pieces)) (position_or_len (bytes_eq piece) pieces) symbol h).1

has-place : (pieces : List (List ℕ)) (piece : List ℕ) → position_or_len (bytes_eq piece) pieces < length pieces → slice_get pieces (position_or_len (bytes_eq piece) pieces) ≡ Some piece
has-place [] piece h = absurd (omega arith)
has-place (p ∷ pieces) piece h = by (bytes_eq piece p) refl (has-place pieces piece)
  where
    by : (b : Bool) → bytes_eq piece p ≡ b → (position_or_len (bytes_eq piece) pieces < length pieces →
        slice_get pieces (position_or_len (bytes_eq piece) pieces) ≡ Some piece) → slice_get (p ∷ pieces) (position_or_len (bytes_eq piece) (p ∷ pieces))
        ≡ Some piece
    by true is later =
        let first : position_or_len (bytes_eq piece) (p ∷ pieces) ≡ 0 = ap (λ b. cond (not b) (1 + position_or_len (bytes_eq piece) pieces) 0) is in
        ap (slice_get (p ∷ pieces)) first ∙ ap Some (sym (same-is piece p is))
    by false isnt later =
        let next : position_or_len (bytes_eq piece) (p ∷ pieces) ≡ 1 + position_or_len (bytes_eq piece) pieces = ap (λ b. cond (not b) (1 + position_or_len (bytes_eq piece) pieces) 0) isnt in
        let place : position_or_len (bytes_eq piece) (p ∷ pieces) ≡ suc (position_or_len (bytes_eq piece) pieces) = next ∙ omega arith in
        ap (slice_get (p ∷ pieces)) place ∙ later (omega (arith, place, h))

below : (m n : ℕ) → ltb m n ≡ true → m < n
below m n h = grind (arith, nat_tests)

pub piece-is : (pieces : List (List ℕ)) (symbol : ℕ) (piece : List ℕ) → position (bytes_eq piece) pieces ≡ Some symbol → slice_get pieces symbol ≡ Some piece
piece-is pieces symbol piece h =
    let f = found (ltb (position_or_len (bytes_eq piece) pieces) (length pieces)) (position_or_len (bytes_eq piece) pieces) symbol h in
    ap (slice_get pieces) (sym f.1) ∙ has-place pieces piece (below (position_or_len (bytes_eq piece) pieces) (length pieces) f.0)

-- ---- the empty word

pub no-term : (terms : List (List ℕ)) (word : List ℕ) → (term_in terms word ≡ None) ↔ (word ≡ [])
no-term terms [] = (λ h. refl, λ h. refl)
no-term terms (b ∷ bytes) = (λ h. absurd cc, λ h. absurd cc)
