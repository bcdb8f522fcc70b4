-- Looking at one term after the other.
use Rattle.std.proofs.Common.{◌≡◌, ℕ, suc, ◌+◌, ◌-◌, ◌<◌, ◌≤◌, Bool, true, false, ◌&&◌, cond, List, [], ◌∷◌, ◌++◌, length, take, drop, get_or, nat_le, refl, sym, ap, ◌∙◌, arith, append_assoc, append-nil}
use Rattle.std.specs.Str.{bytes_eq}
use Rattle.std.proofs.lemmas.List.{get_or-drop, length-take-le, take_more}
use Rattle.std.proofs.Math.Seq.{take-length}
use Rattle.mg_defs.specs.Patterns.{Pattern, matches}
use Rattle.mg_defs.specs.Rotations.{matching_numbers}
use Rattle.mg_defs.proofs.SortedLaws.{same-is}
use Rattle.mg_wild.proofs.MatchLaws.{no-numbers, numbers-cons}

-- ---- one term

-- where the last bytes differ, the end does
last-differs : (right t : List ℕ) → 0 < length right → length right ≤ length t → (get_or t (length t - 1) 0 ≡ get_or right (length right - 1) 0 → ⊥) →
    bytes_eq right (drop (length t - length right) t) ≡ false
last-differs right t some within ne = by (bytes_eq right (drop (length t - length right) t)) refl
  where
    by : (b : Bool) → bytes_eq right (drop (length t - length right) t) ≡ b → b ≡ false
    by true e =
        let same = same-is right (drop (length t - length right) t) e in
        let place : (length t - length right) + (length right - 1) ≡ length t - 1 = omega arith in
        absurd (ne (ap (λ n. get_or t n 0) (sym place) ∙ sym (get_or-drop (length t - length right) t (length right - 1) 0) ∙ ap (λ xs. get_or xs (length right - 1) 0) (sym same)))
    by false e = refl

last-false : (b : Bool) → (b && false) ≡ false
last-false true = refl
last-false false = refl

pub no-last : (p : Pattern) (t right : List ℕ) → right ≡ p.right → 0 < length right → length right ≤ length t →
    (get_or t (length t - 1) 0 ≡ get_or right (length right - 1) 0 → ⊥) → false ≡ matches p t
no-last p t right e some within ne =
    let front : Bool = nat_le (length p.left + length p.right) (length t) && bytes_eq p.left (take (length p.left) t) in
    sym (ap (λ xs. front && bytes_eq xs (drop (length t - length xs) t)) (sym e)
    ∙ ap (λ b. front && b) (last-differs right t some within ne)
    ∙ last-false front)

-- ---- a loop over the terms

numbers-push : (p : Pattern) (number : ℕ) (ts : List (List ℕ)) (t : List ℕ) →
    matching_numbers p number (ts ++ t ∷ []) ≡ matching_numbers p number ts ++ cond (matches p t) ((number + length ts) ∷ []) []
numbers-push p number [] t =
    let n : number ≡ number + 0 = omega arith in
    sym (numbers-cons p number t [])
    ∙ ap (λ xs. cond (matches p t) (number ∷ []) [] ++ xs) (no-numbers p (suc number))
    ∙ append-nil (cond (matches p t) (number ∷ []) [])
    ∙ ap (λ k. cond (matches p t) (k ∷ []) []) n
    ∙ ap (λ xs. xs ++ cond (matches p t) ((number + 0) ∷ []) []) (sym (no-numbers p number))
numbers-push p number (u ∷ ts) t =
    let n : suc number + length ts ≡ number + suc (length ts) = omega arith in
    let first = cond (matches p u) (number ∷ []) [] in
    sym (numbers-cons p number u (ts ++ t ∷ []))
    ∙ ap (λ xs. first ++ xs) (numbers-push p (suc number) ts t)
    ∙ sym (append_assoc first (matching_numbers p (suc number) ts) (cond (matches p t) ((suc number + length ts) ∷ []) []))
    ∙ ap (λ k. (first ++ matching_numbers p (suc number) ts) ++ cond (matches p t) (k ∷ []) []) n
    ∙ ap (λ xs. xs ++ cond (matches p t) ((number + suc (length ts)) ∷ []) []) (numbers-cons p number u ts)

-- before the first term
pub looked-none : (p : Pattern) (terms : List (List ℕ)) (numbers : List ℕ) → numbers ≡ [] → numbers ≡ matching_numbers p 0 (take 0 terms)
looked-none p terms numbers e = e ∙ sym (no-numbers p 0)

-- one term more, which matches or not
pub looked-more : (p : Pattern) (terms : List (List ℕ)) (number : ℕ) (t old new : List ℕ) (hit : Bool) → number < length terms → t ≡ get_or terms number [] →
    old ≡ matching_numbers p 0 (take number terms) → hit ≡ matches p t → new ≡ old ++ cond hit (number ∷ []) [] →
    new ≡ matching_numbers p 0 (take (number + 1) terms)
looked-more p terms number t old new hit lt at before is e =
    let long : number ≡ 0 + length (take number terms) = omega (arith, length-take-le number terms (omega arith)) in
    e
    ∙ ap (λ xs. xs ++ cond hit (number ∷ []) []) before
    ∙ ap (λ b. matching_numbers p 0 (take number terms) ++ cond b (number ∷ []) []) (is ∙ ap (matches p) at)
    ∙ ap (λ k. matching_numbers p 0 (take number terms) ++ cond (matches p (get_or terms number [])) (k ∷ []) []) long
    ∙ sym (numbers-push p 0 (take number terms) (get_or terms number []))
    ∙ ap (matching_numbers p 0) (sym (take_more terms number [] lt))

pub hit-pushed : (old new : List ℕ) (number : ℕ) (hit : Bool) → hit ≡ true → new ≡ old ++ number ∷ [] → new ≡ old ++ cond hit (number ∷ []) []
hit-pushed old new number hit h e = e ∙ ap (λ b. old ++ cond b (number ∷ []) []) (sym h)

pub none-pushed : (old new : List ℕ) (number : ℕ) (hit : Bool) → hit ≡ false → new ≡ old → new ≡ old ++ cond hit (number ∷ []) []
none-pushed old new number hit h e = e ∙ sym (append-nil old) ∙ ap (λ b. old ++ cond b (number ∷ []) []) (sym h)

-- behind the last term
pub looked-all : (p : Pattern) (terms : List (List ℕ)) (number : ℕ) (numbers : List ℕ) → number ≡ length terms →
    numbers ≡ matching_numbers p 0 (take number terms) → numbers ≡ matching_numbers p 0 terms
looked-all p terms number numbers e is = is ∙ ap (λ n. matching_numbers p 0 (take n terms)) e ∙ ap (matching_numbers p 0) (take-length terms)
