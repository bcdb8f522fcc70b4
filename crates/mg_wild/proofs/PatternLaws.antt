-- Blanks at the end, taken from the end on.
use Rattle.std.proofs.Common.{◌≡◌, ℕ, suc, ◌-◌, ◌<◌, ◌≤◌, true, false, cond, List, [], ◌∷◌, ◌++◌, length, take, drop, get_or, sym, ap, ◌∙◌, arith}
use Rattle.std.specs.List.{prefix_len}
use Rattle.std.proofs.Math.Seq.{take-suc}
use Rattle.mg_defs.specs.Commands.{is_blank}
use Rattle.mg_defs.specs.Patterns.{blanks_before, onto_end, pattern_at, pattern_of, without_end_blanks}

onto-more : (b c : ℕ) (xs ys : List ℕ) → xs ≡ ys ++ c ∷ [] → onto_end b xs ≡ b ∷ xs
onto-more b c xs [] e = ap (onto_end b) e ∙ ap (λ t. b ∷ t) (sym e)
onto-more b c xs (y ∷ ys) e = ap (onto_end b) e ∙ ap (λ t. b ∷ t) (sym e)

pub kept : (xs : List ℕ) (b : ℕ) → is_blank b ≡ false → without_end_blanks (xs ++ b ∷ []) ≡ xs ++ b ∷ []
unfolding without_end_blanks
kept [] b h = ap (λ t. cond t [] (b ∷ [])) h
kept (x ∷ xs) b h = onto-more x b (without_end_blanks (xs ++ b ∷ [])) xs (kept xs b h) ∙ ap (λ t. x ∷ t) (kept xs b h)

pub lost : (xs : List ℕ) (b : ℕ) → is_blank b ≡ true → without_end_blanks (xs ++ b ∷ []) ≡ without_end_blanks xs
unfolding without_end_blanks
lost [] b h = ap (λ t. cond t [] (b ∷ [])) h
lost (x ∷ xs) b h = ap (onto_end x) (lost xs b h)

last-is : (xs : List ℕ) (n : ℕ) → 0 < n → n ≤ length xs → take n xs ≡ take (n - 1) xs ++ get_or xs (n - 1) 0 ∷ []
last-is xs n some within =
    let e : n ≡ suc (n - 1) = omega arith in
    let lt : n - 1 < length xs = omega arith in
    ap (λ k. take k xs) e ∙ take-suc xs (n - 1) 0 lt

pub kept_at : (xs : List ℕ) (n : ℕ) → 0 < n → n ≤ length xs → is_blank (get_or xs (n - 1) 0) ≡ false → without_end_blanks (take n xs) ≡ take n xs
kept_at xs n some within h = ap without_end_blanks (last-is xs n some within) ∙ kept (take (n - 1) xs) (get_or xs (n - 1) 0) h ∙ sym (last-is xs n some within)

pub lost_at : (xs : List ℕ) (n : ℕ) → 0 < n → n ≤ length xs → is_blank (get_or xs (n - 1) 0) ≡ true → without_end_blanks (take (n - 1) xs) ≡ without_end_blanks (take n xs)
lost_at xs n some within h = sym (ap without_end_blanks (last-is xs n some within) ∙ lost (take (n - 1) xs) (get_or xs (n - 1) 0) h)

pub empty_at : (xs : List ℕ) (n : ℕ) → n ≡ 0 → without_end_blanks (take n xs) ≡ take n xs
unfolding without_end_blanks
empty_at xs n e = let none : take n xs ≡ [] = ap (λ k. take k xs) e in ap without_end_blanks none ∙ sym none

-- ---- the bytes between a line's blanks

pub read_at : (line from body : List ℕ) (start n : ℕ) → start ≡ prefix_len is_blank line → from ≡ drop start line → take n from ≡ without_end_blanks from →
    body ≡ take n from → pattern_at start body ≡ pattern_of line
unfolding pattern_of
read_at line from body start n s e t f =
    let rest : from ≡ drop (blanks_before line) line = e ∙ ap (λ k. drop k line) s in
    let between : body ≡ without_end_blanks (drop (blanks_before line) line) = f ∙ t ∙ ap without_end_blanks rest in
    ap (λ k. pattern_at k body) s ∙ ap (pattern_at (blanks_before line)) between
