-- The lexicon that is written anew, and what is compared with it.
use Rattle.std.proofs.Common.{arith, ◌≡◌, ◌+◌, ℕ, zero, suc, true, List, [], ◌∷◌, refl, sym, ap, subst, ◌∙◌, Some, ◌||◌, ◌==◌}
use Rattle.std.specs.Prelude.{codes, slice_get}
use Rattle.std.specs.declared.cmp.Ordering.TheVariants.{Less}
use Rattle.std.specs.Cmp.Lexicographic.{slice_cmp}
use Rattle.std.specs.List.Sorted.{IsStrictlySortedBy}
use Rattle.std.specs.Ordering.{is_lt, nat_cmp}
use Rattle.std.proofs.lemmas.Bool.{or_right}
use Rattle.mg_dev.specs.declared.part.Part.TheVariants.{Lex, LexAt, Post, Skip}
use Rattle.mg_dev.specs.declared.part_err.PartErr.{PartErr}
use Rattle.mg_dev.specs.declared.part_err.PartErr.TheVariants.{Device, Memory, Bad}
use Rattle.mg_dev.specs.Names.{full_name}
use Rattle.mg_defs.specs.Front.{front, is_below, whole_at}
use Rattle.mg_defs.specs.Lexicon.{lex_at_part, lex_part, lexicon}
use Rattle.mg_lex.specs.Terms.{entries_of, terms_of}
use Rattle.mg_check_parts.specs.Refusals.{Refutes}

-- ---- names of what is written anew

pub lex_name : full_name (codes "w") Lex ≡ codes "w.lex"
unfolding full_name
lex_name = refl

pub lex_at_name : full_name (codes "w") LexAt ≡ codes "w.lexat"
unfolding full_name
lex_at_name = refl

pub post_name : full_name (codes "w") Post ≡ codes "w.post"
unfolding full_name
post_name = refl

pub skip_name : full_name (codes "w") Skip ≡ codes "w.skip"
unfolding full_name
skip_name = refl

-- ---- refusals

pub refutes_wider : (P Q : Type 0) (refusal : PartErr) → (Q → P) → Refutes P refusal → Refutes Q refusal
refutes_wider P Q Device wider none = tt
refutes_wider P Q Memory wider none = tt
refutes_wider P Q (Bad bad) wider none = λ q. none (wider q)

-- ---- the lexicon of a collection

pub lex_is : (collection bytes : List ℕ) → entries_of (terms_of collection) ≡ lexicon collection → bytes ≡ front (entries_of (terms_of collection)) → bytes ≡ lex_part collection
lex_is collection bytes entries is = is ∙ ap front entries

pub lex_at_is : (collection bytes : List ℕ) → entries_of (terms_of collection) ≡ lexicon collection → bytes ≡ whole_at (entries_of (terms_of collection)) → bytes ≡ lex_at_part collection
lex_at_is collection bytes entries is = is ∙ ap whole_at entries

-- ---- terms rise

next_above : (terms : List (List ℕ)) (k : ℕ) (a b : List ℕ) → IsStrictlySortedBy (slice_cmp nat_cmp) terms → slice_get terms k ≡ Some a →
    slice_get terms (suc k) ≡ Some b → slice_cmp nat_cmp a b ≡ Less
unfolding IsStrictlySortedBy
next_above [] k a b rising here there = absurd cc
next_above (x ∷ []) zero a b rising here there = absurd cc
next_above (x ∷ y ∷ terms) zero a b rising here there =
    let a_is : x ≡ a = cc in
    let b_is : y ≡ b = cc in
    subst (λ z. slice_cmp nat_cmp a z ≡ Less) b_is (subst (λ z. slice_cmp nat_cmp z y ≡ Less) a_is rising.0.0)
next_above (x ∷ terms) (suc k) a b rising here there = next_above terms k a b rising.1 here there

pub above : (terms : List (List ℕ)) (n count : ℕ) (last t : List ℕ) → IsStrictlySortedBy (slice_cmp nat_cmp) terms → count ≡ n →
    ((k : ℕ) → k + 1 ≡ n → slice_get terms k ≡ Some last) → slice_get terms n ≡ Some t →
    (count == 0 || is_below last t) ≡ true
above terms n count last t rising count_is before here = subst (λ m. (m == 0 || is_below last t) ≡ true) (sym count_is) (by_number n before here)
  where
    by_number : (n : ℕ) → ((k : ℕ) → k + 1 ≡ n → slice_get terms k ≡ Some last) → slice_get terms n ≡ Some t → (n == 0 || is_below last t) ≡ true
    by_number zero before here = refl
    by_number (suc k) before here = let one : k + 1 ≡ suc k = omega arith in or_right (suc k == 0) (is_below last t) (ap is_lt (next_above terms k last t rising (before k one) here))
