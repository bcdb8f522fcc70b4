-- A vocabulary's counts and pieces, as a code takes them.
use Rattle.std.proofs.Common.{◌≡◌, ℕ, ◌≤◌, List, [], ◌∷◌, length, refl, sym, subst, arith, All}
use Rattle.std.specs.List.{AllByRecursion}
use Rattle.std.proofs.lemmas.List.Elements.{All-from_recursion}
use Rattle.mg_model.specs.Vocabularies.{IsVocabulary, pieces_of, entry_counts}

numbers-some : (es : List (List ℕ × ℕ)) → AllByRecursion (λ (e : List ℕ × ℕ). 1 ≤ e.1) es → AllByRecursion (λ n. 1 ≤ n) (entry_counts es)
numbers-some [] h = tt
numbers-some (e ∷ es) h = (h.0, numbers-some es h.1)

pub counts-some : (es : List (List ℕ × ℕ)) (counts : List ℕ) → IsVocabulary es → counts ≡ entry_counts es → All (λ n. 1 ≤ n) counts
counts-some es counts is same = subst (All (λ n. 1 ≤ n)) (sym same) (All-from_recursion (λ n. 1 ≤ n) (entry_counts es) (numbers-some es is.counted))

pub pieces-short : (es : List (List ℕ × ℕ)) → AllByRecursion (λ (e : List ℕ × ℕ). length e.0 ≤ 255) es → AllByRecursion (λ (p : List ℕ). length p ≤ 255) (pieces_of es)
pieces-short [] h = tt
pieces-short (e ∷ es) h = (h.0, pieces-short es h.1)

pub columns-long : (es : List (List ℕ × ℕ)) → (length (pieces_of es) ≡ length es) × (length (entry_counts es) ≡ length es)
columns-long [] = (refl, refl)
columns-long (e ∷ es) = let more = columns-long es in (omega (arith, more.0), omega (arith, more.1))
