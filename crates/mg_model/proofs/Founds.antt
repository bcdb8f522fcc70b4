-- Symbols that were found, and the keys beside them.
use Rattle.std.proofs.Common.{◌≡◌, ℕ, zero, suc, ◌<◌, ◌∷◌, ◌⊎◌, inl, inr, get_or, List, [], All, Some, length, slice_index, replicate, position, sym, ap, subst, ◌∙◌, arith, ◌-◌}
use Rattle.std.specs.Str.{bytes_eq}
use Rattle.std.proofs.Math.Seq.{take-append_seam}
use Rattle.std.proofs.lemmas.List.Elements.{All-from_get_or}
use Rattle.std.specs.List.{AllByRecursion}
use Rattle.mg_model.specs.Blocks.{short_piece}
use Rattle.mg_model.specs.Found.{IsFound}
use Rattle.mg_model.specs.Keys.{filled, short_key}
use Rattle.mg_model.specs.declared.found_symbols.KeptSymbol.{KeptSymbol}

-- the key of no piece keeps whatever symbol
none-found : (pieces : List (List ℕ)) (key : List ℕ) (symbol : ℕ) → key ≡ filled 255 [] → IsFound pieces key symbol
none-found pieces key symbol is piece short same =
    let first : 255 ≡ length piece = ap (λ k. slice_index k 0) (sym is ∙ same) in
    absurd (omega (arith, first, short))

-- a list of clones has one element
clone-at : (none : KeptSymbol) (same : KeptSymbol → Type 0) → ((y : KeptSymbol) → same y → y ≡ none) → (items : List KeptSymbol) →
    AllByRecursion (λ y. (y ≡ none) ⊎ same y) items → (i : ℕ) → i < length items → get_or items i none ≡ none
clone-at none same equal [] all i low = absurd (omega arith)
clone-at none same equal (k ∷ ks) all zero low = elim all.0 [
  | inl is ↦ is
  | inr is ↦ equal k is
]
clone-at none same equal (k ∷ ks) all (suc i) low = clone-at none same equal ks all.1 i (omega arith)

pub each-none : {none : KeptSymbol} {same : KeptSymbol → Type 0} → (items : List KeptSymbol) → AllByRecursion (λ y. (y ≡ none) ⊎ same y) items →
    ((y : KeptSymbol) → same y → y ≡ none) → none.key.entry ≡ filled 255 [] → (pieces : List (List ℕ)) →
    All (λ (kept : KeptSymbol). IsFound pieces kept.key.entry kept.symbol) items
each-none {none} {same} items all equal is pieces =
    All-from_get_or (λ (kept : KeptSymbol). IsFound pieces kept.key.entry kept.symbol) items none (λ i low.
    subst (λ (kept : KeptSymbol). IsFound pieces kept.key.entry kept.symbol) (sym (clone-at none same equal items all i low))
    (none-found pieces none.key.entry none.symbol is))

-- pieces of one key are the same
short-same : (piece other : List ℕ) → short_key piece ≡ short_key other → piece ≡ other
short-same piece other same =
    sym (take-append_seam piece (replicate (15 - length piece) 0)) ∙ ap short_piece same ∙ take-append_seam other (replicate (15 - length other) 0)

-- the symbol of a piece is found of its key
pub found-here : (pieces : List (List ℕ)) (piece key : List ℕ) (symbol : ℕ) → key ≡ short_key piece → Some symbol ≡ position (bytes_eq piece) pieces → IsFound pieces key symbol
found-here pieces piece key symbol is there other short same =
    subst (λ p. position (bytes_eq p) pieces ≡ Some symbol) (short-same piece other (sym is ∙ same)) (sym there)
