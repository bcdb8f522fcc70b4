-- What holds of bytes that were given, as those of a slice are given behind them.
use Rattle.std.proofs.Common.{arith, ◌≡◌, ◌+◌, ◌-◌, ◌≤◌, ◌<◌, ℕ, List, [], ◌∷◌, ◌++◌, length, take, drop, get_or, sym, ap, subst, ◌∙◌}
use Rattle.std.proofs.Common.{append_assoc, append-nil, length-append, length-drop, length-take-le, take-add}
use Rattle.std.proofs.lemmas.List.{take_all, take_more}

-- what is behind an index
pub rest_is : (bytes : List ℕ) (at : ℕ) → take (length bytes - at) (drop at bytes) ≡ drop at bytes
rest_is bytes at = take_all (length bytes - at) (drop at bytes) (omega (arith, length-drop at bytes))

-- some of it end within the slice
pub rest_within : (bytes : List ℕ) (at count : ℕ) → at ≤ length bytes → count ≤ length (take (length bytes - at) (drop at bytes)) → at + count ≤ length bytes
rest_within bytes at count below within = omega (arith, below, within, ap length (rest_is bytes at), length-drop at bytes)

-- all of them are given
pub all_given : (bytes : List ℕ) (at : ℕ) → length bytes ≤ at → take at bytes ≡ bytes
all_given bytes at over = take_all at bytes over

-- so many were given in all
pub given_length : (fed bytes : List ℕ) (at : ℕ) → at ≤ length bytes → length (fed ++ take at bytes) ≡ length fed + at
given_length fed bytes at below = omega (arith, length-append fed (take at bytes), length-take-le at bytes below)

-- none is given yet
pub given_none : (P : List ℕ → Type 0) (fed : List ℕ) → P fed → P (fed ++ [])
given_none P fed is = subst P (sym (append-nil fed)) is

-- and the next one
pub one_more : (fed bytes : List ℕ) (at : ℕ) → at < length bytes → (fed ++ take at bytes) ++ get_or bytes at 0 ∷ [] ≡ fed ++ take (at + 1) bytes
one_more fed bytes at below =
    append_assoc fed (take at bytes) (get_or bytes at 0 ∷ []) ∙ ap (λ run. fed ++ run) (sym (take_more bytes at 0 below))

module _ (P Q R : List ℕ → Type 0) (bytes : List ℕ) (at : ℕ) (so_far : (fed : List ℕ) → P fed → Q (fed ++ take at bytes)) where
  -- the next ones are given
  pub given_on : (count : ℕ) → ((fed : List ℕ) → Q fed → R (fed ++ take count (take (length bytes - at) (drop at bytes)))) →
      (fed : List ℕ) → P fed → R (fed ++ take (at + count) bytes)
  given_on count next fed is =
      let joined : (fed ++ take at bytes) ++ take count (take (length bytes - at) (drop at bytes)) ≡ fed ++ take (at + count) bytes
      = ap (λ rest. (fed ++ take at bytes) ++ take count rest) (rest_is bytes at) ∙ append_assoc fed (take at bytes) (take count (drop at bytes))
      ∙ ap (λ run. fed ++ run) (sym (take-add at count bytes)) in
      subst R joined (next (fed ++ take at bytes) (so_far fed is))

  -- the next one is given
  pub given_more : at < length bytes → ((fed : List ℕ) → Q fed → R (fed ++ get_or bytes at 0 ∷ [])) → (fed : List ℕ) → P fed → R (fed ++ take (at + 1) bytes)
  given_more below next fed is = subst R (one_more fed bytes at below) (next (fed ++ take at bytes) (so_far fed is))
