-- Damages of lengths: what is found lies outside of what is wanted.
use Rattle.std.proofs.Common.{◌≡◌, ◌≢◌, ℕ, ◌-◌, ◌^◌, ◌<◌, ◌≤◌, List, length, min, subst, arith, inl, inr}
use Rattle.std.proofs.lemmas.Bool.{cases_lt}
use Rattle.mg_canon.specs.Refusals.{IsFirstBad, IsUnfilled, most_bits}

pub outside-length : (lengths : List ℕ) (symbol bits high found : ℕ) → IsFirstBad lengths symbol bits → high ≡ most_bits (length lengths) → found ≡ bits → 1 ≤ found → high < found
outside-length lengths symbol bits high found first e f some =
    elim (cases_lt high found) [
      | inl above ↦ above
      | inr within ↦ absurd (first.bad (subst (λ n. 1 ≤ n) f some, subst (λ n. n ≤ most_bits (length lengths)) f (subst (λ h. found ≤ h) e within)))
    ]

pub outside-sum : (lengths : List ℕ) (sum found : ℕ) → IsUnfilled lengths sum → found ≡ min sum (2 ^ 64 - 1) → 2 ^ 48 ≤ found → 2 ^ 48 < found
outside-sum lengths sum found unfilled e some = let other : sum ≢ 2 ^ 48 = unfilled.other in omega (arith, e, other)
