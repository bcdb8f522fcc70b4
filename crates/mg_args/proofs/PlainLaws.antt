-- Words that are no plain words of a build, by their number.
use Rattle.std.proofs.Common.{◌≡◌, ◌<◌, ◌⊎◌, List, [], ◌∷◌, length, None, refl, arith, inl, inr}
use Rattle.mg_args.specs.Plain.{Word}
use Rattle.mg_args.specs.Tasks.{plain_build}

pub other_words : (words : List Word) → (length words < 2) ⊎ (4 < length words) → None ≡ plain_build words
other_words [] e = refl
other_words (a ∷ []) e = refl
other_words (a ∷ b ∷ []) (inl e) = absurd (omega (arith, e))
other_words (a ∷ b ∷ []) (inr e) = absurd (omega (arith, e))
other_words (a ∷ b ∷ c ∷ []) (inl e) = absurd (omega (arith, e))
other_words (a ∷ b ∷ c ∷ []) (inr e) = absurd (omega (arith, e))
other_words (a ∷ b ∷ c ∷ d ∷ []) (inl e) = absurd (omega (arith, e))
other_words (a ∷ b ∷ c ∷ d ∷ []) (inr e) = absurd (omega (arith, e))
other_words (a ∷ b ∷ c ∷ d ∷ e ∷ rest) many = refl
