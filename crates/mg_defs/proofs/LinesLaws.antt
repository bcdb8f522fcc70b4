-- Laws of cutting an input into lines.
use Rattle.std.proofs.Common.{◌≡◌, ◌≢◌, ℕ, List, [], ◌∷◌, ◌++◌, refl}
use Rattle.std.proofs.lemmas.Bool.{ne_eqb}
use Rattle.mg_defs.specs.Lines.{lines, HasNoEnd}

pub lines-closed : (line rest : List ℕ) → HasNoEnd line → lines (line ++ (10 ∷ rest)) ≡ line ∷ lines rest
lines-closed [] rest h = refl
lines-closed (b ∷ line) rest h = rw (ne_eqb b 10 h.0, lines-closed line rest h.1)

pub lines-open : (b : ℕ) (line : List ℕ) → HasNoEnd (b ∷ line) → lines (b ∷ line) ≡ (b ∷ line) ∷ []
lines-open b [] h = rw (ne_eqb b 10 h.0)
lines-open b (c ∷ line) h = rw (ne_eqb b 10 h.0, lines-open c line h.1)

pub HasNoEnd-push : (line : List ℕ) (b : ℕ) → HasNoEnd line → b ≢ 10 → HasNoEnd (line ++ b ∷ [])
HasNoEnd-push [] b h ne = (ne, tt)
HasNoEnd-push (c ∷ line) b h ne = (h.0, HasNoEnd-push line b h.1 ne)
