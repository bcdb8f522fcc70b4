use Rattle.std.proofs.Common.{◌≡◌, ℕ, ◌<◌, ◌^◌, List, [], ◌∷◌, get_or, ap, ◌∙◌}
use Rattle.mg_defs.specs.Numbers.{four, four_at}
use Rattle.mg_defs.proofs.NumberLaws.{four_back}
use Rattle.mg_model.proofs.block.long_entry.Goals as goal

place_back : (first place : ℕ) (bytes rest : List ℕ) → bytes ≡ four place → place < 2 ^ 32 →
    four_at (first ∷ get_or bytes 0 0 ∷ get_or bytes 1 0 ∷ get_or bytes 2 0 ∷ get_or bytes 3 0 ∷ rest) 1 ≡ place
unfolding four four_at
place_back first place bytes rest e small = ap (λ (b : List ℕ). four_at (first ∷ get_or b 0 0 ∷ get_or b 1 0 ∷ get_or b 2 0 ∷ get_or b 3 0 ∷ rest) 1) e ∙ four_back place small []

pub returns-clause-place : goal.returns-clause-place
returns-clause-place c = place_back c.args.length c.args.place c.four_bytes.result _ c.four_bytes.ensures c.ranges.place.fits
