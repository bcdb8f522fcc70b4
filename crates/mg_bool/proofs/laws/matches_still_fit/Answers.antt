use Rattle.mg_bool.proofs.StayLaws.{matches_stay}
use Rattle.mg_bool.proofs.laws.matches_still_fit.Goals as goal

pub returns : goal.returns
returns c = λ base f g m. matches_stay base f g m c.cursor_still_fits.ensures
