use Rattle.mg_post.proofs.StandLaws as laws
use Rattle.mg_post.proofs.laws.cursor_still_fits.Goals as goal

pub returns : goal.returns
returns c = laws.fits_same
