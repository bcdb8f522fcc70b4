use Rattle.mg_laws.proofs.SquareLaws as laws
use Rattle.mg_laws.proofs.inversion.squares_weigh.Goals as goal

pub returns : goal.returns
returns c = laws.squares_weigh
