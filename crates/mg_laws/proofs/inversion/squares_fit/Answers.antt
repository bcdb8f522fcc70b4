use Rattle.mg_laws.proofs.SquareLaws as laws
use Rattle.mg_laws.proofs.inversion.squares_fit.Goals as goal

pub returns-clause-most : goal.returns-clause-most
returns-clause-most c = laws.squares_fit

pub returns-clause-parts : goal.returns-clause-parts
returns-clause-parts c = laws.squares_append
