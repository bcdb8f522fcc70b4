use Rattle.mg_front.proofs.Stays.{fits_stay, gave_stays, stands_stay, took_stays}
use Rattle.mg_front.proofs.laws.fronts_stay.Goals as goal

pub returns-clause-took : goal.returns-clause-took
returns-clause-took c = took_stays

pub returns-clause-gave : goal.returns-clause-gave
returns-clause-gave c = gave_stays

pub returns-clause-fits : goal.returns-clause-fits
returns-clause-fits c = fits_stay

pub returns-clause-stands : goal.returns-clause-stands
returns-clause-stands c = stands_stay
