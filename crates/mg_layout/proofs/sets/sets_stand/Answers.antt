use Rattle.mg_layout.proofs.CallerLemmas.{in_stands, in_stays, none_stays, same_parts, stands_stay}
use Rattle.mg_layout.proofs.sets.sets_stand.Goals as goal

pub returns-clause-built : goal.returns-clause-built
returns-clause-built c = in_stands

pub returns-clause-parts : goal.returns-clause-parts
returns-clause-parts c = same_parts

pub returns-clause-stays : goal.returns-clause-stays
returns-clause-stays c = stands_stay

pub returns-clause-stays_in : goal.returns-clause-stays_in
returns-clause-stays_in c = in_stays

pub returns-clause-none : goal.returns-clause-none
returns-clause-none c = none_stays
