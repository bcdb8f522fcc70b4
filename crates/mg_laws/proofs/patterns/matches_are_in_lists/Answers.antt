use Rattle.mg_laws.proofs.MatchLists as laws
use Rattle.mg_laws.proofs.patterns.matches_are_in_lists.Goals as goal

pub returns : goal.returns
returns c = laws.match_lists
