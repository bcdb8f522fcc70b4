use Rattle.mg_laws.proofs.PatternLaws as laws
use Rattle.mg_laws.proofs.patterns.matches_are_cuts.Goals as goal

pub returns-clause-matches : goal.returns-clause-matches
returns-clause-matches c = laws.cut_matches

pub returns-clause-some : goal.returns-clause-some
returns-clause-some c = laws.match_has_cut

pub returns-clause-only : goal.returns-clause-only
returns-clause-only c = laws.one_cut

pub returns-clause-one : goal.returns-clause-one
returns-clause-one c = laws.one_rotation
