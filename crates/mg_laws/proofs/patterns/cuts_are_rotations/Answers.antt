use Rattle.mg_laws.proofs.PatternLaws as laws
use Rattle.mg_laws.proofs.patterns.cuts_are_rotations.Goals as goal

pub returns-clause-begins : goal.returns-clause-begins
returns-clause-begins c = laws.cut_begins

pub returns-clause-cut : goal.returns-clause-cut
returns-clause-cut c = laws.begins_cut
