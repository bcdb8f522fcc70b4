use Rattle.mg_laws.proofs.PatternLaws as laws
use Rattle.mg_laws.proofs.patterns.matches_decides.Goals as goal

pub returns : goal.returns
returns c = laws.matches_decides
