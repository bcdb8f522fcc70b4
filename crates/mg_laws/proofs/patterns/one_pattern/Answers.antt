use Rattle.mg_laws.proofs.PatternLines as laws
use Rattle.mg_laws.proofs.patterns.one_pattern.Goals as goal

pub returns-clause-is : goal.returns-clause-is
returns-clause-is c = laws.line_means

pub returns-clause-only : goal.returns-clause-only
returns-clause-only c = laws.one_line_meaning
