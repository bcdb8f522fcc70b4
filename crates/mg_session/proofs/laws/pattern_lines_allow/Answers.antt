use Rattle.mg_session.proofs.WildPageLaws.{patterns_in_blocks}
use Rattle.mg_session.proofs.laws.pattern_lines_allow.Goals as goal

pub returns : goal.returns
returns c = patterns_in_blocks
