use Rattle.mg_laws.proofs.PlainLaws as laws
use Rattle.mg_laws.proofs.lines.plain_is_heard.Goals as goal

pub returns-clause-line : goal.returns-clause-line
returns-clause-line c = laws.plain_line

pub returns-clause-session : goal.returns-clause-session
returns-clause-session c = laws.plain_heard

pub returns-clause-questions : goal.returns-clause-questions
returns-clause-questions c = laws.questions_heard
