use Rattle.mg_session.proofs.LineLaws.{session_blocks, session_entries, session_lists}
use Rattle.mg_session.proofs.laws.query_lines_allow.Goals as goal

pub returns-clause-blocks : goal.returns-clause-blocks
returns-clause-blocks c = λ collection given. session_blocks c.query_bound_is_the_lesser.ensures.blocks collection given

pub returns-clause-lists : goal.returns-clause-lists
returns-clause-lists c = λ collection given. session_lists c.query_bound_is_the_lesser.ensures.spans collection given

pub returns-clause-entries : goal.returns-clause-entries
returns-clause-entries c = session_entries
