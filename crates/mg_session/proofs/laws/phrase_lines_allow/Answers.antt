use Rattle.mg_session.proofs.PhraseLineLaws.{phrases_blocks, phrases_entries, phrases_spans, phrases_weights}
use Rattle.mg_session.proofs.laws.phrase_lines_allow.Goals as goal

pub returns-clause-blocks : goal.returns-clause-blocks
returns-clause-blocks c = λ collection given. phrases_blocks c.query_bound_is_the_lesser.ensures.blocks collection given

pub returns-clause-lists : goal.returns-clause-lists
returns-clause-lists c = λ collection given. phrases_spans c.query_bound_is_the_lesser.ensures.spans collection given

pub returns-clause-entries : goal.returns-clause-entries
returns-clause-entries c = phrases_entries

pub returns-clause-weights : goal.returns-clause-weights
returns-clause-weights c = phrases_weights
