use Rattle.mg_dev.specs.StreamLaws.{grew_nothing}
use Rattle.mg_reply.proofs.text.answer_refused.Goals as goal

pub returns-in-Memory-clause-content : goal.returns-in-Memory-clause-content
returns-in-Memory-clause-content g c = λ text is. grew_nothing _ text
