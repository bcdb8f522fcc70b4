use Rattle.std.proofs.Common.{arith, vec_len}
use Rattle.mg_session.proofs.MarkLaws.{no_marks, none_marked}
use Rattle.mg_session.proofs.document_set.DocumentSet.clear.Goals as goal

pub invariant_of-self : goal.invariant_of-self
invariant_of-self c = no_marks c.self.inside.all c.fill.new.self.items (vec_len c.self.inside.words) c.self.invariant.small (c.fill.ensures.items (λ y h. h))
    (omega (arith, c.self.invariant.room, c.self.inside.words.ok.0))

pub returns-clause-none : goal.returns-clause-none
returns-clause-none c = λ doc. none_marked c.fill.new.self.items (vec_len c.self.inside.words) doc (c.fill.ensures.items (λ y h. h))
