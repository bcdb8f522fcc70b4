use Rattle.std.proofs.Common.{arith, ◌≡◌, ◌-◌, ◌/◌, get_or, ap}
use Rattle.std.proofs.lemmas.List.{get_or_read}
use Rattle.mg_session.specs.DocumentSets.{DocumentMarks}
use Rattle.mg_session.proofs.MarkLaws.{marked_more, marks_more}
use Rattle.mg_session.proofs.document_set.DocumentSet.mark.Goals as goal

pub index_mut-requires : goal.index_mut-requires
index_mut-requires c = omega (arith, ap (λ (m : DocumentMarks). m.all) c.self.view_is, c.self.invariant.room, c.self.inside.words.ok.0)

pub invariant_of-self : goal.invariant_of-self
invariant_of-self c =
    let words = c.self.inside.words.items in
    let all = ap (λ (m : DocumentMarks). m.all) c.self.view_is in
    let read : c.index_mut.result.now ≡ get_or words ((c.args.doc - 1) / 64) 0 =
    get_or_read words ((c.args.doc - 1) / 64) _ (omega (arith, all, c.self.invariant.room)) c.index_mut.ensures.value 0 in
    marks_more c.self.inside.all words c.args.doc c.index_mut.result.now c.self.invariant (omega arith) (omega (arith, all)) read

pub returns-clause-room : goal.returns-clause-room
returns-clause-room c = ap (λ (m : DocumentMarks). m.all) c.self.view_is

pub returns-clause-marked : goal.returns-clause-marked
returns-clause-marked c =
    let words = c.self.inside.words.items in
    let all = ap (λ (m : DocumentMarks). m.all) c.self.view_is in
    let read : c.index_mut.result.now ≡ get_or words ((c.args.doc - 1) / 64) 0 =
    get_or_read words ((c.args.doc - 1) / 64) _ (omega (arith, all, c.self.invariant.room)) c.index_mut.ensures.value 0 in
    rw (← c.self.view_is) (λ other some. marked_more words c.args.doc c.index_mut.result.now other (omega arith) (omega (arith, all, c.self.invariant.room)) read some)
