use Rattle.std.proofs.Common.{arith, ap}
use Rattle.mg_dev.proofs.CallerLemmas.{cause_err, cause_ok}
use Rattle.mg_dev.specs.Names.{full_name}
use Rattle.mg_wild.specs.Terms.{LexTerms}
use Rattle.mg_wild.proofs.LoadLaws.{refused-behind, whole}
use Rattle.mg_wild.proofs.reading.read_terms.Goals as goal

pub take_terms-requires-clause-most : goal.take_terms-requires-clause-most
take_terms-requires-clause-most g c = omega (arith, c.requires, c.in-Ok.ensures.count)

pub returns-in-Ok-take_terms-clause-answer : goal.returns-in-Ok-take_terms-clause-answer
returns-in-Ok-take_terms-clause-answer g c = λ told.
    let walk = c.in-Ok.ensures in
    whole (g.S.Store.files c.args.store.now) _ (full_name c.args.file.base.now c.args.file.part) c.args.count c.take_terms.new.terms (ap g.S.Store.files walk.store) told
    (rw (walk.name, walk.count) at c.in-Ok-take_terms.ensures.answer)

pub returns-in-Ok-take_terms-clause-read : goal.returns-in-Ok-take_terms-clause-read
returns-in-Ok-take_terms-clause-read g c =
    let read = rw (c.in-Ok.ensures.store, c.in-Ok.ensures.part) at c.in-Ok-take_terms.ensures.read in
    record { looked = read.looked; cause = cause_ok read.looked.faults }

pub returns-clause-answer : goal.returns-clause-answer
returns-clause-answer g c = λ told.
    let walk = c.in-Ok.ensures in
    refused-behind (λ (_ : Unit {0}). c.take_terms.new.terms) (λ (terms : LexTerms). terms) c.in-Ok.walk (g.S.Store.files c.args.store.now) _
    (full_name c.args.file.base.now c.args.file.part) c.args.count c.args.most c.in-Err-take_terms.refusal
    (ap g.S.Store.files walk.store) walk.name walk.count told c.in-Err-take_terms.ensures.answer

pub returns-clause-read : goal.returns-clause-read
returns-clause-read g c =
    let read = rw (c.in-Ok.ensures.store, c.in-Ok.ensures.part) at c.in-Err-take_terms.ensures.read in
    record { looked = read.looked; cause = cause_err (omega arith) read.cause }
