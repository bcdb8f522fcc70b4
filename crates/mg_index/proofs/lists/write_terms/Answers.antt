use Rattle.std.proofs.Common.{◌≡◌, length, sym, subst, arith, Ok}
use Rattle.mg_index.specs.ListEnds.{TermsStep}
use Rattle.mg_index.specs.Listing.{AreListSizes}
use Rattle.mg_index.proofs.TermsLaws.{terms_err, terms_more, terms_none}
use Rattle.mg_index.proofs.lists.write_terms.Goals as goal

pub loop-number-init : goal.loop-number-init
loop-number-init g c = record { step = terms_none c.requires.can }

pub write_term-requires-clause-can : goal.write_term-requires-clause-can
write_term-requires-clause-can g c = c.loop-number.invariant.step.can

pub write_term-requires-clause-sizes : goal.write_term-requires-clause-sizes
write_term-requires-clause-sizes g c = subst (λ m. AreListSizes c.args.terms.now.docs.now (length c.args.terms.now.table.now.terms) m) (sym c.loop-number.invariant.step.all) c.requires.sizes

pub loop-number-preserved : goal.loop-number-preserved
loop-number-preserved g c = record { step = terms_more c.loop-number.invariant.step c.in-Ok.ensures }

pub returns-in-Err : goal.returns-in-Err
returns-in-Err g c = terms_err (terms_more c.loop-number.invariant.step c.in-Err.ensures)

pub returns : goal.returns
returns g c =
    let all : c.loop-number.number ≡ length c.args.terms.now.table.now.terms = omega (arith, c.count-number-end.ensures.count) in
    subst (λ n. TermsStep 0 n c.args.terms.now c.args.merge.now c.loop-number.merge c.args.writer.now c.loop-number.writer c.args.sums.now c.loop-number.sums (Ok tt)
    (g.S.Store.files c.args.store.now) (g.S.Store.files c.loop-number.store) (g.S.Store.reads c.args.store.now) (g.S.Store.reads c.loop-number.store)
    (g.S.Store.faults c.args.store.now) (g.S.Store.faults c.loop-number.store)) all c.loop-number.invariant.step
