use Rattle.std.proofs.Common.{arith, sym, subst, IsSome}
use Rattle.mg_dev.specs.declared.part_err.PartErr.TheVariants.{Memory}
use Rattle.mg_check_text.proofs.CallerLemmas.{text_looks, text_own}
use Rattle.mg_check.proofs.TallyText.{tally_done, tally_other}
use Rattle.mg_check.proofs.counting.count_text.Goals as goal

pub returns-in-Err-clause-text : goal.returns-in-Err-clause-text
returns-in-Err-clause-text g c = text_own Memory _ _ _ c.requires.text.fits tt

pub returns-in-Err-count_documents-clause-other : goal.returns-in-Err-count_documents-clause-other
returns-in-Err-count_documents-clause-other g c = c.in-Err-count_documents.ensures.tallied.other

pub returns-in-Err-count_documents-clause-text : goal.returns-in-Err-count_documents-clause-text
returns-in-Err-count_documents-clause-text g c = c.in-Err-count_documents.ensures.tallied.text

pub finish-requires : goal.finish-requires
finish-requires g c =
    let it = c.in-Ok-count_documents.ensures.tallied.taken in
    record { tallied = (c.args.table.now.terms, it.docs, omega (arith, it.count, c.ranges.documents.fits), it.tallied) }

pub returns-clause-tallied : goal.returns-clause-tallied
returns-clause-tallied g c = λ text stand.
    let files = c.in-Ok-count_documents.ensures.tallied.text.looks.files in
    tally_done c.finish.result c.args.tally.now c.count_documents.new.tally c.finish.new.self (g.S.Store.files c.args.store.now)
    (g.S.Store.files c.count_documents.new.store) c.args.table.now c.args.documents c.args.reader.now c.in-Ok-count_documents.ensures.tallied.taken text
    files c.in-Ok-count_documents.ensures.tallied.parts c.requires.text.all c.requires.text.table_is stand c.finish.ensures.docs c.finish.ensures.occurrences
    (c.finish.ensures.ended.done (subst (λ f. IsSome f) (sym files) stand.told))

pub returns-clause-other : goal.returns-clause-other
returns-clause-other g c = λ text stand.
    let files = c.in-Ok-count_documents.ensures.tallied.text.looks.files in
    tally_other c.finish.result c.args.tally.now c.count_documents.new.tally (g.S.Store.files c.args.store.now) (g.S.Store.files c.count_documents.new.store)
    c.args.table.now c.args.documents c.args.reader.now c.in-Ok-count_documents.ensures.tallied.taken text
    files c.in-Ok-count_documents.ensures.tallied.parts c.requires.text.all c.requires.text.table_is stand
    (c.finish.ensures.ended.bad (subst (λ f. IsSome f) (sym files) stand.told))

pub returns-clause-text : goal.returns-clause-text
returns-clause-text g c = text_looks c.in-Ok-count_documents.ensures.tallied.text c.finish.ensures.ended.looks
