use Rattle.std.proofs.Common.{arith, refl}
use Rattle.mg_check_text.proofs.CallerLemmas.{doc_of_reader}
use Rattle.mg_check_parts.proofs.CallerLemmas.{not_device}
use Rattle.mg_check_text.proofs.ReadLaws.{text_pure, text_read}
use Rattle.mg_check_text.proofs.NextLaws.{doc-fine, ok-so, room-for}
use Rattle.mg_check_text.proofs.next_doc.decode_next.Goals as goal

pub returns-in-Err-clause-never_bad : goal.returns-in-Err-clause-never_bad
returns-in-Err-clause-never_bad g c = λ collection has.
    c.in-Err.ensures.never_bad collection (record { stands = has.stands; short = room-for collection c.args.progress.now.documents _ _ has.short c.set_most.ensures.most })

pub returns-clause-own : goal.returns-clause-own
returns-clause-own g c = λ collection has.
    let short = room-for collection c.args.progress.now.documents _ _ has.short c.set_most.ensures.most in
    ok-so _ _ (doc_of_reader collection c.args.progress.now.documents _ _ (c.in-Ok.ensures.content collection (record { stands = has.stands; short = short })) refl)

pub returns-clause-never_bad : goal.returns-clause-never_bad
returns-clause-never_bad g c = λ collection has.
    let short = room-for collection c.args.progress.now.documents _ _ has.short c.set_most.ensures.most in
    doc-fine collection c.args.progress.now.documents c.bytes.result.now _
    (doc_of_reader collection c.args.progress.now.documents _ _ (c.in-Ok.ensures.content collection (record { stands = has.stands; short = short }))
    c.bytes.ensures) (omega (arith, c.requires.more, has.stands.documents)) c.expect_document.ensures.other

pub returns-in-Err-clause-text : goal.returns-in-Err-clause-text
returns-in-Err-clause-text g c = text_read c.read.ensures.fits c.read.ensures.same c.read.ensures.looked c.in-Err.ensures.cause

pub returns-clause-text : goal.returns-clause-text
returns-clause-text g c =
    text_pure c.expect_document.result (text_read c.read.ensures.fits c.read.ensures.same c.read.ensures.looked c.in-Ok.ensures.cause)
    (not_device c.expect_document.result c.expect_document.ensures.device)
