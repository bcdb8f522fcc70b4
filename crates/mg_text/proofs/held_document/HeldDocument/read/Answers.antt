use Rattle.mg_defs.specs.Terms.{document}
use Rattle.mg_text.proofs.HeldLaws.{held_cause, held_content, held_in_bound, held_short, held_stood}
use Rattle.mg_text.proofs.held_document.HeldDocument.read.Goals as goal

pub returns-clause-fits : goal.returns-clause-fits
returns-clause-fits g c = c.doc-shown.ensures.fits

pub returns-clause-same : goal.returns-clause-same
returns-clause-same g c = c.doc-shown.ensures.same

pub returns-clause-short : goal.returns-clause-short
returns-clause-short g c = held_in_bound c.answered.result c.answered.ensures

pub returns-clause-content : goal.returns-clause-content
returns-clause-content g c = λ collection has.
    held_content c.answered.result c.clear.new.self.items c.doc-shown.new.out.bytes.items (document collection c.args.number) c.answered.ensures c.clear.ensures.items
    (c.doc-shown.ensures.content collection has.stands)

pub returns-clause-never_bad : goal.returns-clause-never_bad
returns-clause-never_bad g c = λ collection has.
    c.answered.ensures.bad (held_short c.doc-shown.result c.clear.new.self.items c.doc-shown.new.out.bytes.items (document collection c.args.number) c.args.self.now.most
    c.clear.ensures.items (c.doc-shown.ensures.content collection has.stands) has.short) (c.doc-shown.ensures.never_bad collection has.stands)

pub returns-clause-pages : goal.returns-clause-pages
returns-clause-pages g c = c.doc-shown.ensures.pages

pub returns-clause-places : goal.returns-clause-places
returns-clause-places g c = c.doc-shown.ensures.places

pub returns-clause-looked : goal.returns-clause-looked
returns-clause-looked g c = c.doc-shown.ensures.looked

pub returns-clause-cause : goal.returns-clause-cause
returns-clause-cause g c = held_cause c.answered.result _ _ _ _ c.answered.ensures c.doc-shown.ensures.looked.faults c.doc-shown.ensures.cause

pub returns-clause-stood : goal.returns-clause-stood
returns-clause-stood g c = λ told.
    held_stood c.doc-shown.result c.answered.result c.args.reader.now (g.S.Store.files c.args.store.now) c.args.number c.clear.new.self.items c.doc-shown.new.out.bytes.items
    c.answered.ensures c.clear.ensures.items (c.doc-shown.ensures.stood told)
