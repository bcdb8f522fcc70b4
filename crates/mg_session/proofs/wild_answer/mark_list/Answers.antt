use Rattle.std.proofs.Common.{ap, ◌∙◌, subst, sym}
use Rattle.mg_bits.specs.Pages.{Fits, Paging}
use Rattle.mg_session.proofs.wild_answer.mark_list.Goals as goal

pub mark_postings-requires-clause-all : goal.mark_postings-requires-clause-all
mark_postings-requires-clause-all g c = c.open.ensures.all ∙ c.requires.over.documents

pub mark_postings-requires-clause-first : goal.mark_postings-requires-clause-first
mark_postings-requires-clause-first g c = c.open.ensures.first

pub mark_postings-requires-clause-fits : goal.mark_postings-requires-clause-fits
mark_postings-requires-clause-fits g c = subst (λ f. Fits f (g.S.Store.files c.args.store.now)) (sym c.open.ensures.post) c.requires.fits

pub returns-clause-over : goal.returns-clause-over
returns-clause-over g c =
    let opened = c.open.ensures in
    let same = c.mark_postings.ensures.same in
    record { post = same.post ∙ ap (λ (f : Paging). f.name) opened.post ∙ c.requires.over.post; documents = same.all ∙ opened.all ∙ c.requires.over.documents }

pub returns-clause-answer : goal.returns-clause-answer
returns-clause-answer g c = λ collection t stand told all_is.
    c.mark_postings.ensures.answer c.args.lists.now.base.now collection t stand
    (c.open.ensures.list c.args.lists.now.base.now collection t _ stand told (c.requires.over.documents ∙ all_is) c.requires.over.post)

pub returns-clause-pages : goal.returns-clause-pages
returns-clause-pages g c = λ collection t stand told all_is.
    c.mark_postings.ensures.pages c.args.lists.now.base.now collection t stand
    (c.open.ensures.list c.args.lists.now.base.now collection t _ stand told (c.requires.over.documents ∙ all_is) c.requires.over.post)

pub returns-clause-stepped : goal.returns-clause-stepped
returns-clause-stepped g c = c.mark_postings.ensures.stepped
