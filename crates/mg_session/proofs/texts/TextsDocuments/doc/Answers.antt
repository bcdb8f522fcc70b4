use Rattle.std.proofs.Common.{arith, refl, sym, subst}
use Rattle.mg_defs.specs.Terms.{document}
use Rattle.mg_dev.specs.Streams.{AfterPut}
use Rattle.mg_session.specs.Decided.{PutsDoc}
use Rattle.mg_session.specs.DocStands.{IsDocOf}
use Rattle.mg_session.specs.Texts.{Texting, TextsFit, TextsStand}
use Rattle.mg_session.proofs.DocStandsLaws.{doc_put}
use Rattle.mg_session.proofs.StepLaws.{shown_none}
use Rattle.mg_session.proofs.TextsLaws.{read_shown, same_pages, short_document, texts_reader}
use Rattle.mg_session.proofs.texts.TextsDocuments.doc.Goals as goal

pub returns-in-Some-clause-shown : goal.returns-in-Some-clause-shown
returns-in-Some-clause-shown g c =
    let e = c.doc_within.ensures in
    let before = shown_none _ (g.S.Store.files c.args.store.now) (g.S.Store.reads c.args.store.now) (g.S.Store.faults c.args.store.now) in
    let loaded = texts_reader (g.S.Store.files c.args.store.now) _ c.in-Some.reader
    (subst (λ (t : Texting). TextsFit (g.S.Store.files c.args.store.now) t) (sym c.self.view_is) c.requires.fits) c.in-Some.is in
    read_shown c.self.view_is c.requires.fits before
    {IsPrinted = λ collection. AfterPut (g.O.Sink.written c.args.out.now) (g.O.Sink.written c.doc_within.new.out) (document collection c.args.number) c.doc_within.result}
    refl loaded e.same e.fits e.looked e.added.faults e.added.lacks e.cause
    (λ code collection is.
    let own = subst (λ (t : Texting). TextsStand t (g.S.Store.files c.args.store.now) code collection) (sym c.self.view_is) is in
    e.content collection (short_document _ _ _ _ collection (loaded.stands code collection own.text) (omega (arith, own.size))))
    (λ code collection is.
    let own = subst (λ (t : Texting). TextsStand t (g.S.Store.files c.args.store.now) code collection) (sym c.self.view_is) is in
    same_pages c.in-Some.reader code collection c.args.number _ _ (loaded.code code collection own.text)
    (e.pages collection (short_document _ _ _ _ collection (loaded.stands code collection own.text) (omega (arith, own.size)))))
    (λ code collection is.
    let own = subst (λ (t : Texting). TextsStand t (g.S.Store.files c.args.store.now) code collection) (sym c.self.view_is) is in
    e.never_bad collection (short_document _ _ _ _ collection (loaded.stands code collection own.text) (omega (arith, own.size))))

pub returns-in-Some-clause-told : goal.returns-in-Some-clause-told
returns-in-Some-clause-told g c =
    let e = c.doc_within.ensures in
    let loaded = texts_reader (g.S.Store.files c.args.store.now) _ c.in-Some.reader
    (subst (λ (t : Texting). TextsFit (g.S.Store.files c.args.store.now) t) (sym c.self.view_is) c.requires.fits) c.in-Some.is in
    doc_put c.args.number c.in-Some.reader (g.O.Sink.written c.args.out.now) (g.O.Sink.written c.doc_within.new.out)
    c.self.view_is e.added.bytes e.added.told (g.S.Store.files c.args.store.now) _ c.doc_within.result refl loaded e.stood

pub returns-in-None-clause-told : goal.returns-in-None-clause-told
returns-in-None-clause-told g c =
    subst (λ (t : Texting). PutsDoc (g.O.Sink.written c.args.out.now) (g.O.Sink.written c.load_doc.new.out) c.load_doc.result
    (IsDocOf t (g.S.Store.files c.args.store.now) c.args.number)) c.self.view_is c.load_doc.ensures.told
