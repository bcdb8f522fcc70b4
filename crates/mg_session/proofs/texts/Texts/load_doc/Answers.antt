use Rattle.std.proofs.Common.{arith, refl, rules, sym, subst}
use Rattle.mg_defs.specs.Terms.{document}
use Rattle.mg_dev.specs.Streams.{AfterPut}
use Rattle.mg_dev.specs.StreamLaws.{grew_nothing}
use Rattle.mg_dev.specs.declared.part.Part.TheVariants as part
use Rattle.mg_text.proofs.CallerLemmas.{adds_none}
use Rattle.mg_session.specs.Texts.{Texting, TextsStand}
use Rattle.mg_session.proofs.CallLaws.{part_cause, part_lack}
use Rattle.mg_session.proofs.DocStandsLaws.{doc_put}
use Rattle.mg_session.proofs.StepLaws.{looked_shown}
use Rattle.mg_session.proofs.TextsLaws.{load_sound, loaded_now, read_shown, same_pages, short_document}
use Rattle.mg_session.proofs.texts.Texts.load_doc.Goals as goal

pub returns-in-Err-clause-shown : goal.returns-in-Err-clause-shown
returns-in-Err-clause-shown g c =
    let e = c.in-Err.ensures in
    record {
      fits = search rules;
      same = search rules;
      content = λ code collection is. grew_nothing _ _;
      pages = λ code collection is. omega (arith, e.looked.others part.Text refl refl);
      sound = λ code collection is.
          load_sound c.in-Err.refusal (e.never_bad code collection (subst (λ (t : Texting). TextsStand t (g.S.Store.files c.args.store.now) code collection) (sym c.self.view_is) is).text);
      looked = looked_shown part.Words part.Nonwords _ _ _ _ _ _ (omega arith) (omega arith) (omega arith) (omega arith) e.looked;
      cause = part_cause c.in-Err.refusal refl e.cause;
      lack = part_lack c.in-Err.refusal refl;
    }

pub returns-in-Err-clause-added : goal.returns-in-Err-clause-added
returns-in-Err-clause-added g c = adds_none (omega arith)

pub returns-clause-shown : goal.returns-clause-shown
returns-clause-shown g c =
    let load = c.in-Ok.ensures in
    let e = c.doc_within-shown.ensures in
    read_shown c.self.view_is c.requires.fits (looked_shown part.Words part.Nonwords _ _ _ _ _ _ (omega arith) (omega arith) (omega arith) (omega arith) load.looked)
    {IsPrinted = λ collection. AfterPut (g.O.Sink.written c.args.out.now) (g.O.Sink.written c.doc_within-shown.new.out) (document collection c.args.number) c.doc_within-shown.result}
    c.keep.ensures
    (loaded_now _ _ _ _ c.in-Ok.reader load.looked.files load.fits load.reader load.stands load.code load.answer) e.same e.fits e.looked e.added.faults e.added.lacks e.cause
    (λ code collection is.
    let own = subst (λ (t : Texting). TextsStand t (g.S.Store.files c.args.store.now) code collection) (sym c.self.view_is) is in
    e.content collection (short_document _ _ _ _ collection (load.stands code collection own.text) (omega (arith, own.size))))
    (λ code collection is.
    let own = subst (λ (t : Texting). TextsStand t (g.S.Store.files c.args.store.now) code collection) (sym c.self.view_is) is in
    let read = same_pages c.in-Ok.reader code collection c.args.number _ _ (load.code code collection own.text)
    (e.pages collection (short_document _ _ _ _ collection (load.stands code collection own.text) (omega (arith, own.size)))) in
    omega (arith, read, load.looked.others part.Text refl refl))
    (λ code collection is.
    let own = subst (λ (t : Texting). TextsStand t (g.S.Store.files c.args.store.now) code collection) (sym c.self.view_is) is in
    e.never_bad collection (short_document _ _ _ _ collection (load.stands code collection own.text) (omega (arith, own.size))))

-- ---- what the parts tell, whatever they hold

pub returns-in-Err-clause-told : goal.returns-in-Err-clause-told
returns-in-Err-clause-told g c = tt

pub returns-clause-told : goal.returns-clause-told
returns-clause-told g c =
    let load = c.in-Ok.ensures in
    let e = c.doc_within-shown.ensures in
    doc_put c.args.number c.in-Ok.reader (g.O.Sink.written c.args.out.now) (g.O.Sink.written c.doc_within-shown.new.out)
    c.self.view_is e.added.bytes e.added.told (g.S.Store.files c.args.store.now) _ c.doc_within-shown.result load.looked.files
    (loaded_now _ _ _ _ c.in-Ok.reader load.looked.files load.fits load.reader load.stands load.code load.answer) e.stood
