use Rattle.std.proofs.Common.{refl, sym, subst}
use Rattle.mg_session.specs.Texts.{Texting, TextsFit}
use Rattle.mg_session.proofs.PhraseTextsLaws.{places_read}
use Rattle.mg_session.proofs.StepLaws.{shown_none}
use Rattle.mg_session.proofs.TextsLaws.{texts_reader}
use Rattle.mg_session.proofs.word_texts.WordTextsSearched.places.Goals as goal

pub returns-in-Some : goal.returns-in-Some
returns-in-Some g c =
    let before = shown_none _ (g.S.Store.files c.args.store.now) (g.S.Store.reads c.args.store.now) (g.S.Store.faults c.args.store.now) in
    let loaded = texts_reader (g.S.Store.files c.args.store.now) _ c.in-Some.reader
    (subst (λ (t : Texting). TextsFit (g.S.Store.files c.args.store.now) t) (sym c.self.view_is) c.requires.showable.fits) c.in-Some.is in
    places_read c.self.view_is c.requires.showable.fits before refl loaded c.seek.ensures refl refl loaded.stands loaded.code
