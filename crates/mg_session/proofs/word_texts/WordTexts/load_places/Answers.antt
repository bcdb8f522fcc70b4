use Rattle.std.proofs.Common.{arith, refl, rules, sym, subst}
use Rattle.mg_dev.proofs.CallerLemmas.{cause_err}
use Rattle.mg_dev.specs.declared.part.Part.TheVariants as part
use Rattle.mg_session.specs.Texts.{Texting, TextsStand}
use Rattle.mg_session.proofs.PhraseTextsLaws.{places_read}
use Rattle.mg_session.proofs.StepLaws.{looked_shown}
use Rattle.mg_session.proofs.TextsLaws.{loaded_now}
use Rattle.mg_session.proofs.word_texts.WordTexts.load_places.Goals as goal

pub returns-in-Err : goal.returns-in-Err
returns-in-Err g c =
    let e = c.in-Err.ensures in
    record {
      fits = search rules;
      same = search rules;
      content = λ code collection is. tt;
      stood = tt;
      never_bad = λ code collection is.
          e.never_bad code collection (subst (λ (t : Texting). TextsStand t (g.S.Store.files c.args.store.now) code collection) (sym c.self.view_is) is).text;
      pages = λ code collection is. omega (arith, e.looked.others part.Text refl refl);
      looked = looked_shown part.Words part.Nonwords _ _ _ _ _ _ (omega arith) (omega arith) (omega arith) (omega arith) e.looked;
      cause = cause_err (omega arith) e.cause;
      marked = c.requires.marked;
      phrase = refl;
    }

pub returns : goal.returns
returns g c =
    let load = c.in-Ok.ensures in
    places_read c.self.view_is c.requires.showable.fits (looked_shown part.Words part.Nonwords _ _ _ _ _ _ (omega arith) (omega arith) (omega arith) (omega arith) load.looked)
    c.keep.ensures (loaded_now _ _ _ _ c.in-Ok.reader load.looked.files load.fits load.reader load.stands load.code load.answer) c.seek-found.ensures load.looked.files
    (load.looked.others part.Text refl refl) load.stands load.code
