use Rattle.std.proofs.Common.{Err, Some, ap, sym, ◌∙◌, subst, Option}
use Rattle.mg_dev.specs.Moments.{store_at}
use Rattle.mg_wild.specs.Terms.{LexTerms}
use Rattle.mg_session.specs.WildTerms.{TermsFit, WildTerms}
use Rattle.mg_session.proofs.WildTermsLaws.{answered_by, asked_as, kept_as, loaded_here, not_answered}
use Rattle.mg_session.proofs.lexicon_terms.LexiconTerms.answer_first.Goals as goal

pub returns-in-Err-clause-asked : goal.returns-in-Err-clause-asked
returns-in-Err-clause-asked g c =
    let own : WildTerms = record { lex = c.self.inside.lex; loaded = c.self.inside.loaded } in
    let fit = subst (λ (t : WildTerms). TermsFit (g.S.Store.files c.args.store.now) t) (sym c.self.view_is) c.requires.fits in
    kept_as c.self.view_is
    (not_answered {t = own} (store_at g.S.Store.files g.S.Store.reads g.S.Store.faults c.args.store.now) (store_at g.S.Store.files g.S.Store.reads g.S.Store.faults c.load.new.store) _
    c.in-Err.refusal c.in-Err.ensures.read (ap (λ (t : WildTerms). t.loaded) c.self.view_is ∙ c.requires.unloaded) fit
    (λ collection bad is within e. c.in-Err.ensures.never_bad collection bad is within (ap Err e)))

pub returns-clause-asked : goal.returns-clause-asked
returns-clause-asked g c =
    let own : WildTerms = record { lex = c.self.inside.lex; loaded = c.self.inside.loaded } in
    let fit = subst (λ (t : WildTerms). TermsFit (g.S.Store.files c.args.store.now) t) (sym c.self.view_is) c.requires.fits in
    let e = c.answer_pattern-answered.ensures in
    asked_as c.self.view_is
    (answered_by {t = own} c.in-Ok.terms
    (loaded_here {t = own} (store_at g.S.Store.files g.S.Store.reads g.S.Store.faults c.args.store.now) (store_at g.S.Store.files g.S.Store.reads g.S.Store.faults c.load.new.store)
    c.in-Ok.terms (ap (λ (t : WildTerms). t.loaded) c.self.view_is ∙ c.requires.unloaded) c.in-Ok.ensures.read.looked
    (record { terms_are = c.in-Ok.ensures.terms; infos_are = c.in-Ok.ensures.infos })) fit
    (ap (λ (o : Option LexTerms). record { lex = c.self.inside.lex; loaded = o }) (c.keep.ensures ∙ ap Some e.same))
    e.answer e.pages e.stepped)
