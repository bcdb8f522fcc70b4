use Rattle.std.proofs.Common.{Some, ap, sym, subst}
use Rattle.mg_dev.specs.Moments.{store_at}
use Rattle.mg_wild.specs.Terms.{LexTerms}
use Rattle.mg_session.specs.WildTerms.{TermsFit, WildTerms}
use Rattle.mg_session.proofs.WildTermsLaws.{answered_by, asked_as, held_before}
use Rattle.mg_session.proofs.lexicon_terms.LexiconTerms.answer.Goals as goal

pub returns-in-Some-clause-asked : goal.returns-in-Some-clause-asked
returns-in-Some-clause-asked g c =
    let own : WildTerms = record { lex = c.self.inside.lex; loaded = c.self.inside.loaded } in
    let fit = subst (λ (t : WildTerms). TermsFit (g.S.Store.files c.args.store.now) t) (sym c.self.view_is) c.requires.fits in
    let e = c.answer_pattern.ensures in
    asked_as c.self.view_is
    (answered_by {t = own} c.in-Some.terms (held_before {t = own} (store_at g.S.Store.files g.S.Store.reads g.S.Store.faults c.args.store.now) c.in-Some.terms fit c.in-Some.is) fit
    (ap (λ (r : LexTerms). record { lex = c.self.inside.lex; loaded = Some r }) e.same) e.answer e.pages e.stepped)

pub returns-in-None-clause-asked : goal.returns-in-None-clause-asked
returns-in-None-clause-asked g c = asked_as c.self.view_is c.answer_first.ensures.asked
