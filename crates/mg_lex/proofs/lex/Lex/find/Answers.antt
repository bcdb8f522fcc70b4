use Rattle.std.proofs.Common.{subst, Ok}
use Rattle.mg_defs.specs.Lexicon.{lexicon}
use Rattle.mg_front.specs.Reading.{AnswersFind}
use Rattle.mg_lex.proofs.LexLaws.{front_stands, parts_read, refused, term_absent, term_found}
use Rattle.mg_lex.proofs.InfoLaws.{no_docs, refused_info, told_info}
use Rattle.mg_front.specs.Stood.{FindStands}
use Rattle.mg_lex.proofs.StoodLaws.{term_stands}
use Rattle.mg_lex.proofs.lex.Lex.find.Goals as goal

pub returns-clause-found : goal.returns-clause-found
returns-clause-found g c =
    rw (← c.self.view_is)
    (λ collection stands.
    let found = subst (λ o. AnswersFind (Ok o) c.self.inside.front.width c.args.term.now c.find.new.out (lexicon collection)) c.in-Ok-Some.field-0-is
    (c.in-Ok-Some.ensures.found (lexicon collection) (front_stands _ _ collection c.self.invariant.0 stands)) in
    term_found c.self.inside.front.width c.in-Ok-Some.number collection c.args.term.now c.find.new.out c.told_by.result c.self.invariant.0 c.told_by.ensures.number c.told_by.ensures.field found)

pub returns-in-Ok-None-clause-found : goal.returns-in-Ok-None-clause-found
returns-in-Ok-None-clause-found g c =
    rw (← c.self.view_is)
    (λ collection stands. term_absent collection c.args.term.now
    (subst (λ o. AnswersFind (Ok o) c.self.inside.front.width c.args.term.now c.find.new.out (lexicon collection)) c.in-Ok-None.field-0-is
    (c.in-Ok-None.ensures.found (lexicon collection) (front_stands _ _ collection c.self.invariant.0 stands))))

pub returns-in-Err-clause-found : goal.returns-in-Err-clause-found
returns-in-Err-clause-found g c =
    rw (← c.self.view_is)
    (λ collection stands. refused c.in-Err.refusal c.self.inside.front.width collection c.args.term.now c.find.new.out
    (c.in-Err.ensures.found (lexicon collection) (front_stands _ _ collection c.self.invariant.0 stands)))

pub returns-clause-reads : goal.returns-clause-reads
returns-clause-reads g c = rw (← c.self.view_is) (parts_read c.self.inside.front _ _ _ c.self.invariant.1 c.self.invariant.2 c.in-Ok-Some.ensures.step.reads)

pub returns-in-Ok-None-clause-reads : goal.returns-in-Ok-None-clause-reads
returns-in-Ok-None-clause-reads g c = rw (← c.self.view_is) (parts_read c.self.inside.front _ _ _ c.self.invariant.1 c.self.invariant.2 c.in-Ok-None.ensures.step.reads)

pub returns-in-Err-clause-reads : goal.returns-in-Err-clause-reads
returns-in-Err-clause-reads g c = rw (← c.self.view_is) (parts_read c.self.inside.front _ _ _ c.self.invariant.1 c.self.invariant.2 c.in-Err.ensures.step.reads)

pub returns-clause-info : goal.returns-clause-info
returns-clause-info g c =
    rw (← c.self.view_is)
    (λ version collection within stands.
    let found = subst (λ o. AnswersFind (Ok o) c.self.inside.front.width c.args.term.now c.find.new.out (lexicon collection)) c.in-Ok-Some.field-0-is
    (c.in-Ok-Some.ensures.found (lexicon collection) (front_stands _ _ collection c.self.invariant.0 stands)) in
    told_info version collection c.args.term.now c.told_by.result within c.told_by.ensures.fits
    (term_found c.self.inside.front.width c.in-Ok-Some.number collection c.args.term.now c.find.new.out c.told_by.result c.self.invariant.0 c.told_by.ensures.number c.told_by.ensures.field found))

pub returns-in-Ok-None-clause-info : goal.returns-in-Ok-None-clause-info
returns-in-Ok-None-clause-info g c =
    rw (← c.self.view_is)
    (λ version collection within stands. no_docs collection c.args.term.now (term_absent collection c.args.term.now
    (subst (λ o. AnswersFind (Ok o) c.self.inside.front.width c.args.term.now c.find.new.out (lexicon collection)) c.in-Ok-None.field-0-is
    (c.in-Ok-None.ensures.found (lexicon collection) (front_stands _ _ collection c.self.invariant.0 stands)))))

pub returns-in-Err-clause-info : goal.returns-in-Err-clause-info
returns-in-Err-clause-info g c =
    rw (← c.self.view_is)
    (λ version collection within stands. refused_info c.in-Err.refusal collection c.args.term.now
    (refused c.in-Err.refusal c.self.inside.front.width collection c.args.term.now c.find.new.out
    (c.in-Err.ensures.found (lexicon collection) (front_stands _ _ collection c.self.invariant.0 stands))))

pub returns-clause-stood : goal.returns-clause-stood
returns-clause-stood g c =
    rw (← c.self.view_is)
    (λ told. term_stands _ _ c.args.term.now c.find.new.out c.in-Ok-Some.number c.told_by.result c.self.invariant.0 c.told_by.ensures.number c.told_by.ensures.field
    (subst (λ o. FindStands c.self.inside.front (g.S.Store.files c.args.store.now) c.args.term.now c.find.new.out o) c.in-Ok-Some.field-0-is (c.in-Ok-Some.ensures.stood told)))

pub returns-in-Ok-None-clause-stood : goal.returns-in-Ok-None-clause-stood
returns-in-Ok-None-clause-stood g c =
    rw (← c.self.view_is)
    (λ told. subst (λ o. FindStands c.self.inside.front (g.S.Store.files c.args.store.now) c.args.term.now c.find.new.out o) c.in-Ok-None.field-0-is
    (c.in-Ok-None.ensures.stood told))
