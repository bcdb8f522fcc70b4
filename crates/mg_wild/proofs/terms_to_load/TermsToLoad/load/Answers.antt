use Rattle.std.proofs.Common.{◌≡◌, sym, subst}
use Rattle.mg_dev.specs.Files.{bytes_at}
use Rattle.mg_dev.specs.Names.{full_name}
use Rattle.mg_dev.specs.declared.part.Part.TheVariants as part
use Rattle.mg_dev.specs.declared.part_err.PartErr.TheVariants.{Bad}
use Rattle.mg_wild.specs.Loading.{AreWithin, HasTermsOf, IsOfLexicon, LexToLoad, TellsOf}
use Rattle.mg_wild.specs.Terms.{LexTerms}
use Rattle.mg_wild.proofs.CutLaws.{numbered-at}
use Rattle.mg_wild.proofs.LoadLaws.{has-terms, never-damaged, same-bytes}
use Rattle.mg_wild.proofs.terms_to_load.TermsToLoad.load.Goals as goal

pub returns-in-Ok-clause-terms : goal.returns-in-Ok-clause-terms
returns-in-Ok-clause-terms g c = λ collection is.
    let here = subst (λ (t : LexToLoad). IsOfLexicon t (g.S.Store.files c.args.store.now) collection) (sym c.self.view_is) is in
    subst (λ (r : LexTerms). HasTermsOf r collection) (sym c.of.ensures)
    (has-terms c.self.inside.base.now (g.S.Store.files c.args.store.now) c.self.inside.count collection c.in-Ok.terms (c.in-Ok.ensures.answer here.told) here)

pub returns-in-Ok-clause-infos : goal.returns-in-Ok-clause-infos
returns-in-Ok-clause-infos g c = λ version collection within is.
    let here = subst (λ (t : LexToLoad). IsOfLexicon t (g.S.Store.files c.args.store.now) collection) (sym c.self.view_is) is in
    let tells : TellsOf c.in-Ok.terms collection = λ number info t at there.
    let same = same-bytes c.self.inside.base.now (g.S.Store.files c.args.store.now) c.self.inside.count collection c.in-Ok.terms (c.in-Ok.ensures.answer here.told) here number info t at there in
    c.fields_tell.ensures.same _ _ (numbered-at 0 c.in-Ok.terms.infos number info c.in-Ok.ensures.numbered at).fits (c.fields_tell.ensures.fit version collection number t within there) same in
    subst (λ (r : LexTerms). TellsOf r collection) (sym c.of.ensures) tells

pub returns-in-Err-clause-never_bad : goal.returns-in-Err-clause-never_bad
returns-in-Err-clause-never_bad g c = λ collection bad is within e.
    let same : c.in-Err.refusal ≡ Bad bad = cc in
    let here = subst (λ (t : LexToLoad). IsOfLexicon t (g.S.Store.files c.args.store.now) collection) (sym c.self.view_is) is in
    let bound = subst (λ (t : LexToLoad). AreWithin (bytes_at (g.S.Store.files c.args.store.now) (full_name t.base part.Lex)) t.count t.most) (sym c.self.view_is) within in
    never-damaged c.self.inside.base.now (g.S.Store.files c.args.store.now) c.self.inside.count c.self.inside.most collection bad c.in-Err.refusal c.in-Err.ensures.answer here bound same
