use Rattle.std.specs.declared.option.Option.{Option}
use Rattle.mg_dev.specs.Files.{Files}
use Rattle.std.proofs.Common.{arith, Err, ◌≡◌, ◌+◌, ◌∙◌, ℕ, List, [], get_or, take, sym, subst, IsSome}
use Rattle.mg_defs.specs.Split.{documents}
use Rattle.mg_defs.specs.Terms.{document}
use Rattle.mg_defs.proofs.TermLaws.{document_behind}
use Rattle.mg_check_parts.specs.TermsRead.{AreTermsOf, TermsRead}
use Rattle.mg_check_index.specs.Counting.{AreOwn, HasTallied, TalliedNext, Tallying}
use Rattle.mg_check.specs.CountedText.{TalliedText}
use Rattle.mg_check_text.proofs.CallerLemmas.{text_looks}
use Rattle.mg_check_index.proofs.CallerLemmas.{on_ok}
use Rattle.mg_check.proofs.TallyText.{can_add, next_bad, not_bad, parts_same, taken_long, text_next}
use Rattle.mg_check.proofs.counting.count_document.Goals as goal

-- the terms that are shown are those that were read
terms_shown : {words : List (List ℕ)} {doc : List ℕ} {read shown : TermsRead} → shown ≡ read → AreTermsOf words doc read → AreTermsOf words doc shown
terms_shown {words} {doc} same terms = subst (λ (t : TermsRead). AreTermsOf words doc t) (sym same) terms

-- those of the next document of a collection
own_terms : {words : List (List ℕ)} {read shown : TermsRead} (before : ℕ) (collection : List ℕ) → shown ≡ read → AreTermsOf words (document collection (before + 1)) read →
    AreTermsOf words (get_or (documents collection) before []) shown
own_terms {words} {read} {shown} before collection same terms =
    subst (λ (d : List ℕ). AreTermsOf words d shown) (document_behind collection before) (terms_shown same terms)

tallied_here : {t : Tallying} {f f1 : Option Files} {words : List (List ℕ)} → f1 ≡ f → (docs : List (List ℕ)) → HasTallied t f words docs → HasTallied t f1 words docs
tallied_here {t = t} {words = words} same docs has = subst (λ h. HasTallied t h words docs) (sym same) has

pub add-requires : goal.add-requires
add-requires g c =
    let read = c.in-Ok.ensures.terms in
    record {
      can = can_add c.args.tally.now (g.S.Store.files c.args.store.now) (g.S.Store.files c.read.new.store) c.args.table.now.terms c.args.before
          c.args.reader.now c.requires.tallied read.doc c.terms.result.now c.in-Ok.ensures.text.looks.files (terms_shown c.terms.ensures read.terms);
    }

pub returns-in-Err : goal.returns-in-Err
returns-in-Err g c = record {
  tallied = record {
    taken = tt;
    parts = parts_same c.args.tally.now;
    other = λ collection stand.
        not_bad {T = Unit {0}} (AreOwn c.args.tally.now (g.S.Store.files c.args.store.now) collection → ⊥) (Err c.in-Err.refusal) (c.in-Err.ensures.never_bad collection stand);
    text = c.in-Err.ensures.text;
  };
}

pub returns : goal.returns
returns g c = record {
  tallied = record {
    taken = let it = c.requires.tallied in
        let words = c.args.table.now.terms in
        let read = c.in-Ok.ensures.terms in
        let files = c.in-Ok.ensures.text.looks.files in
        on_ok (TalliedNext g.S.Store.files c.read.new.store c.add.new.store c.args.tally.now c.add.new.self (c.args.before + 1) c.terms.result.now)
        (TalliedText c.add.new.self (g.S.Store.files c.add.new.store) words (c.args.before + 1) c.args.reader.now) c.add.result
        (λ next.
        text_next c.args.tally.now c.add.new.self (g.S.Store.files c.args.store.now) (g.S.Store.files c.add.new.store) words c.args.before c.args.reader.now read.doc it
        (next words it.docs read.doc (omega (arith, it.count)) (terms_shown c.terms.ensures read.terms) (tallied_here files it.docs it.tallied)) c.requires.within
        (λ collection stand. next words (take c.args.before (documents collection)) (get_or (documents collection) c.args.before [])
        (omega (arith, taken_long c.args.before c.args.reader.now (g.S.Store.files c.args.store.now) collection c.requires.within stand))
        (own_terms c.args.before collection c.terms.ensures (read.own collection stand)) (tallied_here files (take c.args.before (documents collection)) (it.own collection stand)))
        (c.add.ensures.tallied.looks.files ∙ files))
        c.add.ensures.tallied.done;
    parts = c.add.ensures.same;
    other = λ collection stand.
        let read = c.in-Ok.ensures.terms in
        let files = c.in-Ok.ensures.text.looks.files in
        next_bad c.add.result c.args.tally.now (g.S.Store.files c.args.store.now) (g.S.Store.files c.read.new.store) c.args.table.now c.args.before
        c.args.reader.now c.requires.tallied c.terms.result.now collection
        files c.requires.text.table_is c.requires.within stand (own_terms c.args.before collection c.terms.ensures (read.own collection stand))
        (c.add.ensures.tallied.bad (subst (λ f. IsSome f) (sym files) stand.told));
    text = text_looks c.in-Ok.ensures.text c.add.ensures.tallied.looks;
  };
}
