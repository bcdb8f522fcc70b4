use Rattle.std.proofs.Common.{◌≡◌, ◌∙◌, ℕ, List, length, refl, ap, sym, subst, IsSome}
use Rattle.mg_dev.specs.declared.part_err.PartErr.{PartErr}
use Rattle.mg_defs.specs.Terms.{dictionary}
use Rattle.mg_check_index.specs.Listing.{IndexStands, LexiconStands, ListsStand}
use Rattle.mg_check_parts.proofs.CallerLemmas.{looks_then}
use Rattle.mg_check_text.proofs.CallerLemmas.{text_looks}
use Rattle.mg_check_parts.specs.Refusals.{Refutes}
use Rattle.mg_check_index.proofs.CallerLemmas.{on_ok, can_on, compared_on, if_err, lexicon_on, lists_stand_on, took_all, refutes_wider}
use Rattle.mg_check.proofs.index.compare_index.Goals as goal

pub returns-in-Err : goal.returns-in-Err
returns-in-Err g c = record {
  index = record {
    stand = λ collection is. tt;
    other = λ collection is.
        let old = g.S.Store.files c.args.store.now in
        let none = c.requires.start.none c.args.of.now collection in
        refutes_wider (ListsStand old c.args.of.now.base.now collection) (IndexStands old c.args.of.now.base.now collection) c.in-Err.refusal
        (λ stand. stand.lists) (c.in-Err.ensures.all.other collection is none);
    text = c.in-Err.ensures.all.text;
  };
}

pub returns-in-Err-expect_ends : goal.returns-in-Err-expect_ends
returns-in-Err-expect_ends g c = record {
  index = record {
    stand = λ collection is. tt;
    other = λ collection is.
        let old = g.S.Store.files c.args.store.now in
        let now = g.S.Store.files c.check_ranges.new.store in
        let files : now ≡ old = c.check_ranges.ensures.all.text.looks.files in
        let none = c.requires.start.none c.args.of.now collection in
        let all : length (dictionary collection) ≡ length c.args.of.now.table.now.terms = sym (ap (λ (ts : List (List ℕ)). length ts) is.terms_are) in
        let has = compared_on old now c.args.of.now collection (length c.args.of.now.table.now.terms) (length (dictionary collection)) c.check_ranges.new.compared files all
        (c.in-Ok.ensures.all.agree collection is none) in
        refutes_wider (ListsStand now c.args.of.now.base.now collection) (IndexStands old c.args.of.now.base.now collection) c.in-Err-expect_ends.refusal
        (λ stand. lists_stand_on old now c.args.of.now.base.now collection files stand.lists)
        (c.in-Err-expect_ends.ensures.other collection (subst IsSome (sym files) is.stands.told) has.has.lists);
    text = text_looks c.in-Ok.ensures.all.text c.in-Err-expect_ends.ensures.looks;
  };
}

pub returns : goal.returns
returns g c = record {
  index = record {
    stand = λ collection is.
        let old = g.S.Store.files c.args.store.now in
        let mid = g.S.Store.files c.check_ranges.new.store in
        let now = g.S.Store.files c.expect_ends.new.store in
        let mid_is : mid ≡ old = c.check_ranges.ensures.all.text.looks.files in
        let now_is : now ≡ old = c.expect_ends.ensures.looks.files ∙ mid_is in
        let none = c.requires.start.none c.args.of.now collection in
        let all : length (dictionary collection) ≡ length c.args.of.now.table.now.terms = sym (ap (λ (ts : List (List ℕ)). length ts) is.terms_are) in
        let has = compared_on old mid c.args.of.now collection (length c.args.of.now.table.now.terms) (length (dictionary collection)) c.check_ranges.new.compared mid_is all
        (c.in-Ok.ensures.all.agree collection is none) in
        let lists = lists_stand_on mid old c.args.of.now.base.now collection (sym mid_is) (c.in-Ok-expect_ends.ensures.stand collection (subst IsSome (sym mid_is) is.stands.told) has.has.lists) in
        let took = took_all old now c.args.of.now collection _ c.check_ranges.new.compared now_is (sym all) (c.in-Ok.ensures.all.agree collection is none) in
        on_ok (LexiconStands now c.args.of.now.base.now collection) (IndexStands old c.args.of.now.base.now collection) c.check.result
        (λ lexicon. record { lists = lists; lexicon = lexicon_on old now c.args.of.now.base.now collection now_is lexicon })
        (c.check.ensures.stand collection (subst IsSome (sym now_is) is.stands.told) took);
    other = λ collection is.
        let old = g.S.Store.files c.args.store.now in
        let now = g.S.Store.files c.expect_ends.new.store in
        let now_is : now ≡ old = c.expect_ends.ensures.looks.files ∙ c.check_ranges.ensures.all.text.looks.files in
        let none = c.requires.start.none c.args.of.now collection in
        let all : length c.args.of.now.table.now.terms ≡ length (dictionary collection) = ap (λ (ts : List (List ℕ)). length ts) is.terms_are in
        let took = took_all old now c.args.of.now collection _ c.check_ranges.new.compared now_is all (c.in-Ok.ensures.all.agree collection is none) in
        if_err (λ refusal. Refutes (LexiconStands now c.args.of.now.base.now collection) refusal) (λ refusal. Refutes (IndexStands old c.args.of.now.base.now collection) refusal) c.check.result
        (λ (refusal : PartErr). refutes_wider (LexiconStands now c.args.of.now.base.now collection) (IndexStands old c.args.of.now.base.now collection) refusal
        (λ stand. lexicon_on now old c.args.of.now.base.now collection (sym now_is) stand.lexicon))
        (c.check.ensures.other collection (subst IsSome (sym now_is) is.stands.told) took);
    text = text_looks c.in-Ok.ensures.all.text (looks_then c.in-Ok-expect_ends.ensures.looks c.check.ensures.looks);
  };
}

pub check-requires-clause-can : goal.check-requires-clause-can
check-requires-clause-can g c =
    let now_is = c.expect_ends.ensures.looks.files ∙ c.check_ranges.ensures.all.text.looks.files in
    let can = can_on (g.S.Store.files c.args.store.now) (g.S.Store.files c.expect_ends.new.store) c.args.of.now _ (length c.args.of.now.table.now.terms) c.check_ranges.new.compared
    now_is refl c.in-Ok.ensures.all.can in
    (c.args.of.now.table.now.terms, length c.args.of.now.table.now.terms, can.compare.push)

pub check-requires-clause-goes : goal.check-requires-clause-goes
check-requires-clause-goes g c = c.in-Ok.ensures.all.can.goes

pub check_ranges-requires-clause-can : goal.check_ranges-requires-clause-can
check_ranges-requires-clause-can g c = c.requires.start.can c.args.of.now refl
