use Rattle.std.proofs.Common.{arith, ◌≡◌, ◌+◌, IsSome, length, refl, sym, subst}
use Rattle.mg_check_index.specs.Listing.{ListsStand}
use Rattle.mg_check_parts.proofs.CallerLemmas.{looks_err, looks_none, looks_ok, looks_then}
use Rattle.mg_check_index.proofs.EndLaws.{can_on, compared_on, lists_stand_on}
use Rattle.mg_check_index.proofs.LexiconLaws.{refutes_wider}
use Rattle.mg_check_index.proofs.SomeLaws.{first_of_some, own_of_some, range_of_some}
use Rattle.mg_check_index.proofs.lists_of_range.check_lists.Goals as goal

pub loop-first-init : goal.loop-first-init
loop-first-init g c =
    let old = g.S.Store.files c.args.store.now in
    let at : c.args.lists.now.first + 0 ≡ c.args.lists.now.first = omega arith in
    record {
      within = omega arith;
      can = can_on old old c.args.of.now _ _ c.args.compared.now refl at c.requires.range.can;
      agree = λ collection told of has. compared_on old old c.args.of.now collection _ _ c.args.compared.now refl at has;
      looks = looks_none _ _ _;
    }

pub check_some-requires : goal.check_some-requires
check_some-requires g c =
    let some = c.of_range-some in
    let w = c.args.lists.now in
    record {
      range = record {
        range = range_of_some w some.result c.args.of.now c.loop-first.first some.ensures.lists some.ensures.some some.ensures.within c.requires.range.range;
        can = can_on (g.S.Store.files c.args.store.now) (g.S.Store.files c.loop-first.store) c.args.of.now _ _ c.loop-first.compared c.loop-first.invariant.looks.files
            (first_of_some w some.result c.loop-first.first some.ensures.lists) c.loop-first.invariant.can;
      };
    }

pub returns-in-Err : goal.returns-in-Err
returns-in-Err g c =
    let inv = c.loop-first.invariant in
    let some = c.of_range-some in
    let w = c.args.lists.now in
    let of = c.args.of.now in
    let old = g.S.Store.files c.args.store.now in
    let now = g.S.Store.files c.loop-first.store in
    let files = inv.looks.files in
    record {
      range = record {
        can = tt;
        agree = λ collection told own has. tt;
        other = λ collection told own has.
            let so_far = compared_on old now of collection _ _ c.loop-first.compared files (first_of_some w some.result c.loop-first.first some.ensures.lists) (inv.agree collection told own has) in
            refutes_wider _ (ListsStand old of.base.now collection) c.in-Err.refusal (lists_stand_on old now of.base.now collection files)
            (c.in-Err.ensures.range.other collection (subst IsSome (sym files) told)
            (own_of_some w some.result of.table.now.terms of.documents collection c.loop-first.first some.ensures.lists some.ensures.within own) so_far);
        looks = looks_err (looks_then inv.looks c.in-Err.ensures.range.looks);
      };
    }

pub loop-first-preserved : goal.loop-first-preserved
loop-first-preserved g c =
    let inv = c.loop-first.invariant in
    let some = c.of_range-some in
    let w = c.args.lists.now in
    let of = c.args.of.now in
    let old = g.S.Store.files c.args.store.now in
    let now = g.S.Store.files c.loop-first.store in
    let files = inv.looks.files in
    let at = first_of_some w some.result c.loop-first.first some.ensures.lists in
    let next : w.first + (c.loop-first.first + c.count-first.result) ≡ some.result.first + length some.result.next = omega (arith, at, c.count-first.ensures) in
    record {
      within = omega (arith, some.ensures.within, c.count-first.ensures);
      can = can_on now old of _ _ c.check_some.new.compared (sym files) next c.in-Ok.ensures.range.can;
      agree = λ collection told own has.
          let so_far = compared_on old now of collection _ _ c.loop-first.compared files at (inv.agree collection told own has) in
          compared_on now old of collection _ _ c.check_some.new.compared (sym files) next
          (c.in-Ok.ensures.range.agree collection (subst IsSome (sym files) told)
          (own_of_some w some.result of.table.now.terms of.documents collection c.loop-first.first some.ensures.lists some.ensures.within own) so_far);
      looks = looks_then inv.looks (looks_ok c.in-Ok.ensures.range.looks);
    }

pub loop-first-smaller : goal.loop-first-smaller
loop-first-smaller g c = omega (arith, c.of_range-some.ensures.some, c.of_range-some.ensures.within, c.count-first.ensures)

pub returns : goal.returns
returns g c =
    let inv = c.loop-first.invariant in
    let w = c.args.lists.now in
    let old = g.S.Store.files c.args.store.now in
    let all : w.first + length w.next ≡ w.first + c.loop-first.first = omega (arith, c.loop-first-test.false, inv.within, c.count-all.ensures) in
    record {
      range = record {
        can = can_on old old c.args.of.now _ _ c.loop-first.compared refl all inv.can;
        agree = λ collection told own has. compared_on old old c.args.of.now collection _ _ c.loop-first.compared refl all (inv.agree collection told own has);
        other = λ collection told own has. tt;
        looks = inv.looks;
      };
    }
