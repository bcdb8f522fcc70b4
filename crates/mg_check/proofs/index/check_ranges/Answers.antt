use Rattle.std.proofs.Common.{arith, ◌≡◌, length, refl, sym}
use Rattle.mg_check_index.specs.Listing.{ListsStand}
use Rattle.mg_check_text.proofs.CallerLemmas.{text_err, text_none, text_ok, text_then}
use Rattle.mg_check_index.proofs.CallerLemmas.{can_on, compared_on, lists_stand_on, refutes_wider}
use Rattle.mg_check.proofs.IndexLaws.{index_on, index_stays}
use Rattle.mg_check.proofs.index.check_ranges.Goals as goal

pub loop-first-init : goal.loop-first-init
loop-first-init g c = record {
  within = omega arith;
  text = text_none _ _ _ c.requires.index.text.fits;
  can = c.requires.can;
  agree = λ collection is has. has;
}

pub check_range-requires-clause-index : goal.check_range-requires-clause-index
check_range-requires-clause-index g c = let text = c.loop-first.invariant.text in index_on text.fits text.same c.requires.index

pub check_range-requires-clause-can : goal.check_range-requires-clause-can
check_range-requires-clause-can g c =
    let inv = c.loop-first.invariant in
    can_on (g.S.Store.files c.args.store.now) (g.S.Store.files c.loop-first.store) c.args.of.now c.loop-first.first c.loop-first.first c.loop-first.compared inv.text.looks.files refl inv.can

pub returns-in-Err : goal.returns-in-Err
returns-in-Err g c =
    let inv = c.loop-first.invariant in
    let old = g.S.Store.files c.args.store.now in
    let files = inv.text.looks.files in
    record {
      all = record {
        can = tt;
        agree = λ collection is has. tt;
        other = λ collection is has.
            let there = index_stays inv.text.same files is in
            let so_far = compared_on old (g.S.Store.files c.loop-first.store) c.args.of.now collection _ _ c.loop-first.compared files refl (inv.agree collection is has) in
            refutes_wider _ (ListsStand old c.args.of.now.base.now collection) c.in-Err.refusal (lists_stand_on old (g.S.Store.files c.loop-first.store) c.args.of.now.base.now collection files)
            (c.in-Err.ensures.next.other collection there so_far);
        text = text_err (text_then c.loop-first.invariant.text c.in-Err.ensures.next.text);
      };
    }

pub loop-first-preserved : goal.loop-first-preserved
loop-first-preserved g c =
    let inv = c.loop-first.invariant in
    let old = g.S.Store.files c.args.store.now in
    let files = inv.text.looks.files in
    record {
      within = omega (arith, c.in-Ok.ensures.next.behind.within, c.count-terms.ensures.count);
      text = text_then inv.text (text_ok c.in-Ok.ensures.next.text);
      can = can_on (g.S.Store.files c.loop-first.store) old c.args.of.now _ _ c.check_range.new.compared (sym files) refl c.in-Ok.ensures.next.can;
      agree = λ collection is has.
          let there = index_stays inv.text.same files is in
          let so_far = compared_on old (g.S.Store.files c.loop-first.store) c.args.of.now collection _ _ c.loop-first.compared files refl (inv.agree collection is has) in
          compared_on (g.S.Store.files c.loop-first.store) old c.args.of.now collection _ _ c.check_range.new.compared (sym files) refl (c.in-Ok.ensures.next.agree collection there so_far);
    }

pub returns : goal.returns
returns g c =
    let inv = c.loop-first.invariant in
    let all : length c.args.of.now.table.now.terms ≡ c.loop-first.first = omega (arith, c.loop-first-test.false, inv.within, c.count-terms.ensures.count) in
    let files = g.S.Store.files c.args.store.now in
    record {
      all = record {
        can = can_on files files c.args.of.now _ _ c.loop-first.compared refl all inv.can;
        agree = λ collection is has.
            compared_on files files c.args.of.now collection c.loop-first.first (length c.args.of.now.table.now.terms) c.loop-first.compared refl all (inv.agree collection is has);
        other = λ collection is has. tt;
        text = c.loop-first.invariant.text;
      };
    }

pub loop-first-smaller : goal.loop-first-smaller
loop-first-smaller g c = omega (arith, c.in-Ok.ensures.next.behind.after, c.loop-first-test.true)
