use Rattle.std.proofs.Common.{arith, ◌≡◌, ◌+◌, length, sym, subst, IsSome}
use Rattle.mg_check_index.specs.Listing.{ListsStand}
use Rattle.mg_check_text.proofs.CallerLemmas.{text_err, text_looks, text_ok}
use Rattle.mg_check_index.proofs.CallerLemmas.{not_bad_refutes, can_on, compared_on, lists_stand_on, refutes_wider}
use Rattle.mg_check.proofs.index.check_range.Goals as goal

pub returns-in-Err : goal.returns-in-Err
returns-in-Err g c = record {
  next = record {
    behind = tt;
    can = tt;
    agree = λ collection is has. tt;
    other = λ collection is has.
        not_bad_refutes (ListsStand (g.S.Store.files c.args.store.now) c.args.of.now.base.now collection) c.in-Err.refusal (c.in-Err.ensures.never_bad collection is);
    text = text_err c.in-Err.ensures.text;
  };
}

pub check_lists-requires : goal.check_lists-requires
check_lists-requires g c =
    let old = g.S.Store.files c.args.store.now in
    let now = g.S.Store.files c.read_range.new.store in
    record {
      range = record {
        range = c.in-Ok.ensures.range;
        can = can_on old now c.args.of.now c.args.first c.in-Ok.lists.first c.args.compared.now c.in-Ok.ensures.text.looks.files c.in-Ok.ensures.first c.requires.can;
      };
    }

pub returns-in-Ok-check_lists : goal.returns-in-Ok-check_lists
returns-in-Ok-check_lists g c =
    let old = g.S.Store.files c.args.store.now in
    let now = g.S.Store.files c.read_range.new.store in
    let files : now ≡ old = c.in-Ok.ensures.text.looks.files in
    let first = c.in-Ok.ensures.first in
    let range = c.in-Ok.ensures.range in
    let next : c.args.first + c.count.result ≡ c.in-Ok.lists.first + length c.in-Ok.lists.next = omega (arith, first, c.count.ensures) in
    let compared = c.in-Ok-check_lists.ensures.range in
    record {
      next = record {
        behind = record { after = omega (arith, range.some, c.count.ensures); within = omega (arith, range.range, first, c.count.ensures) };
        can = can_on now old c.args.of.now _ _ c.check_lists.new.compared (sym files) next compared.can;
        agree = λ collection is has.
            compared_on now old c.args.of.now collection _ _ c.check_lists.new.compared (sym files) next
            (compared.agree collection (subst IsSome (sym files) is.stands.told) (c.in-Ok.ensures.held collection is)
            (compared_on old now c.args.of.now collection c.args.first c.in-Ok.lists.first c.args.compared.now files first has));
        other = λ collection is has. tt;
        text = text_ok (text_looks c.in-Ok.ensures.text c.in-Ok-check_lists.ensures.range.looks);
      };
    }

pub returns : goal.returns
returns g c =
    let old = g.S.Store.files c.args.store.now in
    let now = g.S.Store.files c.read_range.new.store in
    let files : now ≡ old = c.in-Ok.ensures.text.looks.files in
    record {
      next = record {
        behind = tt;
        can = tt;
        agree = λ collection is has. tt;
        other = λ collection is has.
            refutes_wider _ (ListsStand old c.args.of.now.base.now collection) c.in-Err-check_lists.refusal (lists_stand_on old now c.args.of.now.base.now collection files)
            (c.in-Err-check_lists.ensures.range.other collection (subst IsSome (sym files) is.stands.told) (c.in-Ok.ensures.held collection is)
            (compared_on old now c.args.of.now collection c.args.first c.in-Ok.lists.first c.args.compared.now files c.in-Ok.ensures.first has));
        text = text_err (text_looks c.in-Ok.ensures.text c.in-Err-check_lists.ensures.range.looks);
      };
    }
