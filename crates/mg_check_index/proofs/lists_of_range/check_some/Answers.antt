use Rattle.std.proofs.Common.{subst, sym}
use Rattle.mg_check_parts.proofs.CallerLemmas.{looks_err}
use Rattle.mg_check_index.proofs.ComparedLaws.{not_bad_refutes}
use Rattle.mg_check_index.specs.Listing.{CanCompareRange}
use Rattle.mg_check_index.proofs.NewListsLaws.{new-on, range-on}
use Rattle.mg_check_index.proofs.lists_of_range.check_some.Goals as goal

pub check-requires-clause-new : goal.check-requires-clause-new
check-requires-clause-new g c = new-on _ _ (sym c.in-Ok.ensures.looks.looks.files) c.in-Ok.ensures.new

pub check-requires-clause-range : goal.check-requires-clause-range
check-requires-clause-range g c =
    subst (λ f. CanCompareRange f c.args.of.now c.args.lists.now c.args.compared.now) (sym c.in-Ok.ensures.looks.looks.files) c.requires.range

pub returns-in-Err : goal.returns-in-Err
returns-in-Err g c = record {
  range = record {
    can = tt;
    agree = λ collection told of has. tt;
    other = λ collection told of has. not_bad_refutes _ c.in-Err.refusal c.in-Err.ensures.looks.never_bad;
    looks = looks_err c.in-Err.ensures.looks.looks;
  };
}

pub returns : goal.returns
returns g c = record { range = range-on c.in-Ok.ensures.looks.looks c.check.ensures.range }
