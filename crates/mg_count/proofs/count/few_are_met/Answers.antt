use Rattle.mg_count.proofs.Counted.{AddUp}
use Rattle.mg_count.proofs.Fed.{FewLaws, few-marks, few-met}
use Rattle.mg_count.proofs.count.few_are_met.Goals as goal

pub returns-clause-met : goal.returns-clause-met
returns-clause-met c =
    let e = c.marks_add_up.ensures in
    let adds : AddUp = record { documents = e.documents; pieces = e.pieces; pairs = e.pairs; last = e.last } in
    let laws : FewLaws = record { adds = adds; pieces = c.marks_have_all.ensures.pieces; few_pairs = c.few_of_each.ensures.pairs } in
    few-met laws

pub returns-clause-all : goal.returns-clause-all
returns-clause-all c =
    let e = c.marks_add_up.ensures in
    let adds : AddUp = record { documents = e.documents; pieces = e.pieces; pairs = e.pairs; last = e.last } in
    let laws : FewLaws = record { adds = adds; pieces = c.marks_have_all.ensures.pieces; few_pairs = c.few_of_each.ensures.pairs } in
    few-marks laws
