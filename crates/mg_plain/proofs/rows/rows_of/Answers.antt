use Rattle.std.proofs.Common.{arith, get_or, []}
use Rattle.mg_plain.proofs.RankingUnderWayLaws.{docs-few, weights_are}
use Rattle.mg_plain.proofs.rows.rows_of.Goals as goal

pub weigh_each-requires : goal.weigh_each-requires
weigh_each-requires c = λ k lt.
    let of = c.count_documents-all.ensures.found in
    omega (arith, of.each k (omega (arith, lt, of.size)), docs-few c.args.bytes.now (get_or c.as_slice-terms.result.now k []), c.count_documents-all.ensures.all)

pub rows_by-requires-clause-weights : goal.rows_by-requires-clause-weights
rows_by-requires-clause-weights c =
    weights_are c.args.bytes.now _ _ _ _ c.count_documents-all.ensures.all c.count_documents-all.ensures.found c.weigh_each.ensures.same c.weigh_each.ensures.each
