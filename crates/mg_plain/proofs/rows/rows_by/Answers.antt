use Rattle.std.proofs.Common.{arith}
use Rattle.mg_plain.proofs.RankingUnderWayLaws.{ranked_start, ranked_small, ranked_miss, ranked_hit, ranked_all}
use Rattle.mg_plain.proofs.rows.rows_by.Goals as goal
use Rattle.mg_plain.proofs.rows.rows_by.Goals.{in-Some-2+in_ok-push, in_default-2}

pub docs-init : goal.docs-init
docs-init c = record {
  ranked = rw (c.new-docs.ensures, c.new-rows.ensures.items) (ranked_start _ _);
  size = c.requires.counts;
}

pub overflow_add-number : goal.overflow_add-number
overflow_add-number c = omega (arith, (ranked_small c.docs.invariant.ranked c.in-Some.ensures c.requires.small).0)

pub score_where_found-requires-clause-small : goal.score_where_found-requires-clause-small
score_where_found-requires-clause-small c = (ranked_small c.docs.invariant.ranked c.in-Some.ensures c.requires.small).1

pub docs-preserved : goal.docs-preserved
docs-preserved c = record {
  ranked = elim c.match-branch-2.branch [
    | in-Some-2+in_ok-push w ↦
        let found = rw w.in-Some-2.is at c.in_ok-score.ensures.score in
        rw (w.rows-is, w.in_ok-push.ensures.items) (ranked_hit c.docs.invariant.ranked c.in-Some.ensures found.0 (found.1 c.args.bytes.now c.requires.weights))
    | in_default-2 w ↦
        let missing = rw w.in_default-2.is at c.in_ok-score.ensures.score in
        rw w.rows-is (ranked_miss c.docs.invariant.ranked c.in-Some.ensures missing)
  ];
  size = c.score_where_found.ensures.counts;
}

pub returns-clause-hits : goal.returns-clause-hits
returns-clause-hits c = ranked_all c.docs.invariant.ranked c.in_default.ensures.0
