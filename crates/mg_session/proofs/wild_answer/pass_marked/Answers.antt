use Rattle.std.proofs.Common.{arith, ◌+◌, ◌∙◌, ap}
use Rattle.mg_reply.proofs.CallerLemmas.{cause_behind, lack_behind}
use Rattle.mg_session.proofs.WildTextLaws.{rows_counted, rows_cut, rows_passed, rows_start, size_next, size_start}
use Rattle.mg_session.proofs.wild_answer.pass_marked.Goals as goal

pub rows-init : goal.rows-init
rows-init g c = record {
  most = omega arith;
  few = omega arith;
  size = size_start c.args.marked.now;
  output = omega arith;
  lacks = omega arith;
  passed = rows_start c.args.marked.now _ _;
}

pub rows-preserved : goal.rows-preserved
rows-preserved g c =
    let inv = c.rows.invariant in
    let next = (rw c.in-Some.is at c.next_behind.ensures) in
    record {
      most = next.within;
      few = omega (arith, inv.few, next.behind);
      size = size_next c.args.marked.now c.rows.last c.in-Some.number next ∙ ap (λ n. n + 1) inv.size;
      output = omega (arith, inv.output, c.in-Ok.ensures.cause.later);
      lacks = omega (arith, inv.lacks, c.in-Ok.ensures.lack.later);
      passed = rows_passed c.args.marked.now c.rows.last c.in-Some.number _ _ _ _ _ _ next inv.passed c.in-Ok.ensures.content;
    }

pub returns-in-Err : goal.returns-in-Err
returns-in-Err g c =
    let next = (rw c.in-Some.is at c.next_behind.ensures) in
    record {
      content = rows_cut c.args.marked.now c.rows.last c.in-Some.number _ _ _ _ _ next c.rows.invariant.passed c.in-Err.ensures.content;
      cause = cause_behind c.rows.invariant.output c.in-Err.ensures.cause;
      lack = lack_behind c.rows.invariant.lacks c.in-Err.ensures.lack;
    }

pub returns : goal.returns
returns g c =
    let none = (rw c.in_default.is at c.next_behind.ensures) in
    record {
      content = rows_counted c.args.marked.now c.rows.last c.rows.total _ _ _ _ _ _ c.count.result c.rows.invariant.most none c.rows.invariant.size c.rows.invariant.passed c.count.ensures.content;
      cause = cause_behind c.rows.invariant.output c.count.ensures.cause;
      lack = lack_behind c.rows.invariant.lacks c.count.ensures.lack;
    }
