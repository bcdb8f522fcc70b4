use Rattle.std.proofs.Common.{arith, rules}
use Rattle.mg_plain.proofs.RankedAnswerLaws.{rows_start, rows_more, rows_part}
use Rattle.mg_plain.proofs.ranked.put_rows.Goals as goal

pub loop-row-init : goal.loop-row-init
loop-row-init g c = record {
  passed = rows_start c.args.bytes.now c.args.mode c.args.rows.now _ _;
  faults = omega arith;
  lacks = omega arith;
}

pub loop-row-preserved : goal.loop-row-preserved
loop-row-preserved g c = record {
  passed = rows_more c.args.bytes.now c.args.mode c.args.rows.now c.loop-row.row-index _ _ _ _ _ _ _ (omega arith) c.loop-row.invariant.passed c.in-Ok.ensures.passes.content;
  faults = omega (arith, c.in-Ok.ensures.passes.cause);
  lacks = omega (arith, c.in-Ok.ensures.passes.lack);
}

pub returns-in-Err : goal.returns-in-Err
returns-in-Err g c = record {
  passes = record {
    content = rows_part c.args.bytes.now c.args.mode c.args.rows.now c.loop-row.row-index _ _ _ _ _ _ (omega arith) c.loop-row.invariant.passed c.in-Err.ensures.passes.content;
    cause = search rules;
    lack = search rules;
  };
}
