use Rattle.std.proofs.Common.{rules}
use Rattle.mg_plain.proofs.RankedAnswerLaws.{answer_put, answer_cut, answer_part}
use Rattle.mg_plain.proofs.ranked.put_answer.Goals as goal

pub returns-in-Err : goal.returns-in-Err
returns-in-Err g c =
    let passed = c.in-Err.ensures.passes in
    record {
      puts = record {
        content = answer_part c.args.bytes.now c.args.now.now c.args.rows.now _ _ _ _ c.new-pending.ensures c.first_rows-shown.ensures passed.content;
        cause = passed.cause;
        lack = passed.lack;
      };
    }

pub returns-in-Ok-count : goal.returns-in-Ok-count
returns-in-Ok-count g c = record {
  puts = record {
    content = answer_put c.args.bytes.now c.args.now.now c.args.rows.now _ _ c.new-pending.ensures c.first_rows-shown.ensures c.in-Ok.ensures.passes.content
        c.in-Ok-count.ensures.content c.flush.ensures.put.content;
    cause = search rules;
    lack = search rules;
  };
}

pub returns-in-Err-count : goal.returns-in-Err-count
returns-in-Err-count g c = record {
  puts = record {
    content = answer_cut c.args.bytes.now c.args.now.now c.args.rows.now _ _ _ _ _ _ c.new-pending.ensures c.first_rows-shown.ensures c.in-Ok.ensures.passes.content
        c.in-Err-count.ensures.content;
    cause = search rules;
    lack = search rules;
  };
}
