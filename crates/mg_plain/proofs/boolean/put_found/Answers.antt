use Rattle.std.proofs.Common.{arith, rules, sym, ◌∙◌}
use Rattle.mg_plain.proofs.BooleanAnswerLaws.{so_far_start, so_far_miss, so_far_hit, so_far_part, so_far_count, counted_text, refused_text}
use Rattle.mg_plain.proofs.boolean.put_found.Goals as goal

pub docs-init : goal.docs-init
docs-init g c = record {
  scanned = rw (c.new-docs.ensures, c.new-pending.ensures) (so_far_start _ _ _ _);
  few = omega arith;
  counts = c.requires.counts;
  there = c.requires.there;
  faults = omega arith;
  lacks = omega arith;
}

pub overflow_add-number : goal.overflow_add-number
overflow_add-number g c = omega (arith, (so_far_count c.docs.invariant.scanned c.in-Some.ensures c.requires.small).0)

pub is_satisfied-requires-clause-small : goal.is_satisfied-requires-clause-small
is_satisfied-requires-clause-small g c = (so_far_count c.docs.invariant.scanned c.in-Some.ensures c.requires.small).1

pub docs-preserved-then-not-is_satisfied : goal.docs-preserved-then-not-is_satisfied
docs-preserved-then-not-is_satisfied g c = record {
  scanned = so_far_miss c.docs.invariant.scanned c.in-Some.ensures (sym c.is_satisfied.ensures.value ∙ c.if-not-is_satisfied.true);
  few = omega arith;
  counts = c.is_satisfied.ensures.counts;
  there = c.is_satisfied.ensures.there;
  faults = omega arith;
  lacks = omega arith;
}

pub returns-in-Err : goal.returns-in-Err
returns-in-Err g c = record {
  puts = record {
    content = so_far_part c.docs.invariant.scanned c.in-Some.ensures (sym c.is_satisfied.ensures.value ∙ c.if-not-is_satisfied.false) c.in-Err.ensures.content;
    cause = search rules;
    lack = search rules;
  };
}

pub overflow_add-total : goal.overflow_add-total
overflow_add-total g c = omega (arith, (so_far_count c.docs.invariant.scanned c.in-Some.ensures c.requires.small).0, c.docs.invariant.few)

pub docs-preserved : goal.docs-preserved
docs-preserved g c = record {
  scanned = so_far_hit c.docs.invariant.scanned c.in-Some.ensures (sym c.is_satisfied.ensures.value ∙ c.if-not-is_satisfied.false) c.in-Ok.ensures.content;
  few = omega arith;
  counts = c.is_satisfied.ensures.counts;
  there = c.is_satisfied.ensures.there;
  faults = omega arith;
  lacks = omega arith;
}

pub returns-in-Ok-count : goal.returns-in-Ok-count
returns-in-Ok-count g c = record {
  puts = record {
    content = counted_text _ c.flush.result c.docs.invariant.scanned c.in_default.ensures.0 c.in-Ok-count.ensures.content c.flush.ensures.put.content;
    cause = search rules;
    lack = search rules;
  };
}

pub returns-in-Err-count : goal.returns-in-Err-count
returns-in-Err-count g c = record {
  puts = record {
    content = refused_text c.docs.invariant.scanned c.in_default.ensures.0 c.in-Err-count.ensures.content;
    cause = search rules;
    lack = search rules;
  };
}
