use Rattle.std.proofs.Common.{sym, ◌∙◌, inl, inr}
use Rattle.mg_runs.proofs.Like.{like-first, like-more, like-end}
use Rattle.mg_runs.proofs.groups.group_end.Goals as goal

pub loop-next-init : goal.loop-next-init
loop-next-init c =
    like-first c.args.entries.now c.args.from c.number_at-term.result c.number_at-doc.result c.requires.from (sym c.number_at-term.ensures) (sym c.number_at-doc.ensures)

pub loop-next-preserved : goal.loop-next-preserved
loop-next-preserved c =
    like-more c.args.entries.now c.args.from c.loop-next.next c.number_at-term.result c.number_at-doc.result c.loop-next.invariant c.loop-next-test.true
    (sym c.number_at.ensures ∙ c.if-number_at-term.true) (sym c.number_at-then-number_at-term.ensures ∙ c.if-number_at-doc.true)

pub returns-else-number_at-doc : goal.returns-else-number_at-doc
returns-else-number_at-doc c = record {
  after = c.loop-next.invariant.after;
  within = c.loop-next.invariant.within;
  group = like-end c.args.entries.now c.args.from c.loop-next.next c.number_at-term.result c.number_at-doc.result c.loop-next.invariant c.requires.order.order
      (sym c.number_at-term.ensures) (sym c.number_at-doc.ensures)
      (inr (c.loop-next-test.true, λ p q. let f = c.if-number_at-doc.false in f (c.number_at-then-number_at-term.ensures ∙ q)));
}

pub returns-else-number_at-term : goal.returns-else-number_at-term
returns-else-number_at-term c = record {
  after = c.loop-next.invariant.after;
  within = c.loop-next.invariant.within;
  group = like-end c.args.entries.now c.args.from c.loop-next.next c.number_at-term.result c.number_at-doc.result c.loop-next.invariant c.requires.order.order
      (sym c.number_at-term.ensures) (sym c.number_at-doc.ensures)
      (inr (c.loop-next-test.true, λ p q. let f = c.if-number_at-term.false in f (c.number_at.ensures ∙ p)));
}

pub returns-after-loop-next : goal.returns-after-loop-next
returns-after-loop-next c = record {
  after = c.loop-next.invariant.after;
  within = c.loop-next.invariant.within;
  group = like-end c.args.entries.now c.args.from c.loop-next.next c.number_at-term.result c.number_at-doc.result c.loop-next.invariant c.requires.order.order
      (sym c.number_at-term.ensures) (sym c.number_at-doc.ensures) (inl c.loop-next-test.false);
}
