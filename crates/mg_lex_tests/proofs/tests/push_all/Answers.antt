use Rattle.std.proofs.Common.{rules, arith, [], ◌∙◌, ap, ◌==◌, ◌||◌, ◌≡◌, sym, true, ℕ, List}
use Rattle.mg_defs.specs.Front.{is_below}
use Rattle.mg_lex_tests.proofs.tests.push_all.Goals as goal

above_as : (n m : ℕ) (l k t : List ℕ) → n ≡ m → l ≡ k → (m == 0 || is_below k t) ≡ true → (n == 0 || is_below l t) ≡ true
above_as n m l k t count last above = ap (λ x. x == 0 || is_below l t) count ∙ ap (λ x. m == 0 || is_below x t) last ∙ above

pub loop-term-init : goal.loop-term-init
loop-term-init g c = record { took = ([], c.requires.took); count = c.requires.took.took.count; last = c.requires.took.took.last }

pub push-requires-clause-took : goal.push-requires-clause-took
push-requires-clause-took g c = c.loop-term.invariant.took

pub push-requires-clause-above : goal.push-requires-clause-above
push-requires-clause-above g c = above_as _ _ _ _ _ c.loop-term.invariant.count c.loop-term.invariant.last c.if-not-may_come.ensures.above

pub loop-term-preserved : goal.loop-term-preserved
loop-term-preserved g c = record {
  took = (_, c.in_ok-push.ensures.took c.loop-term.invariant.took.0 c.loop-term.invariant.took.1);
  count = c.in_ok-push.ensures.count ∙ omega (arith, c.loop-term.invariant.count);
  last = c.in_ok-push.ensures.last;
}
