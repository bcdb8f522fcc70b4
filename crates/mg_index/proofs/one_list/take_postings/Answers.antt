use Rattle.std.proofs.Common.{arith, ◌∙◌, ◌≡◌, ◌++◌, ◌∷◌, take, drop, subst}
use Rattle.std.proofs.lemmas.Result.{err_from_is_err_and}
use Rattle.mg_post.specs.Writing.{PushedMore}
use Rattle.mg_index.specs.Listing.{IsInList}
use Rattle.mg_index.proofs.Causes.{rose_behind}
use Rattle.mg_index.proofs.ListFrames.{read_for}
use Rattle.mg_index.proofs.ListSteps.{names_more, one_more_taken, pushed_more, rest_after}
use Rattle.mg_index.proofs.StepLaws.{step_then}
use Rattle.mg_index.proofs.TakeSteps.{take_err}
use Rattle.mg_index.proofs.one_list.take_postings.Goals as goal

pub returns-in_err-last : goal.returns-in_err-last
returns-in_err-last g c =
    let inv = c.loop.invariant in
    let taken = c.in_err-last.ensures.step in
    take_err c.from_residual.result c.in_err-last.field-0.0 (err_from_is_err_and c.from_residual.result c.from_residual.ensures.1)
    (read_for c.in_err-last.field-0.0 (rose_behind _ _ _ inv.step.later)
    (rest_after c.args.number c.args.docs c.loop.counter (omega arith) inv.step.wrote.told inv.told)
    taken.refused)
    (names_more _ _ _ inv.names taken.files) (step_then inv.step taken.step)

pub loop-preserved : goal.loop-preserved
loop-preserved g c =
    let inv = c.loop.invariant in
    let taken = c.in_ok-last.ensures.step in
    record {
      can = taken.can;
      pushed = pushed_more _ _ _ _ inv.pushed taken.pushed;
      last = c.in_ok-last.ensures.last;
      told = λ told done ps left later enough is.
          one_more_taken (λ qs rest. IsInList c.args.number c.loop.merge c.loop.lists c.loop.sums.items (g.S.Store.files c.loop.store) done qs rest later)
          (λ qs rest. IsInList c.args.number c.take_posting.new.merge c.take_posting.new.lists c.take_posting.new.sums.items (g.S.Store.files c.take_posting.new.store) done qs rest later)
          ps left c.loop.counter (omega (arith, enough)) (λ qs p rest h. taken.told (inv.step.wrote.told ∙ told) done qs (p ∷ rest) later (omega arith) h) (inv.told told done ps left later enough is);
      names = names_more _ _ _ inv.names taken.files;
      step = step_then inv.step taken.step;
    }

pub returns : goal.returns
returns g c =
    let inv = c.loop.invariant in
    let all : c.loop.counter ≡ c.args.docs = omega arith in
    record {
      can = inv.can;
      told = λ told done ps left later enough is.
          subst (λ n. IsInList c.args.number c.loop.merge c.loop.lists c.loop.sums.items (g.S.Store.files c.loop.store) done (ps ++ take n left) (drop n left) later) all
          (inv.told told done ps left later enough is);
      pushed = subst (PushedMore c.args.lists.now c.loop.lists) all inv.pushed;
      files = inv.names;
      step = inv.step;
      refused = tt;
    }
