use Rattle.std.proofs.Common.{rules, ◌≡◌, ◌+◌, ◌-◌, ◌*◌, ◌<◌, ◌++◌, ◌∷◌, [], ℕ, length, length-append, take, drop, sym, ◌∙◌, ap, subst, arith, min, max}
use Rattle.mg_runs.specs.Rounds.{AreCounted}
use Rattle.mg_runs.proofs.RoundsLoop.{counted_all, counted_more, length_slice, peak_group}
use Rattle.mg_dev.specs.declared.part_err.PartErr.TheVariants.{Memory}
use Rattle.mg_runs.proofs.Joins.{passed_bytes}
use Rattle.mg_runs.proofs.StepLaws.{run_err, run_none, run_ok, run_then, writer_bad, writer_err, writer_none, writer_then}
use Rattle.mg_runs.specs.Joins.{IsJoining}
use Rattle.mg_runs.specs.declared.round.Joined.{Joined}
use Rattle.mg_runs.proofs.Steps.{tells_err}
use Rattle.mg_runs.proofs.JoinedGroups.{joining_none, joining_next, joining_more, joining_end}
use Rattle.mg_runs.proofs.round.join_groups.Goals as goal

pub returns-in-Err-join_next : goal.returns-in-Err-join_next
returns-in-Err-join_next g c =
    let inv = c.loop-at.invariant in
    record {
      told = λ told whole is.
          let joining = inv.told told whole is in
          let same = passed_bytes inv.step.writer.pass.passed c.requires.begun.apart.apart in
          let group
          = joining_next _ c.args.stored.places.now whole c.args.width c.loop-at.at (c.loop-at.at + c.min.result) _ _ _ _ _ is joining c.requires.begun.place c.requires.more.slots.some
          c.requires.more.more c.loop-at-test.true (omega (arith, c.min.ensures)) in
          let next = rw same at c.in-Err-join_next.ensures.told in
          tells_err Joined Joined _ _ c.in-Err-join_next.refusal (next (inv.step.writer.pass.passed.told ∙ told) _ group.0 group.1);
      made = tt;
      step = run_err (writer_err (writer_then inv.step.writer c.in-Err-join_next.ensures.step.writer));
    }

pub loop-at-init : goal.loop-at-init
loop-at-init g c = record {
  within = search rules;
  entries = search rules;
  limit = search rules;
  count = search rules;
  peak = search rules;
  step = run_none {T = Unit {0}} _ _ _ c.requires.begun.place c.requires.begun.apart.holds;
  told = λ told whole is.
      subst (λ p. IsJoining c.args.width is.runs 0 p (g.S.Store.files c.args.store.now) (g.S.Store.files c.args.store.now) c.args.w.now c.args.w.now)
      (sym c.in-Ok.ensures.items) (joining_none c.args.width is.runs (g.S.Store.files c.args.store.now) c.args.w.now c.requires.more.slots.some);
}

pub loop-at-preserved : goal.loop-at-preserved
loop-at-preserved g c =
    let inv = c.loop-at.invariant in
    let at : ℕ = c.loop-at.at in
    let end : ℕ = c.loop-at.at + c.min.result in
    let n : ℕ = length c.args.stored.places.now in
    let less : at < n = c.loop-at-test.true in
    let e : end ≡ at + min c.args.width (n - at) = omega (arith, c.min.ensures) in
    let up : end ≡ min (at + c.args.width) n = omega arith in
    let size : length (take (end - at) (drop at c.args.stored.places.now)) ≡ end - at = length_slice at end c.args.stored.places.now (omega arith) in
    let push : c.in-Ok-join_next.next.places.items ≡ c.loop-at.made.places.items ++ c.loop-at.w.place ∷ [] = c.in-Ok-join_next.ensures.places in
    let more : length c.in-Ok-join_next.next.places.items ≡ length c.loop-at.made.places.items + 1
    = ap (λ l. length l) push ∙ length-append c.loop-at.made.places.items (c.loop-at.w.place ∷ []) in
    let top = c.in-Ok-join_next.ensures.pool.peak in
    record {
      within = omega arith;
      entries = c.in-Ok-join_next.ensures.pool.entries;
      limit = c.in-Ok-join_next.ensures.pool.limit ∙ inv.limit;
      count = subst (λ k. AreCounted c.args.width n end k) (sym more) (counted_more c.args.width n at end _ inv.count less up);
      peak = peak_group c.args.width (length c.loop-at.made.places.items) n at end c.args.pool.peak c.loop-at.made.pool.peak _ inv.count.next less up inv.peak
          (top ∙ ap (λ k. max c.loop-at.made.pool.peak (64 * k)) size);
      step = run_ok (run_then inv.step.writer c.in-Ok-join_next.ensures.step);
      told = λ told whole is.
          let joining = inv.told told whole is in
          let same = passed_bytes inv.step.writer.pass.passed c.requires.begun.apart.apart in
          let group = joining_next _ c.args.stored.places.now whole c.args.width at end _ _ _ _ _ is joining c.requires.begun.place c.requires.more.slots.some c.requires.more.more less e in
          let next = rw same at c.in-Ok-join_next.ensures.told in
          let wrote = next (inv.step.writer.pass.passed.told ∙ told) _ group.0 group.1 in
          joining_more is joining c.requires.begun.place less e inv.step.writer.pass.passed.told wrote push;
    }

pub returns : goal.returns
returns g c =
    let inv = c.loop-at.invariant in
    let some = c.requires.more.slots.some in
    record {
      told = λ told whole is. joining_end _ c.args.stored.places.now whole c.args.width c.loop-at.at _ _ _ _ _ is (inv.told told whole is) some c.loop-at-test.false;
      made = record {
        count = counted_all c.args.width (length c.args.stored.places.now) c.loop-at.at _ inv.count some c.loop-at-test.false;
        pool = record { entries = inv.entries; limit = inv.limit; peak = search rules };
      };
      step = run_ok inv.step;
    }

pub join_next-requires : goal.join_next-requires
join_next-requires g c =
    let inv = c.loop-at.invariant in
    record {
      ready = record {
        slots = record { some = search rules; room = search rules; limit = search rules; entries = search rules };
        writer = record { holds = inv.step.writer.holds; apart = λ e. c.requires.begun.apart.apart (e ∙ inv.step.writer.name) };
        whole = inv.step.whole;
      };
    }

pub returns-in-Err : goal.returns-in-Err
returns-in-Err g c = record {
  told = λ told whole is. tt;
  made = tt;
  step = run_err (writer_bad {T = Unit {0}} {x = tt} Memory (writer_none _ _ _ c.requires.begun.apart.holds) (λ f g. tt) tt);
}
