use Rattle.std.proofs.Common.{arith, ◌≡◌, ◌+◌, ◌++◌, Ok, length, subst, sym}
use Rattle.mg_count.specs.Whole.{between}
use Rattle.mg_count.proofs.CallerLemmas.{between-length, between-none}
use Rattle.mg_make.specs.SetSteps.{SliceStep}
use Rattle.mg_make.proofs.SliceSteps.{length_behind, slice_as, slice_between, slice_none, stops_between}
use Rattle.mg_make.proofs.writer.SetWriter.take_pieces.Goals as goal

pub loop-at-init : goal.loop-at-init
loop-at-init g c = record {
  after = omega arith;
  within = c.requires.within;
  step = slice_as (sym (between-none (c.args.from + 1) c.args.bytes.now)) (slice_none c.requires.put.0 c.requires.put.1);
}

pub take_piece-requires : goal.take_piece-requires
take_piece-requires g c =
    let given = c.requires.put in
    let l = c.loop-at.invariant in
    record {
      within = l.within;
      put = (
        given.0 ++ between (c.args.from + 1) (c.loop-at.at + 1) c.args.bytes.now,
        l.step.put given.0 given.1,
        omega (arith, given.2, l.after, l.within, length_behind given.0 c.args.bytes.now (c.args.from + 1) (c.loop-at.at + 1) (omega (arith, l.within))),
      );
    }

pub loop-at-preserved : goal.loop-at-preserved
loop-at-preserved g c =
    let l = c.loop-at.invariant in
    let step = c.in-Ok.ensures in
    record {
      after = omega (arith, l.after, step.0);
      within = step.1;
      step = slice_between c.args.bytes.now (c.args.from + 1) (c.loop-at.at + 1) (c.in-Ok.next + 1) (omega (arith, l.after)) (omega (arith, step.0)) l.step step.2;
    }

pub returns-then-next-at : goal.returns-then-next-at
returns-then-next-at g c =
    let l = c.loop-at.invariant in
    let step = c.in-Ok.ensures in
    let same : c.in-Ok.next ≡ c.loop-at.at = c.if-next-at.true in (
      l.after,
      l.within,
      subst (λ n. SliceStep c.args.self.now c.take_piece.new.self (between (c.args.from + 1) (n + 1) c.args.bytes.now) (Ok tt) (g.S.Store.files c.args.store.now)
          (g.S.Store.files c.take_piece.new.store) (g.S.Store.reads c.args.store.now) (g.S.Store.reads c.take_piece.new.store) (g.S.Store.faults c.args.store.now) (g.S.Store.faults c.take_piece.new.store)) same
          (slice_between c.args.bytes.now (c.args.from + 1) (c.loop-at.at + 1) (c.in-Ok.next + 1) (omega (arith, l.after)) (omega (arith, step.0)) l.step step.2),
    )

pub returns-in-Err : goal.returns-in-Err
returns-in-Err g c =
    let l = c.loop-at.invariant in
    stops_between c.args.bytes.now (c.args.from + 1) (c.loop-at.at + 1) (omega (arith, l.after)) l.step c.in-Err.ensures

pub returns : goal.returns
returns g c =
    let l = c.loop-at.invariant in
    (l.after, l.within, l.step)
