use Rattle.std.proofs.Common.{arith, ◌≡◌, ◌+◌, ◌++◌, ℕ, List, subst}
use Rattle.mg_count.specs.Counting.{HasCounted}
use Rattle.mg_count.specs.Whole.{between}
use Rattle.mg_count.proofs.Behind.{behind-joins, behind-length, behind-none, stops-from}
use Rattle.mg_count.proofs.count.Count.take_pieces.Goals as goal

pub loop-at-init : goal.loop-at-init
loop-at-init c = record {
  after = omega arith;
  within = c.requires.within;
  counted = λ fed h. behind-none c.args.self.now c.args.bytes.now fed (c.args.from + 1) h;
}

pub take_piece-requires : goal.take_piece-requires
take_piece-requires c =
    let given = c.requires.given in
    let at = c.loop-at.at in
    let l = c.loop-at.invariant in
    record {
      within = l.within;
      given = (
        given.0 ++ between (c.args.from + 1) (at + 1) c.args.bytes.now,
        l.counted given.0 given.1,
        omega (arith, given.2, l.after, l.within, behind-length given.0 c.args.bytes.now (c.args.from + 1) (at + 1) (omega (arith, l.within))),
      );
    }

pub loop-at-preserved : goal.loop-at-preserved
loop-at-preserved c =
    let l = c.loop-at.invariant in
    let step = c.in-Ok.ensures in
    record {
      after = omega (arith, l.after, step.0);
      within = step.1;
      counted = behind-joins c.args.self.now c.loop-at.self c.take_piece.new.self c.args.bytes.now (c.args.from + 1) (c.loop-at.at + 1) (c.in-Ok.next + 1)
          (omega (arith, l.after)) (omega (arith, step.0)) l.counted step.2;
    }

pub returns-then-next-at : goal.returns-then-next-at
returns-then-next-at c =
    let l = c.loop-at.invariant in
    let step = c.in-Ok.ensures in
    let same : c.in-Ok.next ≡ c.loop-at.at = c.if-next-at.true in (
      l.after,
      l.within,
      subst (λ n. (fed : List ℕ) → HasCounted c.args.self.now fed → HasCounted c.take_piece.new.self (fed ++ between (c.args.from + 1) (n + 1) c.args.bytes.now)) same
          (behind-joins c.args.self.now c.loop-at.self c.take_piece.new.self c.args.bytes.now (c.args.from + 1) (c.loop-at.at + 1) (c.in-Ok.next + 1)
          (omega (arith, l.after)) (omega (arith, step.0)) l.counted step.2),
    )

pub returns-in-Err : goal.returns-in-Err
returns-in-Err c =
    let l = c.loop-at.invariant in
    stops-from c.args.self.now c.loop-at.self c.args.bytes.now (c.args.from + 1) (c.loop-at.at + 1) c.in-Err.refusal (omega (arith, l.after)) l.counted c.in-Err.ensures

pub returns : goal.returns
returns c =
    let l = c.loop-at.invariant in
    (l.after, l.within, l.counted)
