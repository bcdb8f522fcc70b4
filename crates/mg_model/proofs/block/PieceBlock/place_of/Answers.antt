use Rattle.std.proofs.Common.{arith, ◌∙◌, ◌+◌, ◌-◌, ◌/◌, sym}
use Rattle.mg_model.proofs.Seeking.{between-all, between-lower, between-higher, found-at, found-not}
use Rattle.mg_model.proofs.block.PieceBlock.place_of.Goals as goal

pub loop-low-init : goal.loop-low-init
loop-low-init c = record { order = omega arith; within = omega (arith, c.len-high.ensures.len); between = between-all c.args.self.now c.args.piece.now c.len-high.result c.len-high.ensures.len }

pub loop-low-preserved-in-Less : goal.loop-low-preserved-in-Less
loop-low-preserved-in-Less c = record {
  order = omega arith;
  within = omega (arith, c.loop-low.invariant.within);
  between = between-lower c.args.self.now c.args.piece.now c.piece.result.now c.loop-low.low c.loop-low.high
      (c.loop-low.low + (c.loop-low.high - c.loop-low.low) / 2) c.requires c.loop-low.invariant.between c.piece.ensures.piece
      (sym c.cmp.ensures ∙ c.in-Less.is);
}

pub loop-low-preserved : goal.loop-low-preserved
loop-low-preserved c = record {
  order = omega arith;
  within = omega (arith, c.loop-low.invariant.within);
  between = between-higher c.args.self.now c.args.piece.now c.piece.result.now c.loop-low.low c.loop-low.high
      (c.loop-low.low + (c.loop-low.high - c.loop-low.low) / 2) _ (omega arith) c.requires c.loop-low.invariant.between
      (omega (arith, c.loop-low.invariant.within)) c.piece.ensures.piece (sym c.cmp.ensures ∙ c.in-Greater.is);
}

pub returns-in-Equal : goal.returns-in-Equal
returns-in-Equal c = found-at c.args.self.now c.args.piece.now c.piece.result.now (c.loop-low.low + (c.loop-low.high - c.loop-low.low) / 2) c.requires
    (omega (arith, c.loop-low.invariant.within)) c.piece.ensures.piece (sym c.cmp.ensures ∙ c.in-Equal.is)

pub returns : goal.returns
returns c = found-not c.args.self.now c.args.piece.now c.loop-low.low c.loop-low.high c.loop-low.invariant.between (omega arith)
