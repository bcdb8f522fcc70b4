use Rattle.std.proofs.Common.{◌≤◌, ◌-◌, length}
use Rattle.mg_model.proofs.Seeking.{Between}
use Rattle.mg_model.proofs.block.PieceBlock.place_of.Given as goal

abbrev pub invariant-loop-low : goal.invariant-loop-low
invariant-loop-low l = record {
  order : l.low ≤ l.high;
  within : l.high ≤ length l.self;
  between : Between l.self l.piece l.low l.high;
}

abbrev pub decreases-loop-low : goal.decreases-loop-low
decreases-loop-low l = l.high - l.low
