use Rattle.std.proofs.Common.{arith, ℕ, List, ◌≤◌, ap, subst, length}
use Rattle.std.specs.List.{AllByRecursion}
use Rattle.mg_model.proofs.Blocks.{length-pieces, pieces-short}
use Rattle.mg_model.proofs.block.PieceBlock.len.Goals as goal

pub returns-clause-len : goal.returns-clause-len
returns-clause-len c = omega (arith, length-pieces c.self.inside.long.items c.self.inside.entries.items, ap length c.self.view_is, c.len.ensures)

pub returns-clause-few : goal.returns-clause-few
returns-clause-few c = omega (arith, length-pieces c.self.inside.long.items c.self.inside.entries.items, ap length c.self.view_is, c.self.invariant.few)

pub returns-clause-short : goal.returns-clause-short
returns-clause-short c = subst (AllByRecursion (λ (p : List ℕ). length p ≤ 255)) c.self.view_is
    (pieces-short (length c.self.inside.long.items) c.self.inside.long.items c.self.inside.entries.items c.self.invariant.entries_are)
