use Rattle.std.proofs.Common.{arith, subst}
use Rattle.mg_canon.specs.Tables.{IsSymbolAt}
use Rattle.mg_canon.proofs.Placing.{symbol-read}
use Rattle.mg_canon.proofs.canon.Canon.symbol_at.Goals as goal

pub returns-then-place-len-clause-is : goal.returns-then-place-len-clause-is
returns-then-place-len-clause-is c =
    subst (λ l. IsSymbolAt l c.args.place c.index.result.now) c.self.view_is
    (symbol-read c.self.inside.lengths.items c.self.inside.symbols.items c.args.place c.index.result.now c.self.invariant.tables.symbol_at (omega arith) c.index.ensures)
