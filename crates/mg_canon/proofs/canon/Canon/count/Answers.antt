use Rattle.std.proofs.Common.{subst}
use Rattle.mg_defs.specs.Canon.{AreGood}
use Rattle.mg_canon.proofs.Refused.{good_from}
use Rattle.mg_canon.proofs.canon.Canon.count.Goals as goal

pub returns-clause-good : goal.returns-clause-good
returns-clause-good c = let t = c.self.invariant.tables in subst (λ l. AreGood l) c.self.view_is (good_from c.self.inside.lengths.items t.all t.full)
