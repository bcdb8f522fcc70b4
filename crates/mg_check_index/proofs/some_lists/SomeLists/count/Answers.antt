use Rattle.std.proofs.Common.{length, sym, ap, ◌∙◌}
use Rattle.mg_check_index.specs.Listing.{Ranged}
use Rattle.mg_check_index.proofs.SomeLaws.{some_long}
use Rattle.mg_check_index.proofs.some_lists.SomeLists.count.Goals as goal

pub returns : goal.returns
returns c = sym (some_long c.self.inside.lists.now c.self.inside.first c.self.inside.count c.self.invariant.0) ∙ ap (λ (w : Ranged). length w.next) c.self.view_is
