use Rattle.std.proofs.Common.{rules}
use Rattle.std.proofs.lemmas.Fn.{dedup_same}
use Rattle.mg_model.specs.Blocks.{same_piece}
use Rattle.mg_model.proofs.block.leave_each_once.Goals as goal

pub returns-clause-entries : goal.returns-clause-entries
returns-clause-entries c = dedup_same _ (same_piece c.args.long.now) _ (λ x y b f' x' y' k. search rules) _ _ c.dedup_by.ensures.filtered
