use Rattle.std.proofs.Common.{sym, ◌∙◌, ap}
use Rattle.mg_defs.specs.Weights.{weight_of_term}
use Rattle.mg_plain.proofs.RankingUnderWayLaws.{weightless}
use Rattle.mg_plain.proofs.rows.weight_of.Goals as goal

pub returns-then-found-eq0-clause-is : goal.returns-then-found-eq0-clause-is
returns-then-found-eq0-clause-is c = sym (ap (λ n. weight_of_term n c.args.all) c.if-found-eq0.true ∙ weightless c.args.all)
