use Rattle.std.proofs.Common.{arith}
use Rattle.mg_build.proofs.ReadLaws.{page_rest}
use Rattle.mg_build.proofs.source.rest_of_page.Goals as goal

pub returns-clause-page : goal.returns-clause-page
returns-clause-page c = page_rest c.args.at c.min-count.result c.args.size (omega (arith, c.requires, c.min-count.ensures))
    (omega (arith, c.requires, c.min-count.ensures)) (omega (arith, c.min-count.ensures))
