use Rattle.std.proofs.Common.{◌∙◌, sym}
use Rattle.mg_check_text.proofs.KeptLaws.{stands_shown}
use Rattle.mg_check_text.proofs.held.shows_all.Goals as goal

pub returns-in-Ok-true-clause-stand : goal.returns-in-Ok-true-clause-stand
returns-in-Ok-true-clause-stand g c = λ told shown.
    stands_shown c.in-Ok-true.field-0 c.args.at c.fill.new.buf c.args.wanted.now _ c.in-Ok-true.field-0-test (c.in-Ok-true.ensures.told told)
    (sym shown ∙ c.eq.ensures)
