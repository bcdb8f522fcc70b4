use Rattle.mg_check_index.proofs.InStoreLaws.{not-base, not-plain}
use Rattle.mg_check_index.proofs.comparing_store.is_own.Goals as goal

pub returns-then-number-clause-other : goal.returns-then-number-clause-other
returns-then-number-clause-other c = λ no.
    not-plain c.args.file.now.base.now c.args.file.now.part c.number.result c.number-2.result c.number.ensures.value c.number-2.ensures.value c.if-number.true

pub returns-clause-other : goal.returns-clause-other
returns-clause-other c = λ no. not-base c.args.file.now.base.now c.args.file.now.part c.eq.result c.eq.ensures no
