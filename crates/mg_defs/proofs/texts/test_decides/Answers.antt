use Rattle.mg_defs.proofs.texts.test_decides.Goals as goal
use Rattle.mg_defs.proofs.SatLaws.{satisfies-decides}

pub returns : goal.returns
returns c = satisfies-decides
