use Rattle.mg_front.proofs.ReaderLaws.{never_refused}
use Rattle.mg_front.proofs.reader.FrontReader.load.Goals as goal

pub returns-in-Err-clause-stands : goal.returns-in-Err-clause-stands
returns-in-Err-clause-stands g c = λ es told holds count. never_refused _ _ _ es c.in-Err.refusal holds count (c.in-Err.ensures.answer told)
