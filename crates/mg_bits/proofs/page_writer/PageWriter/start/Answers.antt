use Rattle.mg_bits.proofs.PutLaws.{nothing_put}
use Rattle.mg_bits.proofs.WriterLaws.{wrote_written, wrote_reset}
use Rattle.mg_bits.proofs.page_writer.PageWriter.start.Goals as goal

pub returns-in-Ok-clause-empty : goal.returns-in-Ok-clause-empty
returns-in-Ok-clause-empty g c = nothing_put _ _ _ c.in-Ok.ensures.content

pub returns-in-Ok-clause-wrote : goal.returns-in-Ok-clause-wrote
returns-in-Ok-clause-wrote g c = wrote_written _ _ _ _ _ _ c.in-Ok.ensures.content c.in-Ok.ensures.reads

pub returns-in-Ok-clause-cause : goal.returns-in-Ok-clause-cause
returns-in-Ok-clause-cause g c = record { later = c.in-Ok.ensures.cause.later; failed = λ h. absurd cc }

pub returns-in-Err-clause-wrote : goal.returns-in-Err-clause-wrote
returns-in-Err-clause-wrote g c = wrote_reset _ _ _ _ _ c.in-Err.ensures.content c.in-Err.ensures.reads

pub returns-in-Err-clause-cause : goal.returns-in-Err-clause-cause
returns-in-Err-clause-cause g c = record { later = c.in-Err.ensures.cause.later; failed = λ h. c.in-Err.ensures.cause.failed cc }
