use Rattle.mg_text.proofs.TextCounts.{document_failed, document_kept, document_refused}
use Rattle.mg_text.proofs.text_counter.tally_document.Goals as goal

pub returns-in-Err : goal.returns-in-Err
returns-in-Err g c = document_failed c.in-Err.failed c.in-Err.ensures

pub returns-in-Some : goal.returns-in-Some
returns-in-Some g c = document_kept c.in-Ok.found c.in-Some.count c.keep_pairs.result c.in-Some.is c.keep_pairs.ensures c.in-Ok.ensures

pub returns-in-None : goal.returns-in-None
returns-in-None g c = document_refused c.in-Ok.ensures
