use Rattle.mg_model.proofs.Loading.{both-loaded, others-refused, words-refused}
use Rattle.mg_model.proofs.text_model.TextModel.load_parts.Goals as goal

pub returns-in-Err : goal.returns-in-Err
returns-in-Err g c = words-refused c.in-Err.ensures

pub returns-in-Err-load : goal.returns-in-Err-load
returns-in-Err-load g c = rw c.without.ensures (others-refused c.in-Ok.ensures c.in-Err-load.ensures)

pub returns-in-Ok-load : goal.returns-in-Ok-load
returns-in-Ok-load g c = both-loaded c.in-Ok.ensures c.in-Ok-load.ensures
