use Rattle.mg_model.proofs.Walking.{read-not}
use Rattle.mg_model.proofs.reading.read_by.Goals as goal

pub returns-in-Err : goal.returns-in-Err
returns-in-Err g c = read-not

pub returns-in-Ok-read_entries : goal.returns-in-Ok-read_entries
returns-in-Ok-read_entries g c = c.in-Ok-read_entries.ensures

pub returns : goal.returns
returns g c = rw c.without.ensures c.in-Err-read_entries.ensures
