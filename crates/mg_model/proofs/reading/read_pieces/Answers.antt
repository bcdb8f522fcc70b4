use Rattle.mg_model.proofs.Walking.{read-not}
use Rattle.mg_model.proofs.reading.read_pieces.Goals as goal

pub read_by-requires-clause-first : goal.read_by-requires-clause-first
read_by-requires-clause-first g c = let e = c.in-Ok.ensures in record { gave = e.gave; held = e.held; place = e.place; width = e.width }

pub returns-in-Err : goal.returns-in-Err
returns-in-Err g c = rw (c.in-Err.ensures.memory, c.in-Err.ensures.store) read-not

pub returns-in-Ok : goal.returns-in-Ok
returns-in-Ok g c = rw (c.in-Ok.ensures.store, c.in-Ok.ensures.name, c.in-Ok.ensures.part, c.in-Ok.ensures.count) at c.read_by.ensures
