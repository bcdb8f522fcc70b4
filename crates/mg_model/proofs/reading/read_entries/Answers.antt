use Rattle.mg_model.proofs.Walking.{read-begun, read-end, read-lacks, read-more, read-refused}
use Rattle.mg_model.proofs.reading.read_entries.Goals as goal

pub entries-init : goal.entries-init
entries-init g c = read-begun c.requires.first c.requires.none

pub entries-preserved : goal.entries-preserved
entries-preserved g c = read-more c.entries.invariant (rw c.in-Ok-true.field-0-test at c.in-Ok-true.ensures) c.in-Ok.ensures.pieces c.in-Ok.ensures.entries c.in-Ok.ensures.each c.in-Ok.ensures.count

pub returns-in-Ok-false : goal.returns-in-Ok-false
returns-in-Ok-false g c = read-end c.entries.invariant (rw c.in-Ok-false.field-0-test at c.in-Ok-false.ensures)

pub returns-in-Err : goal.returns-in-Err
returns-in-Err g c = read-refused c.entries.invariant c.in-Err.ensures

pub returns-in-Err-push : goal.returns-in-Err-push
returns-in-Err-push g c = read-lacks c.entries.invariant (rw c.in-Ok-true.field-0-test at c.in-Ok-true.ensures)
