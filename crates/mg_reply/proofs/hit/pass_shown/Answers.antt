use Rattle.std.proofs.Common.{◌++◌}
use Rattle.mg_defs.specs.Texts.{close}
use Rattle.mg_reply.proofs.PendingLaws.{passes_both, passes_nothing, passes_part}
use Rattle.mg_reply.proofs.hit.pass_shown.Goals as goal

pub returns-in-Docnums : goal.returns-in-Docnums
returns-in-Docnums g c = rw c.in-Docnums.is c.row.ensures

pub returns-in-Ok : goal.returns-in-Ok
returns-in-Ok g c = rw c.in-Text.is (passes_both c.in-Ok.ensures c.pass_closed.ensures)

pub returns-in-Err : goal.returns-in-Err
returns-in-Err g c = rw c.in-Text.is (passes_part (c.args.doc.now ++ close) c.in-Err.ensures)

pub returns-in-Count : goal.returns-in-Count
returns-in-Count g c = rw c.in-Count.is passes_nothing
