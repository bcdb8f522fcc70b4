use Rattle.mg_top.proofs.tool_wild.run_wild.Goals as goal

pub returns-in-Ok : goal.returns-in-Ok
returns-in-Ok g c = record { does = c.in-Ok.ensures.matched }

pub returns-in-Err : goal.returns-in-Err
returns-in-Err g c = record { does = c.in-Err.ensures.matched }
