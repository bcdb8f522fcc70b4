use Rattle.mg_runs.proofs.run.bytes_fit.Goals as goal

pub returns : goal.returns
returns c = λ i. (c.type_inv.bytes i).fits
