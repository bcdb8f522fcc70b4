use Rattle.mg_check.proofs.checking.check_by.Goals as goal

pub returns : goal.returns
returns g c = record { set = c.check.ensures.set }
