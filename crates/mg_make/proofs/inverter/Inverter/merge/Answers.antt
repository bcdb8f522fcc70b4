use Rattle.std.proofs.Common.{refl}
use Rattle.mg_make.proofs.inverter.Inverter.merge.Goals as goal

pub merge-requires : goal.merge-requires
merge-requires g c =
    let taken = rw (← c.self.view_is) at c.requires.taken.2 in
    record { fed = (c.requires.taken.1, taken.runs) }

pub returns-in-Ok-clause-merged : goal.returns-in-Ok-clause-merged
returns-in-Ok-clause-merged g c =
    rw (← c.self.view_is)
    (λ fed on. record {
      left = c.in-Ok.ensures.left fed on;
      run = λ t. c.in-Ok.ensures.run_bytes t fed on;
      runs = c.in-Ok.ensures.runs fed on;
      peak = c.in-Ok.ensures.peak fed on;
      base = c.in-Ok.ensures.base;
    })

pub returns-in-Ok-clause-counts : goal.returns-in-Ok-clause-counts
returns-in-Ok-clause-counts g c = rw (← c.self.view_is) refl

pub returns-in-Ok-clause-occurrences : goal.returns-in-Ok-clause-occurrences
returns-in-Ok-clause-occurrences g c = rw (← c.self.view_is) refl

pub returns-in-Ok-clause-worked : goal.returns-in-Ok-clause-worked
returns-in-Ok-clause-worked g c = rw (← c.self.view_is) c.merge.ensures.worked

pub returns-in-Err-clause-worked : goal.returns-in-Err-clause-worked
returns-in-Err-clause-worked g c = rw (← c.self.view_is) c.merge.ensures.worked
