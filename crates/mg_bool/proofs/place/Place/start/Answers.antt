use Rattle.std.proofs.Common.{subst}
use Rattle.mg_bool.specs.Places.{IsToldOf}
use Rattle.mg_bool.proofs.AskLaws.{no_postings}
use Rattle.mg_bool.proofs.place.Place.start.Goals as goal

pub returns-in-Ok-clause-place : goal.returns-in-Ok-clause-place
returns-in-Ok-clause-place g c = λ collection asked t n told all.
    c.in-Ok.ensures.term collection asked t n (subst (λ i. IsToldOf collection t i) c.in-Some.is told) all

pub returns-in-Ok-clause-on : goal.returns-in-Ok-clause-on
returns-in-Ok-clause-on g c = let o = c.in-Ok.ensures.over in record { post = o.post_is; skip = o.skip_is; all_is = o.all_is }

pub returns-in-None-clause-place : goal.returns-in-None-clause-place
returns-in-None-clause-place g c = λ collection asked t n told all. no_postings collection t (subst (λ i. IsToldOf collection t i) c.in-None.is told)

pub returns-in-Ok-clause-stands : goal.returns-in-Ok-clause-stands
returns-in-Ok-clause-stands g c = c.in-Ok.ensures.shown

pub returns-in-Ok-clause-list : goal.returns-in-Ok-clause-list
returns-in-Ok-clause-list g c = rw c.in-Some.is (record { over = c.in-Ok.ensures.over; parameter = c.in-Ok.ensures.parameter })

pub returns-in-None-clause-list : goal.returns-in-None-clause-list
returns-in-None-clause-list g c = rw c.in-None.is tt
