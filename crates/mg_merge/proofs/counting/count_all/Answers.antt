use Rattle.mg_make.specs.Plans.{IsPlan, IsPlanOf, IsRoomFor}
use Rattle.mg_merge.proofs.TallyLaws.{counted_behind, planned_behind, some_is, tallied_texts, tally_failed}
use Rattle.mg_merge.proofs.counting.count_all.Goals as goal

pub returns-in-Err-clause-counts : goal.returns-in-Err-clause-counts
returns-in-Err-clause-counts g c = tally_failed _ c.in-Err.ensures.tallies

pub returns-in-Some-clause-counts : goal.returns-in-Some-clause-counts
returns-in-Some-clause-counts g c = tallied_texts c.in-Some.made c.in-Ok.ensures.tallies

pub returns-in-Some-clause-plan : goal.returns-in-Some-clause-plan
returns-in-Some-clause-plan g c = some_is c.in-Ok.found c.in-Some.made (λ made. IsPlan made.0) c.in-Some.is c.in-Ok.ensures.plan

pub returns-in-Some-clause-room : goal.returns-in-Some-clause-room
returns-in-Some-clause-room g c = some_is c.in-Ok.found c.in-Some.made (λ made. IsRoomFor made.1 made.0 c.args.budget) c.in-Some.is c.in-Ok.ensures.room

pub returns-in-Some-clause-of : goal.returns-in-Some-clause-of
returns-in-Some-clause-of g c = λ collection stand.
    some_is c.in-Ok.found c.in-Some.made (λ made. IsPlanOf made.0 collection) c.in-Some.is (c.in-Ok.ensures.of collection stand)

pub returns-in-None-clause-counts : goal.returns-in-None-clause-counts
returns-in-None-clause-counts g c = counted_behind c.count_bytes.result c.in-Ok.ensures.tallies c.count_bytes.ensures.counts

pub returns-in-None-clause-of : goal.returns-in-None-clause-of
returns-in-None-clause-of g c = planned_behind c.count_bytes.result (λ made collection. IsPlanOf made.0 collection) c.in-Ok.ensures.tallies c.count_bytes.ensures.of
