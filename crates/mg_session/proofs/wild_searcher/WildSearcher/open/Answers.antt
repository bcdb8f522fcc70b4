use Rattle.std.proofs.Common.{refl, inr}
use Rattle.mg_dev.specs.Moments.{store_at}
use Rattle.mg_dev.specs.declared.fault.Fault.TheVariants.{Memory}
use Rattle.mg_session.specs.WildServes.{fault_of_rotated}
use Rattle.mg_session.proofs.OpenLaws.{patterns_opened, patterns_refused}
use Rattle.mg_session.proofs.WildSetLaws.{wild_ready}
use Rattle.mg_session.proofs.WildStopLaws.{rotated_refused, rotated_stops}
use Rattle.mg_session.proofs.wild_searcher.WildSearcher.open.Goals as goal

pub returns-in-Err-clause-opened : goal.returns-in-Err-clause-opened
returns-in-Err-clause-opened g c = rw c.fault_of_rotated.ensures
    (patterns_refused c.args.base.now (store_at g.S.Store.files g.S.Store.reads g.S.Store.faults c.args.store.now)
    (store_at g.S.Store.files g.S.Store.reads g.S.Store.faults c.of.new.store) c.args.head.now c.in-Err.ensures.read.looked (fault_of_rotated c.in-Err.refusal)
    (rotated_stops c.in-Err.refusal _ _ c.args.head.now _ _ c.in-Err.ensures.answer c.in-Err.ensures.never_bad c.in-Err.ensures.read.beyond c.in-Err.ensures.read.cause))

pub returns-in-Err-clause-many : goal.returns-in-Err-clause-many
returns-in-Err-clause-many g c = λ told count many. rw c.fault_of_rotated.ensures (rotated_refused c.in-Err.refusal c.args.head.now _ _ c.in-Err.ensures.answer told count many)

pub returns-in-Err-clause-unread : goal.returns-in-Err-clause-unread
returns-in-Err-clause-unread g c = c.in-Err.ensures.unread

pub returns-in-Err-new-clause-opened : goal.returns-in-Err-new-clause-opened
returns-in-Err-new-clause-opened g c = patterns_refused c.args.base.now (store_at g.S.Store.files g.S.Store.reads g.S.Store.faults c.args.store.now)
    (store_at g.S.Store.files g.S.Store.reads g.S.Store.faults c.of.new.store) c.args.head.now c.in-Ok.ensures.read.looked Memory tt

pub returns-in-Err-new-clause-many : goal.returns-in-Err-new-clause-many
returns-in-Err-new-clause-many g c = λ told count many. inr (inr refl)

pub returns-in-Err-new-clause-unread : goal.returns-in-Err-new-clause-unread
returns-in-Err-new-clause-unread g c = c.in-Ok.ensures.unread

pub returns-clause-ready : goal.returns-clause-ready
returns-clause-ready g c = wild_ready c.args.base.now (g.S.Store.files c.args.store.now) _ c.args.head.now c.new-searcher.ensures c.in-Ok.ensures.terms
    c.in-Ok.ensures.read.looked.files c.in-Ok-new.ensures.room c.in-Ok.ensures.answer

pub returns-clause-opened : goal.returns-clause-opened
returns-clause-opened g c = patterns_opened c.args.base.now (store_at g.S.Store.files g.S.Store.reads g.S.Store.faults c.args.store.now)
    (store_at g.S.Store.files g.S.Store.reads g.S.Store.faults c.of.new.store) c.args.head.now c.in-Ok.ensures.read.looked
    c.new-searcher.ensures c.in-Ok.ensures.terms

pub returns-clause-many : goal.returns-clause-many
returns-clause-many g c = λ told count many. absurd (c.in-Ok.ensures.exact told count many)

pub returns-clause-unread : goal.returns-clause-unread
returns-clause-unread g c = c.in-Ok.ensures.unread
