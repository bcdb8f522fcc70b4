use Rattle.std.proofs.Common.{arith, refl}
use Rattle.mg_bool.proofs.AskLaws.{made_next, made_over, made_fits, made_nothing, made_on, made_unread, made_within}
use Rattle.mg_bool.proofs.ShownLaws.{made_lists, made_stands}
use Rattle.mg_bool.proofs.places.start_all.Goals as goal

pub loop-info-init : goal.loop-info-init
loop-info-init g c = rw c.new-places.ensures.items (record { size = refl; each = λ k lt. absurd (omega (arith, lt)) })

pub loop-info-preserved : goal.loop-info-preserved
loop-info-preserved g c =
    rw c.in_ok-push.ensures.items (made_next _ _ _ _ _ _ c.loop-info.invariant
    (record {
      over = c.in_ok-place.ensures.place;
      on = c.in_ok-place.ensures.on;
      fits = c.in_ok-place.ensures.fits;
      list = c.in_ok-place.ensures.list;
      stands = c.in_ok-place.ensures.stands;
      nothing = c.in_ok-place.ensures.nothing;
      unread = c.in_ok-place.ensures.unread;
    }))

pub returns-clause-over : goal.returns-clause-over
returns-clause-over g c = made_over _ _ _ _ _ c.loop-info.invariant (omega (arith, c.loop-info-test.false, c.loop-info.auto))

pub returns-clause-fits : goal.returns-clause-fits
returns-clause-fits g c = made_fits _ _ _ _ _ c.loop-info.invariant

pub returns-clause-nothing : goal.returns-clause-nothing
returns-clause-nothing g c = made_nothing _ _ _ _ _ c.loop-info.invariant

pub returns-clause-on : goal.returns-clause-on
returns-clause-on g c = made_on _ _ _ _ _ c.loop-info.invariant

pub returns-clause-stands : goal.returns-clause-stands
returns-clause-stands g c = made_stands _ _ _ _ _ c.loop-info.invariant

pub returns-clause-lists : goal.returns-clause-lists
returns-clause-lists g c = made_lists _ _ _ _ _ c.loop-info.invariant (omega (arith, c.loop-info-test.false, c.loop-info.auto))

pub returns-clause-unread : goal.returns-clause-unread
returns-clause-unread g c = made_unread _ _ _ _ _ c.loop-info.invariant

pub returns-clause-within : goal.returns-clause-within
returns-clause-within g c = made_within _ _ _ _ _ c.loop-info.invariant
