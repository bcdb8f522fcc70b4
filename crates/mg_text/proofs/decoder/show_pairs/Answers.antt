use Rattle.std.proofs.Common.{arith, refl, sym, subst, ap}
use Rattle.mg_dev.specs.Moments.{sink_at}
use Rattle.mg_text.proofs.StepLaws.{all_shown, first_none, one_held, one_shown, pair_refused, sought, still_there}
use Rattle.mg_text.proofs.decoder.show_pairs.Goals as goal

pub loop-i-init : goal.loop-i-init
loop-i-init g c = still_there (first_none c.args.model.now c.args.count c.requires.fits) refl c.place-place.ensures refl

pub loop-i-preserved-in-Some : goal.loop-i-preserved-in-Some
loop-i-preserved-in-Some g c = one_held c.args.model.now (g.met.F.Feed.whole_pages c.args.r.now.feed).some (omega (arith, c.loop-i-test.true)) c.loop-i.invariant
    c.loop-i.invariant.fits refl refl refl c.in-Some.ensures.held.most
    (c.in-Some.ensures.held.told (g.F.Feed.device c.loop-i.dev) (sink_at g.O.Sink.written g.O.Sink.faults g.O.Sink.lacks c.loop-i.out) c.loop-i.invariant.fits)
    (c.in-Some.ensures.held.stood (g.F.Feed.device c.loop-i.dev) (sink_at g.O.Sink.written g.O.Sink.faults g.O.Sink.lacks c.loop-i.out) c.loop-i.invariant.fits)

pub returns-in-Err : goal.returns-in-Err
returns-in-Err g c = pair_refused c.args.model.now c.in-Err.refusal (g.met.F.Feed.whole_pages c.args.r.now.feed).some (omega (arith, c.loop-i-test.true))
    (still_there c.loop-i.invariant (ap g.F.Feed.feeding c.seek.ensures.feed) c.seek.ensures.place c.in_default.ensures.kept) c.in-Err.ensures

pub loop-i-preserved : goal.loop-i-preserved
loop-i-preserved g c = still_there
    (one_shown c.args.model.now (g.met.F.Feed.whole_pages c.args.r.now.feed).some (omega (arith, c.loop-i-test.true))
    (still_there c.loop-i.invariant (ap g.F.Feed.feeding c.seek.ensures.feed) c.seek.ensures.place c.in_default.ensures.kept) c.in-Ok.ensures)
    refl c.place-place-in-Ok.ensures refl

pub returns : goal.returns
returns g c = sought (all_shown (omega (arith, c.loop-i-test.false)) c.loop-i.invariant)
    (subst (λ f. g.F.Feed.fits f (g.F.Feed.device c.loop-i.dev).files) (sym c.seek-2.ensures.feed) c.loop-i.invariant.fits)
    (ap g.F.Feed.feeding c.seek-2.ensures.feed) c.seek-2.ensures.place
