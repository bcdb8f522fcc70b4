use Rattle.std.proofs.Common.{arith, refl, ap}
use Rattle.mg_text.proofs.ListLaws.{one_held, one_listed, pair_refused, still_there}
use Rattle.mg_text.proofs.word_lister.list_pairs.Goals as goal

pub loop-i-preserved-in-Some : goal.loop-i-preserved-in-Some
loop-i-preserved-in-Some g c = one_held c.args.model.now (g.met.F.Feed.whole_pages c.args.r.now.feed).some (omega (arith, c.loop-i-test.true)) c.loop-i.invariant
    c.loop-i.invariant.fits refl refl c.in-Some.ensures.held.of_words
    (c.in-Some.ensures.held.told (g.F.Feed.device c.loop-i.dev) c.loop-i.invariant.fits)
    (c.in-Some.ensures.held.stood (g.F.Feed.device c.loop-i.dev) c.loop-i.invariant.fits)

pub returns-in-Err : goal.returns-in-Err
returns-in-Err g c = pair_refused c.args.model.now c.in-Err.refusal (g.met.F.Feed.whole_pages c.args.r.now.feed).some (omega (arith, c.loop-i-test.true))
    (still_there c.loop-i.invariant (ap g.F.Feed.feeding c.seek.ensures.feed) c.seek.ensures.place c.in_default.ensures.kept) c.in-Err.ensures

pub loop-i-preserved : goal.loop-i-preserved
loop-i-preserved g c = still_there
    (one_listed c.args.model.now (g.met.F.Feed.whole_pages c.args.r.now.feed).some (omega (arith, c.loop-i-test.true))
    (still_there c.loop-i.invariant (ap g.F.Feed.feeding c.seek.ensures.feed) c.seek.ensures.place c.in_default.ensures.kept) c.in-Ok.ensures)
    refl c.place-place-in-Ok.ensures refl
