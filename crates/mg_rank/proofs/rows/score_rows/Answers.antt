use Rattle.std.proofs.Common.{arith, ◌<◌, length, refl}
use Rattle.mg_rank.proofs.RowLaws.{row_is}
use Rattle.mg_rank.proofs.RowWalk.{entry_at, rows_found, rows_next, rows_refused, rows_short, under_start}
use Rattle.mg_rank.proofs.rows.score_rows.Goals as goal

pub loop-place-init : goal.loop-place-init
loop-place-init g c = under_start c.requires.fits c.requires.part c.requires.held c.new-best.ensures.items c.new-best.ensures.heap_order

pub weight_at-requires-clause-fits : goal.weight_at-requires-clause-fits
weight_at-requires-clause-fits g c = c.loop-place.invariant.fits

pub weight_at-requires-clause-some : goal.weight_at-requires-clause-some
weight_at-requires-clause-some g c =
    let lt : c.loop-place.place < length c.args.sums.now = omega (arith, c.loop-place-test.true, c.len-place-end.ensures, c.loop-place.auto.place-end) in
    (entry_at c.requires.sums lt (c.at-document.ensures (0, 0))).low

pub score-requires-clause-small : goal.score-requires-clause-small
score-requires-clause-small g c =
    let lt : c.loop-place.place < length c.args.sums.now = omega (arith, c.loop-place-test.true, c.len-place-end.ensures, c.loop-place.auto.place-end) in
    (entry_at c.requires.sums lt (c.at-document.ensures (0, 0))).small

pub offer-requires : goal.offer-requires
offer-requires g c = let inv = c.loop-place.invariant in record { within = omega (arith, inv.size); heap = inv.heap }

pub returns-in-Err : goal.returns-in-Err
returns-in-Err g c =
    let lt : c.loop-place.place < length c.args.sums.now = omega (arith, c.loop-place-test.true, c.len-place-end.ensures, c.loop-place.auto.place-end) in
    let e = c.in-Err.ensures in
    rows_refused c.loop-place.invariant (entry_at c.requires.sums lt (c.at-document.ensures (0, 0))) e.looked e.read c.in-Err.refusal e.told e.cause e.lexicon

pub returns-in-Err-offer : goal.returns-in-Err-offer
returns-in-Err-offer g c =
    let lt : c.loop-place.place < length c.args.sums.now = omega (arith, c.loop-place-test.true, c.len-place-end.ensures, c.loop-place.auto.place-end) in
    let e = c.weight_at.ensures in
    rows_short c.loop-place.invariant (entry_at c.requires.sums lt (c.at-document.ensures (0, 0))) e.looked e.read

pub loop-place-preserved : goal.loop-place-preserved
loop-place-preserved g c =
    let lt : c.loop-place.place < length c.args.sums.now = omega (arith, c.loop-place-test.true, c.len-place-end.ensures, c.loop-place.auto.place-end) in
    let e = c.in-Ok.ensures in
    rows_next c.loop-place.invariant (entry_at c.requires.sums lt (c.at-document.ensures (0, 0))) e.looked e.read e.file e.fits e.held e.told refl
    (λ collection is. row_is collection c.at-document.result.0 c.at-document.result.1 c.in-Ok.weight c.score.result c.score.ensures is)
    c.in-Ok-offer.ensures

pub returns : goal.returns
returns g c =
    rows_found c.best_first.result c.requires.sums c.loop-place.invariant (omega (arith, c.loop-place-test.false, c.len-place-end.ensures, c.loop-place.auto.place-end))
    c.best_first.ensures.same c.best_first.ensures.sorted
