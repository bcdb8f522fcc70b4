use Rattle.std.proofs.Common.{arith, subst}
use Rattle.std.specs.Prelude.{IfOk}
use Rattle.mg_make.specs.Counting.{HasCounted}
use Rattle.mg_make.specs.Plans.{IsPlanOf}
use Rattle.mg_merge.specs.Texts.{TextsStand}
use Rattle.mg_merge.proofs.PassLaws.{counts_ended, counts_refused, end_stops_all}
use Rattle.mg_merge.proofs.counting.count_bytes.Goals as goal

pub finish-requires-clause-given : goal.finish-requires-clause-given
finish-requires-clause-given g c = (c.in-Ok.ensures.counted.0, c.in-Ok.ensures.counted.2, omega (arith, c.in-Ok.ensures.counted.1.size, c.requires.fits.few))

pub returns-in-Err-clause-counts : goal.returns-in-Err-clause-counts
returns-in-Err-clause-counts g c = counts_refused c.in-Err.ensures.counts

pub returns-in-Ok-clause-counts : goal.returns-in-Ok-clause-counts
returns-in-Ok-clause-counts g c =
    let counted = c.in-Ok.ensures.counted in
    counts_ended c.finish.result c.in-Ok.ensures.counts
    (end_stops_all c.finish.result (λ fed. HasCounted c.in-Ok.count fed) _ (TextsStand (g.D.Documents.texts c.args.texts.now) (g.S.Store.files c.args.store.now)) counted.0
    counted.1.told counted.2 c.finish.ensures.refused)

pub returns-in-Ok-clause-of : goal.returns-in-Ok-clause-of
returns-in-Ok-clause-of g c = λ collection stand.
    let counted = c.in-Ok.ensures.counted in
    subst (λ bytes. IfOk c.finish.result (λ made. IsPlanOf made.0 bytes)) (counted.1.told collection stand)
    (c.finish.ensures.of counted.0 counted.2 (omega (arith, counted.1.size, c.requires.fits.few)))
