use Rattle.std.proofs.Common.{arith, ◌≡◌, ◌∙◌, ◌++◌, ap, get_or, sym, subst}
use Rattle.std.specs.List.{flat_map}
use Rattle.std.proofs.lemmas.List.{take_all}
use Rattle.mg_dev.specs.Files.{bytes_at}
use Rattle.mg_bits.specs.Writer.{put_to}
use Rattle.mg_defs.specs.Numbers.{eight}
use Rattle.mg_migrate.specs.Copying.{ChangedAlone, HasFour}
use Rattle.mg_migrate.proofs.CopyLaws.{alone_more, from_here, stops_more, told_here}
use Rattle.mg_make.proofs.CallerLemmas.{rose_behind}
use Rattle.mg_migrate.proofs.WidenLaws.{has_four, put_more}
use Rattle.mg_migrate.proofs.widening.widen_all.Goals as goal

pub widen_one-requires-clause-apart : goal.widen_one-requires-clause-apart
widen_one-requires-clause-apart g c = λ same. c.requires.apart (sym c.loop-index.invariant.file ∙ same ∙ c.loop-index.invariant.name)

pub returns-in-Err-clause-writes : goal.returns-in-Err-clause-writes
returns-in-Err-clause-writes g c =
    let so_far = c.loop-index.invariant in
    let from = c.args.places.now.name in
    let to = c.args.wide.now.name in
    let before = g.S.Store.files c.args.store.now in
    let loop = g.S.Store.files c.loop-index.store in
    let now = g.S.Store.files c.widen_one.new.store in
    let same : bytes_at loop c.loop-index.places.name ≡ bytes_at before from = ap (bytes_at loop) so_far.file ∙ from_here from to before loop loop 0 so_far.alone c.requires.apart in
    record {
      alone = alone_more to before loop now so_far.alone (subst (λ n. ChangedAlone n loop now) so_far.name c.in-Err.ensures.writes.alone);
      refused = stops_more c.in-Err.refusal _ _ _ _ (λ rose. rose_behind _ _ _ so_far.later rose)
          (λ is. (
            told_here from to before loop loop 0 so_far.alone c.requires.apart is.0,
            get_or is.1 c.loop-index.index 0,
            subst (λ bytes. HasFour bytes c.loop-index.index (get_or is.1 c.loop-index.index 0)) (sym same)
                (has_four is.1 (bytes_at before from) c.args.count c.loop-index.index is.2 c.loop-index-test.true),
          ))
          c.in-Err.ensures.writes.refused;
      later = omega (arith, so_far.later, c.in-Err.ensures.writes.later);
    }

pub loop-index-preserved : goal.loop-index-preserved
loop-index-preserved g c =
    let so_far = c.loop-index.invariant in
    let from = c.args.places.now.name in
    let to = c.args.wide.now.name in
    let before = g.S.Store.files c.args.store.now in
    let loop = g.S.Store.files c.loop-index.store in
    let now = g.S.Store.files c.widen_one.new.store in
    let same : bytes_at loop c.loop-index.places.name ≡ bytes_at before from = ap (bytes_at loop) so_far.file ∙ from_here from to before loop loop 0 so_far.alone c.requires.apart in
    record {
      fits = c.in-Ok.ensures.fits;
      file = c.in-Ok.ensures.file.name ∙ so_far.file;
      name = c.in-Ok.ensures.name ∙ so_far.name;
      alone = alone_more to before loop now so_far.alone (subst (λ n. ChangedAlone n loop now) so_far.name c.in-Ok.ensures.writes.alone);
      written = λ told numbers are.
          put_more eight (put_to c.args.wide.now before) (put_to c.loop-index.wide loop) (put_to c.widen_one.new.wide now) numbers c.loop-index.index
          (omega (arith, c.loop-index-test.true, are.count_is)) (so_far.written told numbers are)
          (c.in-Ok.ensures.written (told_here from to before loop loop 0 so_far.alone c.requires.apart told) (get_or numbers c.loop-index.index 0)
          (subst (λ bytes. HasFour bytes c.loop-index.index (get_or numbers c.loop-index.index 0)) (sym same)
          (has_four numbers (bytes_at before from) c.args.count c.loop-index.index are c.loop-index-test.true)));
      later = omega (arith, so_far.later, c.in-Ok.ensures.writes.later);
    }

pub returns-clause-written : goal.returns-clause-written
returns-clause-written g c = λ told numbers are.
    c.loop-index.invariant.written told numbers are
    ∙ ap (λ xs. put_to c.args.wide.now (g.S.Store.files c.args.store.now) ++ flat_map eight xs) (take_all c.loop-index.index numbers (omega (arith, are.count_is, c.loop-index-test.false)))
