use Rattle.std.proofs.Common.{arith, ◌∙◌}
use Rattle.mg_migrate.specs.Migrating.{copied_part}
use Rattle.mg_migrate.proofs.MigrateLaws.{copied_one_more, not_anew, others_of_part, own_part, part_stays}
use Rattle.mg_migrate.proofs.migrating.copy_parts.Goals as goal

pub returns-in-Err-clause-kept : goal.returns-in-Err-clause-kept
returns-in-Err-clause-kept g c = λ p is.
    part_stays c.args.bases.now.new.now (copied_part c.loop-index.index) p (g.S.Store.files c.loop-index.store) (g.S.Store.files c.copy_part.new.store)
    (not_anew c.loop-index.index p c.loop-index-test.true is) c.in-Err.ensures.writes.alone
    ∙ c.loop-index.invariant.kept p is

pub loop-index-preserved : goal.loop-index-preserved
loop-index-preserved g c =
    let so_far = c.loop-index.invariant in
    let before = g.S.Store.files c.args.store.now in
    let loop = g.S.Store.files c.loop-index.store in
    let now = g.S.Store.files c.copy_part.new.store in
    let index = c.loop-index.index in
    record {
      copied = λ told. copied_one_more c.args.bases.now.name.now c.args.bases.now.new.now before loop now index c.loop-index-test.true c.names_apart.ensures.bases c.args.bases.now.apart
          so_far.others c.in-Ok.ensures.writes.alone (c.in-Ok.ensures.copied (so_far.others.told ∙ told)) (so_far.copied told);
      others = others_of_part c.args.bases.now.new.now (copied_part index) before loop now (own_part index c.loop-index-test.true) so_far.others c.in-Ok.ensures.writes.alone;
      kept = λ p is. part_stays c.args.bases.now.new.now (copied_part index) p loop now (not_anew index p c.loop-index-test.true is) c.in-Ok.ensures.writes.alone ∙ so_far.kept p is;
      later = omega (arith, so_far.later, c.in-Ok.ensures.writes.later);
    }

pub returns-clause-copied : goal.returns-clause-copied
returns-clause-copied g c = λ told.
    let so_far = c.loop-index.invariant in
    record {
      words = so_far.copied told 0 (omega (arith, c.loop-index-test.false));
      nonwords = so_far.copied told 1 (omega (arith, c.loop-index-test.false));
      text = so_far.copied told 2 (omega (arith, c.loop-index-test.false));
      lex = so_far.copied told 3 (omega (arith, c.loop-index-test.false));
      lex_at = so_far.copied told 4 (omega (arith, c.loop-index-test.false));
      post = so_far.copied told 5 (omega (arith, c.loop-index-test.false));
      skip = so_far.copied told 6 (omega (arith, c.loop-index-test.false));
      weights = so_far.copied told 7 (omega (arith, c.loop-index-test.false));
      run = so_far.copied told 8 (omega (arith, c.loop-index-test.false));
    }
