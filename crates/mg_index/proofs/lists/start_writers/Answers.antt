use Rattle.std.proofs.Common.{[], refl}
use Rattle.mg_index.proofs.IndexSteps.{took_beside}
use Rattle.mg_index.proofs.StepLaws.{put_err, put_lex, put_lists, put_more, put_ok}
use Rattle.mg_index.proofs.lists.start_writers.Goals as goal

pub returns-in-Err-clause-step : goal.returns-in-Err-clause-step
returns-in-Err-clause-step g c =
    let e = c.in-Err.ensures in
    put_err (put_lists refl refl e.told e.others e.reads e.cause)

pub returns-in-Ok-start-clause-begun : goal.returns-in-Ok-start-clause-begun
returns-in-Ok-start-clause-begun g c =
    let e = c.in-Ok.ensures in
    let x = c.in-Ok-start.ensures in
    let wrote = c.start-2.ensures in
    record {
      lists = took_beside c.lists_stay.ensures c.args.base.now c.in-Ok.lists _ _ [] [] e.post e.skip wrote.told wrote.others e.took;
      lex = x.took;
      nothing = e.nothing;
      post = e.post;
      skip = e.skip;
      base_is = x.base;
      all_are = e.all;
    }

pub returns-in-Ok-start-clause-step : goal.returns-in-Ok-start-clause-step
returns-in-Ok-start-clause-step g c =
    let e = c.in-Ok.ensures in
    let x = c.in-Ok-start.ensures in
    put_more (put_lists refl refl e.told e.others e.reads e.cause) (put_ok (put_lex x.told x.others x.reads x.cause))

pub returns-clause-step : goal.returns-clause-step
returns-clause-step g c =
    let e = c.in-Ok.ensures in
    let x = c.in-Err-start.ensures in
    put_more (put_lists refl refl e.told e.others e.reads e.cause) (put_err (put_lex x.told x.others x.reads x.cause))
