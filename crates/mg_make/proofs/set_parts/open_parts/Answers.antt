use Rattle.std.proofs.Common.{subst}
use Rattle.mg_model.specs.Models.{PartsHold}
use Rattle.mg_count.specs.Plans.{Plan}
use Rattle.mg_index.proofs.CallerLemmas.{put_err, put_more, put_wider}
use Rattle.mg_make.proofs.SetFrames.{models_of_pass, models_wrote, second_is_pass}
use Rattle.mg_make.proofs.set_parts.open_parts.Goals as goal

pub returns-in-Err : goal.returns-in-Err
returns-in-Err g c =
    let e = c.in-Err.ensures in
    record {
      written = tt;
      base = tt;
      plan = tt;
      limit = tt;
      models = λ told. tt;
      step = put_err (record { wrote = models_wrote c.args.base.now _ _ e.told e.others; reads = e.reads; cause = e.cause });
    }

pub returns : goal.returns
returns g c =
    let e = c.in-Ok.ensures in
    let s = c.start.ensures in
    record {
      written = s.written;
      base = s.base;
      plan = s.plan;
      limit = s.limit;
      models = λ told. models_of_pass c.start.result _ _ c.args.base.now c.args.plan.now.code s.step.wrote
          (subst (λ (p : Plan). PartsHold (g.S.Store.files c.write.new.store) c.args.base.now p.code) c.plan.view_is (e.hold told));
      step = put_more (record { wrote = models_wrote c.args.base.now _ _ e.told e.others; reads = e.reads; cause = e.cause }) (put_wider second_is_pass s.step);
    }
