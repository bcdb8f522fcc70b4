use Rattle.std.proofs.Common.{arith, ◌∙◌, ap, refl, sym}
use Rattle.mg_dev.specs.declared.part.Part.TheVariants.{Plain}
use Rattle.mg_count.specs.Plans.{Rooming}
use Rattle.mg_index.proofs.CallerLemmas.{cause_done, cause_then, put_cause}
use Rattle.mg_make.proofs.CallerLemmas.{others_more}
use Rattle.mg_make.proofs.PutSteps.{head_others, pass_others, put_nothing, unbuilt_behind}
use Rattle.mg_make.proofs.writer.SetWriter.start.Goals as goal

pub returns-in-Err : goal.returns-in-Err
returns-in-Err g c =
    let e = c.reset_head.ensures in
    record {
      put = tt;
      base = tt;
      plan = tt;
      limit = tt;
      unbuilt = e.unbuilt;
      others = head_others c.args.base.now _ _ e.wrote;
      reads = e.reads;
      plain = omega (arith, e.reads Plain);
      cause = put_cause c.in-Err.ensures.cause;
    }

pub returns-in-Err-open_parts : goal.returns-in-Err-open_parts
returns-in-Err-open_parts g c =
    let e = c.reset_head.ensures in
    let o = c.open_parts.ensures.step in
    record {
      put = tt;
      base = tt;
      plan = tt;
      limit = tt;
      unbuilt = unbuilt_behind c.args.base.now _ _ _ c.in-Ok.ensures.empty o.wrote;
      others = others_more c.args.base.now _ _ _ (head_others c.args.base.now _ _ e.wrote) (pass_others c.args.base.now _ _ o.wrote);
      reads = λ p. o.reads p ∙ e.reads p;
      plain = omega (arith, e.reads Plain, o.reads Plain);
      cause = cause_then e.cause.later c.in-Err-open_parts.ensures.step.cause;
    }

pub returns : goal.returns
returns g c =
    let e = c.reset_head.ensures in
    let o = c.open_parts.ensures.step in
    let p = c.in-Ok-open_parts.ensures in
    record {
      put =
          put_nothing c.args.base.now c.args.plan.now _ _ c.new.result c.in-Ok-open_parts.pass _ _ _ c.new.ensures p.written p.base p.plan (p.limit ∙ sym c.limit-limit.ensures.value)
          e.wrote.told c.in-Ok.ensures.empty o.wrote p.models (ap (λ (r : Rooming). r.sums) c.room.view_is ∙ c.requires.room.sums);
      base = refl;
      plan = refl;
      limit = c.limit-limit.ensures.value ∙ ap (λ (r : Rooming). r.pool.limit) c.room.view_is;
      unbuilt = unbuilt_behind c.args.base.now _ _ _ c.in-Ok.ensures.empty o.wrote;
      others = others_more c.args.base.now _ _ _ (head_others c.args.base.now _ _ e.wrote) (pass_others c.args.base.now _ _ o.wrote);
      reads = λ p. o.reads p ∙ e.reads p;
      plain = omega (arith, e.reads Plain, o.reads Plain);
      cause = cause_done (omega (arith, e.cause.later, o.cause.later));
    }
