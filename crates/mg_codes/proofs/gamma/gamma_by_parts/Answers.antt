use Rattle.std.proofs.Common.{arith, ◌+◌}
use Rattle.mg_defs.proofs.CodeLaws.{gamma_free}
use Rattle.mg_codes.proofs.HeldCodes.{unary_length}
use Rattle.mg_codes.proofs.Instances.{as_log, gamma_parts, gamma_second_at, log_small}
use Rattle.mg_codes.proofs.PartLaws.{both_are_read, first_is_refused, second_is_refused}
use Rattle.mg_codes.proofs.gamma.gamma_by_parts.Goals as goal

pub power_of-highest-requires : goal.power_of-highest-requires
power_of-highest-requires g c = log_small c.args.limit c.log_of-top.result c.requires.small c.log_of-top.ensures.low

pub power_of-power-requires : goal.power_of-power-requires
power_of-power-requires g c = omega (arith, c.in-Ok.ensures.range, log_small c.args.limit c.log_of-top.result c.requires.small c.log_of-top.ensures.low)

pub get_below-requires-clause-reader : goal.get_below-requires-clause-reader
get_below-requires-clause-reader g c = record {
  fits = c.in-Ok.ensures.fits;
  place =
      omega (
        arith,
        c.in-Ok.ensures.place,
        unary_length c.in-Ok.lead c.in-Ok.ensures.range.0,
        c.in-Ok.ensures.range,
        log_small c.args.limit c.log_of-top.result c.requires.small c.log_of-top.ensures.low,
      );
  some = c.bound_of-bound.ensures.some;
  small = omega (arith, c.bound_of-bound.ensures.within, c.power_of-power.ensures.small);
}

pub with_highest-requires : goal.with_highest-requires
with_highest-requires g c =
    let log = as_log c.args.limit c.log_of-top.result c.log_of-top.ensures.low c.log_of-top.ensures.high in
    let second =
    gamma_second_at c.requires.small log c.power_of-power.ensures.value c.power_of-highest.ensures.value c.bound_of-bound.ensures.bound c.bound_of-bound.ensures.within in
    omega (arith, (second.value c.in-Ok-get_below.low c.in-Ok-get_below.ensures.code.range).1, c.requires.small)

pub returns-in-Ok-get_below : goal.returns-in-Ok-get_below
returns-in-Ok-get_below g c =
    let log = as_log c.args.limit c.log_of-top.result c.log_of-top.ensures.low c.log_of-top.ensures.high in
    rw c.with_highest.ensures
    (both_are_read (λ v. c.power_of-power.result + v) c.in-Ok-get_below.low (g.met.F.Feed.whole_pages c.args.r.now.feed).some
    (gamma_parts c.args.limit c.log_of-top.result c.requires.small log)
    (gamma_second_at c.requires.small log c.power_of-power.ensures.value c.power_of-highest.ensures.value c.bound_of-bound.ensures.bound c.bound_of-bound.ensures.within)
    c.in-Ok.ensures c.in-Ok-get_below.ensures.code)

pub returns-in-Err-get_below : goal.returns-in-Err-get_below
returns-in-Err-get_below g c =
    let log = as_log c.args.limit c.log_of-top.result c.log_of-top.ensures.low c.log_of-top.ensures.high in
    rw (c.refused_whole.ensures, c.place-start.ensures)
    (second_is_refused {refusal = c.in-Err-get_below.refusal} (g.met.F.Feed.whole_pages c.args.r.now.feed).some
    (gamma_parts c.args.limit c.log_of-top.result c.requires.small log)
    (gamma_second_at c.requires.small log c.power_of-power.ensures.value c.power_of-highest.ensures.value c.bound_of-bound.ensures.bound c.bound_of-bound.ensures.within)
    (gamma_free c.args.limit (omega (arith, c.requires.small))) c.in-Ok.ensures c.in-Err-get_below.ensures.code
    c.seek.ensures.feed (omega (arith, c.seek.ensures.place, c.place-start.ensures)))

pub returns-in-Err : goal.returns-in-Err
returns-in-Err g c =
    let log = as_log c.args.limit c.log_of-top.result c.log_of-top.ensures.low c.log_of-top.ensures.high in
    rw (c.refused_whole-in-Err.ensures, c.place-start.ensures)
    (first_is_refused {refusal = c.in-Err.refusal} (g.met.F.Feed.whole_pages c.args.r.now.feed).some (gamma_parts c.args.limit c.log_of-top.result c.requires.small log)
    (gamma_free c.args.limit (omega (arith, c.requires.small))) c.in-Err.ensures)
