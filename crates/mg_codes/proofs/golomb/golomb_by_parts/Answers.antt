use Rattle.std.proofs.Common.{arith, ◌+◌, ◌-◌, ◌*◌}
use Rattle.mg_defs.proofs.CodeLaws.{golomb_free}
use Rattle.mg_codes.proofs.HeldCodes.{unary_length}
use Rattle.mg_codes.proofs.Instances.{golomb_parts, golomb_second, top_small}
use Rattle.mg_codes.proofs.PartLaws.{both_are_read, first_is_refused, second_is_refused}
use Rattle.mg_codes.proofs.golomb.golomb_by_parts.Goals as goal

pub get_below-requires-clause-reader : goal.get_below-requires-clause-reader
get_below-requires-clause-reader g c = record {
  fits = c.in-Ok.ensures.fits;
  place =
      omega (
        arith,
        c.in-Ok.ensures.place,
        unary_length c.in-Ok.lead c.in-Ok.ensures.range.0,
        c.in-Ok.ensures.range,
        top_small (c.args.limit - 1) c.args.b c.requires.parameter.some,
      );
  some = c.bound_of-bound.ensures.some;
  small = omega (arith, c.bound_of-bound.ensures.within, c.requires.parameter.small);
}

pub joined-requires : goal.joined-requires
joined-requires g c =
    let second =
    golomb_second c.args.b c.args.limit (c.in-Ok.lead - 1) c.bound_of-bound.result c.requires.parameter.some c.requires.reader.some
    c.bound_of-bound.ensures.bound c.bound_of-bound.ensures.within in
    omega (arith, (second.value c.in-Ok-get_below.low c.in-Ok-get_below.ensures.code.range).1, c.requires.reader.small)

pub returns-in-Ok-get_below : goal.returns-in-Ok-get_below
returns-in-Ok-get_below g c =
    rw c.joined.ensures
    (both_are_read (λ v. (c.in-Ok.lead - 1) * c.args.b + v + 1) c.in-Ok-get_below.low (g.met.F.Feed.whole_pages c.args.r.now.feed).some
    (golomb_parts c.args.b c.args.limit c.requires.parameter.some c.requires.reader.some)
    (golomb_second c.args.b c.args.limit (c.in-Ok.lead - 1) c.bound_of-bound.result c.requires.parameter.some c.requires.reader.some
    c.bound_of-bound.ensures.bound c.bound_of-bound.ensures.within)
    c.in-Ok.ensures c.in-Ok-get_below.ensures.code)

pub returns-in-Err-get_below : goal.returns-in-Err-get_below
returns-in-Err-get_below g c =
    rw (c.refused_whole.ensures, c.place-start.ensures)
    (second_is_refused {refusal = c.in-Err-get_below.refusal} (g.met.F.Feed.whole_pages c.args.r.now.feed).some
    (golomb_parts c.args.b c.args.limit c.requires.parameter.some c.requires.reader.some)
    (golomb_second c.args.b c.args.limit (c.in-Ok.lead - 1) c.bound_of-bound.result c.requires.parameter.some c.requires.reader.some
    c.bound_of-bound.ensures.bound c.bound_of-bound.ensures.within)
    (golomb_free c.args.b c.args.limit c.requires.parameter.some (omega (arith, c.requires.parameter.small))) c.in-Ok.ensures c.in-Err-get_below.ensures.code
    c.seek.ensures.feed (omega (arith, c.seek.ensures.place, c.place-start.ensures)))

pub returns-in-Err : goal.returns-in-Err
returns-in-Err g c =
    rw (c.refused_whole-in-Err.ensures, c.place-start.ensures)
    (first_is_refused {refusal = c.in-Err.refusal} (g.met.F.Feed.whole_pages c.args.r.now.feed).some
    (golomb_parts c.args.b c.args.limit c.requires.parameter.some c.requires.reader.some)
    (golomb_free c.args.b c.args.limit c.requires.parameter.some (omega (arith, c.requires.parameter.small))) c.in-Err.ensures)
