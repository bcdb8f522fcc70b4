use Rattle.std.proofs.Common.{arith, refl, ◌-◌, ◌/◌, ◌^◌}
use Rattle.mg_codes.proofs.HeldCodes.{few_below, few_is_below, low_is_long, rest_is_below, short_high_first, short_low_first}
use Rattle.mg_codes.proofs.ShortWalk.{IsShort, shape}
use Rattle.mg_codes.proofs.remainder.first_short.Goals as goal

pub overflow_sub-result-3 : goal.overflow_sub-result-3
overflow_sub-result-3 c = omega (arith, few_below c.args.size c.args.few c.args.next (omega arith) (omega arith))

pub returns-then-high-few : goal.returns-then-high-few
returns-then-high-few c =
    let is : IsShort c.args.b c.args.size c.args.few = shape _ _ _ c.requires.parameter.some c.requires.parameter.small c.requires.size c.requires.few in
    record {
      code = record {
        some = low_is_long c.args.b c.args.size c.args.few _ is c.requires.some c.if-high-few.true;
        within = omega arith;
        bits = short_low_first c.args.b c.args.size c.args.few c.args.next _ is c.requires.some c.requires.most refl c.if-high-few.true;
      };
      below = few_is_below c.args.b c.args.size c.args.few (c.args.next / 2 ^ (58 - c.args.size)) is c.requires.some c.if-high-few.true;
    }

pub returns : goal.returns
returns c =
    let is : IsShort c.args.b c.args.size c.args.few = shape _ _ _ c.requires.parameter.some c.requires.parameter.small c.requires.size c.requires.few in
    record {
      code = record {
        some = c.requires.some;
        within = omega arith;
        bits = short_high_first c.args.b c.args.size c.args.few c.args.next is (omega arith) (omega arith);
      };
      below = rest_is_below c.args.b c.args.size c.args.few c.args.next is c.requires.parameter.some c.requires.next (omega arith);
    }
