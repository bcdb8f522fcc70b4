use Rattle.std.proofs.Common.{arith, ◌≤◌, ◌<◌, ◌+◌, ◌++◌, length, take, subst}
use Rattle.mg_count.specs.Counting.{CountStops, HasCounted}
use Rattle.mg_count.proofs.Behind.{behind-front, stops-rest}
use Rattle.mg_count.proofs.Slices.{all_given, given_length, given_more, given_none, given_on, one_more, rest_within}
use Rattle.mg_count.proofs.count.Count.take_all.Goals as goal

pub overflow_add-taken : goal.overflow_add-taken
overflow_add-taken c = omega (arith, rest_within c.args.bytes.now c.loop-taken.taken c.go_on-taken.result c.loop-taken.invariant.within c.go_on-taken.ensures.within)

pub loop-taken-init : goal.loop-taken-init
loop-taken-init c = record {
  within = omega arith;
  counted = λ fed is. given_none (λ all. HasCounted c.args.self.now all) fed is;
}

pub take_other-requires : goal.take_other-requires
take_other-requires c =
    let bytes = c.args.bytes.now in
    let at = c.loop-taken.taken in
    let within : at + c.go_on-taken.result ≤ length bytes = rest_within bytes at c.go_on-taken.result c.loop-taken.invariant.within c.go_on-taken.ensures.within in
    let below : at + c.go_on-taken.result < length bytes = omega (arith, within, c.if-taken-bytes.false) in
    let on = given_on (λ all. HasCounted c.args.self.now all) (λ all. HasCounted c.loop-taken.self all) (λ all. HasCounted c.go_on-taken.new.self all)
    bytes at c.loop-taken.invariant.counted c.go_on-taken.result c.go_on-taken.ensures.given in
    let given = c.requires.given in
    record { given = (given.0 ++ take (at + c.go_on-taken.result) bytes, on given.0 given.1, omega (arith, given.2, given_length given.0 bytes (at + c.go_on-taken.result) within, below)) }

pub take_pieces-requires : goal.take_pieces-requires
take_pieces-requires c =
    let bytes = c.args.bytes.now in
    let at = c.loop-taken.taken in
    let within : at + c.go_on-taken.result ≤ length bytes = rest_within bytes at c.go_on-taken.result c.loop-taken.invariant.within c.go_on-taken.ensures.within in
    let below : at + c.go_on-taken.result < length bytes = omega (arith, within, c.if-taken-bytes.false) in
    let on = given_on (λ all. HasCounted c.args.self.now all) (λ all. HasCounted c.loop-taken.self all) (λ all. HasCounted c.go_on-taken.new.self all)
    bytes at c.loop-taken.invariant.counted c.go_on-taken.result c.go_on-taken.ensures.given in
    let one = given_more (λ all. HasCounted c.args.self.now all) (λ all. HasCounted c.go_on-taken.new.self all) (λ all. HasCounted c.take_other.new.self all)
    bytes (at + c.go_on-taken.result) on below c.in-Ok.ensures.given in
    let given = c.requires.given in
    record {
      within = below;
      given = (
        given.0 ++ take (at + c.go_on-taken.result + 1) bytes,
        one given.0 given.1,
        omega (arith, given.2, below, given_length given.0 bytes (at + c.go_on-taken.result + 1) (omega (arith, below))),
      );
    }

pub loop-taken-preserved : goal.loop-taken-preserved
loop-taken-preserved c =
    let bytes = c.args.bytes.now in
    let at = c.loop-taken.taken in
    let within : at + c.go_on-taken.result ≤ length bytes = rest_within bytes at c.go_on-taken.result c.loop-taken.invariant.within c.go_on-taken.ensures.within in
    let below : at + c.go_on-taken.result < length bytes = omega (arith, within, c.if-taken-bytes.false) in
    let on = given_on (λ all. HasCounted c.args.self.now all) (λ all. HasCounted c.loop-taken.self all) (λ all. HasCounted c.go_on-taken.new.self all)
    bytes at c.loop-taken.invariant.counted c.go_on-taken.result c.go_on-taken.ensures.given in
    let one = given_more (λ all. HasCounted c.args.self.now all) (λ all. HasCounted c.go_on-taken.new.self all) (λ all. HasCounted c.take_other.new.self all)
    bytes (at + c.go_on-taken.result) on below c.in-Ok.ensures.given in
    let step = c.in-Ok-take_pieces.ensures in
    record {
      within = omega (arith, step.1);
      counted = behind-front c.args.self.now c.take_other.new.self c.take_pieces.new.self bytes (at + c.go_on-taken.result + 1) (c.in-Ok-take_pieces.last + 1) (omega (arith, step.0)) one step.2;
    }

pub returns-then-taken-bytes-clause-given : goal.returns-then-taken-bytes-clause-given
returns-then-taken-bytes-clause-given c =
    let bytes = c.args.bytes.now in
    let at = c.loop-taken.taken in
    let on = given_on (λ all. HasCounted c.args.self.now all) (λ all. HasCounted c.loop-taken.self all) (λ all. HasCounted c.go_on-taken.new.self all)
    bytes at c.loop-taken.invariant.counted c.go_on-taken.result c.go_on-taken.ensures.given in
    λ fed is. subst (λ run. HasCounted c.go_on-taken.new.self (fed ++ run)) (all_given bytes (at + c.go_on-taken.result) (omega (arith, c.if-taken-bytes.true))) (on fed is)

pub returns-in-Err-clause-refused : goal.returns-in-Err-clause-refused
returns-in-Err-clause-refused c =
    let bytes = c.args.bytes.now in
    let at = c.loop-taken.taken in
    let within : at + c.go_on-taken.result ≤ length bytes = rest_within bytes at c.go_on-taken.result c.loop-taken.invariant.within c.go_on-taken.ensures.within in
    let below : at + c.go_on-taken.result < length bytes = omega (arith, within, c.if-taken-bytes.false) in
    let on = given_on (λ all. HasCounted c.args.self.now all) (λ all. HasCounted c.loop-taken.self all) (λ all. HasCounted c.go_on-taken.new.self all)
    bytes at c.loop-taken.invariant.counted c.go_on-taken.result c.go_on-taken.ensures.given in
    record {
      taken = at + c.go_on-taken.result;
      within = below;
      middle = c.go_on-taken.new.self;
      counted = on;
      stops = λ fed is. subst (λ all. CountStops all c.in-Err.refusal) (one_more fed bytes (at + c.go_on-taken.result) below)
          (c.in-Err.ensures.refused (fed ++ take (at + c.go_on-taken.result) bytes) (on fed is));
    }

pub returns-in-Err-take_pieces-clause-refused : goal.returns-in-Err-take_pieces-clause-refused
returns-in-Err-take_pieces-clause-refused c =
    let bytes = c.args.bytes.now in
    let at = c.loop-taken.taken in
    let within : at + c.go_on-taken.result ≤ length bytes = rest_within bytes at c.go_on-taken.result c.loop-taken.invariant.within c.go_on-taken.ensures.within in
    let below : at + c.go_on-taken.result < length bytes = omega (arith, within, c.if-taken-bytes.false) in
    let on = given_on (λ all. HasCounted c.args.self.now all) (λ all. HasCounted c.loop-taken.self all) (λ all. HasCounted c.go_on-taken.new.self all)
    bytes at c.loop-taken.invariant.counted c.go_on-taken.result c.go_on-taken.ensures.given in
    let one = given_more (λ all. HasCounted c.args.self.now all) (λ all. HasCounted c.go_on-taken.new.self all) (λ all. HasCounted c.take_other.new.self all)
    bytes (at + c.go_on-taken.result) on below c.in-Ok.ensures.given in
    stops-rest c.args.self.now c.take_other.new.self bytes (at + c.go_on-taken.result + 1) c.in-Err-take_pieces.refusal one c.in-Err-take_pieces.ensures

pub returns-clause-given : goal.returns-clause-given
returns-clause-given c = λ fed is. subst (λ run. HasCounted c.loop-taken.self (fed ++ run)) (all_given c.args.bytes.now c.loop-taken.taken c.loop-taken-test.false)
    (c.loop-taken.invariant.counted fed is)
