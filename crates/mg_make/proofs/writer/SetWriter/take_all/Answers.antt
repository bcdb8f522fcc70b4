use Rattle.std.proofs.Common.{arith, ◌≤◌, ◌<◌, ◌+◌, ◌-◌, ◌++◌, length, take, drop}
use Rattle.mg_count.proofs.CallerLemmas.{all_given, given_length, rest_within}
use Rattle.mg_make.proofs.SliceSteps.{slice_as, slice_front, slice_more, slice_none, slice_on, slice_refused, stops_front}
use Rattle.mg_make.proofs.writer.SetWriter.take_all.Goals as goal

pub overflow_add-taken : goal.overflow_add-taken
overflow_add-taken g c = omega (arith, rest_within c.args.bytes.now c.loop-taken.taken c.go_on-taken.result c.loop-taken.invariant.within c.go_on-taken.ensures.within)

pub loop-taken-init : goal.loop-taken-init
loop-taken-init g c = record { within = omega arith; step = slice_none c.requires.put.0 c.requires.put.1 }

pub go_on-taken-requires : goal.go_on-taken-requires
go_on-taken-requires g c =
    let given = c.requires.put in
    let rest = rest_within c.args.bytes.now c.loop-taken.taken (length (take (length c.args.bytes.now - c.loop-taken.taken) (drop c.loop-taken.taken c.args.bytes.now)))
    c.loop-taken.invariant.within (omega arith) in
    record {
      put = (
        g.S.Store.files c.loop-taken.store,
        given.0 ++ take c.loop-taken.taken c.args.bytes.now,
        c.loop-taken.invariant.step.put given.0 given.1,
        omega (arith, given.2, given_length given.0 c.args.bytes.now c.loop-taken.taken c.loop-taken.invariant.within, rest),
      );
    }

pub take_other-requires : goal.take_other-requires
take_other-requires g c =
    let bytes = c.args.bytes.now in
    let at = c.loop-taken.taken in
    let within : at + c.go_on-taken.result ≤ length bytes = rest_within bytes at c.go_on-taken.result c.loop-taken.invariant.within c.go_on-taken.ensures.within in
    let below : at + c.go_on-taken.result < length bytes = omega (arith, within, c.if-taken-bytes.false) in
    let on = slice_on bytes at c.go_on-taken.result c.loop-taken.invariant.step c.go_on-taken.ensures.went in
    let given = c.requires.put in
    record { put = (given.0 ++ take (at + c.go_on-taken.result) bytes, on.put given.0 given.1, omega (arith, given.2, given_length given.0 bytes (at + c.go_on-taken.result) within, below)) }

pub take_pieces-requires : goal.take_pieces-requires
take_pieces-requires g c =
    let bytes = c.args.bytes.now in
    let at = c.loop-taken.taken in
    let within : at + c.go_on-taken.result ≤ length bytes = rest_within bytes at c.go_on-taken.result c.loop-taken.invariant.within c.go_on-taken.ensures.within in
    let below : at + c.go_on-taken.result < length bytes = omega (arith, within, c.if-taken-bytes.false) in
    let one = slice_more bytes (at + c.go_on-taken.result) below (slice_on bytes at c.go_on-taken.result c.loop-taken.invariant.step c.go_on-taken.ensures.went) c.in-Ok.ensures in
    let given = c.requires.put in
    record {
      within = below;
      put = (
        given.0 ++ take (at + c.go_on-taken.result + 1) bytes,
        one.put given.0 given.1,
        omega (arith, given.2, below, given_length given.0 bytes (at + c.go_on-taken.result + 1) (omega (arith, below))),
      );
    }

pub loop-taken-preserved : goal.loop-taken-preserved
loop-taken-preserved g c =
    let bytes = c.args.bytes.now in
    let at = c.loop-taken.taken in
    let within : at + c.go_on-taken.result ≤ length bytes = rest_within bytes at c.go_on-taken.result c.loop-taken.invariant.within c.go_on-taken.ensures.within in
    let below : at + c.go_on-taken.result < length bytes = omega (arith, within, c.if-taken-bytes.false) in
    let one = slice_more bytes (at + c.go_on-taken.result) below (slice_on bytes at c.go_on-taken.result c.loop-taken.invariant.step c.go_on-taken.ensures.went) c.in-Ok.ensures in
    let step = c.in-Ok-take_pieces.ensures in
    record {
      within = omega (arith, step.1);
      step = slice_front bytes (at + c.go_on-taken.result + 1) (c.in-Ok-take_pieces.last + 1) (omega (arith, step.0)) one step.2;
    }

pub returns-in-Err-take_pieces : goal.returns-in-Err-take_pieces
returns-in-Err-take_pieces g c =
    let bytes = c.args.bytes.now in
    let at = c.loop-taken.taken in
    let within : at + c.go_on-taken.result ≤ length bytes = rest_within bytes at c.go_on-taken.result c.loop-taken.invariant.within c.go_on-taken.ensures.within in
    let below : at + c.go_on-taken.result < length bytes = omega (arith, within, c.if-taken-bytes.false) in
    let one = slice_more bytes (at + c.go_on-taken.result) below (slice_on bytes at c.go_on-taken.result c.loop-taken.invariant.step c.go_on-taken.ensures.went) c.in-Ok.ensures in
    stops_front bytes (at + c.go_on-taken.result + 1) one c.in-Err-take_pieces.ensures

pub returns-then-taken-bytes : goal.returns-then-taken-bytes
returns-then-taken-bytes g c =
    let bytes = c.args.bytes.now in
    let at = c.loop-taken.taken in
    slice_as (all_given bytes (at + c.go_on-taken.result) (omega (arith, c.if-taken-bytes.true))) (slice_on bytes at c.go_on-taken.result c.loop-taken.invariant.step c.go_on-taken.ensures.went)

pub returns-in-Err : goal.returns-in-Err
returns-in-Err g c =
    let bytes = c.args.bytes.now in
    let at = c.loop-taken.taken in
    let within : at + c.go_on-taken.result ≤ length bytes = rest_within bytes at c.go_on-taken.result c.loop-taken.invariant.within c.go_on-taken.ensures.within in
    let below : at + c.go_on-taken.result < length bytes = omega (arith, within, c.if-taken-bytes.false) in
    slice_refused bytes (at + c.go_on-taken.result) below (slice_on bytes at c.go_on-taken.result c.loop-taken.invariant.step c.go_on-taken.ensures.went) c.in-Err.ensures

pub returns : goal.returns
returns g c = slice_as (all_given c.args.bytes.now c.loop-taken.taken c.loop-taken-test.false) c.loop-taken.invariant.step
