use Rattle.std.proofs.Common.{◌+◌, arith, refl}
use Rattle.mg_reply.proofs.ReadingLaws.{going_start, going_more, closed, ended, nothing_left, breaks_off, runs_on}
use Rattle.mg_reply.proofs.reader.LineReader.next.Goals as goal

pub bytes-init : goal.bytes-init
bytes-init g c = rw (← c.self.view_is) (record {
  going = rw c.clear.ensures (going_start _);
  used = refl;
  room = omega arith;
  limit = omega arith;
  faults = omega arith;
})

pub returns-then-size-eq0-clause-line : goal.returns-then-size-eq0-clause-line
returns-then-size-eq0-clause-line g c =
    let took = rw c.in-Ok-None.field-0-is at c.in-Ok-None.ensures.took in
    nothing_left _ _ _ _ _ _ _ c.bytes.invariant.going took.0 took.1 c.if-size-eq0.true c.bytes.invariant.used

pub returns-in-Ok-None-clause-line : goal.returns-in-Ok-None-clause-line
returns-in-Ok-None-clause-line g c =
    let took = rw c.in-Ok-None.field-0-is at c.in-Ok-None.ensures.took in
    ended c.args.self.now (record { held = c.byte.new.self; line = c.bytes.self-inside.line; used = c.bytes.self-inside.used + c.bytes.size }) _ _ _ _ _
    c.bytes.invariant.going took.0 took.1 (omega arith) c.event_of.ensures (omega arith) (omega arith)

pub returns-then-size-room-clause-line : goal.returns-then-size-room-clause-line
returns-then-size-room-clause-line g c =
    let took = rw c.in-Ok-Some.field-0-is at c.in-Ok-Some.ensures.took in
    (c.bytes.size, runs_on _ _ _ _ _ _ c.bytes.invariant.going took, omega arith)

pub returns-then-byte-eq10-clause-line : goal.returns-then-byte-eq10-clause-line
returns-then-byte-eq10-clause-line g c =
    let took = rw c.in-Ok-Some.field-0-is at c.in-Ok-Some.ensures.took in
    closed c.args.self.now (record { held = c.byte.new.self; line = c.bytes.self-inside.line; used = c.bytes.self-inside.used + (c.bytes.size + 1) }) _ _ _ _ _
    c.bytes.invariant.going (rw c.if-byte-eq10.true at took) c.event_of-then-byte-eq10.ensures (omega arith) (omega arith)

pub returns-in-Err-clause-line : goal.returns-in-Err-clause-line
returns-in-Err-clause-line g c = breaks_off _ _ _ _ _ c.bytes.invariant.going c.in-Err.ensures.took

pub bytes-preserved : goal.bytes-preserved
bytes-preserved g c =
    let took = rw c.in-Ok-Some.field-0-is at c.in-Ok-Some.ensures.took in
    record {
      going = rw c.keep.ensures (going_more _ _ _ _ _ _ c.bytes.invariant.going took c.if-byte-eq10.false);
      used = c.bytes.invariant.used;
      room = omega arith;
      limit = c.bytes.invariant.limit;
      faults = omega arith;
    }
