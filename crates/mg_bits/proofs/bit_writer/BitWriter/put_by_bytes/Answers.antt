use Rattle.std.proofs.Common.{arith, ◌≡◌, ◌<◌, ◌-◌, ◌/◌, ◌^◌, ℕ, length, refl, []}
use Rattle.mg_defs.specs.Bits.{digits}
use Rattle.mg_defs.proofs.BitLaws.{length_digits}
use Rattle.mg_bits.proofs.BitsWritten.{digits_next}
use Rattle.mg_bits.proofs.Growing.{held_few}
use Rattle.mg_bits.proofs.PutLaws.{puts_all, puts_front, puts_more, puts_none, writes}
use Rattle.mg_bits.proofs.bit_writer.BitWriter.put_by_bytes.Goals as goal

no_digits : (count value : ℕ) → digits (count - count) value ≡ []
unfolding digits
no_digits count value = let e : count - count ≡ 0 = omega arith in rw e refl

pub loop-left-init : goal.loop-left-init
loop-left-init g c =
    let held : length c.args.self.now.buffered < 32768 = rw (← c.self.view_is) (held_few _ c.self.inside.count c.self.inside.rest c.self.invariant.3 c.self.invariant.0) in
    record { left = omega arith; put = rw no_digits (puts_none held) }

pub put_piece-requires-clause-place : goal.put_piece-requires-clause-place
put_piece-requires-clause-place g c =
    omega (arith, c.loop-left.invariant.put.bits.place, length_digits (c.args.count - c.loop-left.left) (c.args.value / 2 ^ c.loop-left.left))

pub loop-left-preserved : goal.loop-left-preserved
loop-left-preserved g c = record {
  left = omega arith;
  put = rw (← digits_next c.args.count c.loop-left.left c.min-size.result c.args.value (omega arith) c.loop-left.invariant.left)
      (puts_more c.loop-left.invariant.put (rw c.low.ensures at c.in-Ok.ensures));
}

pub returns-in-Err : goal.returns-in-Err
returns-in-Err g c =
    writes c.requires.holds
    (puts_front c.args.count (c.loop-left.left - c.min-size.result) c.args.value (omega (arith, c.loop-left.invariant.left))
    (rw (← digits_next c.args.count c.loop-left.left c.min-size.result c.args.value (omega arith) c.loop-left.invariant.left)
    (puts_more c.loop-left.invariant.put (rw c.low.ensures at c.in-Err.ensures))))

pub returns : goal.returns
returns g c = writes c.requires.holds (puts_all c.args.count c.loop-left.left c.args.value (omega (arith, c.loop-left-test.false)) c.loop-left.invariant.put)
