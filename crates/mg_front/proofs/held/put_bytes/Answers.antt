use Rattle.std.proofs.Common.{arith}
use Rattle.mg_front.proofs.HeldFacts.{put_fewer}
use Rattle.mg_front.proofs.held.put_bytes.Goals as goal

pub returns-then-bytes-ge-FEW : goal.returns-then-bytes-ge-FEW
returns-then-bytes-ge-FEW c =
    put_fewer c.args.from c.args.count 16 c.args.string.now _ c.args.bytes.now c.if-count-le-FEW.true (omega (arith, c.if-from.true, c.told-string)) c.put_sixteen.ensures
