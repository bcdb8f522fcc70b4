use Rattle.std.proofs.Common.{arith, refl, ◌*◌, ◌+◌, ◌-◌}
use Rattle.mg_runs.proofs.SlotLaws.{slot_is}
use Rattle.mg_runs.proofs.slot.slot_in.Goals as goal

pub returns : goal.returns
returns c = λ count h room. slot_is 64 (64 * c.args.slot) (64 * c.args.slot + 64 - 64 * c.args.slot) count c.args.slot c.args.bytes.now refl (omega arith) h
