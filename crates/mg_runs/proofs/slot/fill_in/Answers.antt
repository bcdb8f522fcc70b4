use Rattle.std.proofs.Common.{arith, refl, ◌*◌, ◌+◌, ◌-◌}
use Rattle.std.proofs.lemmas.Grind.{common_steps}
use Rattle.mg_runs.proofs.SlotLaws.{slots_put, slot_put}
use Rattle.mg_runs.proofs.slot.fill_in.Goals as goal

pub returns-clause-slots : goal.returns-clause-slots
returns-clause-slots g c = λ count h room.
    slots_put 64 (64 * c.args.slot) (64 * c.args.slot + 64 - 64 * c.args.slot) count c.args.slot c.args.bytes.now c.read_slot.new.slot refl (omega arith)
    c.requires.room (grind (arith, common_steps, c.read_slot.auto.slot)) h

pub returns-clause-filled : goal.returns-clause-filled
returns-clause-filled g c = λ count h room.
    rw (slot_put 64 (64 * c.args.slot) (64 * c.args.slot + 64 - 64 * c.args.slot) count c.args.slot c.args.bytes.now c.read_slot.new.slot refl (omega arith)
    c.requires.room (grind (arith, common_steps, c.read_slot.auto.slot)) h)
    c.read_slot.ensures.filled
