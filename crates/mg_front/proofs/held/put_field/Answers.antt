use Rattle.std.proofs.Common.{ap, ◌∙◌, take}
use Rattle.std.proofs.lemmas.List.{take-take}
use Rattle.mg_front.proofs.held.put_field.Goals as goal

pub returns-then-bytes-ge24 : goal.returns-then-bytes-ge24
returns-then-bytes-ge24 c = ap (take c.args.width) c.copy_from_slice.ensures.after ∙ take-take c.args.width 24 c.args.bytes.now c.requires.width
