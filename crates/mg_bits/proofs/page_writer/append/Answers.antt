use Rattle.mg_bits.proofs.ByteLaws.{items_are_bytes}
use Rattle.mg_bits.proofs.PutLaws.{appended}
use Rattle.mg_bits.proofs.page_writer.append.Goals as goal

pub returns : goal.returns
returns g c = appended (items_are_bytes _ c.type_inv.piece) c.append.ensures.content c.append.ensures.reads c.append.ensures.cause
