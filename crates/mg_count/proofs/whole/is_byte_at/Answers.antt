use Rattle.std.proofs.Common.{rules, get_or}
use Rattle.mg_count.proofs.WholePieces.{one-byte}
use Rattle.mg_count.proofs.whole.is_byte_at.Goals as goal

pub returns-clause-piece : goal.returns-clause-piece
returns-clause-piece c = λ is. one-byte c.args.reader.now.piece (get_or c.args.bytes.now c.args.at 0) (search rules) (search rules)
