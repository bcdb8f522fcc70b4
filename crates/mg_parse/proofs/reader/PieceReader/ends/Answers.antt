use Rattle.mg_defs.proofs.PieceLaws.{reads_end}
use Rattle.mg_parse.proofs.reader.PieceReader.ends.Goals as goal

pub returns-then-self-eq0-clause-pieces : goal.returns-then-self-eq0-clause-pieces
returns-then-self-eq0-clause-pieces c told doc h = reads_end _ told doc h

pub returns-else-self-eq0-clause-pieces : goal.returns-else-self-eq0-clause-pieces
returns-else-self-eq0-clause-pieces c told doc h = reads_end _ told doc h

pub returns-in-Others-clause-pieces : goal.returns-in-Others-clause-pieces
returns-in-Others-clause-pieces c told doc h = reads_end _ told doc h
