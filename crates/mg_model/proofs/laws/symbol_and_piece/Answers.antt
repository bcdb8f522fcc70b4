use Rattle.mg_model.proofs.Collections.{symbol-is, piece-is, number-is}
use Rattle.mg_model.proofs.laws.symbol_and_piece.Goals as goal

pub returns-clause-symbol : goal.returns-clause-symbol
returns-clause-symbol c = λ it symbol piece is there. symbol-is it.pieces symbol piece is.rising there

pub returns-clause-piece : goal.returns-clause-piece
returns-clause-piece c = λ it symbol piece h. piece-is it.pieces symbol piece h

pub returns-clause-number : goal.returns-clause-number
returns-clause-number c = λ it symbol piece h. number-is it.pieces symbol piece h
