use Rattle.mg_text_writer.proofs.DocumentLaws.{next_piece, pieces_are_doc, pieces_count, same_turn}
use Rattle.mg_text_writer.proofs.laws.pieces_make_documents.Goals as goal

pub returns-clause-document : goal.returns-clause-document
returns-clause-document c = pieces_are_doc

pub returns-clause-next : goal.returns-clause-next
returns-clause-next c = next_piece

pub returns-clause-turn : goal.returns-clause-turn
returns-clause-turn c = same_turn

pub returns-clause-count : goal.returns-clause-count
returns-clause-count c = pieces_count
