use Rattle.std.proofs.Common.{◌∙◌, sym}
use Rattle.mg_parse.proofs.Read.{taken}
use Rattle.mg_parse.proofs.reader.PieceReader.offer.Goals as goal

pub returns-then-is_of_kind-clause-reads : goal.returns-then-is_of_kind-clause-reads
returns-then-is_of_kind-clause-reads c is_taken told doc h =
    taken _ _ _ _ told doc _ c.self.view_is (sym c.is_of_kind.ensures ∙ c.if-is_of_kind.true) c.if-self-lt-PIECE_BYTES.true c.self.told h
