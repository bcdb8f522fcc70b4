use Rattle.std.proofs.Common.{◌∙◌, ap}
use Rattle.mg_defs.specs.Pieces.{OpenPiece, other_kind}
use Rattle.mg_parse.proofs.Read.{turned}
use Rattle.mg_parse.proofs.reader.PieceReader.turn.Goals as goal

pub returns-clause-reads : goal.returns-clause-reads
returns-clause-reads c told doc byte ended h =
    turned _ _ told doc byte (c.other_kind-self-inside.ensures ∙ ap (λ (r : OpenPiece). other_kind r.kind) c.self.view_is) ended h
