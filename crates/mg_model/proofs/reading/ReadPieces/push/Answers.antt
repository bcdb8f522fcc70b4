use Rattle.std.proofs.Common.{◌∙◌, ◌++◌, ◌∷◌, [], sym, ap, take}
use Rattle.mg_defs.specs.CodedText.{piece_entries}
use Rattle.mg_front.specs.Entries.{string_of}
use Rattle.mg_model.proofs.Entries.{entries-push, code}
use Rattle.mg_model.proofs.reading.ReadPieces.push.Goals as goal

pub returns-clause-entries : goal.returns-clause-entries
returns-clause-entries c =
    let piece = string_of c.args.entry.now in
    ap (λ ps. piece_entries (code ps c.push.new.self.items)) c.in_ok-push_of.ensures.ok ∙ ap
    (λ ls. piece_entries (code (c.args.self.now.pieces ++ piece ∷ []) ls)) c.in_ok-push.ensures.items
    ∙ entries-push c.args.self.now.pieces c.args.self.now.lengths.items piece c.length_in.result c.requires.each
    ∙ ap (λ f. piece_entries (code c.args.self.now.pieces c.args.self.now.lengths.items)
    ++ record { string = take c.args.entry.now.length c.args.entry.now.string; field = f } ∷ []) (sym c.length_in.ensures)
