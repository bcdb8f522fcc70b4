use Rattle.mg_defs.specs.Marks.{code_of}
use Rattle.mg_model.proofs.Founds.{found-here}
use Rattle.mg_model.proofs.text_model.TextModel.symbol_anew.Goals as goal

pub returns-in-Some-clause-kept : goal.returns-in-Some-clause-kept
returns-in-Some-clause-kept c =
    let pieces = (code_of c.args.stream c.args.self.now).pieces in
    c.keep.ensures pieces c.requires.kept (found-here pieces c.args.piece.now c.of.result.entry c.in-Some.symbol c.of.ensures (rw c.bytes.ensures at c.in-Some.ensures))
