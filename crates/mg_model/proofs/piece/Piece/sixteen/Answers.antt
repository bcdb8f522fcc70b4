use Rattle.mg_model.proofs.FirstBytes.{first-there}
use Rattle.mg_model.proofs.piece.Piece.sixteen.Goals as goal

pub returns : goal.returns
returns c = λ few. first-there c.self.inside.bytes.now c.copy_from_slice.new.self c.args.self.now c.self.inside.len c.self.view_is c.self.invariant few c.copy_from_slice.ensures.after
