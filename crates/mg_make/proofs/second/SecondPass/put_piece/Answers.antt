use Rattle.std.proofs.Common.{◌<◌, position, ap, sym, ◌∙◌}
use Rattle.std.specs.Str.{bytes_eq}
use Rattle.mg_count.specs.Plans.{Plan}
use Rattle.mg_defs.specs.Marks.{code_of}
use Rattle.mg_make.proofs.PassLaws.{pass_refused}
use Rattle.mg_make.proofs.Stopping.{other_piece, stops_unknown, tells_unknown}
use Rattle.mg_make.proofs.second.SecondPass.put_piece.Goals as goal

pub returns-in-None : goal.returns-in-None
returns-in-None g c =
    let more : 0 < c.self.inside.left = rw (← c.self.view_is) at c.requires.more in
    rw (← c.self.view_is, c.symbol.ensures.same)
    (pass_refused (record {
      cause = λ met collection is front. stops_unknown _ _ c.args.stream _ c.unknown.ensures (other_piece _ met c.args.stream c.args.piece.now collection front (sym c.in-None.ensures.symbol));
      tells = λ met collection is front. tells_unknown _ _ met c.args.stream c.args.piece.now collection _ is front more (sym c.in-None.ensures.symbol) c.unknown.ensures;
    }))

pub put_symbol-requires-clause-next : goal.put_symbol-requires-clause-next
put_symbol-requires-clause-next g c = rw c.symbol.ensures.same (rw (← c.self.view_is) at c.requires.next)

pub put_symbol-requires-clause-more : goal.put_symbol-requires-clause-more
put_symbol-requires-clause-more g c = rw (← c.self.view_is) at c.requires.more

pub put_symbol-requires-clause-symbol : goal.put_symbol-requires-clause-symbol
put_symbol-requires-clause-symbol g c =
    ap (λ (p : Plan). position (bytes_eq c.args.piece.now) (code_of c.args.stream p.code).pieces) c.symbol.ensures.same ∙ sym c.in-Some.ensures.symbol

pub returns : goal.returns
returns g c = rw (← c.self.view_is) (rw c.symbol.ensures.same at c.put_symbol.ensures)
