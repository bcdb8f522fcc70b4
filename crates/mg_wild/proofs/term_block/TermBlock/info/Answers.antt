use Rattle.std.proofs.Common.{arith, ◌<◌, ap, length}
use Rattle.mg_wild.specs.Terms.{LexTerms}
use Rattle.mg_wild.proofs.CutLaws.{numbered-at, there}
use Rattle.mg_wild.proofs.term_block.TermBlock.info.Goals as goal

pub returns-clause-number : goal.returns-clause-number
returns-clause-number c =
    let within : c.args.number < length c.self.inside.infos.items = omega (arith, c.requires, ap (λ (v : LexTerms). length v.infos) c.self.view_is) in
    let at = numbered-at 0 c.self.inside.infos.items c.args.number c.index.result.now c.self.invariant.numbered
    (there c.self.inside.infos.items c.args.number c.index.result.now within c.index.ensures) in
    omega (arith, at.number_is)
