use Rattle.std.proofs.Common.{arith, ap, length}
use Rattle.mg_wild.specs.Terms.{LexTerms}
use Rattle.mg_wild.proofs.CutLaws.{length-cut}
use Rattle.mg_wild.proofs.term_block.TermBlock.len.Goals as goal

pub returns-clause-terms : goal.returns-clause-terms
returns-clause-terms c = omega (arith, length-cut 0 c.self.inside.ends.items c.self.inside.bytes.items, ap (λ (v : LexTerms). length v.terms) c.self.view_is, c.len.ensures)
