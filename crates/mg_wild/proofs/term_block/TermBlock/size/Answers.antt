use Rattle.std.proofs.Common.{arith, ap, length}
use Rattle.mg_wild.specs.Terms.{LexTerms, total}
use Rattle.mg_wild.proofs.CutLaws.{total-cut}
use Rattle.mg_wild.proofs.term_block.TermBlock.size.Goals as goal

pub returns : goal.returns
returns c = omega (
  arith,
  total-cut 0 c.self.inside.ends.items (length c.self.inside.bytes.items) c.self.inside.bytes.items c.self.invariant.ends_are
      (omega arith),
  ap (λ (v : LexTerms). total v.terms) c.self.view_is,
  c.len.ensures,
)
