use Rattle.std.proofs.Common.{arith, ◌-◌}
use Rattle.mg_bits.proofs.EightBytes.{holds_inside}
use Rattle.mg_bits.proofs.Keeping.{told_kept}
use Rattle.mg_bits.proofs.bit_reader.BitReader.kept_bit.Goals as goal

pub overflow_shr-result : goal.overflow_shr-result
overflow_shr-result g c = omega (arith, c.self.invariant.few)

pub returns-clause-told : goal.returns-clause-told
returns-clause-told g c =
    let kept = c.self.inside.kept in
    let before = c.self.inside.place - kept.start in
    rw (← c.self.view_is)
    (λ files fits. told_kept _ kept.start c.self.inside.place before (kept.count - 1 - before) kept.count kept.word (omega arith) (omega arith) ((c.self.invariant.are (omega arith)).told files fits))

pub returns-clause-held : goal.returns-clause-held
returns-clause-held g c =
    let kept = c.self.inside.kept in
    rw (← c.self.view_is)
    (holds_inside _ kept.start c.self.inside.place kept.count 1 (g.met.F.Feed.whole_pages c.self.inside.feed).some (omega arith) (omega arith) (omega arith) (c.self.invariant.are (omega arith)).held)
