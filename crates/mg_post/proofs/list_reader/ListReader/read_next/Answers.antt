use Rattle.std.proofs.Common.{arith, ◌∙◌}
use Rattle.mg_defs.proofs.ListLaws.{last_within}
use Rattle.mg_post.proofs.CursorLaws.{same_file}
use Rattle.mg_post.proofs.ListReadingLaws.{block_whole, may_read, read_ended, read_filled, read_refused}
use Rattle.mg_post.proofs.SoundLaws.{nothing_held}
use Rattle.mg_post.proofs.list_reader.ListReader.read_next.Goals as goal

pub returns-then-docs-passed : goal.returns-then-docs-passed
returns-then-docs-passed g c =
    let fits = rw (← c.self.view_is) at c.requires.fits in
    let few = rw (← c.self.view_is) at c.requires.few in
    rw (← c.self.view_is) (read_ended _ _ _ _ fits few (omega (arith, c.if-docs-passed.true, c.from-docs.ensures, c.from-passed.ensures)))

pub returns-in-Ok : goal.returns-in-Ok
returns-in-Ok g c =
    let i = c.self.invariant in
    let fits = rw (← c.self.view_is) at c.requires.fits in
    let few = rw (← c.self.view_is) at c.requires.few in
    let k = may_read _ _ c.min-count.result fits i.2 i.3 few (omega (arith, c.if-docs-passed.false, c.from-docs.ensures, c.from-passed.ensures))
    (omega (arith, c.min-count.ensures, c.from-docs.ensures, c.from-passed.ensures)) in
    rw (← c.self.view_is) (read_filled k c.current.result c.in-Ok.ensures c.current.ensures)

pub returns-in-Err : goal.returns-in-Err
returns-in-Err g c =
    let i = c.self.invariant in
    let fits = rw (← c.self.view_is) at c.requires.fits in
    let few = rw (← c.self.view_is) at c.requires.few in
    let k = may_read _ _ c.min-count.result fits i.2 i.3 few (omega (arith, c.if-docs-passed.false, c.from-docs.ensures, c.from-passed.ensures))
    (omega (arith, c.min-count.ensures, c.from-docs.ensures, c.from-passed.ensures)) in
    rw (← c.self.view_is) (read_refused k c.clear.new.self _ c.in-Err.ensures c.clear.ensures c.refused_part.ensures)

pub invariant_of-self : goal.invariant_of-self
invariant_of-self g c =
    let i = c.self.invariant in
    let e = c.in-Ok.ensures in (
      omega (arith, e.last, last_within c.self.inside.all c.self.inside.last c.fill.new.self i.0 e.rises),
      omega (arith, c.if-docs-passed.false, c.from-docs.ensures, c.from-passed.ensures),
      (same_file c.self.inside.post.feed c.fill.new.r.feed _ _ e.calm).part ∙ i.2,
      block_whole c.self.inside.all c.self.inside.last c.in-Ok.last c.fill.new.self e.rises e.last,
    )

pub invariant_of-self-in-Err : goal.invariant_of-self-in-Err
invariant_of-self-in-Err g c =
    let i = c.self.invariant in (
      i.0,
      i.1,
      (same_file c.self.inside.post.feed c.fill.new.r.feed _ _ c.in-Err.ensures.calm).part ∙ i.2,
      nothing_held c.self.inside.all c.self.inside.last c.clear.new.self c.clear.ensures,
    )
