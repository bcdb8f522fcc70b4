use Rattle.mg_front.specs.declared.entry.EntryAt.{EntryAt}
use Rattle.mg_front.specs.Entries.{string_of}
use Rattle.mg_front.proofs.HeldFacts.{entry_held, was_taken}
use Rattle.mg_front.proofs.WalkLaws.{read_above, stepped_more}
use Rattle.std.proofs.Common.{refl}
use Rattle.mg_front.proofs.walk.FrontWalk.step.Goals as goal

pub returns-then-size-gt0 : goal.returns-then-size-gt0
returns-then-size-gt0 g c =
    let w = c.self.inside in
    let at : EntryAt = record { place = w.place; width = w.width; number = w.done } in
    let bytes = c.held_from-bytes.ensures in
    let took = was_taken _ _ _ _ _ _ _ c.if-size-gt0.true c.take_entry-size.ensures in
    let fits = rw (← c.self.view_is) at c.requires.1.fits in
    rw (← c.self.view_is)
    (stepped_more c.take_entry-size.result c.if-self.true
    (entry_held at c.take_entry-size.result (string_of w.last) c.held_from-bytes.result.now fits bytes.told bytes.held c.if-size-gt0.true took) refl refl refl refl took.last_is
    (read_above w.width w.done (string_of w.last) c.held_from-bytes.result.now c.take_entry-size.new.out _ c.take_entry-size.result refl took.told))
