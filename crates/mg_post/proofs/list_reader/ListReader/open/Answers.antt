use Rattle.std.proofs.Common.{arith, ap, refl, ◌∙◌}
use Rattle.mg_bits.specs.Pages.{Paging}
use Rattle.mg_post.proofs.ListReadingLaws.{opens}
use Rattle.mg_post.proofs.SoundLaws.{nothing_held}
use Rattle.mg_post.proofs.list_reader.ListReader.open.Goals as goal

pub invariant_of-self : goal.invariant_of-self
invariant_of-self g c = (
  omega arith,
  omega arith,
  ap (λ (p : Paging). p.part) c.seek.ensures.feed ∙ c.self.invariant.2,
  nothing_held c.self.inside.all 0 c.clear.new.self c.clear.ensures,
)

pub returns : goal.returns
returns g c =
    rw (← c.self.view_is)
    (opens c.args.info.now _ _ c.seek.ensures.feed refl (omega (arith, c.seek.ensures.place, c.place_or_most.ensures)) c.parameter_for-self-inside.ensures
    refl refl refl c.clear.ensures)
