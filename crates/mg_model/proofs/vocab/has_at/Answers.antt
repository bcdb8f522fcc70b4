use Rattle.std.proofs.Common.{◌∙◌, sym}
use Rattle.mg_model.proofs.Places.{position-at}
use Rattle.mg_model.proofs.vocab.has_at.Goals as goal

pub returns-in-Some : goal.returns-in-Some
returns-in-Some c =
    λ is. position-at c.args.key.now c.in-Some.there.now c.args.counts.now.entries c.args.place _ c.len.ensures.unique (sym c.in-Some.ensures.entry) (sym c.eq.ensures ∙ is)
