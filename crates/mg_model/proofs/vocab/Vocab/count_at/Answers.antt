use Rattle.std.proofs.Common.{◌∙◌, sym, ap, slice_get}
use Rattle.mg_model.specs.Vocabularies.{entry_counts}
use Rattle.mg_model.proofs.Counting.{count-there}
use Rattle.mg_model.proofs.vocab.Vocab.count_at.Goals as goal

pub returns-in-Some : goal.returns-in-Some
returns-in-Some c =
    ap (λ es. slice_get (entry_counts es) c.args.place) (sym c.self.view_is)
    ∙ count-there c.self.inside.longer.keys c.self.inside.counts.entries c.args.place _ _ (sym c.in-Some.ensures.entry)
