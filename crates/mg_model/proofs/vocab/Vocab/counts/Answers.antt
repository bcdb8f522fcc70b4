use Rattle.std.proofs.Common.{arith, ◌∙◌, ◌++◌, ◌∷◌, [], sym, ap, length, take}
use Rattle.mg_model.specs.Vocabularies.{entry_counts}
use Rattle.mg_model.proofs.Codes.{columns-long}
use Rattle.mg_model.proofs.Counting.{length-entries}
use Rattle.mg_model.proofs.Lists.{take-there, take-all}
use Rattle.mg_model.proofs.vocab.Vocab.counts.Goals as goal

pub count_at-requires : goal.count_at-requires
count_at-requires c = omega (arith, length-entries c.self.inside.longer.keys c.self.inside.counts.entries, ap length c.self.view_is, c.len-place-end.ensures.len, c.loop-place-test.true)

pub loop-place-preserved : goal.loop-place-preserved
loop-place-preserved c = c.in_ok-push.ensures.items ∙ ap (λ t. t ++ c.from.result ∷ []) c.loop-place.invariant
    ∙ ap (λ n. take c.loop-place.place (entry_counts c.args.self.now) ++ n ∷ []) c.from.ensures
    ∙ sym (take-there (entry_counts c.args.self.now) c.loop-place.place c.count_at.result c.count_at.ensures)

pub returns-clause-counts : goal.returns-clause-counts
returns-clause-counts c =
    c.loop-place.invariant ∙ take-all (entry_counts c.args.self.now) c.loop-place.place
    (omega (
      arith,
      (columns-long c.args.self.now).1,
      length-entries c.self.inside.longer.keys c.self.inside.counts.entries,
      ap length c.self.view_is,
      c.len-place-end.ensures.len,
      c.loop-place-test.false,
    ))
