use Rattle.std.proofs.Common.{rules, ◌≡◌, ◌∙◌, ap}
use Rattle.std.specs.Ordering.{is_lt}
use Rattle.std.proofs.lemmas.Fn.{always_returns_same}
use Rattle.std.proofs.lemmas.Result.{on_ok_weaker}
use Rattle.mg_defs.specs.Vocabulary.{sorted_of, counts_of}
use Rattle.mg_model.specs.Vocabularies.{entries_of}
use Rattle.mg_model.proofs.Order.{sorted-pieces, sorted-counts}
use Rattle.mg_model.proofs.Sorting.{comes_before, comes-weak, entries-moved, kept-moved, rising-entries}
use Rattle.mg_model.proofs.vocab.Vocab.sort.Goals as goal

pub invariant_of-self : goal.invariant_of-self
invariant_of-self c =
    kept-moved c.self.inside.longer.keys c.self.inside.counts.entries c.sort_unstable_by.new.self.entries c.sort_unstable_by.ensures.reordered.0 c.self.invariant

pub returns-clause-rising : goal.returns-clause-rising
returns-clause-rising c =
    let longer = c.self.inside.longer.keys in
    on_ok_weaker c.sort_unstable_by.result (λ sorted. rising-entries longer c.sort_unstable_by.new.self.entries
    (sorted (comes_before longer) (comes-weak longer)
    (always_returns_same _ (λ a r. is_lt r ≡ comes_before longer (a.0.now, a.1.0.now) (a.1.1.0.now, a.1.1.1.0.now)) _ (λ a r f' k. search rules)))
    (invariant_of-self c).vocabulary.distinct) c.sort_unstable_by.ensures.sorted

pub returns-clause-pieces : goal.returns-clause-pieces
returns-clause-pieces c =
    let longer = c.self.inside.longer.keys in
    let old = c.self.inside.counts.entries in
    let new = c.sort_unstable_by.new.self.entries in
    on_ok_weaker c.sort_unstable_by.result (λ rising. sorted-pieces (entries_of longer old) (entries_of longer new)
    (entries-moved longer old new c.sort_unstable_by.ensures.reordered.0) rising ∙ ap sorted_of c.self.view_is) (returns-clause-rising c)

pub returns-clause-counts : goal.returns-clause-counts
returns-clause-counts c =
    let longer = c.self.inside.longer.keys in
    let old = c.self.inside.counts.entries in
    let new = c.sort_unstable_by.new.self.entries in
    on_ok_weaker c.sort_unstable_by.result (λ rising. sorted-counts (entries_of longer old) (entries_of longer new)
    (entries-moved longer old new c.sort_unstable_by.ensures.reordered.0) (invariant_of-self c).vocabulary.distinct rising ∙ ap counts_of c.self.view_is) (returns-clause-rising c)
