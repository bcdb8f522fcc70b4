use Rattle.std.proofs.Common.{rules, ◌*◌, ◌^◌, ◌+◌, ◌<◌, ℕ, List, arith, get_or}
use Rattle.std.proofs.lemmas.List.Sorted.{answers_always, All-permutation, IsPermutation-map, IsPermutation-trans}
use Rattle.mg_runs.specs.Bytes.{entry_in, number_in}
use Rattle.mg_runs.proofs.PostingGroups.{not_falling, no_later-from_key}
use Rattle.mg_runs.proofs.Sorting.{carried}
use Rattle.mg_runs.proofs.groups.sort_entries.Goals as goal

pub returns-clause-same : goal.returns-clause-same
returns-clause-same c = IsPermutation-trans _ _ _ c.group_by_term.ensures (IsPermutation-map entry_in _ _ c.sort_unstable_by_key.ensures.permutation)

pub returns-clause-order : goal.returns-clause-order
returns-clause-order c =
    let mid : List (List ℕ) = c.group_by_term.new.entries in
    let xs : List (List ℕ) = c.sort_unstable_by_key.new.self in
    let key : List ℕ → ℕ = λ e. number_in 0 e * 2 ^ 32 + number_in 4 e in
    let s = c.sort_unstable_by_key.ensures.sorted key (answers_always _ _ _ (λ f a r g h. search rules)) in
    let grouped = carried (λ x. x.doc < 2 ^ 32) c.args.entries.now mid c.group_by_term.ensures c.requires.small in
    let small = All-permutation (λ e. number_in 4 e < 2 ^ 32) mid xs c.sort_unstable_by_key.ensures.permutation grouped in
    not_falling entry_in xs (λ k d h.
    no_later-from_key (entry_in (get_or xs k d)) (entry_in (get_or xs (k + 1) d)) (small k d (omega arith)) (small (k + 1) d h) (s k d (omega arith) h))
