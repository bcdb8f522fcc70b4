use Rattle.std.proofs.Common.{arith, ◌∙◌, ◌≡◌, ◌<◌, length, ◌-◌, ◌+◌, ◌*◌, ◌^◌, get_or, min, ap}
use Rattle.std.proofs.lemmas.List.{get_or_read}
use Rattle.mg_defs.specs.Weights.{weight_in_doc}
use Rattle.mg_index.proofs.SquareSteps.{summed_more}
use Rattle.mg_index.proofs.one_list.add_square.Goals as goal

pub returns-clause-summed : goal.returns-clause-summed
returns-clause-summed c = λ lists ps fit are.
    let at = c.args.doc - 1 in
    let within : c.args.doc - 1 < length c.args.sums.now.items = omega (arith, c.requires.first, c.requires.within) in
    let weight : c.from-weight.result ≡ weight_in_doc c.args.count = c.from-weight.ensures ∙ c.doc_term_weight.ensures.is in
    let old = get_or_read c.args.sums.now.items at c.index.result.now within c.index.ensures 0 in
    let value =
    c.saturating_add.ensures ∙ ap (λ x. min (x + c.from-weight.result * c.from-weight.result) (2 ^ 64 - 1)) old
    ∙ ap (λ w. min (get_or c.args.sums.now.items at 0 + w * w) (2 ^ 64 - 1)) weight in
    summed_more c.args.sums.now.items at c.saturating_add.result lists ps _ (omega (arith, c.requires.first)) within value fit are
