use Rattle.std.proofs.Common.{◌≡◌, ◌∙◌, ap}
use Rattle.mg_model.specs.Terms.{terms_and_numbers}
use Rattle.mg_count.proofs.Planned.{pair_parts}
use Rattle.mg_count.proofs.plan.Plan.by.Goals as goal

pub returns : goal.returns
returns c =
    let parts = pair_parts c.args.model c.of-table.result (c.in_ok-model.model, c.in_ok-model.table) c.in_ok-model.ensures in
    let table : c.in_ok-model.table ≡ terms_and_numbers c.args.model.words.pieces = rw parts.1 at c.of-table.ensures in
    ap (λ model. record { code = model; pairs = c.args.pairs.items; terms = c.in_ok-model.table; open_end = c.args.open_end }) parts.0
    ∙ ap (λ terms. record { code = c.args.model; pairs = c.args.pairs.items; terms = terms; open_end = c.args.open_end }) table
