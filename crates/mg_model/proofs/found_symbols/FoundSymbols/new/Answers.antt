use Rattle.mg_model.proofs.Founds.{each-none}
use Rattle.mg_model.proofs.found_symbols.FoundSymbols.new.Goals as goal

pub returns-in-Ok : goal.returns-in-Ok
returns-in-Ok c = λ pieces. record { each = each-none _ c.in-Ok.ensures.items (λ y same. same) c.none.ensures pieces }
