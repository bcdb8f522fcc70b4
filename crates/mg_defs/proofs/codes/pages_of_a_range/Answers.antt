use Rattle.mg_defs.proofs.PageLaws.{first_to_last, all_have_bits}
use Rattle.mg_defs.proofs.codes.pages_of_a_range.Goals as goal

pub returns : goal.returns
returns c = λ from to page. (first_to_last from to page, λ all. all_have_bits from to page all.0 all.1 all.2)
