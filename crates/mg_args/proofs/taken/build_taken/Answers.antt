use Rattle.std.proofs.Common.{◌≡◌, codes, ap, arith, slice_index}
use Rattle.mg_defs.specs.Limits.{least_budget, greatest_budget}
use Rattle.mg_args.proofs.CommandLaws.{number_taken}
use Rattle.mg_args.proofs.taken.build_taken.Goals as goal

pub build_of-requires : goal.build_of-requires
build_of-requires c = λ text is. number_taken c.in_ok-command.command c.in-Ok.matches (codes "budget") least_budget greatest_budget text
    c.in-Ok.ensures.parsed c.in_ok-command.ensures.plain c.in_ok-command.ensures.budget (λ e. (cc))
    (λ e. let bad : 98 ≡ 104 = ap (λ l. slice_index l 0) e in absurd (omega (arith, bad)))
    (λ e. let bad : 98 ≡ 118 = ap (λ l. slice_index l 0) e in absurd (omega (arith, bad))) is
