use Rattle.std.proofs.Common.{◌≡◌, codes, ap, arith, slice_index}
use Rattle.mg_defs.specs.Limits.{trial_documents}
use Rattle.mg_args.proofs.CommandLaws.{number_taken}
use Rattle.mg_args.proofs.taken.trial_taken.Goals as goal

pub trial_of-requires-clause-seed : goal.trial_of-requires-clause-seed
trial_of-requires-clause-seed c = λ text is. number_taken c.in_ok-command.command c.in-Ok.matches (codes "seed") 0 18446744073709551615 text
    c.in-Ok.ensures.parsed c.in_ok-command.ensures.plain c.in_ok-command.ensures.seed (λ e. (cc))
    (λ e. let bad : 115 ≡ 104 = ap (λ l. slice_index l 0) e in absurd (omega (arith, bad)))
    (λ e. let bad : 115 ≡ 118 = ap (λ l. slice_index l 0) e in absurd (omega (arith, bad))) is

pub trial_of-requires-clause-docs : goal.trial_of-requires-clause-docs
trial_of-requires-clause-docs c = λ text is. number_taken c.in_ok-command.command c.in-Ok.matches (codes "docs") 1 trial_documents text
    c.in-Ok.ensures.parsed c.in_ok-command.ensures.plain c.in_ok-command.ensures.docs (λ e. (cc))
    (λ e. let bad : 100 ≡ 104 = ap (λ l. slice_index l 0) e in absurd (omega (arith, bad)))
    (λ e. let bad : 100 ≡ 118 = ap (λ l. slice_index l 0) e in absurd (omega (arith, bad))) is
