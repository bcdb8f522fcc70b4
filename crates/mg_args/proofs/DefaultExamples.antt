-- The default budget of the command of `build`, as it is written.
use Rattle.std.proofs.Common.{◌≡◌, refl}
use Rattle.std.specs.Prelude.{decimal}
use Rattle.std.specs.Fmt.{digits}
use Rattle.mg_defs.specs.Limits.{default_budget}
use Rattle.mg_args.specs.Commands.{default_text}

default_is : default_text ≡ decimal default_budget
unfolding digits
default_is = refl
