-- The part of weights, by the sums of squared weights.
use Rattle.std.specs.Prelude.{◌≡◌, ℕ, List, flat_map}
use Rattle.std.specs.declared.option.Option.{Option}
use Rattle.mg_dev.specs.declared.part.Part.TheVariants.{Weights}
use Rattle.mg_dev.specs.Files.{Files, bytes_at}
use Rattle.mg_dev.specs.Names.{full_name}
use Rattle.mg_defs.specs.Fixed.{isqrt}
use Rattle.mg_defs.specs.Numbers.{four}

-- the part of weights is the roots of these sums
abbrev pub WeightsAreRoots : Option Files → List ℕ → List ℕ → Type 0
WeightsAreRoots files base sums = bytes_at files (full_name base Weights) ≡ flat_map (λ sum. four (isqrt sum)) sums
