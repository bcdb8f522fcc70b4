-- Which rotations a session of patterns counts, and why it stops.
use Rattle.std.specs.Prelude.{◌<◌, ℕ, List}
use Rattle.std.specs.Option.{IsSome}
use Rattle.std.specs.declared.option.Option.{Option}
use Rattle.mg_dev.specs.Faults.{fault_of_part}
use Rattle.mg_dev.specs.Files.{Files, bytes_at}
use Rattle.mg_dev.specs.Names.{full_name}
use Rattle.mg_dev.specs.declared.fault.Fault.{Fault}
use Rattle.mg_dev.specs.declared.fault.Fault.TheVariants.{TooManyRotations}
use Rattle.mg_dev.specs.declared.part.Part.TheVariants as part
use Rattle.mg_defs.specs.Heads as defs
use Rattle.mg_defs.specs.Heads.{IsHead}
use Rattle.mg_defs.specs.Rotations.{most_rotations}
use Rattle.mg_layout.specs.declared.head.Head.{Head}
use Rattle.mg_wild.specs.Loading.{HasTooMany}
use Rattle.mg_wild.specs.declared.terms_to_load.RotErr.{RotErr}
use Rattle.mg_wild.specs.declared.terms_to_load.RotErr.TheVariants as rot
use Rattle.mg_session.specs.Serves.{ServeStops}

-- the lexicon has as many terms as this head tells, and these have so many rotations, which are too many
abbrev pub TooManyBy : Head → Option Files → List ℕ → ℕ → Type 0
TooManyBy head files base count = HasTooMany (bytes_at files (full_name base part.Lex)) head.terms count

-- The lexicon has as many terms as the head of the files tells, and these have so many rotations, which are too many.
pub record HasTooManyTerms (files : Option Files) (base : List ℕ) (count : ℕ) : Type 0 where
  pub head : defs.Head
  pub head_is : IsHead 1 2 (bytes_at files (full_name base part.Head)) head
  pub many : HasTooMany (bytes_at files (full_name base part.Lex)) head.terms count

-- so many rotations were counted by the lexicon of a set with this head, and are too many; over a store that tells no files they are only too many
abbrev pub CountedBy : Head → Option Files → List ℕ → ℕ → Type 0
CountedBy head files base count = (most_rotations < count) × (IsSome files → TooManyBy head files base count)

-- the same of the head of these files
abbrev pub CountsTooMany : Option Files → List ℕ → ℕ → Type 0
CountsTooMany files base count = (most_rotations < count) × (IsSome files → HasTooManyTerms files base count)

-- the cause of each refusal by the files under a base
abbrev pub WildStops : List ℕ → Type 0 → Type 0 → Type 0 → Option Files → Option (List ℕ) → Fault → Type 0
WildStops base store_rose input_rose output_rose files input fault =
    ServeStops CountsTooMany base store_rose input_rose output_rose files input fault

-- the fault of a lexicon whose terms cannot be held
abbrev pub fault_of_rotated : RotErr → Fault
fault_of_rotated (rot.Part refusal) = fault_of_part refusal
fault_of_rotated (rot.TooMany count) = TooManyRotations count
