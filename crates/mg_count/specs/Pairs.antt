-- Two values, one beside the other.
use Rattle.std.specs.Prelude.{Ok, Err}
use Rattle.std.specs.declared.result.Result.{Result}

-- a value, and beside it the one that was asked for after it
abbrev pub paired : {A B E : Type 0} → A → Result B E → Result (A × B) E
paired first (Ok second) = Ok (first, second)
paired first (Err refusal) = Err refusal
