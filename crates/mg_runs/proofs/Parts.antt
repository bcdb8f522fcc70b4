-- The parts of one base.
use Rattle.std.proofs.Common.{◌≡◌, ◌≢◌, ℕ, List, [], Some, ap, ◌∙◌, IsSome, Ok, Err}
use Rattle.std.specs.Prelude.{OnOk}
use Rattle.std.specs.declared.option.Option.{Option}
use Rattle.std.specs.declared.result.Result.{Result}
use Rattle.mg_dev.specs.declared.part.Part.{Part}
use Rattle.mg_dev.specs.Names.{full_name, number}
use Rattle.mg_dev.specs.Files.{Files, Reads, SameReads, AfterReset, file_at, written}
use Rattle.mg_dev.specs.Laws.{same_part_of_name, reset-others, reset-told, file_at-written}
use Rattle.mg_bits.specs.Writer.{WroteTo}

-- parts of different numbers have different names
pub apart : (base : List ℕ) (p q : Part) → (number p ≡ number q → ⊥) → full_name base p ≢ full_name base q
apart base p q different e = different (ap number (same_part_of_name base p q e))

-- a reset writes to its part alone
pub reset_wrote : {E : Type 0} (name : List ℕ) (old new : Option Files) (reads now : Reads) (r : Result (Unit {0}) E) → AfterReset old new name r → SameReads reads now → WroteTo name old new reads now
reset_wrote name old new reads now r after same = record {
  told = reset-told old new name r after;
  others = λ n away. reset-others old new name n r after away;
  reads = same;
}

-- a file is there and empty where its writer has started
pub started_empty : (name : List ℕ) (old new : Option Files) → new ≡ written old name [] → IsSome old → file_at new name ≡ Some []
started_empty name old new started told = ap (λ f. file_at f name) started ∙ file_at-written old name [] told

pub reset_empty : {E : Type 0} (name : List ℕ) (old new : Option Files) (r : Result (Unit {0}) E) → AfterReset old new name r → IsSome old → OnOk r (file_at new name ≡ Some [])
reset_empty name old new (Ok u) after told = started_empty name old new after told
reset_empty name old new (Err e) after told = tt
