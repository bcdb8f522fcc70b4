-- Two stores that agree on files.
use Rattle.std.specs.Prelude.{◌≡◌, ℕ, List}
use Rattle.std.specs.Option.{is_some}
use Rattle.std.specs.declared.option.Option.{Option}
use Rattle.mg_dev.specs.Files.{Files, file_at}

-- both tell their files, or neither does
abbrev pub TellAlike : Option Files → Option Files → Type 0
TellAlike one other = is_some other ≡ is_some one

-- both hold the same file of this name, or none
abbrev pub SameAt : Option Files → Option Files → List ℕ → Type 0
SameAt one other name = file_at other name ≡ file_at one name

-- a fact where both tell alike and hold the same files of two names
abbrev pub WhereSame : Option Files → Option Files → List ℕ → List ℕ → Type 0 → Type 0
WhereSame one other a b fact = TellAlike one other → SameAt one other a → SameAt one other b → fact
