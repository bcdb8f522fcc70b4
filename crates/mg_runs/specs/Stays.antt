-- What stays of a store.
use Rattle.std.specs.Prelude.{◌≢◌, ℕ, List}
use Rattle.std.specs.declared.option.Option.{Option}
use Rattle.mg_dev.specs.Files.{Files}
use Rattle.mg_dev.specs.Names.{full_name}
use Rattle.mg_dev.specs.declared.part.Part.{Part}
use Rattle.mg_dev.specs.declared.part.Part.TheVariants.{Run, MergeA, MergeB}
use Rattle.mg_bits.specs.Alike.{SameAt, TellAlike}

-- a part of a base is as before
abbrev pub SamePart : List ℕ → Part → Option Files → Option Files → Type 0
SamePart base part files_before files_now = SameAt files_before files_now (full_name base part)

-- all files are as before, but for those of the runs of a base
abbrev pub SameButRuns : List ℕ → Option Files → Option Files → Type 0
SameButRuns base files_before files_now = (n : List ℕ) → n ≢ full_name base Run → n ≢ full_name base MergeA →
    n ≢ full_name base MergeB → SameAt files_before files_now n

-- a fact on the files of a moment stands at another one, where both tell them or neither does, and this much of them is as before
abbrev pub Stays : Option Files → Option Files → (Option Files → Option Files → Type 0) → (Option Files → Type 0) →
    Type 0
Stays files_before files_now same fact = TellAlike files_before files_now → same files_before files_now →
    fact files_before → fact files_now
