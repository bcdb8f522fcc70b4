-- Which part a refusal names, and what it tells of it.
use Rattle.std.specs.Prelude.{◌≡◌, ◌<◌, ◌^◌, ◌⊎◌, ℕ, List, length, slice_index_or, Some, None}
use Rattle.std.specs.declared.option.Option.{Option}
use Rattle.mg_dev.specs.Bads.{IsBad, IsNotBad}
use Rattle.mg_dev.specs.declared.part.Part.{Part}
use Rattle.mg_dev.specs.declared.part_err.PartErr.{PartErr}
use Rattle.mg_dev.specs.declared.part_err.PartErr.TheVariants.{Device, Memory, Bad}
use Rattle.mg_runs.specs.Joins.{IsRunPart}
use Rattle.mg_runs.specs.Merging.{no_cursor}
use Rattle.mg_runs.specs.declared.cursor.Cursor.{Cursor}
use Rattle.mg_runs.specs.declared.group.Group.{Group}

-- a damage is one of this part: no posting of a run stands at a place of it, where 1 to 2^32 is wanted and 0 was found
abbrev pub NamesPart : Part → PartErr → Type 0
NamesPart part Device = Unit {0}
NamesPart part Memory = Unit {0}
NamesPart part (Bad bad) = IsBad bad part bad.at 1 (2 ^ 32) 0

-- a damage is one of Run or a merge part
abbrev pub NamesItsPart : PartErr → Type 0
NamesItsPart Device = Unit {0}
NamesItsPart Memory = Unit {0}
NamesItsPart (Bad bad) = IsRunPart bad.part × IsBad bad bad.part bad.at 1 (2 ^ 32) 0

-- a damage is one of the part whose runs are in use; where none are, there is no damage
abbrev pub NamesPartOf : Option Group → PartErr → Type 0
NamesPartOf None refusal = IsNotBad refusal
NamesPartOf (Some group) refusal = NamesPart group.file.part refusal

-- a damage is told at this bit
abbrev pub TellsBit : ℕ → PartErr → Type 0
TellsBit at Device = Unit {0}
TellsBit at Memory = Unit {0}
TellsBit at (Bad bad) = bad.at ≡ at

-- a damage is told at 0, or at the bit where a cursor stands
abbrev pub TellsBitOf : List Cursor → PartErr → Type 0
TellsBitOf cursors Device = Unit {0}
TellsBitOf cursors Memory = Unit {0}
TellsBitOf cursors (Bad bad) = (bad.at ≡ 0)
    ⊎ ((k : ℕ) × (k < length cursors) × (bad.at ≡ (slice_index_or cursors k no_cursor).place))

-- a damage is told at 0, or at the bit where a run in use stands
abbrev pub TellsBitIn : Option Group → PartErr → Type 0
TellsBitIn None refusal = IsNotBad refusal
TellsBitIn (Some group) refusal = TellsBitOf group.cursors.items refusal
