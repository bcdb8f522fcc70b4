-- What one step of a merge of runs does, told of the moments before it and after it.
use Rattle.std.specs.Prelude.{◌≡◌, ◌≢◌, ◌<◌, ◌≤◌, ◌+◌, ◌-◌, ◌*◌, ◌/◌, ◌%◌, ◌^◌, ℕ, List, [], length, max, slice_index_or, OnOk, IfOk, IfErr}
use Rattle.std.specs.declared.option.Option.{Option}
use Rattle.std.specs.declared.result.Result.{Result}
use Rattle.mg_defs.specs.Limits.{greatest_budget}
use Rattle.mg_dev.specs.Files.{Files, Reads, bytes_at}
use Rattle.mg_dev.specs.Names.{full_name}
use Rattle.mg_dev.specs.PartCauses.{HasPartCause, IsCaused}
use Rattle.mg_dev.specs.declared.file_ref.FileRef.{FileRef}
use Rattle.mg_dev.specs.declared.part.Part.{Part}
use Rattle.mg_dev.specs.declared.part_err.PartErr.{PartErr}
use Rattle.mg_bits.specs.BitWriting.{BitWriting, Holds}
use Rattle.mg_bits.specs.Pages.{Looked}
use Rattle.mg_dev.specs.declared.part.Part.TheVariants.{Run}
use Rattle.mg_runs.specs.Cursors.{NoMemory, Tells}
use Rattle.mg_runs.specs.Damages.{NamesItsPart, NamesPart, TellsBit, TellsBitOf}
use Rattle.mg_runs.specs.Joins.{IsRunPart, Passed, Worked, other}
use Rattle.mg_runs.specs.Merging.{left_together, no_cursor}
use Rattle.mg_runs.specs.Pooled.{Pooled, SamePool}
use Rattle.mg_runs.specs.Reading.{ForRound, ForRuns, GroupShaped, GroupStands, RoundHas, next_name, peak_with}
use Rattle.mg_runs.specs.Rounds.{AreStored}
use Rattle.mg_runs.specs.Slots.{ChangesOneSlot}
use Rattle.mg_runs.specs.Stays.{SamePart}
use Rattle.mg_runs.specs.declared.group.Group.{Group}
use Rattle.mg_runs.specs.declared.round.Joined.{Joined}
use Rattle.mg_runs.specs.declared.round.Round.{Round}

-- ---- what a step starts from

-- the pool holds no entry, and has so many slots
pub record HasSlots (pool : Pooled) (count : ℕ) : Type 0 where
  pub some : 1 ≤ count
  pub room : count ≤ pool.limit / 64
  pub limit : pool.limit ≤ greatest_budget
  pub entries : pool.entries ≡ []

-- more runs begin at these places than this width, and the pool has so many slots
pub record HasMore (pool : Pooled) (width : ℕ) (places : List ℕ) : Type 0 where
  pub slots : HasSlots pool width
  pub more : width < length places

-- the writer stands for its file, which is another than the one that is read
pub record MayWrite (file : FileRef) (writer : BitWriting) (files : Option Files) : Type 0 where
  pub holds : Holds writer files
  pub apart : full_name file.base.now file.part ≢ writer.name

-- the same of a writer that has put nothing yet
pub record MayBegin (file : FileRef) (writer : BitWriting) (files : Option Files) : Type 0 where
  pub apart : MayWrite file writer files
  pub place : writer.place ≡ 0

-- the pool has a slot for each run that begins at these places of a file, and the writer stands at a byte of another file
pub record MayJoin (pool : Pooled) (file : FileRef) (places : List ℕ) (w : BitWriting) (files : Option Files) : Type 0
  where
    pub slots : HasSlots pool (length places)
    pub writer : MayWrite file w files
    pub whole : w.place % 8 ≡ 0

-- each cursor of a group has its slot and its key, and the writer stands for another file than the group's
pub record MayPut (group : Group) (writer : BitWriting) (files : Option Files) : Type 0 where
  pub shape : GroupShaped group
  pub apart : MayWrite group.file writer files

-- ---- what it reads

-- a step that reads this part alone, and writes nothing
pub record LookStep {T : Type 0} (part : Part) (result : Result T PartErr) (files_before files_now : Option Files)
    (reads_before reads_now : Reads) (faults_before faults_now : ℕ) : Type 0 where
  -- no other part was read
  pub looked : Looked part files_before files_now reads_before reads_now faults_before faults_now
  -- why it stops; the faults never fall
  pub cause : HasPartCause faults_before faults_now result
  -- a damage names the part
  pub names : IfErr result (NamesPart part)

-- a step that reads bytes of this part into one slot of a pool
pub record SlotStep {T : Type 0} (slot : ℕ) (part : Part) (old new : Pooled) (result : Result T PartErr)
    (files_before files_now : Option Files)
    (reads_before reads_now : Reads) (faults_before faults_now : ℕ) : Type 0 where
  -- no other slot has changed
  pub slots : ChangesOneSlot slot old.slots new.slots
  -- nor has the rest of the pool
  pub pool : SamePool old new
  -- it takes no memory
  pub memory : NoMemory result
  -- nothing else was read
  pub look : LookStep part result files_before files_now reads_before reads_now faults_before faults_now

-- bits in memory that are read: where they are refused, it is as no posting of a run at this bit of the part
pub record RefusesAt {T : Type 0} (part : Part) (at : ℕ) (result : Result T PartErr) : Type 0 where
  -- no device is the cause
  pub caused : (f g : ℕ) → IsCaused f g result
  -- it takes no memory
  pub memory : NoMemory result
  -- a damage names the part and the bit
  pub names : IfErr result (NamesPart part)
  pub bit : IfErr result (TellsBit at)

-- a step that reads the runs of a group
pub record GroupLook {T : Type 0} (old new : Group) (result : Result T PartErr) (files_before files_now : Option Files)
    (reads_before reads_now : Reads) (faults_before faults_now : ℕ) : Type 0 where
  -- the pool is as before, but for what its slots hold
  pub pool : SamePool old.pool new.pool
  -- the file stays
  pub file : new.file ≡ old.file
  -- nothing but that file was read
  pub look : LookStep old.file.part result files_before files_now reads_before reads_now faults_before faults_now

-- a step that moves the cursors of a group on
pub record GroupStep {T : Type 0} (old new : Group) (result : Result T PartErr) (files_before files_now : Option Files)
    (reads_before reads_now : Reads) (faults_before faults_now : ℕ) : Type 0 where
  -- when it is done, each cursor has its slot and its key
  pub shape : OnOk result (GroupShaped new)
  -- no cursor has more left than before
  pub rest : left_together new.cursors.items ≤ left_together old.cursors.items
  -- it takes no memory
  pub memory : NoMemory result
  -- a damage is told at 0, or where a cursor stands
  pub bit : IfErr result (TellsBitOf new.cursors.items)
  -- the rest of the group and of the store
  pub read : GroupLook old new result files_before files_now reads_before reads_now faults_before faults_now

-- the pool is given back: it holds no entry, and so many of its slots were in use
pub record PoolBack (count : ℕ) (old new : Pooled) : Type 0 where
  pub entries : new.entries ≡ []
  pub limit : new.limit ≡ old.limit
  pub peak : new.peak ≡ max old.peak (64 * count)

-- a run of a group has postings left
pub record HasLeft (group : Group) (run : ℕ) : Type 0 where
  pub within : run < length group.cursors.items
  pub left : 1 ≤ (slice_index_or group.cursors.items run no_cursor).left

-- a group of the runs that begin at these places of a file, with this pool
pub record IsLoaded (before : Pooled) (from : FileRef) (places : List ℕ) (group : Group) : Type 0 where
  -- each cursor has its slot and its key
  pub shape : GroupShaped group
  -- they have no more left together than so many runs may have
  pub total : left_together group.cursors.items ≤ 2 ^ 32 * length places
  -- the group has the pool, and the file
  pub pool : PoolBack (length places) before group.pool
  pub file : group.file ≡ from

-- the runs that begin at these places of a file stand in a group, each at its first posting
pub record GroupLoaded (before : Pooled) (from : FileRef) (places : List ℕ) (result : Result Group PartErr)
    (files_before files_now : Option Files)
    (reads_before reads_now : Reads) (faults_before faults_now : ℕ) : Type 0 where
  -- the group
  pub loaded : IfOk result (λ group. IsLoaded before from places group)
  -- by the file, all of each run is left, and there is no damage
  pub told : ForRuns from files_before places (λ bytes runs. Tells result (λ group. GroupStands group bytes runs))
  -- nothing but that file was read
  pub read : LookStep from.part result files_before files_now reads_before reads_now faults_before faults_now

-- ---- what it writes

-- a step that reads this part alone, and writes to the file of this name alone
pub record PassStep {T : Type 0} (part : Part) (name : List ℕ) (result : Result T PartErr)
    (files_before files_now : Option Files)
    (reads_before reads_now : Reads) (faults_before faults_now : ℕ) : Type 0 where
  -- no other file was written, and no other part read
  pub passed : Passed part name files_before files_now reads_before reads_now faults_before faults_now
  -- why it stops; the faults never fall
  pub cause : HasPartCause faults_before faults_now result
  -- a damage names the part
  pub names : IfErr result (NamesPart part)

-- a step that reads this part, and puts bits with a writer
pub record WriterStep {T : Type 0} (part : Part) (old new : BitWriting) (result : Result T PartErr)
    (files_before files_now : Option Files)
    (reads_before reads_now : Reads) (faults_before faults_now : ℕ) : Type 0 where
  -- when it is done, the writer stands for its file
  pub holds : OnOk result (Holds new files_now)
  -- it still writes to that file
  pub name : new.name ≡ old.name
  -- nothing else was written or read
  pub pass : PassStep part old.name result files_before files_now reads_before reads_now faults_before faults_now

-- a step that reads the runs of a group, and puts bits with a writer
pub record GroupWrite {T : Type 0} (old new : Group) (writer_old writer_new : BitWriting) (result : Result T PartErr)
    (files_before files_now : Option Files) (reads_before reads_now : Reads) (faults_before faults_now : ℕ) : Type 0
  where
    -- the pool is as before, but for what its slots hold
    pub pool : SamePool old.pool new.pool
    -- the file that is read stays
    pub file : new.file ≡ old.file
    -- the writer, and the rest of the store
    pub writer : WriterStep old.file.part writer_old writer_new result files_before files_now reads_before reads_now
        faults_before faults_now

-- a step that reads this part, and writes whole runs
pub record RunStep {T : Type 0} (part : Part) (old new : BitWriting) (result : Result T PartErr)
    (files_before files_now : Option Files)
    (reads_before reads_now : Reads) (faults_before faults_now : ℕ) : Type 0 where
  -- where the writer stands is no further than a run may go
  pub place : OnOk result (new.place ≤ 2 ^ 61 + 264)
  -- it stands at a byte
  pub whole : OnOk result (new.place % 8 ≡ 0)
  -- the writer, and the rest of the store
  pub writer : WriterStep part old new result files_before files_now reads_before reads_now faults_before faults_now

-- a step that reads and writes the parts of the runs of a base alone
pub record WorkStep {T : Type 0} (base : List ℕ) (result : Result T PartErr) (files_before files_now : Option Files)
    (reads_before reads_now : Reads) (faults_before faults_now : ℕ) : Type 0 where
  -- no other file was written, and no other part read
  pub worked : Worked base files_before files_now reads_before reads_now faults_before faults_now
  -- why it stops; the faults never fall
  pub cause : HasPartCause faults_before faults_now result
  -- a damage names one of the parts
  pub names : IfErr result NamesItsPart

-- ---- rounds

-- so many runs are joined, so many at a time: how many that gives, and the pool
pub record IsMade (width many : ℕ) (before : Pooled) (made : Joined) : Type 0 where
  pub count : length made.places.items ≡ (many + width - 1) / width
  pub pool : PoolBack width before made.pool

-- the round behind another one
pub record IsNext (width : ℕ) (old next : Round) : Type 0 where
  -- how many runs it has
  pub count : length next.places.items ≡ (length old.places.items + width - 1) / width
  -- the pool, and the part that was written
  pub pool : PoolBack width old.pool next.pool
  pub base : next.file.base ≡ old.file.base
  pub part : next.file.part ≡ other old.file.part

-- the last of some rounds
pub record IsLast (width : ℕ) (old last : Round) : Type 0 where
  -- how many runs are left, and none only where there was none
  pub few : length last.places.items ≤ width
  pub count : length last.places.items ≡ 0 → length old.places.items ≡ 0
  -- the pool holds no entry, and what its greatest use will be is as before
  pub entries : last.pool.entries ≡ []
  pub limit : last.pool.limit ≡ old.pool.limit
  pub peak : peak_with width last ≡ peak_with width old
  -- the runs stand in a part of the base
  pub base : last.file.base ≡ old.file.base
  pub part : IsRunPart last.file.part

-- the runs of a round, so many at a time, are joined into runs of the file of this name, which is ended
pub record RoundWritten (width : ℕ) (old : Round) (name : List ℕ) (result : Result Joined PartErr)
    (files_before files_now : Option Files)
    (reads_before reads_now : Reads) (faults_before faults_now : ℕ) : Type 0 where
  -- they are the same postings, and there is no damage
  pub told : ForRound old files_before (λ whole.
      Tells result (λ made. AreStored (bytes_at files_now name) made.places.items whole))
  -- how many runs these are, and the pool
  pub made : IfOk result (λ made. IsMade width (length old.places.items) old.pool made)
  -- nothing else was read or written
  pub step : PassStep old.file.part name result files_before files_now reads_before reads_now
      faults_before faults_now

-- the runs of a round, so many at a time, are joined into the runs of the next one
pub record RoundJoined (width : ℕ) (old : Round) (result : Result Round PartErr) (files_before files_now : Option Files)
    (reads_before reads_now : Reads) (faults_before faults_now : ℕ) : Type 0 where
  -- they are the same postings, and there is no damage
  pub told : ForRound old files_before (λ whole. Tells result (λ next. RoundHas next files_now whole))
  -- the round
  pub next : IfOk result (λ next. IsNext width old next)
  -- nothing else was read or written
  pub step : PassStep old.file.part (next_name old.file) result files_before files_now reads_before reads_now
      faults_before faults_now

-- as many rounds are done as leave no more runs than this width
pub record RoundsDone (width : ℕ) (old : Round) (result : Result Round PartErr) (files_before files_now : Option Files)
    (reads_before reads_now : Reads) (faults_before faults_now : ℕ) : Type 0 where
  -- the runs have the same postings, and there is no damage
  pub told : ForRound old files_before (λ whole. Tells result (λ last. RoundHas last files_now whole))
  -- the last round
  pub last : IfOk result (λ last. IsLast width old last)
  -- Run is as before
  pub run : SamePart old.file.base.now Run files_before files_now
  -- nothing else was read or written
  pub step : WorkStep old.file.base.now result files_before files_now reads_before reads_now faults_before faults_now
