-- What a device told and counted at one moment: a contract compares the moment before a call with the one after it.
use Rattle.std.specs.Prelude.{◌≡◌, ℕ, List}
use Rattle.std.specs.declared.option.Option.{Option}
use Rattle.mg_dev.specs.Causes.{Rose}
use Rattle.mg_dev.specs.Files.{Files, Reads}

-- a store at one moment
pub record StoreAt : Type 0 where
  pub files : Option Files
  pub reads : Reads
  pub faults : ℕ

-- a source at one moment
pub record SourceAt : Type 0 where
  pub left : Option (List ℕ)
  pub faults : ℕ

-- a sink at one moment
pub record SinkAt : Type 0 where
  pub written : Option (List ℕ)
  pub faults : ℕ
  pub lacks : ℕ

-- the store failed between the two moments
abbrev pub StoreRose : StoreAt → StoreAt → Type 0
StoreRose before now = Rose before.faults now.faults

-- the source failed between them
abbrev pub SourceRose : SourceAt → SourceAt → Type 0
SourceRose before now = Rose before.faults now.faults

-- the sink failed between them
abbrev pub SinkRose : SinkAt → SinkAt → Type 0
SinkRose before now = Rose before.faults now.faults

-- the store told the same files
abbrev pub KeptFiles : StoreAt → StoreAt → Type 0
KeptFiles before now = now.files ≡ before.files

-- nothing was written to the sink
abbrev pub NothingWritten : SinkAt → SinkAt → Type 0
NothingWritten before now = now.written ≡ before.written

-- ---- by what the types of a contract tell

-- a store, by the functions that tell its files, its reads and its faults
abbrev pub store_at : {X : Type 0} → (X → Option Files) → (X → Reads) → (X → ℕ) → X → StoreAt
store_at files reads faults store = record { files = files store; reads = reads store; faults = faults store }

-- a source, by those that tell what is left of it and its faults
abbrev pub source_at : {X : Type 0} → (X → Option (List ℕ)) → (X → ℕ) → X → SourceAt
source_at left faults source = record { left = left source; faults = faults source }

-- a sink, by those that tell what it holds, its faults and its lacks
abbrev pub sink_at : {X : Type 0} → (X → Option (List ℕ)) → (X → ℕ) → (X → ℕ) → X → SinkAt
sink_at written faults lacks sink = record { written = written sink; faults = faults sink; lacks = lacks sink }

-- what relates the files, the reads and the faults of a store before a call to those after it
abbrev pub StoreStep : Type 1
StoreStep = (files_before files_now : Option Files) (reads_before reads_now : Reads) (faults_before faults_now : ℕ) →
    Type 0

-- it relates a store before a call to the store after it
abbrev pub Between : {X : Type 0} → (X → Option Files) → (X → Reads) → (X → ℕ) → X → X → StoreStep → Type 0
Between files reads faults before now step = step (files before) (files now) (reads before) (reads now) (faults before)
    (faults now)
