-- A store of two files that compares what is written into them with two parts of a set: what contracts see of it.
--
-- As with one file, what such a store is made of is told as a number, as if a part had been read so often.
use Rattle.std.specs.Prelude.{◌≡◌, ◌+◌, ◌^◌, ℕ, zero, suc, List, ◌∷◌, if◌then◌else◌, slice_index}
use Rattle.std.specs.declared.option.Option.{Option}
use Rattle.std.specs.declared.result.Result.{Result}
use Rattle.mg_dev.specs.Causes.{HasPutCause}
use Rattle.mg_dev.specs.Files.{Files, Reads, written}
use Rattle.mg_dev.specs.Names.{full_name, number, same_part}
use Rattle.mg_dev.specs.declared.device.PutErr.{PutErr}
use Rattle.mg_dev.specs.declared.part.Part.TheVariants.{Head, Words, Nonwords, Text, Places, Lex, LexAt, Post, Skip, Weights, Run, MergeA, MergeB, Plain}
use Rattle.mg_dev.specs.declared.part_err.PartErr.{PartErr}
use Rattle.mg_check_parts.specs.Looks.{LooksAtSet, reads_outside}
use Rattle.mg_check_index.specs.InStore.{code, code_of_files, emptied, followed}
use Rattle.mg_check_index.specs.declared.written_part.WrittenPart.{WrittenPart}
use Rattle.mg_check_index.specs.declared.pair_store.WrittenPair.{WrittenPair}

-- ---- a part that is written anew

-- the name of the part in the set
abbrev pub set_name : WrittenPart → List ℕ
set_name w = full_name w.base.now w.part

-- the bytes that were written
abbrev pub bytes_of : Option Files → WrittenPart → List ℕ
bytes_of files w = followed files (set_name w) w.from w.standing w.rest.items

-- the same part from the same place on, and the same file
pub record SamePlace (old new : WrittenPart) : Type 0 where
  pub name : set_name new ≡ set_name old
  pub own : new.own.now ≡ old.own.now
  pub from : new.from ≡ old.from

-- a call that compares bytes with parts of a set as they are put, told of the moments before it and after it
pub record PutsBeside {T : Type 0} (result : Result T PutErr) (files_before files_now : Option Files)
    (reads_before reads_now : Reads) (faults_before faults_now : ℕ) : Type 0 where
  -- no file of the set has changed
  pub files : files_now ≡ files_before
  -- no part was read that is none of a set
  pub unread : reads_outside reads_now ≡ reads_outside reads_before
  -- a device's failure has a cause
  pub cause : HasPutCause faults_before faults_now result

-- ---- two such parts

pub record SamePlaces (old new : WrittenPair) : Type 0 where
  pub one : SamePlace old.one new.one
  pub other : SamePlace old.other new.other

-- a call that writes to two files that are compared, told of the set's store before it and after it
pub record PutsPair {T : Type 0} (old new : WrittenPair) (result : Result T PartErr) (files_before files_now : Option Files)
    (reads_before reads_now : Reads) (faults_before faults_now : ℕ) : Type 0 where
  -- they are compared with the same parts, from the same places on
  pub places : SamePlaces old new
  -- only parts of the set were read
  pub looks : LooksAtSet result files_before files_now reads_before reads_now faults_before faults_now

-- two files with these bytes, and no others
abbrev pub two_files : Option Files → List ℕ → List ℕ → List ℕ → List ℕ → Option Files
two_files files one one_bytes other other_bytes = written (written (emptied files) one one_bytes) other other_bytes

-- the files that are told
abbrev pub pair_files : Option Files → WrittenPair → Option Files
pair_files files p = two_files files p.one.own.now (bytes_of files p.one) p.other.own.now (bytes_of files p.other)

-- what a store is made of: the ghost names of two references, the two parts, and the files and the reads of the set's store
unfoldable pub code_of_pair : ℕ → ℕ → WrittenPair → Option Files → Reads → ℕ
code_of_pair store_is pair_is p files reads = code (store_is ∷ pair_is ∷ p.one.from ∷ p.other.from ∷ code (set_name p.one)
    ∷ code p.one.own.now ∷ code (set_name p.other) ∷ code p.other.own.now ∷ code_of_files files ∷ reads_outside reads)

-- the reads that are told: that number, and how often each other part was read
unfoldable pub pair_reads : ℕ → Reads → Reads
pair_reads made looks q = if same_part q Nonwords then 2 ^ 64 + made else looks q

-- how often each part was read of a store that counts them by their numbers
abbrev pub looks_in : List ℕ → Reads
looks_in counts q = slice_index counts (number q)

-- how often a part was read but for one
abbrev pub all_looks : Reads → ℕ
all_looks r = r Head + r Words + r Text + r Places + r Lex + r LexAt + r Post + r Skip + r Weights + r Run + r MergeA
    + r MergeB + r Plain

-- the faults that are told: beside those of the set's store each read fails
abbrev pub pair_faults : ℕ → ℕ → ℕ
pair_faults faults zero = faults
pair_faults faults (suc looks) = faults + 2 ^ 64
