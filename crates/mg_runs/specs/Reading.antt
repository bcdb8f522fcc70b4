-- Runs that are read from a file.
use Rattle.std.specs.Prelude.{◌≡◌, ◌≤◌, ◌+◌, ◌*◌, ◌^◌, ℕ, List, [], ◌∷◌, length, max, min, slice_index_or, slice_set}
use Rattle.std.specs.Option.{IsSome}
use Rattle.std.specs.declared.option.Option.{Option}
use Rattle.mg_dev.specs.Files.{Files, file_bytes}
use Rattle.mg_dev.specs.Names.{full_name}
use Rattle.mg_dev.specs.declared.file_ref.FileRef.{FileRef}
use Rattle.mg_defs.specs.declared.TermPosting.{TermPosting}
use Rattle.mg_defs.specs.Bits.{Bits}
use Rattle.mg_bits.specs.BitWriting.{BitWriting}
use Rattle.mg_runs.specs.Cursors.{IsAtPostingBy, IsRun, IsRunAt}
use Rattle.mg_runs.specs.Joins.{Counts, IsCounting, IsPut, IsPutting, other}
use Rattle.mg_runs.specs.Merging.{AreLeft, AreRuns, AreRunsAt, IsGathering, IsMerged, IsShaped, IsTaking, StandFor}
use Rattle.mg_runs.specs.Pooled.{Pooled}
use Rattle.mg_runs.specs.Rounds.{AreStored, IsGroupAt}
use Rattle.mg_runs.specs.declared.cursor.Cursor.{Cursor}
use Rattle.mg_runs.specs.declared.group.Group.{Group}
use Rattle.mg_runs.specs.declared.join.Counted.{Counted}
use Rattle.mg_runs.specs.declared.round.Round.{Round}

-- by these bytes, this is left of each of a group's runs
abbrev pub GroupStands : Group → List ℕ → List (List TermPosting) → Type 0
GroupStands group bytes lefts = StandFor group.pool.slots group.cursors.items bytes lefts

-- each cursor of a group has its slot and its key
abbrev pub GroupShaped : Group → Type 0
GroupShaped group = IsShaped group.pool.slots group.cursors.items group.tournament

-- for what may be left of each of a group's runs, by the bytes of any file
abbrev pub ForLefts : Group → (List (List TermPosting) → Type 0) → Type 0
ForLefts group claim = (file : List ℕ) (lefts : List (List TermPosting)) → GroupStands group file lefts → claim lefts

-- by these bytes, these postings are left of a group's runs, merged
abbrev pub GroupHas : Group → List ℕ → List TermPosting → Type 0
GroupHas group bytes left = AreLeft group.pool.slots group.cursors.items bytes left

-- by these bytes, so many of the postings that were left are counted, and the group has the others
abbrev pub GroupCounting : Group → List ℕ → List TermPosting → ℕ → Type 0
GroupCounting group bytes left count = IsCounting group.pool.slots group.cursors.items bytes left count

-- by these bytes, this posting comes first of all that was left, and the group has what follows it
abbrev pub GroupMerged : Group → List ℕ → List (List TermPosting) → TermPosting → Type 0
GroupMerged group bytes base p = IsMerged group.pool.slots group.cursors.items bytes base p

-- by these bytes, the posting has this count so far, and the group has what is left
abbrev pub GroupGathering : Group → List ℕ → TermPosting → List (List TermPosting) → ℕ → Type 0
GroupGathering group bytes p base count = IsGathering group.pool.slots group.cursors.items bytes p base count

-- by these bytes, the postings that are left of a group are still to be written behind this one
abbrev pub GroupPutting : Group → List ℕ → Option Files → Option Files → BitWriting → BitWriting → TermPosting → Bits →
    Type 0
GroupPutting group bytes files_before files_now old new last bits =
    IsPutting group.pool.slots group.cursors.items bytes files_before files_now old new last bits

-- by these bytes, one more posting of a group is written, or there was none left
abbrev pub GroupPut : Group → List ℕ → Option Files → Option Files → BitWriting → BitWriting → Option TermPosting →
    Bits → Type 0
GroupPut group bytes files_before files_now old new put bits = IsPut group.pool.slots group.cursors.items bytes
    files_before files_now old new put bits

-- ---- where the files are told, and by the bytes of a file

-- for each posting that a cursor may be at in a file, with those after it
abbrev pub ForPosting : Cursor → Pooled → ℕ → FileRef → Option Files →
    (List ℕ → TermPosting → List TermPosting → Type 0) → Type 0
ForPosting cursor pool slot file files claim = IsSome files → (x : TermPosting) (xs : List TermPosting) →
    IsAtPostingBy pool slot (file_bytes file files) x xs cursor → claim (file_bytes file files) x xs

-- for each run that begins at this place of a file
abbrev pub ForRun : ℕ → FileRef → Option Files → (List ℕ → List TermPosting → Type 0) → Type 0
ForRun place file files claim = IsSome files → (xs : List TermPosting) → IsRunAt (file_bytes file files) place xs →
    claim (file_bytes file files) xs

-- for all runs that begin at these places of a file
abbrev pub ForRuns : FileRef → Option Files → List ℕ → (List ℕ → List (List TermPosting) → Type 0) → Type 0
ForRuns file files places claim = IsSome files → (runs : List (List TermPosting)) →
    AreRunsAt (file_bytes file files) places runs → claim (file_bytes file files) runs

-- for all of them that may be joined and written as one run behind so many bits
abbrev pub ForGroup : FileRef → Option Files → List ℕ → ℕ → (List (List TermPosting) → Type 0) → Type 0
ForGroup file files places behind claim = ForRuns file files places (λ _ runs. IsGroupAt runs behind → claim runs)

-- for those that have as many postings, merged, as were counted
abbrev pub ForCounted : Counted → FileRef → Option Files → List ℕ → ℕ → (List (List TermPosting) → Type 0) → Type 0
ForCounted counted file files places behind claim = ForGroup file files places behind
    (λ runs. Counts counted runs → claim runs)

-- for all runs that a file has one after another, at these places
abbrev pub ForStored : FileRef → Option Files → List ℕ → (List (List TermPosting) → Type 0) → Type 0
ForStored file files places claim = IsSome files →
    (whole : List TermPosting) (is : AreStored (file_bytes file files) places whole) → claim is.runs

-- for what may be left of a group's runs, of which this one has a posting: what is left of them without that posting
abbrev pub ForStep : ℕ → Group → Option Files → (List ℕ → List (List TermPosting) → Type 0) → Type 0
ForStep run group files claim = IsSome files →
    (lefts : List (List TermPosting)) (x : TermPosting) (xs : List TermPosting) →
    GroupStands group (file_bytes group.file files) lefts → slice_index_or lefts run [] ≡ x ∷ xs →
    claim (file_bytes group.file files) (slice_set lefts run xs)

-- for what may have been left of a group's runs before this posting was taken from one of them
abbrev pub ForTaken : TermPosting → Group → Option Files → (List ℕ → List (List TermPosting) → Type 0) → Type 0
ForTaken p group files claim = IsSome files → (base lefts : List (List TermPosting)) →
    GroupStands group (file_bytes group.file files) lefts → IsTaking p base lefts p.count → AreRuns base →
    claim (file_bytes group.file files) base

-- for all postings that may be left of a group's runs, merged
abbrev pub ForLeft : Group → Option Files → (List ℕ → List TermPosting → Type 0) → Type 0
ForLeft group files claim = IsSome files → (left : List TermPosting) →
    GroupHas group (file_bytes group.file files) left → claim (file_bytes group.file files) left

-- for all of them that are a run which has room behind so many bits
abbrev pub ForLeftRunAt : Group → Option Files → ℕ → (List ℕ → List TermPosting → Type 0) → Type 0
ForLeftRunAt group files behind claim = ForLeft group files (λ bytes left. IsRun left →
    behind + 256 * length left ≤ 2 ^ 61 → claim bytes left)

-- whatever the bytes
abbrev pub ForLeftRun : Group → Option Files → ℕ → (List TermPosting → Type 0) → Type 0
ForLeftRun group files behind claim = ForLeftRunAt group files behind (λ _ left. claim left)

-- what stood before a group's postings were put: the bytes of its file, the files, and the writer; and the bits that are to be put
pub record PutStart : Type 0 where
  pub bytes : List ℕ
  pub files : Option Files
  pub writer : BitWriting
  pub bits : Bits

-- for all that may have stood before a group's postings were put, of which this was the last
abbrev pub ForPutting : TermPosting → Group → Option Files → BitWriting → (PutStart → Type 0) → Type 0
ForPutting last group files writer claim = IsSome files → (first : Option Files) (before : BitWriting) (bits : Bits) →
    GroupPutting group (file_bytes group.file files) first files before writer last bits →
    claim (record { bytes = file_bytes group.file files; files = first; writer = before; bits = bits })

-- since then one more posting of the group is written, or there was none left
abbrev pub PutSince : PutStart → Group → Option Files → BitWriting → Option TermPosting → Type 0
PutSince start group files writer put = GroupPut group start.bytes start.files files start.writer writer put start.bits

-- by its file, these postings are those of a round's runs, merged
abbrev pub RoundHas : Round → Option Files → List TermPosting → Type 0
RoundHas round files whole = AreStored (file_bytes round.file files) round.places.items whole

-- the same, where the files are told
abbrev pub RoundTells : Round → Option Files → List TermPosting → Type 0
RoundTells round files whole = IsSome files → RoundHas round files whole

-- for all postings that a round's runs may have, merged
abbrev pub ForRound : Round → Option Files → (List TermPosting → Type 0) → Type 0
ForRound round files claim = IsSome files → (whole : List TermPosting) → RoundHas round files whole → claim whole

-- the greatest use of a round's pool, once its runs are merged so many at a time
abbrev pub peak_with : ℕ → Round → ℕ
peak_with width round = max round.pool.peak (64 * min (length round.places.items) width)

-- the name of the file that the next round writes
abbrev pub next_name : FileRef → List ℕ
next_name file = full_name file.base.now (other file.part)
