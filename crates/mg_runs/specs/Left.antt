-- What a merge of runs has left.
use Rattle.std.specs.Prelude.{◌≡◌, ℕ, List, [], None, Some}
use Rattle.std.specs.Option.{IsSome}
use Rattle.std.specs.declared.option.Option.{Option}
use Rattle.mg_dev.specs.Files.{Files, bytes_at}
use Rattle.mg_dev.specs.Names.{full_name}
use Rattle.mg_dev.specs.declared.part.Part.{Part}
use Rattle.mg_defs.specs.declared.TermPosting.{TermPosting}
use Rattle.mg_runs.specs.Merging.{AreLeft, IsShaped, left_together}
use Rattle.mg_runs.specs.Joins.{IsRunPart}
use Rattle.mg_runs.specs.Stays.{SamePart}
use Rattle.mg_runs.specs.declared.group.Group.{Group}

-- a merge: the runs in use, none where there is no run, the base of their files, the number of first runs, and the greatest use of the pool
pub record Merging : Type 0 where
  pub group : Option Group
  pub base : List ℕ
  pub runs : ℕ
  pub peak : ℕ

abbrev pub left_in : Option Group → ℕ
left_in None = 0
left_in (Some group) = left_together group.cursors.items

-- how many postings the runs in use have left together; a term and a document that several runs have count in each of them
abbrev pub postings_left : Merging → ℕ
postings_left merge = left_in merge.group

-- the runs in use agree with their file, and these postings are left of them
pub record IsOpen (group : Group) (files : Option Files) (base : List ℕ) (left : List TermPosting) : Type 0 where
  pub shape : IsShaped group.pool.slots group.cursors.items group.tournament
  pub same_base : group.file.base.now ≡ base
  pub part : IsRunPart group.file.part
  pub told : IsSome files → AreLeft group.pool.slots group.cursors.items
      (bytes_at files (full_name group.file.base.now group.file.part)) left

abbrev pub IsLeftIn : Option Group → Option Files → List ℕ → List TermPosting → Type 0
IsLeftIn None files base left = IsSome files → left ≡ []
IsLeftIn (Some group) files base left = IsOpen group files base left

-- these postings are left, where the files are told
pub record IsMerging (merge : Merging) (files : Option Files) (left : List TermPosting) : Type 0 where
  pub has : IsLeftIn merge.group files merge.base left

-- for all postings that may be left
abbrev pub ForMerging : Merging → Option Files → (List TermPosting → Type 0) → Type 0
ForMerging merge files claim = (left : List TermPosting) → IsMerging merge files left → claim left

-- the parts of the runs of a base are as before
abbrev pub SameRuns : List ℕ → Option Files → Option Files → Type 0
SameRuns base files_before files_now = (part : Part) → IsRunPart part → SamePart base part files_before files_now
