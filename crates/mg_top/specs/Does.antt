-- What a run does for what the words ask: a line a tool.
use Rattle.std.specs.Prelude.{◌≡◌, ◌⊎◌, List, Some, None, String, map, string_bytes}
use Rattle.std.specs.declared.option.Option.{Option}
use Rattle.mg_dev.specs.declared.fault.Fault.TheVariants.{Usage, Memory}
use Rattle.mg_args.specs.Plain.{Word}
use Rattle.mg_args.specs.Tasks.{Task, build, query, decode, scan, migrate, merge, trial, check, phrase, wild, task_of, IsRefused}
use Rattle.mg_top.specs.Ends.{ToldWhy}
use Rattle.mg_dev.specs.Runs.{Run, Stops}
use Rattle.mg_top.specs.Built.{Built}
use Rattle.mg_top.specs.Checked.{Checked}
use Rattle.mg_decode.specs.Decoded.{Decoded}
use Rattle.mg_session.specs.Matched.{Matched}
use Rattle.mg_top.specs.Merged.{Merged}
use Rattle.mg_top.specs.Migrated.{Migrated}
use Rattle.mg_session.specs.Phrased.{Phrased}
use Rattle.mg_session.specs.Queried.{Queried}
use Rattle.mg_plain.specs.Scanned.{Scanned}
use Rattle.mg_top.specs.Tried.{Tried}

-- The words are not understood: the store, the input and the output are as they were.
pub record NotUnderstood (run : Run) : Type 0 where
  pub status : Stops run Usage ⊎ Stops run Memory
  pub store : run.store_now ≡ run.store
  pub input : run.input_now ≡ run.input
  pub out : run.out_now ≡ run.out

-- what the words ask is done
abbrev pub Does : Option Task → Run → Type 0
Does (Some (build name base budget)) run = Built name base budget run
Does (Some (query name)) run = Queried name run
Does (Some (decode name)) run = Decoded name run
Does (Some (scan name)) run = Scanned name run
Does (Some (migrate name new)) run = Migrated name new run
Does (Some (merge first second new)) run = Merged first second new run
Does (Some (trial seed docs)) run = Tried seed docs run
Does (Some (check name)) run = Checked name run
Does (Some (phrase name)) run = Phrased name run
Does (Some (wild name)) run = Matched name run
Does None run = NotUnderstood run

pub record Ran (words : List Word) (run : Run) : Type 0 where
  -- status 1 comes exactly where the words are refused, which then ask nothing, unless memory is wanting
  pub usage : Stops run Usage → IsRefused words
  pub does : Does (task_of words) run
  -- the fault's line goes to the error output, or a prefix of it where that failed or lacked memory
  pub told : ToldWhy run.status run.err.written run.err_now.written run.err.faults run.err_now.faults run.err.lacks
      run.err_now.lacks

-- the same by the words of a command line
abbrev pub RanFor : {A : Type 0} → List (String A) → Run → Type 0
RanFor words run = Ran (map string_bytes words) run

-- the same once the error output has the fault's line
abbrev pub RanOnceTold : {A : Type 0} → List (String A) → Run → Type 0
RanOnceTold words run = ToldWhy run.status run.err.written run.err_now.written run.err.faults run.err_now.faults
    run.err.lacks run.err_now.lacks → RanFor words run
