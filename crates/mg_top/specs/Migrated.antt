-- What a run of `migrate NAME NEW` does.
use Rattle.std.specs.Prelude.{◌≡◌, ℕ, List, length, codes}
use Rattle.mg_dev.specs.Runs.{Run}
use Rattle.mg_defs.specs.Split.{documents}
use Rattle.mg_defs.specs.Summaries.{number_line}
use Rattle.mg_layout.specs.Stands.{Stands}
use Rattle.mg_migrate.specs.MadeAnew.{MadeAnew}
use Rattle.mg_top.specs.Ends.{CallsOnce, Prints}

-- the line that is printed: how many documents the collection has
abbrev pub documents_line : List ℕ → List ℕ
documents_line collection = number_line (codes "documents") (length (documents collection))

-- of each collection that the set of this name stands for, in either version
pub record Migrated (name new : List ℕ) (run : Run) : Type 0 where
  -- the new set is made, or that is refused, as `MadeAnew` says by the store before the call and after it
  pub made : CallsOnce (MadeAnew name new run.store run.store_now) run
  -- of the collection's line a prefix is printed, all of it at status 0
  pub prints : (collection : List ℕ) → Stands run.store.files name collection → Prints (documents_line collection) run
  -- the input is not read
  pub input : run.input_now ≡ run.input
