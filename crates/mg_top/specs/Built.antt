-- What a run of `build COLLECTION NAME [--budget BYTES]` does.
use Rattle.std.specs.Prelude.{◌≡◌, ℕ, List, IsSome}
use Rattle.mg_dev.specs.Files.{bytes_at}
use Rattle.mg_dev.specs.Runs.{Run}
use Rattle.mg_defs.specs.Summaries.{summary_text}
use Rattle.mg_build.specs.Made.{Made}
use Rattle.mg_top.specs.Ends.{CallsOnce, Prints}

-- the bytes of the collection of this name, as the run begins
abbrev pub collection_of : List ℕ → Run → List ℕ
collection_of name run = bytes_at run.store.files name

-- of the collection of this name and the set of this base
pub record Built (name base : List ℕ) (budget : ℕ) (run : Run) : Type 0 where
  -- the files are made, or the build is refused, as `Made` says by the store before it and after it
  pub made : CallsOnce (Made name base budget run.store run.store_now) run
  -- of the summary of the collection a prefix is printed, all of it at status 0
  pub prints : IsSome run.store.files → Prints (summary_text (collection_of name run) budget) run
  -- the input is not read
  pub input : run.input_now ≡ run.input
