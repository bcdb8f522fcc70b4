-- What a run of `merge A B NEW` does.
use Rattle.std.specs.Prelude.{◌≡◌, ℕ, List}
use Rattle.mg_dev.specs.Runs.{Run}
use Rattle.mg_defs.specs.Join.{join}
use Rattle.mg_defs.specs.Summaries.{summary_text}
use Rattle.mg_layout.specs.Stands.{Stands, StandsIn}
use Rattle.mg_merge.specs.Joined.{Joined}
use Rattle.mg_merge.specs.Merging.{budget_of}
use Rattle.mg_top.specs.Ends.{CallsOnce, Prints}

-- of each two collections that the sets of these names stand for, in either version
pub record Merged (first second new : List ℕ) (run : Run) : Type 0 where
  -- the new set is made of both in one, or the merge is refused, as `Joined` says by the store before it and after it
  pub joined : CallsOnce (Joined first second new run.store run.store_now) run
  -- of the summary of both in one a prefix is printed, all of it at status 0
  pub prints : (version cap : ℕ) (a b : List ℕ) → StandsIn version cap run.store.files first a →
      Stands run.store.files second b
      → Prints (summary_text (join a b) (budget_of cap)) run
  -- the input is not read
  pub input : run.input_now ≡ run.input
