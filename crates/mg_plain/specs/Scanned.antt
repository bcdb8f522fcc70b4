-- What a run of `scan COLLECTION` does.
use Rattle.std.specs.Prelude.{◌≡◌, ◌≢◌, ◌⊎◌, ◌<◌, ◌≤◌, ℕ, false, List, length, Some, None, IsSome}
use Rattle.mg_dev.specs.Files.{file_at, bytes_at}
use Rattle.mg_dev.specs.Streams.{appended, GrewByPrefix}
use Rattle.mg_dev.specs.declared.part.Part.{Part}
use Rattle.mg_dev.specs.declared.part.Part.TheVariants.{Plain}
use Rattle.mg_dev.specs.declared.fault.Fault.TheVariants.{NoCollection, ReadFault, TooLarge, Memory}
use Rattle.mg_dev.specs.declared.status.Status.TheVariants.{Done}
use Rattle.mg_defs.specs.Replies.{reply, session}
use Rattle.mg_defs.specs.declared.session.Hearing.TheVariants.{Commands}
use Rattle.mg_defs.specs.InputLimit.{is_too_much}
use Rattle.mg_defs.specs.Limits.{input_limit, held_bytes}
use Rattle.mg_reply.specs.PrintedLines.{RepliedBroken}
use Rattle.mg_reply.specs.Served.{LeftEnough, PrintedInTurn}
use Rattle.mg_plain.specs.Stops.{ScanStops}
use Rattle.mg_dev.specs.Runs.{IfStopped, Run, StoreFailed, InputFailed, OutputFailed, SaysNothing, KeepsFiles, Stops, StopsUnless}

-- of the collection of this name, where the store tells its files, and for each input that the source tells
pub record Scanned (name : List ℕ) (run : Run) : Type 0 where
  -- status 0: the whole session is printed, and the input was read to its end or a line `.quit`
  pub done : IsSome run.store.files → (given : List ℕ) → run.input.left ≡ Some given → run.status ≡ Done
      → run.out_now.written ≡ appended run.out.written (session (bytes_at run.store.files name) given)
  pub left : (given : List ℕ) → run.input.left ≡ Some given → run.status ≡ Done → LeftEnough given run.input_now.left
  pub within : (given : List ℕ) → run.input.left ≡ Some given → run.status ≡ Done →
      is_too_much input_limit given ≡ false
  -- every status: a prefix of the session is printed, and nothing after the statuses 7 and 8
  pub prefix : IsSome run.store.files → (given : List ℕ) → run.input.left ≡ Some given
      → GrewByPrefix run.out.written run.out_now.written (session (bytes_at run.store.files name) given)
  -- every status: no reply is held back; it is printed before more of the input is taken than a piece behind its line
  pub in_turn : IsSome run.store.files → PrintedInTurn Commands (reply (bytes_at run.store.files name))
      run.input.left run.input_now.left run.out.written run.out_now.written
  -- status 3: all whole lines that were taken of the input were replied to
  pub broken : IsSome run.store.files → Stops run ReadFault → (given : List ℕ) → run.input.left ≡ Some given →
      RepliedBroken Commands (reply (bytes_at run.store.files name)) run.out.written run.out_now.written
      run.input_now.left given
  pub silent : Stops run NoCollection → SaysNothing run
  pub silent_large : (size most : ℕ) → Stops run (TooLarge size most) → SaysNothing run
  -- the cause of every other status; 7 and 8 come exactly where they have it, unless the store fails or memory is wanting
  pub cause : IfStopped run.status (ScanStops name (StoreFailed run) (InputFailed run) (OutputFailed run)
      run.store.files run.input.left)
  pub missing : IsSome run.store.files → file_at run.store.files name ≡ None
      → StopsUnless run NoCollection
  pub large : IsSome run.store.files → held_bytes < length (bytes_at run.store.files name)
      → StopsUnless run (TooLarge (length (bytes_at run.store.files name)) held_bytes)
  -- where nothing stands in its way and no device fails, it is done, or memory is wanting
  pub complete : (bytes given : List ℕ) → file_at run.store.files name ≡ Some bytes → length bytes ≤ held_bytes
      → run.input.left ≡ Some given → is_too_much input_limit given ≡ false
      → ¬ StoreFailed run → ¬ InputFailed run → ¬ OutputFailed run → (run.status ≡ Done) ⊎ Stops run Memory
  -- no file changes, and no part is read but the collection
  pub files : KeepsFiles run
  pub reads : (p : Part) → p ≢ Plain → run.store_now.reads p ≡ run.store.reads p
