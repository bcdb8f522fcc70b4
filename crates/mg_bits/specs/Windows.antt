-- What contracts see of a page of a file that a buffer keeps.
use Rattle.std.specs.Prelude.{◌≤◌, ℕ, List, length, take}
use Rattle.std.specs.Option.{IsSome}
use Rattle.std.specs.declared.option.Option.{Option}
use Rattle.mg_dev.specs.Files.{Files, Reads, bytes_at}
use Rattle.mg_dev.specs.Names.{file_name}
use Rattle.mg_dev.specs.declared.file_ref.FileRef.{FileRef}
use Rattle.mg_bits.specs.Feed.{Feeding, FeedStep, device_of, over_file}
use Rattle.mg_bits.specs.Pages.{IsFirst, IsPageIn}
use Rattle.mg_bits.specs.declared.window.Window.{Window}

-- where the files are told, the bytes that are kept are those of the file's page
abbrev pub KeptFrom : FileRef → Window → List ℕ → Option Files → Type 0
KeptFrom file window page files = IsSome files →
    IsPageIn (length page) window.held (take window.count page) (bytes_at files (file_name file))

-- a buffer keeps a page of a file, or none
pub record IsWindow (file : FileRef) (window : Window) (page : List ℕ) (files : Option Files) : Type 0 where
  -- the bytes that are kept lie in the buffer
  pub within : window.count ≤ length page
  -- they begin where the page begins
  pub first : IsFirst window.held (length page) window.first window.count
  -- they are those of the file
  pub agrees : KeptFrom file window page files

-- a feed over a file, of which a buffer of so many bytes keeps a page
abbrev pub over_window : FileRef → ℕ → Window → Feeding
over_window file bytes window = over_file (file_name file) file.part bytes window.held window.reads

-- a step of a feed and its device, by a file, the buffer as the call begins, what it keeps, and the store
abbrev pub AsWindow : {X : Type 0} → (X → Option Files) → (X → Reads) → (X → ℕ) → FileRef → List ℕ → Window → Window →
    X → X → FeedStep → Type 0
AsWindow files reads faults file page old new before now step =
    step (over_window file (length page) old) (over_window file (length page) new) (device_of files reads faults before)
    (device_of files reads faults now)
