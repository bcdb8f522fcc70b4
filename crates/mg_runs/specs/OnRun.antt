-- A run, written up to an entry.
use Rattle.std.specs.Prelude.{◌≡◌, ◌≤◌, ◌+◌, ◌*◌, ◌++◌, ℕ, List, Ok, length, map, drop}
use Rattle.std.specs.declared.option.Option.{Option}
use Rattle.mg_dev.specs.Files.{Files, Reads}
use Rattle.mg_defs.specs.Bits.{Bits}
use Rattle.mg_defs.specs.Postings.{gathered, AllAfter}
use Rattle.mg_defs.specs.RunBits.{run_bits, postings_bits}
use Rattle.mg_defs.specs.declared.TermPosting.{TermPosting}
use Rattle.mg_bits.specs.BitWriting.{BitWriting}
use Rattle.mg_codes.specs.Writers.{PutsBits}
use Rattle.mg_runs.specs.Bytes.{entry_in}

-- the postings of the entries before this one are written, and the last of them was this
pub record IsOnRun {Store : Type 0} (files : Store → Option Files) (reads : Store → Reads) (faults : Store → ℕ)
    (start now : Store) (old new : BitWriting) (entries : List (List ℕ)) (from : ℕ) (last : TermPosting) : Type 0 where
  pub within : from ≤ length entries
  pub done : Bits
  pub puts : PutsBits {T = Unit {0}} done files reads faults old new start now (Ok tt)
  pub rest : done ++ postings_bits last (gathered (map entry_in (drop from entries)))
      ≡ run_bits (gathered (map entry_in entries))
  pub before : AllAfter last (gathered (map entry_in (drop from entries)))
  pub place : new.place ≤ old.place + 66 + 256 * from
