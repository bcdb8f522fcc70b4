use Rattle.std.proofs.Common.{◌≡◌, ◌≤◌, ◌+◌, ◌*◌, ℕ, List, length, take, IsSome}
use Rattle.mg_dev.specs.Files.{bytes_at}
use Rattle.mg_defs.specs.Front.{Entry, IsFront, front}
use Rattle.mg_front.specs.Reading.{NoneAmong}
use Rattle.mg_front.proofs.ReadSteps.{ReadsOn}
use Rattle.mg_front.proofs.ReaderLaws.{ReadSoFar}
use Rattle.mg_front.proofs.StoodLaws.{NoneUpTo, ReadUpTo}
use Rattle.mg_front.proofs.reader.scan_block.Given as goal

abbrev pub invariant-loop-number : goal.invariant-loop-number
invariant-loop-number g l = record {
  on : ReadsOn l.fn.strings l.strings l.fn.block.from l.place (g.S.Store.files l.fn.store) (g.S.Store.files l.store) (g.S.Store.reads l.fn.store) (g.S.Store.reads l.store)
      (g.S.Store.faults l.fn.store) (g.S.Store.faults l.store);
  place : l.place ≤ l.fn.block.from + 281 * l.number;
  told : IsSome (g.S.Store.files l.fn.store) → (es : List Entry) (block : ℕ) → IsFront l.block.width (bytes_at (g.S.Store.files l.fn.store) l.fn.strings.name) es →
      l.fn.block.from ≡ length (front (take (4 * block) es)) → 4 * block + l.fn.block.most ≤ length es →
      ReadSoFar l.block.width l.number l.place l.out es block × NoneAmong es (4 * block) l.number l.string;
  stood : IsSome (g.S.Store.files l.fn.store) → ReadUpTo l.block.width (bytes_at (g.S.Store.files l.fn.store) l.fn.strings.name) l.fn.block.from l.number l.out l.place
      × NoneUpTo l.block.width (bytes_at (g.S.Store.files l.fn.store) l.fn.strings.name) l.fn.block.from l.string l.number;
}
