use Rattle.std.proofs.Common.{◌≡◌, ◌≤◌, ◌<◌, ◌+◌, ◌*◌, ℕ, List, length, take, IsSome}
use Rattle.mg_dev.specs.Files.{bytes_at}
use Rattle.mg_defs.specs.Front.{Entry, IsFront, front}
use Rattle.mg_front.proofs.ReadSteps.{ReadsOn}
use Rattle.mg_front.proofs.ReaderLaws.{ReadSoFar}
use Rattle.mg_front.proofs.StoodLaws.{ReadUpTo}
use Rattle.mg_front.proofs.reader.read_block.Given as goal

abbrev pub invariant-loop-number : goal.invariant-loop-number
invariant-loop-number g l = record {
  on : ReadsOn l.fn.strings l.strings l.fn.from l.place (g.S.Store.files l.fn.store) (g.S.Store.files l.store) (g.S.Store.reads l.fn.store) (g.S.Store.reads l.store)
      (g.S.Store.faults l.fn.store) (g.S.Store.faults l.store);
  place : l.place ≤ l.fn.from + 281 * l.number;
  told : IsSome (g.S.Store.files l.fn.store) → (es : List Entry) (block : ℕ) → IsFront l.width (bytes_at (g.S.Store.files l.fn.store) l.fn.strings.name) es →
      l.fn.from ≡ length (front (take (4 * block) es)) → 4 * block + l.fn.last < length es → ReadSoFar l.width l.number l.place l.out es block;
  stood : IsSome (g.S.Store.files l.fn.store) → ReadUpTo l.width (bytes_at (g.S.Store.files l.fn.store) l.fn.strings.name) l.fn.from l.number l.out l.place;
}
