use Rattle.std.proofs.Common.{◌≡◌, ◌+◌, ◌*◌, ◌/◌, ◌^◌, take, fold}
use Rattle.mg_rank.proofs.document_hasher.DocumentHasherHasher.write.Given as goal

abbrev pub invariant-loop-byte : goal.invariant-loop-byte
invariant-loop-byte l = l.self.document ≡ fold (λ number byte. number / 2 ^ 8 + byte * 2 ^ 24) l.initial.self.document (take l.byte-index l.bytes)
