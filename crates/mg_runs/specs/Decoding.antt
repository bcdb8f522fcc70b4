-- Postings that are read from bits.
use Rattle.std.specs.Prelude.{◌≡◌, ◌≤◌, ◌<◌, ◌+◌, ◌^◌, ◌++◌, ℕ, List, length, drop}
use Rattle.mg_defs.specs.Bits.{Bits, bits_of}
use Rattle.mg_defs.specs.Postings.{IsBefore}
use Rattle.mg_defs.specs.RunBits.{run_posting_bits}
use Rattle.mg_defs.specs.declared.TermPosting.{TermPosting}
use Rattle.mg_runs.specs.declared.decode.Decoded.{Decoded}

-- each number fits in 32 bits, and document and count are at least 1
pub record IsSmall (x : TermPosting) : Type 0 where
  pub term : x.term < 2 ^ 32
  pub doc_some : 1 ≤ x.doc
  pub doc : x.doc < 2 ^ 32
  pub count_some : 1 ≤ x.count
  pub count : x.count < 2 ^ 32

-- a document, from 1, and a count of at least 1
pub record IsInDocument (x : TermPosting) : Type 0 where
  pub doc : 1 ≤ x.doc
  pub count : 1 ≤ x.count

-- from a bit on, the bytes have this code and then these bits
abbrev pub HasCode : List ℕ → ℕ → Bits → Bits → Type 0
HasCode bytes at code more = drop at (bits_of bytes) ≡ code ++ more

-- for each posting that may follow this one
abbrev pub ForFollowing : TermPosting → (TermPosting → Type 0) → Type 0
ForFollowing last claim = (x : TermPosting) → IsBefore last x → IsSmall x → claim x

-- a posting that was read from a bit on behind another one
abbrev pub decoded_at : TermPosting → ℕ → TermPosting → Decoded
decoded_at last at x = record { posting = x; next = at + length (run_posting_bits last x) }
