-- A group of like entries.
use Rattle.std.specs.Prelude.{◌≡◌, ◌-◌, ◌<◌, ◌≤◌, ℕ, List, [], ◌∷◌, map, length, drop, slice_index_or}
use Rattle.std.specs.List.{All}
use Rattle.mg_defs.specs.Limits.{greatest_cap}
use Rattle.mg_defs.specs.declared.TermPosting.{TermPosting}
use Rattle.mg_defs.specs.Postings.{gathered, with_count}
use Rattle.mg_runs.specs.PostingOrder.{NotFalling, added_times}
use Rattle.mg_runs.specs.Bytes.{entry_in, number_in}

-- entries in order of term and document, of which each has a document
pub record InOrder (entries : List (List ℕ)) : Type 0 where
  pub few : length entries ≤ greatest_cap
  pub order : NotFalling (map entry_in entries)
  pub docs : All (λ e. 1 ≤ number_in 4 e) entries

-- the postings of the entries from here on are one of this many, and those of the entries after
pub record IsGroup (entries : List (List ℕ)) (from next : ℕ) : Type 0 where
  pub head : TermPosting
  pub term : head.term ≡ (entry_in (slice_index_or entries from [])).term
  pub doc : head.doc ≡ (entry_in (slice_index_or entries from [])).doc
  pub one : gathered (map entry_in (drop from entries)) ≡ with_count head (next - from) ∷
      gathered (map entry_in (drop next entries))

-- the entries up to here are like the first
pub record IsLike (entries : List (List ℕ)) (from next : ℕ) (term doc : ℕ) : Type 0 where
  pub after : from < next
  pub added : gathered (map entry_in (drop from entries)) ≡ added_times (next - from)
      (record { term = term; doc = doc; count = 1 }) (gathered (map entry_in (drop next entries)))
  pub within : next ≤ length entries
