-- What is too large. Each number that decides it stands here once.
use Rattle.std.specs.Prelude.{ℕ, ◌-◌, ◌^◌, ◌==◌, if◌then◌else◌}

-- ---- of a collection, in each version of the files

pub record Limits : Type 0 where
  pub documents : ℕ
  -- of distinct pieces of each kind
  pub pieces : ℕ
  -- of bytes of the collection
  pub collection : ℕ

abbrev pub version_1 : Limits
version_1 = record { documents = 2 ^ 20; pieces = 2 ^ 20; collection = 2 ^ 28 }

abbrev pub version_2 : Limits
version_2 = record { documents = 2 ^ 24; pieces = 2 ^ 22; collection = 2 ^ 32 - 1 }

-- of version 1 or 2; there is no other
abbrev pub limits : ℕ → Limits
limits version = if version == 1 then version_1 else version_2

-- bytes of a piece, of a word of a query, and of a string in a part
abbrev pub piece_bytes : ℕ
piece_bytes = 255

-- bytes of a collection that is held in memory
abbrev pub held_bytes : ℕ
held_bytes = 2 ^ 28

-- ---- of a session

-- bytes of its input
abbrev pub input_limit : ℕ
input_limit = 2 ^ 32

-- bytes of a line, before the byte that ends it
abbrev pub line_bytes : ℕ
line_bytes = 1024

-- open parentheses of a Boolean query
abbrev pub open_parentheses : ℕ
open_parentheses = 32

-- distinct terms of a ranked query
abbrev pub ranked_terms : ℕ
ranked_terms = 64

-- words of a phrase
abbrev pub phrase_words : ℕ
phrase_words = 64

-- documents that an answer may be cut to, and digits of their number
abbrev pub shown_documents : ℕ
shown_documents = 1048576

abbrev pub shown_digits : ℕ
shown_digits = 7

-- rotations of all terms, which a session of patterns may order
abbrev pub most_rotations : ℕ
most_rotations = 134217728

-- documents of a trial
abbrev pub trial_documents : ℕ
trial_documents = 20000

-- ---- of a build

-- bytes of the pool that it sorts in
abbrev pub least_budget : ℕ
least_budget = 4096

abbrev pub greatest_budget : ℕ
greatest_budget = 2 ^ 30

-- and where none are asked for
abbrev pub default_budget : ℕ
default_budget = 2 ^ 24

-- bytes of the pool that an occurrence takes
abbrev pub occurrence_bytes : ℕ
occurrence_bytes = 12

-- occurrences of a full run: as many as the pool holds
abbrev pub least_cap : ℕ
least_cap = 341

abbrev pub greatest_cap : ℕ
greatest_cap = 89478485
