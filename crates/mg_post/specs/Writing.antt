-- A writer of lists: what contracts see of it, and which lists it was handed.
use Rattle.std.specs.Prelude.{◌≡◌, ◌≢◌, ◌≤◌, ◌<◌, ◌+◌, ◌*◌, ◌^◌, ◌/◌, ◌++◌, ◌∷◌, ℕ, List, [], length, flat_map}
use Rattle.std.specs.Option.{IsSome}
use Rattle.std.specs.Option.{is_some}
use Rattle.std.specs.declared.option.Option.{Option}
use Rattle.std.specs.declared.result.Result.{Result}
use Rattle.mg_dev.specs.Causes.{HasPutCause}
use Rattle.mg_dev.specs.Files.{Files, Reads, SameReads, bytes_at, written}
use Rattle.mg_dev.specs.Names.{full_name}
use Rattle.mg_dev.specs.declared.device.PutErr.{PutErr}
use Rattle.mg_dev.specs.declared.part.Part.TheVariants as part
use Rattle.mg_bits.specs.BitWriting.{BitWriting, Holds, bits_put}
use Rattle.mg_bits.specs.Alike.{WhereSame}
use Rattle.mg_bits.specs.Writer.{KeepsOthers, Writing, Wrote, WroteTo, put_to}
use Rattle.mg_defs.specs.declared.Posting.{Posting}
use Rattle.mg_defs.specs.Bits.{bits_of, as_bytes}
use Rattle.mg_defs.specs.Codes.{golomb_parameter}
use Rattle.mg_defs.specs.Numbers.{eight}
use Rattle.mg_defs.specs.Lists.{SkipEntry, bits_after, bits_before, last_doc, entry_bits, entries_to, lists_bits, lists_entries}

abbrev pub posting_of : ℕ → ℕ → Posting
posting_of doc freq = record { doc = doc; freq = freq }

abbrev pub skip_entry : ℕ → ℕ → SkipEntry
skip_entry last bits = record { last = last; bits = bits }

-- a skip entry in its part: two numbers of 8 bytes
abbrev pub entry_bytes : SkipEntry → List ℕ
entry_bytes e = eight e.last ++ eight e.bits

pub record Listing : Type 0 where
  pub post : BitWriting
  pub skip : Writing
  -- the number of documents
  pub all : ℕ
  -- how many postings the list that was begun has, and its parameter
  pub docs : ℕ
  pub parameter : ℕ
  -- how many of them were pushed, and the last document of these
  pub pushed : ℕ
  pub last : ℕ
  -- how many postings were pushed to all lists
  pub total : ℕ
  -- the bit where the list begins, and the number of its first skip entry
  pub start : ℕ
  pub first : ℕ
  -- how many of its blocks are full, and the number of their bits
  pub full : ℕ
  pub block_at : ℕ

-- the entries of the lists before and of the full blocks of the list that was begun
abbrev pub entries_so_far : Listing → List (List Posting) → List Posting → List SkipEntry
entries_so_far w lists ps = lists_entries w.all lists ++ entries_to w.parameter w.full ps

-- the writer stands for these lists, and these postings of the list that was begun
pub record Took (w : Listing) (files : Option Files) (lists : List (List Posting)) (ps : List Posting) : Type 0 where
  pub apart : w.post.name ≢ w.skip.name
  pub post_holds : Holds w.post files
  pub post_bits : IsSome files → bits_put w.post files ≡ lists_bits w.all lists ++ bits_after w.parameter 0 ps
  pub skip_bytes : IsSome files → put_to w.skip files ≡ flat_map entry_bytes (entries_so_far w lists ps)
  pub start : w.start ≡ length (lists_bits w.all lists)
  pub place : w.post.place ≡ w.start + length (bits_after w.parameter 0 ps)
  pub first : w.first ≡ length (lists_entries w.all lists)
  pub pushed : w.pushed ≡ length ps
  pub last : w.last ≡ last_doc 0 ps
  pub full : 64 * w.full ≤ length ps
  pub rest : length ps < 64 * w.full + 64
  pub block_at : w.block_at ≡ bits_before w.parameter (64 * w.full) ps
  pub parameter : w.parameter ≡ golomb_parameter w.all w.docs
  pub docs : 1 ≤ w.docs
  pub all : w.all ≤ 2 ^ 24
  pub bound : w.post.place + 2 ^ 25 * w.pushed ≤ 2 ^ 26 * w.total
  pub room : w.first + w.pushed ≤ w.total
  pub total : w.total ≤ 2 ^ 32

-- a fact on the lists and the postings that a writer took
abbrev pub ForTook : Listing → Option Files → (List (List Posting) → List Posting → Type 0) → Type 0
ForTook w files fact = (lists : List (List Posting)) (ps : List Posting) → Took w files lists ps → fact lists ps

-- whatever lists and postings the writer took, it took this posting too
abbrev pub TookPosting : Listing → Listing → Option Files → Option Files → Posting → Type 0
TookPosting old new before now p = ForTook old before (λ lists ps. Took new now lists (ps ++ p ∷ []))

-- whatever lists and postings the writer took, the postings are a list now
abbrev pub TookList : Listing → Listing → Option Files → Option Files → Type 0
TookList old new before now = ForTook old before (λ lists ps. Took new now (lists ++ ps ∷ []) [])

-- a fact where both stores tell alike and hold the same two files of a writer
abbrev pub WhereSameFiles : Listing → Option Files → Option Files → Type 0 → Type 0
WhereSameFiles w one other fact = WhereSame one other w.post.name w.skip.name fact

-- a fact on the lists that a writer took, where the files are told and no list is begun
abbrev pub WhereTaken : Listing → Option Files → (List (List Posting) → Type 0) → Type 0
WhereTaken w files fact = (lists : List (List Posting)) → Took w files lists [] → IsSome files → fact lists

-- the bytes of these lists, and the number of their skip entries
abbrev pub AreSizesOf : ℕ → List (List Posting) → ℕ × ℕ → Type 0
AreSizesOf all lists sizes = (sizes.0 ≡ length (lists_bits all lists) / 8)
    × (sizes.1 ≡ length (lists_entries all lists))

-- the skip entry of a block, by its last document and the bits before it, was written
abbrev pub WroteEntry : Writing → Writing → Option Files → Option Files → ℕ → ℕ → Type 0
WroteEntry old new before now last bits = Wrote old new before now (entry_bytes (skip_entry last bits))

-- the files with the two parts of a base there and empty
abbrev pub with_empty_lists : List ℕ → Option Files → Option Files
with_empty_lists base files = written (written files (full_name base part.Post) []) (full_name base part.Skip) []

-- what every call keeps
pub record SameFiles (old new : Listing) : Type 0 where
  pub post : new.post.name ≡ old.post.name
  pub skip : new.skip.name ≡ old.skip.name
  pub all : new.all ≡ old.all

-- a call that writes to the file of one writer
pub record WritesTo {T : Type 0} (own own_now : List ℕ) (result : Result T PutErr) (files_before files_now : Option Files)
    (reads_before reads_now : Reads) (faults_before faults_now : ℕ) : Type 0 where
  -- the writer writes to the same file
  pub name : own_now ≡ own
  -- no other file changed, and no part was read
  pub wrote : WroteTo own files_before files_now reads_before reads_now
  -- a device's failure has a cause
  pub cause : HasPutCause faults_before faults_now result

-- a call of a writer of lists that may write to its two parts
pub record ListStep {T : Type 0} (old new : Listing) (result : Result T PutErr) (files_before files_now : Option Files)
    (reads_before reads_now : Reads) (faults_before faults_now : ℕ) : Type 0 where
  -- it writes the same parts
  pub same : SameFiles old new
  -- each other file is as before
  pub others : KeepsOthers old.post.name old.skip.name files_before files_now
  -- files are told where they were
  pub told : is_some files_now ≡ is_some files_before
  -- nothing was read
  pub reads : SameReads reads_before reads_now
  -- a device's failure has a cause
  pub cause : HasPutCause faults_before faults_now result

-- one posting more was pushed
pub record Pushed (old new : Listing) (doc : ℕ) : Type 0 where
  pub docs : new.docs ≡ old.docs
  pub pushed : new.pushed ≡ old.pushed + 1
  pub last : new.last ≡ doc
  pub total : new.total ≡ old.total + 1

-- so many postings more were pushed
pub record PushedMore (old new : Listing) (count : ℕ) : Type 0 where
  pub docs : new.docs ≡ old.docs
  pub pushed : new.pushed ≡ old.pushed + count
  pub total : new.total ≡ old.total + count

-- no posting of a list was pushed
pub record IsBetween (old new : Listing) (count : ℕ) : Type 0 where
  pub docs : new.docs ≡ count
  pub pushed : new.pushed ≡ 0
  pub last : new.last ≡ 0
  pub total : new.total ≡ old.total

-- the files hold these lists and their skip entries
pub record Finished (w : Listing) (files : Option Files) (lists : List (List Posting)) : Type 0 where
  pub post : bits_of (bytes_at files w.post.name) ≡ lists_bits w.all lists
  pub skip : bits_of (bytes_at files w.skip.name) ≡ flat_map entry_bits (lists_entries w.all lists)

-- and no other bytes than those that these bits make
pub record InBytes (w : Listing) (files : Option Files) (lists : List (List Posting)) : Type 0 where
  pub post : bytes_at files w.post.name ≡ as_bytes (lists_bits w.all lists)
  pub skip : bytes_at files w.skip.name ≡ as_bytes (flat_map entry_bits (lists_entries w.all lists))
