-- What a build answered is what it did.
use Rattle.std.proofs.Common.{◌≡◌, ◌≢◌, ◌<◌, ◌≤◌, ◌+◌, ◌/◌, ℕ, List, [], length, Some, None, IsSome, Err, ap}
use Rattle.std.specs.Prelude.{Result, OnOk, IfErr}
use Rattle.mg_dev.specs.Files.{file_at, bytes_at}
use Rattle.mg_dev.specs.Moments.{StoreAt, StoreRose, KeptFiles}
use Rattle.mg_dev.specs.Names.{full_name}
use Rattle.mg_dev.specs.Runs.{IsDone, RefusedFor, status_of}
use Rattle.mg_dev.specs.declared.part.Part.{Part}
use Rattle.mg_dev.specs.declared.part.Part.TheVariants as part
use Rattle.mg_dev.specs.declared.fault.Fault.{Fault}
use Rattle.mg_dev.specs.declared.fault.Fault.TheVariants.{NoCollection, TooLarge, TooManyDocuments, TooManyPieces, NameClash}
use Rattle.mg_defs.specs.declared.Stream.{Stream}
use Rattle.mg_defs.specs.Limits.{version_2}
use Rattle.mg_defs.specs.WithinLimits.{IsWithinLimits}
use Rattle.mg_defs.specs.Marks.{PassesFirst, start, piece}
use Rattle.mg_defs.specs.Split as split
use Rattle.mg_defs.specs.Summaries.{run_cap}
use Rattle.mg_defs.specs.TextBits.{text_bits}
use Rattle.mg_layout.specs.Stands.{StandsIn}
use Rattle.mg_make.specs.Putting.{IsApart, OthersSame}
use Rattle.mg_build.specs.Building.{BuildStops}
use Rattle.mg_build.specs.Made.{Made}
use Rattle.mg_build.specs.Sources.{IsReadWhole}
use Rattle.mg_make.specs.Outcomes.{IsEarly, Left, most_bytes}
use Rattle.mg_dev.proofs.CallerLemmas.{at_fault, done_or_lacks, stopped_by, stopped_for, when_ok}

module _ {T : Type 0} (name base : List ℕ) (budget : ℕ) (store store_now : StoreAt) (r : Result T Fault)
    (stands : IsSome store.files → OnOk r (StandsIn 2 (run_cap budget) store_now.files base (bytes_at store.files name)))
    (text : IsSome store.files → OnOk r (length (bytes_at store_now.files (full_name base part.Text))
    ≤ text_bits (bytes_at store.files name) / 8 + length (split.documents (bytes_at store.files name))))
    (merge_a : IsSome store.files → OnOk r (file_at store_now.files (full_name base part.MergeA) ≡ Some []))
    (merge_b : IsSome store.files → OnOk r (file_at store_now.files (full_name base part.MergeB) ≡ Some []))
    (others : OthersSame base store.files store_now.files)
    (left : IsSome store.files → Left base store.files store_now.files (bytes_at store.files name))
    (early : IfErr r (λ fault. IsEarly fault → KeptFiles store store_now))
    (changed : ¬ KeptFiles store store_now → IsReadWhole (bytes_at store.files name) store.reads store_now.reads)
    (cause : IfErr r (BuildStops (StoreRose store store_now) store.files name base))
    (clash : (p : Part) → p ≢ part.Plain → name ≡ full_name base p → r ≡ Err (NameClash p))
    (missing : IsSome store.files → IsApart base name → file_at store.files name ≡ None → RefusedFor r NoCollection)
    (large : IsSome store.files → IsApart base name → most_bytes < length (bytes_at store.files name) → RefusedFor r (TooLarge (length (bytes_at store.files name)) most_bytes))
    (documents : (bytes : List ℕ) → file_at store.files name ≡ Some bytes → IsApart base name → length bytes ≤ most_bytes → PassesFirst version_2 bytes start → RefusedFor r TooManyDocuments)
    (pieces : (bytes : List ℕ) (stream : Stream) (word : List ℕ) → file_at store.files name ≡ Some bytes → IsApart base name → length bytes ≤ most_bytes →
    PassesFirst version_2 bytes (piece stream word) → RefusedFor r (TooManyPieces stream))
    (complete : (bytes : List ℕ) → file_at store.files name ≡ Some bytes → IsApart base name → IsWithinLimits 2 bytes → ¬ StoreRose store store_now → IsDone r) where
  pub made_by : Made name base budget store store_now (status_of r)
  made_by = record {
    done = λ told end. record { stands = when_ok _ r end (stands told); merge_a = when_ok _ r end (merge_a told); merge_b = when_ok _ r end (merge_b told); text = when_ok _ r end (text told) };
    unchanged = λ fault soon end. at_fault (λ (f : Fault). IsEarly f → KeptFiles store store_now) r fault end early soon;
    changed = changed;
    left = left;
    others = others;
    cause = stopped_by _ r cause;
    clash = λ p plain same. ap status_of (clash p plain same);
    missing = λ told apart none. stopped_for r _ (missing told apart none);
    large = λ told apart more. stopped_for r _ (large told apart more);
    documents = λ bytes there apart few passes. stopped_for r _ (documents bytes there apart few passes);
    pieces = λ bytes stream word there apart few passes. stopped_for r _ (pieces bytes stream word there apart few passes);
    complete = λ bytes there apart within never. done_or_lacks r (complete bytes there apart within never);
  }
