-- Which parts are those of a set, how often others were read, and what a call does that only reads those of a set.
use Rattle.std.specs.Prelude.{◌≡◌, ℕ, List, [], ◌∷◌, Bool, true, false, Ok}
use Rattle.std.specs.declared.option.Option.{Option}
use Rattle.std.specs.declared.result.Result.{Result}
use Rattle.mg_dev.specs.Files.{Files, Reads}
use Rattle.mg_dev.specs.Moments.{StoreStep}
use Rattle.mg_dev.specs.PartCauses.{HasPartCause}
use Rattle.mg_dev.specs.declared.part_err.PartErr.{PartErr}
use Rattle.mg_dev.specs.declared.part.Part.{Part}
use Rattle.mg_dev.specs.declared.part.Part.TheVariants.{MergeA, MergeB, Plain}

-- whether a part is one of a set: none of the two that a merge of runs works with, and not the plain text
abbrev pub is_of_set : Part → Bool
is_of_set MergeA = false
is_of_set MergeB = false
is_of_set Plain = false
is_of_set _ = true

-- how often each part was read that is none of a set
unfoldable pub reads_outside : Reads → List ℕ
reads_outside reads = reads MergeA ∷ reads MergeB ∷ reads Plain ∷ []

-- ---- calls that only read parts of a set

-- such a call, told of the moments before it and after it
pub record LooksAtSet {T : Type 0} (result : Result T PartErr) (files_before files_now : Option Files)
    (reads_before reads_now : Reads) (faults_before faults_now : ℕ) : Type 0 where
  -- no file has changed
  pub files : files_now ≡ files_before
  -- no part was read that is none of a set
  pub unread : reads_outside reads_now ≡ reads_outside reads_before
  -- why it stops; the faults never fall
  pub cause : HasPartCause faults_before faults_now result

-- calls that were done
abbrev pub HasLooked : StoreStep
HasLooked = LooksAtSet {T = Unit {0}} (Ok tt)
