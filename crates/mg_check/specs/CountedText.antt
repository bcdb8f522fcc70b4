-- What the documents of a text are counted to, once its weights and its runs are compared with their parts.
use Rattle.std.specs.Prelude.{◌≡◌, ℕ, List, length, take, OnOk}
use Rattle.std.specs.declared.option.Option.{Option}
use Rattle.std.specs.declared.result.Result.{Result}
use Rattle.mg_dev.specs.Files.{Files, Reads}
use Rattle.mg_dev.specs.declared.part_err.PartErr.{PartErr}
use Rattle.mg_defs.specs.Occurrences.{occurrences}
use Rattle.mg_defs.specs.Split.{documents}
use Rattle.mg_text.specs.Reading.{TextReading, TextStands}
use Rattle.mg_check_parts.specs.Refusals.{WhereBad}
use Rattle.mg_check_text.specs.Reads.{ReadsText}
use Rattle.mg_check_index.specs.Counting.{AreOwn, HasTallied, SameParts, Tallying, TermsStand, docs_of_terms}
use Rattle.mg_check.specs.declared.counting.Counts.{Counts}

-- So many documents were taken. Where the text stands for a collection, what they amount to is that of its first ones.
pub record TalliedText (t : Tallying) (files : Option Files) (words : List (List ℕ)) (documents_read : ℕ)
    (r : TextReading) : Type 0 where
  pub docs : List (List ℕ)
  pub tallied : HasTallied t files words docs
  pub count : length docs ≡ documents_read
  pub own : (collection : List ℕ) → TextStands r files collection →
      HasTallied t files words (take documents_read (documents collection))

-- Documents of a text are tallied, told of the moments before and after: so many of them were taken at the end.
pub record DocumentsTallied {T : Type 0} (r now : TextReading) (words : List (List ℕ)) (documents_read : ℕ)
    (old new : Tallying) (result : Result T PartErr)
    (files files_now : Option Files) (reads reads_now : Reads) (faults faults_now : ℕ) : Type 0 where
  -- they are the first of the text
  pub taken : OnOk result (TalliedText new files_now words documents_read r)
  -- the same parts are compared
  pub parts : SameParts old new
  -- a refusal tells that Weights and Run are not those of the collection whose text is read
  pub other : (collection : List ℕ) → TextStands r files collection → WhereBad (AreOwn old files collection → ⊥) result
  -- only the text was read, and parts of the set that are compared with it
  pub text : ReadsText r now result files files_now reads reads_now faults faults_now

-- the documents of a text were taken, told of the moments before and after: where it is that of a collection
pub record IsTallyOf (old new : Tallying) (files : Option Files) (collection : List ℕ) : Type 0 where
  -- Weights and Run are the collection's
  pub own : AreOwn old files collection
  -- how many documents have each term
  pub docs : new.docs ≡ docs_of_terms collection
  -- how many occurrences there are
  pub occurrences : new.occurrences ≡ length (occurrences collection)

-- what was counted of a collection whose Weights and Run were compared
pub record IsCountOf (base : List ℕ) (files : Option Files) (cap : ℕ) (collection : List ℕ) (counts : Counts) : Type 0
  where
    -- both parts are the collection's
    pub stand : TermsStand base files cap collection
    -- how many documents have each term
    pub docs : counts.docs.items ≡ docs_of_terms collection
    -- how many occurrences there are
    pub occurrences : counts.occurrences ≡ length (occurrences collection)
