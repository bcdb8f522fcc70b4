-- Which parts of two sets a merge reads, and what a call does that only reads these.
use Rattle.std.specs.Prelude.{◌≡◌, ◌≤◌, ℕ, List, [], ◌∷◌}
use Rattle.std.specs.declared.option.Option.{Option}
use Rattle.mg_dev.specs.Files.{Files, Reads}
use Rattle.mg_dev.specs.Moments.{KeptFiles, StoreAt}
use Rattle.mg_dev.specs.declared.part.Part.TheVariants.{Lex, LexAt, MergeA, MergeB, Plain, Post, Run, Skip, Weights}

-- how often each part was read that is none of the heads, the models and the texts
unfoldable pub reads_outside : Reads → List ℕ
reads_outside reads = reads Lex ∷ reads LexAt ∷ reads Post ∷ reads Skip ∷ reads Weights ∷ reads Run ∷ reads MergeA
    ∷ reads MergeB ∷ reads Plain ∷ []

-- how often each part was read that is none of the heads, the models and the texts, and no working file
unfoldable pub reads_index : Reads → List ℕ
reads_index reads = reads Lex ∷ reads LexAt ∷ reads Post ∷ reads Skip ∷ reads Weights ∷ reads Plain ∷ []

-- a call that only reads heads, models and texts, told of the moments before it and after it
pub record LooksAtTexts (files_before files_now : Option Files) (reads_before reads_now : Reads)
    (faults_before faults_now : ℕ) : Type 0 where
  -- no file has changed
  pub files : files_now ≡ files_before
  -- no other part was read
  pub unread : reads_outside reads_now ≡ reads_outside reads_before
  -- the faults never fall
  pub later : faults_before ≤ faults_now

-- no file has changed, and only heads, models and texts were read
pub record IsUntouched (store store_now : StoreAt) : Type 0 where
  pub files : KeptFiles store store_now
  pub unread : reads_outside store_now.reads ≡ reads_outside store.reads
