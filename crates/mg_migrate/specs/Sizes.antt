-- The sizes of parts that follow from the head of a set.
use Rattle.std.specs.Prelude.{◌≡◌, ◌*◌, ◌+◌, ℕ, List, [], ◌∷◌, length, Ok, Err}
use Rattle.std.specs.Int.{div_ceil}
use Rattle.std.specs.declared.option.Option.{Option}
use Rattle.std.specs.declared.result.Result.{Result}
use Rattle.mg_dev.specs.Files.{Files, part_bytes}
use Rattle.mg_dev.specs.declared.part.Part.{Part}
use Rattle.mg_dev.specs.declared.part.Part.TheVariants as part
use Rattle.mg_dev.specs.declared.part_err.PartErr.{PartErr}
use Rattle.mg_dev.specs.declared.part_err.PartErr.TheVariants.{Bad, Device, Memory}
use Rattle.mg_defs.specs.Heads.{Head, IsHead}
use Rattle.mg_text.specs.Places.{place_width}

-- Six parts of a base have the sizes that follow from a head.
pub record HasSizesOf (head : Head) (files : Option Files) (base : List ℕ) : Type 0 where
  pub text : length (part_bytes base part.Text files) ≡ head.text_bytes
  -- a place for each document, and one more
  pub places : length (part_bytes base part.Places files) ≡ place_width head.version * (head.documents + 1)
  -- four bytes for each whole entry of the lexicon
  pub lex_at : length (part_bytes base part.LexAt files) ≡ 4 * div_ceil head.terms 4
  pub post : length (part_bytes base part.Post files) ≡ head.post_bytes
  pub skip : length (part_bytes base part.Skip files) ≡ 16 * head.skip_count
  pub weights : length (part_bytes base part.Weights files) ≡ 4 * head.documents

-- The head's part of a base is this head, in either version.
abbrev pub HasHeadIn : Option Files → List ℕ → Head → Type 0
HasHeadIn files base head = IsHead 1 2 (part_bytes base part.Head files) head

-- And those parts have the sizes that follow from it.
pub record IsSized (head : Head) (files : Option Files) (base : List ℕ) : Type 0 where
  pub has : HasHeadIn files base head
  pub sizes : HasSizesOf head files base

-- what comparing them answers: they are so, or a part is told as damaged and they are not
abbrev pub AnswersSizesOf : Head → Option Files → List ℕ → Result (Unit {0}) PartErr → Type 0
AnswersSizesOf head files base (Ok done) = HasSizesOf head files base
AnswersSizesOf head files base (Err Device) = Unit {0}
AnswersSizesOf head files base (Err Memory) = ⊥
AnswersSizesOf head files base (Err (Bad bad)) = ¬ HasSizesOf head files base

-- these parts in their order, each with the size that follows from a head
abbrev pub sizes_of : Head → List (Part × ℕ)
sizes_of head = (part.Text, head.text_bytes) ∷ (part.Places, place_width head.version * (head.documents + 1))
    ∷ (part.LexAt, 4 * div_ceil head.terms 4) ∷ (part.Post, head.post_bytes) ∷ (part.Skip, 16 * head.skip_count)
    ∷ (part.Weights, 4 * head.documents) ∷ []
