-- Which files a step writes.
use Rattle.std.specs.Prelude.{◌≡◌, ◌≢◌, ℕ, List}
use Rattle.std.specs.Option.{is_some}
use Rattle.std.specs.declared.option.Option.{Option}
use Rattle.mg_dev.specs.declared.part.Part.{Part as AnyPart}
use Rattle.mg_dev.specs.declared.part.Part.TheVariants.{Lex, LexAt, MergeA, MergeB, Post, Skip, Weights}
use Rattle.mg_dev.specs.Files.{Files, file_at}
use Rattle.mg_dev.specs.Names.{full_name}

-- only files of these parts of a base were written
pub record WroteParts (parts : AnyPart → Type 0) (base : List ℕ) (before now : Option Files) : Type 0 where
  pub told : is_some now ≡ is_some before
  pub others : (name : List ℕ) → ((p : AnyPart) → parts p → name ≢ full_name base p) →
      file_at now name ≡ file_at before name

-- the parts of lists and the lexicon
abbrev pub OfLists : AnyPart → Type 0
OfLists Lex = Unit {0}
OfLists LexAt = Unit {0}
OfLists Post = Unit {0}
OfLists Skip = Unit {0}
OfLists p = ⊥

-- the parts of weights, and the working parts
abbrev pub OfWeights : AnyPart → Type 0
OfWeights Weights = Unit {0}
OfWeights MergeA = Unit {0}
OfWeights MergeB = Unit {0}
OfWeights p = ⊥
