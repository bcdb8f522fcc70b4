-- What stands in the parts of models.
use Rattle.std.specs.Prelude.{◌≡◌, ℕ, List, length}
use Rattle.std.specs.Option.{IsSome}
use Rattle.std.specs.declared.option.Option.{Option}
use Rattle.mg_dev.specs.Files.{Files, bytes_at}
use Rattle.mg_dev.specs.Names.{full_name}
use Rattle.mg_dev.specs.declared.part.Part.{Part}
use Rattle.mg_dev.specs.declared.part.Part.TheVariants as part
use Rattle.mg_defs.specs.declared.Stream.{Stream}
use Rattle.mg_defs.specs.declared.Stream.TheVariants.{Words, Others}
use Rattle.mg_defs.specs.CodedText.{TextCode, pieces_part}
use Rattle.mg_defs.specs.Means.{IsModel}

abbrev pub part_of : Stream → Part
part_of Words = part.Words
part_of Others = part.Nonwords

-- the parts of both streams hold the pieces and lengths
pub record PartsHold (files : Option Files) (base : List ℕ) (code : TextCode) : Type 0 where
  pub words : bytes_at files (full_name base part.Words) ≡ pieces_part code.words
  pub others : bytes_at files (full_name base part.Nonwords) ≡ pieces_part code.others

-- the store tells its files, the parts hold a model, and it has so many words and others
pub record PartsStand (files : Option Files) (base : List ℕ) (code : TextCode) (words others : ℕ) : Type 0 where
  pub told : IsSome files
  pub hold : PartsHold files base code
  pub model : IsModel code
  pub word_count : words ≡ length code.words.pieces
  pub other_count : others ≡ length code.others.pieces
