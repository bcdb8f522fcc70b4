-- The text of a base, whose reader is loaded when a document is first shown from it.
use Rattle.std.specs.Prelude.{◌≡◌, ℕ, ◌≤◌, ◌^◌, List, IfSome, IsSome, Ok, length}
use Rattle.std.specs.declared.option.Option.{Option}
use Rattle.mg_dev.specs.Files.{Files, bytes_at}
use Rattle.mg_dev.specs.Names.{full_name}
use Rattle.mg_dev.specs.declared.part.Part.TheVariants as part
use Rattle.mg_defs.specs.CodedText.{TextCode}
use Rattle.mg_layout.specs.declared.head.Head.{Head}
use Rattle.mg_model.specs.Damage.{AnswersLoad}
use Rattle.mg_text.specs.Reading.{HasSizes, IsText, IsTextReader, TextFits, TextReading, TextStands, stored_at}

-- a base, its head, and the reader of its text, once it is loaded
pub record Texting : Type 0 where
  pub base : List ℕ
  pub head : Head
  pub reader : Option TextReading

-- Text and Places have the sizes that a head tells, and Words and Nonwords hold these codes.
abbrev pub ModelsAre : List ℕ → Option Files → Head → TextCode → Type 0
ModelsAre base files head code = HasSizes (stored_at files base head)
    × AnswersLoad head.words head.others (bytes_at files (full_name base part.Words))
    (bytes_at files (full_name base part.Nonwords)) (Ok code)

-- a reader of the parts of a base that were loaded from these files: where they are the text of a collection, it reads that
pub record IsLoaded (base : List ℕ) (head : Head) (files : Option Files) (r : TextReading) : Type 0 where
  pub fits : TextFits r files
  pub reader : IsTextReader r base head
  pub stands : (code : TextCode) (collection : List ℕ) → IsText base files head code collection →
      TextStands r files collection
  pub code : (code : TextCode) (collection : List ℕ) → IsText base files head code collection → r.code ≡ code
  -- whatever they are, its codes are those that the models hold
  pub models : IsSome files → ModelsAre base files head r.code

-- A head tells of no more pieces than a model may have.
pub record HasFewPieces (head : Head) : Type 0 where
  pub words : head.words ≤ 2 ^ 22
  pub others : head.others ≤ 2 ^ 22

-- the head's numbers are within the limits of the models, and the reader was loaded from these files
pub record TextsFit (files : Option Files) (t : Texting) : Type 0 where
  pub words : t.head.words ≤ 2 ^ 22
  pub others : t.head.others ≤ 2 ^ 22
  pub reader : IfSome t.reader (IsLoaded t.base t.head files)

-- the same text, whether its reader is loaded or not
pub record SameTexts (old new : Texting) : Type 0 where
  pub base : new.base ≡ old.base
  pub head : new.head ≡ old.head

-- it is that of this collection under these codes
pub record TextsStand (t : Texting) (files : Option Files) (code : TextCode) (collection : List ℕ) : Type 0 where
  pub text : IsText t.base files t.head code collection
  -- the head tells its bytes
  pub size : t.head.collection ≡ length collection
