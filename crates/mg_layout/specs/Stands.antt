-- The parts of a base stand for a collection.
use Rattle.std.specs.Prelude.{◌≡◌, ◌≤◌, ℕ, List, []}
use Rattle.std.specs.Option.{IsSome, is_some}
use Rattle.std.specs.declared.option.Option.{Option}
use Rattle.mg_dev.specs.Files.{Files, bytes_at, file_at}
use Rattle.mg_dev.specs.Names.{full_name, number}
use Rattle.mg_dev.specs.declared.part.Part.{Part}
use Rattle.mg_dev.specs.declared.part.Part.TheVariants as part
use Rattle.mg_defs.specs.CodedText.{TextCode}
use Rattle.mg_defs.specs.Heads.{IsHead}
use Rattle.mg_defs.specs.Means.{Tell}
use Rattle.mg_defs.specs.Stands.{AreParts, Parts, Stand, head_of}
use Rattle.mg_layout.specs.HeadAnswers.{fields_of}
use Rattle.mg_layout.specs.declared.head.Head.{Head}

-- the bytes of a base's parts, those of merges aside
abbrev pub parts_at : Option Files → List ℕ → Parts
parts_at files base = record {
  head = bytes_at files (full_name base part.Head);
  words = bytes_at files (full_name base part.Words);
  nonwords = bytes_at files (full_name base part.Nonwords);
  text = bytes_at files (full_name base part.Text);
  places = bytes_at files (full_name base part.Places);
  lex = bytes_at files (full_name base part.Lex);
  lex_at = bytes_at files (full_name base part.LexAt);
  post = bytes_at files (full_name base part.Post);
  skip = bytes_at files (full_name base part.Skip);
  weights = bytes_at files (full_name base part.Weights);
  run = bytes_at files (full_name base part.Run);
}

-- This base has no head, or an empty one.
abbrev pub HasNoHead : Option Files → List ℕ → Type 0
HasNoHead files base = bytes_at files (full_name base part.Head) ≡ []

-- The store tells its files, and the parts of this base stand for this collection.
pub record Stands (files : Option Files) (base collection : List ℕ) : Type 0 where
  pub told : IsSome files
  pub stand : Stand (parts_at files base) collection

-- And they do so in this version, with so many occurrences to a run.
pub record StandsIn (version cap : ℕ) (files : Option Files) (base collection : List ℕ) : Type 0 where
  pub told : IsSome files
  pub code : TextCode
  pub are : AreParts version cap code (parts_at files base) collection

-- And this is their head, and these are their codes.
pub record StandsBy (head : Head) (code : TextCode) (files : Option Files) (base collection : List ℕ) : Type 0 where
  pub told : IsSome files
  pub head_is : fields_of head ≡ head_of head.version head.cap code collection
  pub are : AreParts head.version head.cap code (parts_at files base) collection

-- They do so for some collection, under some codes.
abbrev pub IsSetBy : Head → Option Files → List ℕ → Type 0
IsSetBy head files base = (code : TextCode) × (collection : List ℕ) × StandsBy head code files base collection

-- This is so of each collection for which they do so, and of its codes.
abbrev pub ForSetBy : Head → Option Files → List ℕ → (TextCode → List ℕ → Type 0) → Type 0
ForSetBy head files base holds = (code : TextCode) (collection : List ℕ) → StandsBy head code files base collection →
    holds code collection

-- They do so with this head, under some codes.
abbrev pub StandsUnder : Head → Option Files → List ℕ → List ℕ → Type 0
StandsUnder head files base collection = (code : TextCode) × StandsBy head code files base collection

-- The head's part of this base has this head.
abbrev pub HasHead : Option Files → List ℕ → Head → Type 0
HasHead files base head = IsHead 1 2 (parts_at files base).head (fields_of head)

-- The parts of this base tell these codes, with this head.
abbrev pub TellCode : Option Files → List ℕ → Head → TextCode → Type 0
TellCode files base head code = Tell (parts_at files base) (fields_of head) code

-- Where the parts stand and the head's part has this head, they stand with it, under some codes.
abbrev pub HeadTellsSet : Head → Option Files → List ℕ → List ℕ → Type 0
HeadTellsSet head files base collection = Stands files base collection → HasHead files base head →
    StandsUnder head files base collection

-- Where the parts stand and tell these codes with this head, they stand with both.
abbrev pub CodesTellSet : Head → TextCode → Option Files → List ℕ → List ℕ → Type 0
CodesTellSet head code files base collection = Stands files base collection → TellCode files base head code →
    StandsBy head code files base collection

-- The parts of this base stand for no collection.
abbrev pub StandsForNone : Option Files → List ℕ → Type 0
StandsForNone files base = (collection : List ℕ) → Stands files base collection → ⊥

-- The store tells its files or not, as before, and none of the eleven files of this base changed.
pub record SameSet (base : List ℕ) (before now : Option Files) : Type 0 where
  pub told : is_some now ≡ is_some before
  pub each : (p : Part) → number p ≤ 10 → file_at now (full_name base p) ≡ file_at before (full_name base p)

-- The parts stand now in this version, with so many occurrences to a run, if they did so before and none of those files changed.
abbrev pub StaysIn : ℕ → ℕ → Option Files → Option Files → List ℕ → List ℕ → Type 0
StaysIn version cap before now base collection = SameSet base before now → StandsIn version cap before base collection →
    StandsIn version cap now base collection
