-- The texts of two sets, whose documents are read one after the other.
use Rattle.std.specs.Prelude.{◌≡◌, ◌<◌, ◌≤◌, ◌+◌, ◌^◌, ℕ, Bool, List, ◌++◌, length, drop, IfOk}
use Rattle.std.specs.declared.option.Option.{Option}
use Rattle.std.specs.declared.result.Result.{Result}
use Rattle.mg_dev.specs.Files.{Files}
use Rattle.mg_dev.specs.Names.{full_name}
use Rattle.mg_dev.specs.declared.part.Part.TheVariants.{Places, Text}
use Rattle.mg_defs.specs.Join.{join}
use Rattle.mg_defs.specs.Split.{close, documents, has_open_end, is_closed, joined}
use Rattle.mg_defs.specs.CodedText.{TextCode}
use Rattle.mg_defs.specs.Terms.{document}
use Rattle.mg_layout.specs.Stands.{StandsBy}
use Rattle.mg_layout.specs.declared.head.Head as layout
use Rattle.mg_text.specs.Reading.{IsTextReader, SameText, TextFits, TextReading, TextStands}

-- the readers of both texts, how many documents the first one and both have, whether the end is open, how many bytes all documents have with those that close them, and the document that was read last, with the byte that closes it
pub record TwoTexts : Type 0 where
  pub first : TextReading
  pub second : TextReading
  pub ahead : ℕ
  pub all : ℕ
  pub open_end : Bool
  pub size : ℕ
  pub held : List ℕ

-- what it keeps agrees with the files, where they are told, and its numbers are those of its texts
pub record TextsFit (t : TwoTexts) (files : Option Files) : Type 0 where
  pub first : TextFits t.first files
  pub second : TextFits t.second files
  pub ahead : t.first.documents ≡ t.ahead
  pub all : t.ahead + t.second.documents ≡ t.all
  pub few : t.size < 2 ^ 32

-- it reads the same texts, whatever document it holds
pub record SameTexts (old new : TwoTexts) : Type 0 where
  pub first : SameText old.first new.first
  pub second : SameText old.second new.second
  pub ahead : new.ahead ≡ old.ahead
  pub all : new.all ≡ old.all
  pub open_end : new.open_end ≡ old.open_end
  pub size : new.size ≡ old.size

-- The texts stand for two collections, of which this one is made.
pub record TextsStand (t : TwoTexts) (files : Option Files) (collection : List ℕ) : Type 0 where
  pub a : List ℕ
  pub b : List ℕ
  pub first : TextStands t.first files a
  pub second : TextStands t.second files b
  pub open_end : t.open_end ≡ has_open_end b
  pub joins : collection ≡ join a b
  pub size : t.size ≡ length collection

-- the files of two bases stand for these collections, by these heads
pub record AreSetsBy (one other : layout.Head) (files : Option Files) (first second a b : List ℕ) : Type 0 where
  pub first_code : TextCode
  pub second_code : TextCode
  pub first_stands : StandsBy one first_code files first a
  pub second_stands : StandsBy other second_code files second b

-- and they do so for some collections
abbrev pub AreSomeSetsBy : layout.Head → layout.Head → Option Files → List ℕ → List ℕ → Type 0
AreSomeSetsBy one other files first second = (a : List ℕ) × (b : List ℕ) × AreSetsBy one other files first second a b

-- these are readers of the texts of two bases, by the numbers of two heads
pub record AreReaders (one other : TextReading) (files : Option Files) (first second : List ℕ)
    (heads : layout.Head × layout.Head) : Type 0 where
  pub first_fits : TextFits one files
  pub second_fits : TextFits other files
  pub first_reader : IsTextReader one first heads.0
  pub second_reader : IsTextReader other second heads.1

-- they read the texts of two collections
pub record BothTextsStand (one other : TextReading) (files : Option Files) (a b : List ℕ) : Type 0 where
  pub first : TextStands one files a
  pub second : TextStands other files b

-- it reads Text and Places of these bases
pub record AreTextsOf (t : TwoTexts) (first second : List ℕ) : Type 0 where
  pub first_text : t.first.text.name ≡ full_name first Text
  pub first_places : t.first.places.name ≡ full_name first Places
  pub second_text : t.second.text.name ≡ full_name second Text
  pub second_places : t.second.places.name ≡ full_name second Places

-- ---- documents

-- document n of a collection, from 1, with the byte that closes it
abbrev pub closed_document : ℕ → List ℕ → List ℕ
closed_document n collection = document collection n
    ++ close (is_closed n (length (documents collection)) (has_open_end collection))

-- the texts stand for this collection, whose document n has at most so many bytes
pub record HaveShort (t : TwoTexts) (files : Option Files) (n most : ℕ) (collection : List ℕ) : Type 0 where
  pub stands : TextsStand t files collection
  pub short : length (document collection n) ≤ most

-- they do so for some collection
abbrev pub AreShort : TwoTexts → Option Files → ℕ → ℕ → Type 0
AreShort t files n most = (collection : List ℕ) × HaveShort t files n most collection

-- this is so of each such collection
abbrev pub ForShort : TwoTexts → Option Files → ℕ → ℕ → (List ℕ → Type 0) → Type 0
ForShort t files n most holds = (collection : List ℕ) → HaveShort t files n most collection → holds collection

-- these bytes are the first n documents of a collection: the others follow
abbrev pub AreFirst : ℕ → List ℕ → List ℕ → Type 0
AreFirst n bytes collection = bytes ++ joined (drop n (documents collection)) (has_open_end collection) ≡ collection

-- ---- words for contracts

-- the files of two bases stand for some collections, by these two heads
abbrev pub AreSomeSets : layout.Head × layout.Head → Option Files → List ℕ → List ℕ → Type 0
AreSomeSets heads files first second = AreSomeSetsBy heads.0 heads.1 files first second

-- this is so of the collections in one, for each two collections that the files of two bases stand for by these heads
abbrev pub ForSetsBy : layout.Head → layout.Head → Option Files → List ℕ → List ℕ → (List ℕ → Type 0) → Type 0
ForSetsBy one other files first second holds = (a b : List ℕ) → AreSetsBy one other files first second a b →
    holds (join a b)

-- the text of a collection is read by what was loaded
abbrev pub LoadsText : {E : Type 0} → Option Files → Result TextReading E → TextCode → List ℕ → Type 0
LoadsText files result code collection = IfOk result (λ (r : TextReading). TextStands r files collection)

-- this is so of each two collections that the files of two bases stand for by these two heads
abbrev pub WhereSetsStand : layout.Head × layout.Head → Option Files → List ℕ → List ℕ →
    (List ℕ → List ℕ → Type 0) → Type 0
WhereSetsStand heads files first second holds = (a b : List ℕ) → AreSetsBy heads.0 heads.1 files first second a b →
    holds a b
