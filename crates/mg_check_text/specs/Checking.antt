-- Reading the text of a set: what is known of it after some documents, and what its parts mean at the end.
use Rattle.std.specs.Prelude.{◌≡◌, ◌≤◌, ◌<◌, ◌+◌, ◌-◌, ◌*◌, ℕ, suc, List, [], ◌∷◌, length, map, take, drop, sum, sum_by, IsTrue}
use Rattle.std.specs.List.{AllByRecursion, flat_map}
use Rattle.std.specs.Option.{IsSome}
use Rattle.std.specs.declared.option.Option.{Option}
use Rattle.mg_dev.specs.Files.{Files}
use Rattle.mg_defs.specs.declared.Stream.TheVariants.{Words, Others}
use Rattle.mg_defs.specs.CodedText.{TextCode, coded_doc, coded_size, place_bytes, places_part}
use Rattle.mg_defs.specs.Bits.{as_bytes}
use Rattle.mg_defs.specs.Heads as defs
use Rattle.mg_defs.specs.WithinLimits.{IsWithinLimits}
use Rattle.mg_defs.specs.Means.{BeginsWithDocuments, IsCodable, IsUsedWell, Mean, Tell, docs_bytes}
use Rattle.mg_defs.specs.Split.{IsDocument, IsSplit, joined}
use Rattle.mg_defs.specs.Stands.{Parts}
use Rattle.mg_defs.specs.Vocabulary.{pieces_in}
use Rattle.mg_defs.specs.Terms.{document}
use Rattle.mg_layout.specs.Contents.{StandAt}
use Rattle.mg_layout.specs.HeadAnswers.{fields_of}
use Rattle.mg_layout.specs.Stands.{parts_at}
use Rattle.mg_layout.specs.declared.head.Head.{Head}
use Rattle.mg_text.specs.Places.{place_width}
use Rattle.mg_text.specs.Reading.{IsTextReader, TextReading, TextStands}
use Rattle.mg_text_writer.specs.Writing.{starts}
use Rattle.mg_check_parts.specs.Decoding.{AreCounts, Counted, IsUsed}
use Rattle.mg_check_text.specs.declared.progress.Progress.{Progress}

-- ---- the head and the codes

-- The files are told, and this is the head of the set.
pub record HasHead (files : Option Files) (base : List ℕ) (head : Head) : Type 0 where
  pub told : IsSome files
  pub is : defs.IsHead 1 2 (parts_at files base).head (fields_of head)

-- The files are told, and their parts tell this head and the codes of this reader; Text and Places have the sizes that follow.
pub record IsLoaded (files : Option Files) (base : List ℕ) (head : Head) (r : TextReading) : Type 0 where
  pub told : IsSome files
  pub reader : IsTextReader r base head
  pub tell : Tell (parts_at files base) (fields_of head) r.code
  pub words : head.words ≡ length r.code.words.pieces
  pub others : head.others ≡ length r.code.others.pieces
  pub text : length (parts_at files base).text ≡ head.text_bytes
  pub places : length (parts_at files base).places ≡ place_width head.version * (head.documents + 1)

-- ---- documents so far

-- The reader reads the text of this collection, whose document at a place, from 0, has at most so many bytes.
pub record HasDoc (r : TextReading) (files : Option Files) (collection : List ℕ) (place most : ℕ) : Type 0 where
  pub stands : TextStands r files collection
  pub short : length (document collection (suc place)) ≤ most

-- where each of these documents begins
abbrev pub docs_places : ℕ → TextCode → List (List ℕ) → List ℕ
docs_places version code docs = flat_map (place_bytes version) (starts 0 (map (coded_size code) docs))

-- how many bytes the last document has
abbrev pub last_size : List (List ℕ) → ℕ
last_size [] = 0
last_size (doc ∷ []) = length doc
last_size (doc ∷ next ∷ docs) = last_size (next ∷ docs)

-- The parts begin with these documents and their places, and this is what they amount to.
pub record HasRead (parts : Parts) (version : ℕ) (code : TextCode) (docs : List (List ℕ)) (p : Progress) : Type 0 where
  pub begins : BeginsWithDocuments code parts.text docs (drop p.place parts.text)
  pub count : length docs ≡ p.documents
  pub each : AllByRecursion IsDocument docs
  pub place : p.place ≡ length (docs_bytes code docs)
  pub bytes : p.bytes ≡ sum_by (λ d. length d) docs
  pub last : p.last ≡ last_size docs
  pub places : take (place_width version * p.documents) parts.places ≡ docs_places version code docs
  pub words : AreCounts code.words (flat_map (pieces_in Words) docs) p.uses.words.items
  pub others : AreCounts code.others (flat_map (pieces_in Others) docs) p.uses.others.items

-- The numbers stay in their ranges, whatever the files hold.
pub record IsInRange (code : TextCode) (head : Head) (p : Progress) : Type 0 where
  pub documents : p.documents ≤ head.documents
  pub bytes : p.bytes ≤ head.collection
  pub last : p.last ≤ p.bytes
  pub place : p.place ≤ 12 * p.bytes + 13 * p.documents
  pub word_places : length p.uses.words.items ≡ length code.words.pieces
  pub other_places : length p.uses.others.items ≡ length code.others.pieces
  pub words : sum p.uses.words.items ≤ p.bytes
  pub others : sum p.uses.others.items ≤ p.bytes

-- ---- at the end

-- The parts mean these documents, which are those of a collection within the limits; both codes are its own, and so are the places and its size.
pub record IsMeant (parts : Parts) (h : defs.Head) (code : TextCode) (docs : List (List ℕ)) : Type 0 where
  pub mean : Mean parts h code docs
  pub split : IsSplit (joined docs h.open_end) docs h.open_end
  pub words : IsUsedWell Words (joined docs h.open_end) code.words
  pub others : IsUsedWell Others (joined docs h.open_end) code.others
  pub places : parts.places ≡ places_part h.version code (joined docs h.open_end)
  pub bytes : h.collection ≡ length (joined docs h.open_end)
  pub limits : IsWithinLimits h.version (joined docs h.open_end)

-- ---- a document more

-- The document can stand next: its code stands in Text at this place, and the place stands in Places.
pub record IsNextDoc (parts : Parts) (version : ℕ) (code : TextCode) (doc : List ℕ) (p : Progress) : Type 0 where
  pub is_document : IsDocument doc
  pub codable : IsCodable code doc
  pub stands : StandAt p.place (as_bytes (coded_doc code doc)) parts.text
  pub place : StandAt (place_width version * p.documents) (place_bytes version p.place) parts.places

-- The numbers after one document more.
pub record HasAdded (code : TextCode) (doc : List ℕ) (old new : Progress) : Type 0 where
  pub documents : new.documents ≡ old.documents + 1
  pub bytes : new.bytes ≡ old.bytes + length doc
  pub last : new.last ≡ length doc
  pub place : new.place ≡ old.place + coded_size code doc
  pub words : Counted code.words (pieces_in Words doc) old.uses.words.items new.uses.words.items
  pub others : Counted code.others (pieces_in Others doc) old.uses.others.items new.uses.others.items

-- ---- behind the last document

-- The documents take all of Text, and the flag of an open end and the size of the collection are those of what was read.
pub record EndNumbers (head : Head) (p : Progress) : Type 0 where
  pub place : p.place ≡ head.text_bytes
  pub open_end : IsTrue head.open_end → 0 < p.last
  pub bytes : p.bytes + p.documents ≡ head.collection + defs.as_number head.open_end

-- Nothing is left of Text, the last place stands in Places, the numbers are those of the head, and both codes are used.
pub record IsAtEnd (parts : Parts) (head : Head) (code : TextCode) (p : Progress) : Type 0 where
  pub place : p.place ≡ head.text_bytes
  pub last_place : StandAt (place_width head.version * p.documents) (place_bytes head.version p.place) parts.places
  pub open_end : IsTrue head.open_end → 0 < p.last
  pub bytes : p.bytes + p.documents ≡ head.collection + defs.as_number head.open_end
  pub words : IsUsed p.uses.words.items code.words.lengths
  pub others : IsUsed p.uses.others.items code.others.lengths

-- ---- what reading found

-- A document stands next, and it was added.
pub record FoundNext (parts : Parts) (version : ℕ) (code : TextCode) (old new : Progress) : Type 0 where
  pub doc : List ℕ
  pub next : IsNextDoc parts version code doc old
  pub added : HasAdded code doc old new

-- Some documents were read.
pub record FoundDocs (parts : Parts) (version : ℕ) (code : TextCode) (p : Progress) : Type 0 where
  pub docs : List (List ℕ)
  pub so : HasRead parts version code docs p

-- The parts mean some documents.
pub record FoundText (parts : Parts) (h : defs.Head) (code : TextCode) : Type 0 where
  pub docs : List (List ℕ)
  pub meant : IsMeant parts h code docs

-- ---- claims on what is read

-- for each collection whose text the reader reads, and whose document at a place, from 0, has at most so many bytes: that document
abbrev pub ForDoc : TextReading → Option Files → ℕ → ℕ → (List ℕ → Type 0) → Type 0
ForDoc r files place most claim = (collection : List ℕ) → HasDoc r files collection place most →
    claim (document collection (suc place))

-- the same for the next document, which has no more bytes than the head leaves
abbrev pub ForNextDoc : TextReading → Option Files → Head → Progress → (List ℕ → Type 0) → Type 0
ForNextDoc r files head p claim = ForDoc r files p.documents (head.collection - p.bytes) claim

-- a place stands in Places as the one of this number, from 0
abbrev pub PlaceStands : ℕ → ℕ → ℕ → Parts → Type 0
PlaceStands version number place parts = StandAt (place_width version * number) (place_bytes version place) parts.places

-- the code of a document stands next in Text, and its place in Places
pub record CodeStands (version : ℕ) (coded : List ℕ) (p : Progress) (parts : Parts) : Type 0 where
  pub code : StandAt p.place coded parts.text
  pub place : PlaceStands version p.documents p.place parts

-- a document can stand next
abbrev pub StandsNext : ℕ → TextCode → List ℕ → Progress → Parts → Type 0
StandsNext version code doc p parts = IsNextDoc parts version code doc p

-- the documents that were read are all
abbrev pub EndsAt : Head → TextCode → Progress → Parts → Type 0
EndsAt head code p parts = IsAtEnd parts head code p

-- by the parts of a base, a document stands next, and it was added
abbrev pub FoundMore : Option Files → List ℕ → Head → TextReading → Progress → Progress → Type 0
FoundMore files base head r old new = FoundNext (parts_at files base) head.version r.code old new

-- the parts of a base mean some documents
abbrev pub FoundSet : Option Files → List ℕ → Head → TextReading → Type 0
FoundSet files base head r = FoundText (parts_at files base) (fields_of head) r.code

-- a claim where the reader's codes were told
abbrev pub WhereLoaded : Option Files → List ℕ → Head → TextReading → Type 0 → Type 0
WhereLoaded files base head r claim = IsLoaded files base head r → claim

-- the same where some documents were read too
abbrev pub WhereRead : Option Files → List ℕ → Head → TextReading → Progress → Type 0 → Type 0
WhereRead files base head r p claim = IsLoaded files base head r → (docs : List (List ℕ)) →
    HasRead (parts_at files base) head.version r.code docs p → claim
