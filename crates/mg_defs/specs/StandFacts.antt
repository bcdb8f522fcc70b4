-- What laws say of collections with their codes, of documents that bytes begin with, and of parts that stand for a collection or mean documents.
use Rattle.std.specs.Prelude.{◌≡◌, ◌⊎◌, ℕ, ◌≤◌, ◌^◌, ◌==◌, if◌then◌else◌, List, length, take, drop, All, Contains}
use Rattle.mg_defs.specs.declared.Stream.{Stream}
use Rattle.mg_defs.specs.declared.Stream.TheVariants.{Words, Others}
use Rattle.mg_defs.specs.CodedText.{IsTextCode, StreamCode, TextCode}
use Rattle.mg_defs.specs.Heads.{Head}
use Rattle.mg_defs.specs.Limits.{least_cap, greatest_cap}
use Rattle.mg_defs.specs.Means.{AreRest, BeginsWithDocuments, IsCodable, IsModel, IsStreamCode, IsUsedWell, Mean, Tell, docs_bytes}
use Rattle.mg_defs.specs.Split.{IsSplit, joined}
use Rattle.mg_defs.specs.Stands.{AreParts, Parts, Stand, head_of}
use Rattle.mg_defs.specs.Vocabulary.{all_pieces}
use Rattle.mg_defs.specs.WithinLimits.{IsWithinLimits}

-- ---- a collection and its code

-- for each collection within the limits of a version, and each code of it
abbrev pub ForCodes : (ℕ → List ℕ → TextCode → Type 0) → Type 0
ForCodes fact = (version : ℕ) (collection : List ℕ) (code : TextCode) → IsWithinLimits version collection →
    IsTextCode collection code → fact version collection code

-- the same for version 1 or 2 and each number of occurrences that a full run may take
abbrev pub ForCapped : (ℕ → ℕ → List ℕ → TextCode → Type 0) → Type 0
ForCapped fact = (version cap : ℕ) (collection : List ℕ) (code : TextCode) → (version ≡ 1) ⊎ (version ≡ 2) →
    least_cap ≤ cap → cap ≤ greatest_cap →
    IsWithinLimits version collection → IsTextCode collection code → fact version cap collection code

-- more bytes than the text of a collection within the limits has
abbrev pub text_bound : ℕ → ℕ
text_bound version = if version == 1 then 2 ^ 32 else 2 ^ 60

-- for each code that has all pieces of a collection's stream
abbrev pub ForKnownPieces : (Stream → List ℕ → StreamCode → Type 0) → Type 0
ForKnownPieces fact = (kind : Stream) (collection : List ℕ) (code : StreamCode) → IsStreamCode code →
    All (Contains code.pieces) (all_pieces kind collection) →
    fact kind collection code

-- ---- documents that bytes begin with

-- where the code is that of a model, and both documents can be coded in it
abbrev pub WhereCodable : TextCode → List ℕ → List ℕ → Type 0 → Type 0
WhereCodable code d e fact = IsModel code → IsCodable code d → IsCodable code e → fact

-- these are the first of those
abbrev pub AreFirstOf : List (List ℕ) → List (List ℕ) → Type 0
AreFirstOf ds es = ds ≡ take (length ds) es

-- the bytes of those that come after as many as these
abbrev pub later_bytes : TextCode → List (List ℕ) → List (List ℕ) → List ℕ
later_bytes code ds es = docs_bytes code (drop (length ds) es)

-- these are the first of those, and the rest is the bytes of the others
abbrev pub AreFirstBefore : TextCode → List (List ℕ) → List ℕ → List (List ℕ) → Type 0
AreFirstBefore code ds rest es = AreFirstOf ds es × (rest ≡ later_bytes code ds es)

-- for all documents ds and es, no fewer, with both of which the same bytes begin, and what follows each
abbrev pub ForBeginnings : (TextCode → List (List ℕ) → List (List ℕ) → List ℕ → List ℕ → Type 0) → Type 0
ForBeginnings fact = (code : TextCode) (bytes : List ℕ) (ds es : List (List ℕ)) (u v : List ℕ) → IsModel code →
    BeginsWithDocuments code bytes ds u →
    BeginsWithDocuments code bytes es v → length ds ≤ length es → fact code ds es u v

-- ---- parts

-- the head is that of the collection, in its version and with its cap
abbrev pub IsItsHead : Head → TextCode → List ℕ → Type 0
IsItsHead h code collection = h ≡ head_of h.version h.cap code collection

-- the parts are those of the collection, in the version of the head and with its cap
abbrev pub AreItsParts : Head → TextCode → Parts → List ℕ → Type 0
AreItsParts h code parts collection = AreParts h.version h.cap code parts collection

-- for the parts of each collection
abbrev pub ForParts : (ℕ → ℕ → TextCode → Parts → List ℕ → Type 0) → Type 0
ForParts fact = (version cap : ℕ) (code : TextCode) (parts : Parts) (collection : List ℕ) →
    AreParts version cap code parts collection →
    fact version cap code parts collection

-- for two meanings of the same parts
abbrev pub ForMeanings : (Head → Head → TextCode → TextCode → List (List ℕ) → List (List ℕ) → Type 0) → Type 0
ForMeanings fact = (parts : Parts) (h k : Head) (code other : TextCode) (ds es : List (List ℕ)) → Mean parts h code ds →
    Mean parts k other es →
    fact h k code other ds es

-- for parts that tell a head and a code and stand for a collection
abbrev pub ForTold : (Parts → Head → TextCode → List ℕ → Type 0) → Type 0
ForTold fact = (parts : Parts) (h : Head) (code : TextCode) (collection : List ℕ) → Tell parts h code →
    Stand parts collection → fact parts h code collection

-- the same where the text begins with documents, so many for the number of the head, and a rest follows them
abbrev pub ForRead : (ℕ → ℕ → Type 0) → (TextCode → List (List ℕ) → List ℕ → List ℕ → Type 0) → Type 0
ForRead so_many fact = (parts : Parts) (h : Head) (code : TextCode) (docs : List (List ℕ)) (rest collection : List ℕ) →
    Tell parts h code →
    BeginsWithDocuments code parts.text docs rest → so_many (length docs) h.documents → Stand parts collection →
    fact code docs rest collection

-- for parts that mean documents, and the collection of these with the end that the head tells
abbrev pub ForMeaning : (Parts → Head → TextCode → List (List ℕ) → List ℕ → Type 0) → Type 0
ForMeaning fact = (parts : Parts) (h : Head) (code : TextCode) (docs : List (List ℕ)) → Mean parts h code docs →
    fact parts h code docs (joined docs h.open_end)

-- for parts that mean documents, and a collection for which they stand
abbrev pub ForStanding : (Parts → Head → TextCode → List (List ℕ) → List ℕ → Type 0) → Type 0
ForStanding fact = (parts : Parts) (h : Head) (code : TextCode) (docs : List (List ℕ)) (collection : List ℕ) →
    Mean parts h code docs → Stand parts collection →
    fact parts h code docs collection

-- where the documents are the collection's, its pieces use the codes well, the head is its head, and the other parts are those of it
abbrev pub WhereAllFit : Parts → Head → TextCode → List (List ℕ) → List ℕ → Type 0 → Type 0
WhereAllFit parts h code docs collection fact = IsSplit collection docs h.open_end →
    IsUsedWell Words collection code.words → IsUsedWell Others collection code.others →
    IsItsHead h code collection → AreRest h.version h.cap code parts collection → fact
