-- A reader of a lexicon: what it answers where its parts stand.
use Rattle.std.specs.Prelude.{◌≡◌, ◌≢◌, ◌≤◌, ◌^◌, ℕ, List, length, slice_get, None, Some, Ok, Err}
use Rattle.std.specs.Option.{IsSome}
use Rattle.std.specs.declared.option.Option.{Option}
use Rattle.std.specs.declared.result.Result.{Result}
use Rattle.mg_dev.specs.Files.{Files, bytes_at}
use Rattle.mg_dev.specs.Names.{full_name}
use Rattle.mg_dev.specs.declared.part.Part.TheVariants.{Lex, LexAt}
use Rattle.mg_dev.specs.declared.part_err.PartErr.{PartErr}
use Rattle.mg_dev.specs.declared.part_err.PartErr.TheVariants.{Device, Memory, Bad}
use Rattle.mg_defs.specs.Lexicon as defs
use Rattle.mg_defs.specs.WithinLimits.{IsWithinLimits}
use Rattle.mg_defs.specs.Terms.{dictionary, docs}
use Rattle.mg_front.specs.Reading.{AnswersPlaces, Fronted, IsReader, places_size}
use Rattle.mg_layout.specs.Infos.{IsInfoOf, info_of}
use Rattle.mg_layout.specs.declared.term_info.TermInfo.{TermInfo}
use Rattle.mg_lex.specs.Writing.{WhereBothStay}

-- the two parts of a base are the lexicon of this collection, which has so many terms
pub record IsLexicon (base : List ℕ) (files : Option Files) (terms : ℕ) (collection : List ℕ) : Type 0 where
  pub told : IsSome files
  pub lex_is : bytes_at files (full_name base Lex) ≡ defs.lex_part collection
  pub lex_at_is : bytes_at files (full_name base LexAt) ≡ defs.lex_at_part collection
  pub terms_are : length (dictionary collection) ≡ terms
  pub few : length (dictionary collection) ≤ 2 ^ 22

-- the two parts of a base are the lexicon of this collection, with all its terms
abbrev pub IsLexiconOf : List ℕ → Option Files → List ℕ → Type 0
IsLexiconOf base files collection = IsLexicon base files (length (dictionary collection)) collection

-- this holds of each collection whose lexicon the two parts of a base are, with so many terms
abbrev pub WhereLexicon : List ℕ → Option Files → ℕ → (List ℕ → Type 0) → Type 0
WhereLexicon base files terms holds = (collection : List ℕ) → IsLexicon base files terms collection → holds collection

-- this holds of each collection within the limits of a version
abbrev pub ForEachWithinLimits : (List ℕ → Type 0) → Type 0
ForEachWithinLimits holds = (version : ℕ) (collection : List ℕ) → IsWithinLimits version collection → holds collection

-- a reader of the lexicon under a base, with so many terms
abbrev pub IsLexiconReader : List ℕ → ℕ → Fronted → Type 0
IsLexiconReader base terms r = IsReader r (full_name base Lex) Lex (full_name base LexAt) LexAt 16 terms

-- what comparing the size of the places with so many terms answers
abbrev pub AnswersTermCount : {T : Type 0} → List ℕ → ℕ → Option Files → Result T PartErr → Type 0
AnswersTermCount base terms files result = AnswersPlaces LexAt (places_size terms)
    (bytes_at files (full_name base LexAt)) result

-- the parts of a reader are the lexicon of this collection
pub record LexStands (r : Fronted) (files : Option Files) (collection : List ℕ) : Type 0 where
  pub told : IsSome files
  pub lex : bytes_at files r.strings.name ≡ defs.lex_part collection
  pub lex_at : bytes_at files r.places.name ≡ defs.lex_at_part collection
  pub terms : length (dictionary collection) ≡ r.count
  pub few : length (dictionary collection) ≤ 2 ^ 22

-- this holds between two moments of a store at which the two parts of a reader are the same
abbrev pub WherePartsStay : Fronted → (Option Files → Option Files → Type 0) → Type 0
WherePartsStay r holds = (files files_now : Option Files) →
    WhereBothStay r.strings.name r.places.name files files_now (holds files files_now)

-- if the parts of a reader were the lexicon of this collection, those of another reader are it now
abbrev pub StandsStill : Fronted → Fronted → List ℕ → Option Files → Option Files → Type 0
StandsStill r other collection files files_now = LexStands r files collection → LexStands other files_now collection

-- what the lexicon tells of a term of the collection: its number, and the bytes of its field
pub record IsInfo (info : TermInfo) (collection t : List ℕ) : Type 0 where
  pub number : slice_get (dictionary collection) info.number ≡ Some t
  pub field : defs.info_bytes (info_of info) ≡ defs.info_bytes (defs.info_of collection info.number t)

-- no term of the collection
abbrev pub IsNoTerm : List ℕ → List ℕ → Type 0
IsNoTerm collection t = (i : ℕ) → slice_get (dictionary collection) i ≢ Some t

-- where the parts stand: what they tell of the term, or none exactly where it is no term, and never that a part is bad
abbrev pub AnswersTerm : Result (Option TermInfo) PartErr → List ℕ → List ℕ → Type 0
AnswersTerm (Ok (Some info)) collection t = IsInfo info collection t
AnswersTerm (Ok None) collection t = IsNoTerm collection t
AnswersTerm (Err Device) collection t = Unit {0}
AnswersTerm (Err Memory) collection t = ⊥
AnswersTerm (Err (Bad bad)) collection t = ⊥

-- where the parts stand for a collection within the limits: what stands of the term, or none exactly where no document has it
abbrev pub AnswersInfo : Result (Option TermInfo) PartErr → List ℕ → List ℕ → Type 0
AnswersInfo (Ok (Some info)) collection t = IsInfoOf collection t info
AnswersInfo (Ok None) collection t = docs collection t ≡ 0
AnswersInfo (Err Device) collection t = Unit {0}
AnswersInfo (Err Memory) collection t = ⊥
AnswersInfo (Err (Bad bad)) collection t = ⊥
