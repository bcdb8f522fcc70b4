-- By what the parts show of its lists a query's documents are decided, whatever the parts have.
use Rattle.std.specs.Prelude.{◌≡◌, ℕ, ◌+◌, ◌<◌, ◌≤◌, ◌⊎◌, Bool, true, false, List, length, get_or, slice_index_or, Option, Result, Some, None, IfOk, IfSome, OnOk}
use Rattle.mg_dev.specs.Files.{Files}
use Rattle.mg_dev.specs.declared.part_err.PartErr.{PartErr}
use Rattle.mg_defs.specs.declared.Posting.{Posting}
use Rattle.mg_defs.specs.Codes.{golomb_parameter}
use Rattle.mg_defs.specs.Sat.{Query}
use Rattle.mg_defs.specs.QueryTerms.{query_terms}
use Rattle.mg_query.specs.Holds.{holds}
use Rattle.mg_query.specs.QueryOf.{query_of}
use Rattle.mg_layout.specs.declared.term_info.TermInfo.{TermInfo}
use Rattle.mg_post.specs.Cursor.{Cursoring}
use Rattle.mg_post.specs.TermLists.{IsOverInfo}
use Rattle.mg_post.specs.Shown.{ShowsFirst, StandsShown}
use Rattle.mg_bool.specs.Places.{FirstOf, Place, SamePlaces, is_first, nth_place, number_in}
use Rattle.mg_bool.specs.Matches.{Matching}

-- ---- the lists of the places

-- a cursor over the list that the lexicon tells of
pub record IsCursorOf (base : List ℕ) (info : TermInfo) (all : ℕ) (c : Cursoring) : Type 0 where
  pub over : IsOverInfo c base info all
  pub parameter : 1 ≤ info.docs → c.parameter ≡ golomb_parameter all info.docs

-- a place is over the list that the lexicon tells of its term, or over none where it tells of none
abbrev pub IsListOf : List ℕ → Option TermInfo → ℕ → Place → Type 0
IsListOf base None all None = Unit {0}
IsListOf base None all (Some c) = ⊥
IsListOf base (Some info) all None = ⊥
IsListOf base (Some info) all (Some c) = IsCursorOf base info all c

pub record AreLists (base : List ℕ) (infos : List (Option TermInfo)) (all : ℕ) (places : List Place) : Type 0 where
  pub size : length places ≡ length infos
  pub each : (k : ℕ) → k < length infos → IsListOf base (slice_index_or infos k None) all (nth_place places k)

-- ---- one place

-- the first document of the place's list from a document on is shown, or that there is none
abbrev pub PlaceShows : Place → Option Files → ℕ → Option ℕ → Type 0
PlaceShows None files doc found = found ≡ None
PlaceShows (Some c) files doc found = (p : Option Posting) × ShowsFirst c files doc p × (found ≡ number_in p)

-- it is shown whether the place's list has a document: by the first one from an earlier document on, which is not before it
pub record ShowsWhether (place : Place) (files : Option Files) (doc : ℕ) (has : Bool) : Type 0 where
  pub from : ℕ
  pub early : from ≤ doc
  pub first : Option ℕ
  pub shown : PlaceShows place files from first
  pub later : IfSome first (λ n. doc ≤ n)
  pub told : has ≡ is_first (Some doc) first

-- the place was asked for no document past n, and stands where the parts show it
abbrev pub PlaceStands : Place → Option Files → ℕ → Type 0
PlaceStands None files n = Unit {0}
PlaceStands (Some c) files n = StandsShown c files n

-- where it stands so, a call for a document answers what is shown, and it stands so again
abbrev pub PlaceAsked : Place → Place → Option Files → Option Files → ℕ → Result (Option ℕ) PartErr → Type 0
PlaceAsked old now before after doc result = PlaceStands old before doc →
    IfOk result (λ found. PlaceShows old before doc found × PlaceStands now after doc)

-- ---- all places

pub record PlacesStand (files : Option Files) (places : List Place) (n : ℕ) : Type 0 where
  pub each : (k : ℕ) → PlaceStands (nth_place places k) files n

-- it is shown which of the places' lists have a document
abbrev pub ShowsAll : Option Files → List Place → ℕ → List Bool → Type 0
ShowsAll files places doc there = (k : ℕ) → k < length places →
    ShowsWhether (nth_place places k) files doc (get_or there k true)

-- where the places stand so, it is answered which of their lists are shown to have the document
abbrev pub AllAsked : {T : Type 0} → List Place → List Place → Option Files → Option Files → ℕ → List Bool →
    Result T PartErr → Type 0
AllAsked old now before after doc there result = PlacesStand before old doc →
    OnOk result (ShowsAll before old doc there × PlacesStand after now doc)

-- this first document of all lists from a document on is shown, and which of them have it
pub record ShowsFirstOf (files : Option Files) (places : List Place) (doc : ℕ) (first : Option ℕ) (there : List Bool) :
    Type 0 where
  pub found : ℕ → Option ℕ
  pub shown : (k : ℕ) → k < length places → PlaceShows (nth_place places k) files doc (found k)
  pub least : FirstOf found (length places) first there

-- where the places stand so, it is answered
abbrev pub FirstAsked : List Place → List Place → Option Files → Option Files → ℕ → List Bool →
    Result (Option ℕ) PartErr → Type 0
FirstAsked old now before after doc there result = PlacesStand before old doc →
    IfOk result (λ first. ShowsFirstOf before old doc first there × PlacesStand after now doc)

-- the first document of the list that leads is shown; where none leads it is the next of all
abbrev pub ShowsCandidate : Option Files → List Place → Option ℕ → ℕ → Option ℕ → Type 0
ShowsCandidate files places None decided found = found ≡ Some (decided + 1)
ShowsCandidate files places (Some place) decided found = PlaceShows (nth_place places place) files (decided + 1) found

-- ---- a query's documents

-- of each list it is shown whether it has the document, and by these the query has this value
pub record IsShown (q : Query) (files : Option Files) (places : List Place) (doc : ℕ) (value : Bool) : Type 0 where
  pub there : List Bool
  pub size : length there ≡ length places
  pub each : ShowsAll files places doc there
  pub holds_so : holds q there ≡ value

-- the document is shown not to satisfy the query: the list that leads is shown not to have it, or the query fails by what all lists are shown to have
abbrev pub IsPassed : Query → Option Files → List Place → Option ℕ → ℕ → Type 0
IsPassed q files places None doc = IsShown q files places doc false
IsPassed q files places (Some place) doc = ShowsWhether (nth_place places place) files doc false
    ⊎ IsShown q files places doc false

-- behind the documents that were decided, the one that is answered is shown to satisfy the query, and each one before
-- it not to; where none is answered, each one that is left
pub record DecidesShown (q : Query) (files : Option Files) (places : List Place) (lead : Option ℕ) (all decided : ℕ)
    (found : Option ℕ) : Type 0 where
  pub between : (doc : ℕ) → decided < doc → doc ≤ all → IfSome found (λ n. doc < n) → IsPassed q files places lead doc
  pub answered : IfSome found (λ n. IsShown q files places n true)

-- a place for each term of the query; so many documents were decided, and each place stands where the parts show it
pub record WalkStands (q : Query) (files : Option Files) (places : List Place) (decided : ℕ) : Type 0 where
  pub size : length places ≡ length (query_terms q)
  pub each : PlacesStand files places (decided + 1)

-- the same of the documents that satisfy a query
abbrev pub MatchesStand : Option Files → Matching → Type 0
MatchesStand files m = WalkStands (query_of m.asks) files m.places m.decided

-- the places are over the same lists, and the same one leads
pub record SameLists (old now : Matching) : Type 0 where
  pub places : SamePlaces old.places now.places
  pub lead : now.lead ≡ old.lead

-- where they stand so, what is answered is shown, and they stand so again
abbrev pub AnswersShown : Option Files → Option Files → Matching → Matching → Result (Option ℕ) PartErr → Type 0
AnswersShown before after old now result = MatchesStand before old →
    IfOk result (λ found. DecidesShown (query_of old.asks) before old.places old.lead old.all old.decided found
    × MatchesStand after now)
