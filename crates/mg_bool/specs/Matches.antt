-- The documents that satisfy a query, one after another: what contracts see of them.
use Rattle.std.specs.Prelude.{◌≡◌, ℕ, ◌+◌, ◌<◌, ◌≤◌, ◌∷◌, ◌-◌, List, [], length, get_or, drop, sum_by, unwrap_or, Option, Result, Some, None}
use Rattle.mg_dev.specs.Files.{Files, Reads}
use Rattle.mg_dev.specs.Names.{full_name}
use Rattle.mg_dev.specs.declared.part.Part.TheVariants as part
use Rattle.mg_dev.specs.declared.part_err.PartErr.{PartErr}
use Rattle.mg_defs.specs.Split.{documents}
use Rattle.mg_defs.specs.Lists.{postings}
use Rattle.mg_defs.specs.Sat.{Query}
use Rattle.mg_query.specs.declared.query.Query as declared
use Rattle.mg_query.specs.QueryOf.{query_of}
use Rattle.mg_defs.specs.QueryTerms.{query_terms}
use Rattle.mg_defs.specs.ShownAnswers.{Shown, found}
use Rattle.mg_defs.specs.PageBounds.{asked_of, boolean_bound, leading, leftmost_fewest}
use Rattle.mg_layout.specs.declared.term_info.TermInfo.{TermInfo}
use Rattle.mg_bits.specs.Alike.{WhereSame}
use Rattle.mg_post.specs.Answers.{AnswersList}
use Rattle.mg_post.specs.TermLists.{IsAmong, ListsStand, PagesWithin}
use Rattle.mg_bool.specs.Places.{AreInfos, Place, PlacesFit, PlacesFor, PlacesOn, pages_read, place_bound}

pub record Matching : Type 0 where
  -- the query, its places from left to right, and which of them leads
  pub asks : declared.Query
  pub places : List Place
  pub lead : Option ℕ
  -- how many documents there are, and the last one that was decided
  pub all : ℕ
  pub decided : ℕ

-- the place is that of the term that leads, where one does
abbrev pub Leads : List ℕ → Query → Option ℕ → Type 0
Leads collection q None = leading q ≡ []
Leads collection q (Some place) = (place < length (query_terms q)) ×
    (leftmost_fewest collection (leading q) ≡ Some (get_or (query_terms q) place []))

-- the places go over the documents of this collection, whose lists stand under the base, and so many were decided
pub record PlacesOver (base collection : List ℕ) (q : Query) (places : List Place) (lead : Option ℕ) (all decided : ℕ) :
    Type 0 where
  pub each : PlacesFor base collection (asked_of collection q) (query_terms q) (decided + 1) places
  pub leads : Leads collection q lead
  pub all_is : all ≡ length (documents collection)
  pub within : decided ≤ all

abbrev pub MatchesOver : List ℕ → List ℕ → Matching → Type 0
MatchesOver base collection m = PlacesOver base collection (query_of m.asks) m.places m.lead m.all m.decided

-- and the lists stand
pub record GoesOver (base collection : List ℕ) (q : Query) (files : Option Files) (places : List Place)
    (lead : Option ℕ) (all decided : ℕ) : Type 0 where
  pub stand : ListsStand base files collection
  pub over : PlacesOver base collection q places lead all decided

-- the same query over as many documents
pub record SameMatches (old new : Matching) : Type 0 where
  pub asks : new.asks ≡ old.asks
  pub all : new.all ≡ old.all

-- what it keeps agrees with the two parts of this base
pub record MatchesFit (base : List ℕ) (files : Option Files) (m : Matching) : Type 0 where
  pub on : PlacesOn base m.all m.places
  pub fits : PlacesFit files m.places

-- the documents that satisfy the query behind so many of them, rising
abbrev pub left_in : List ℕ → Query → ℕ → List Shown
left_in collection q decided = found q (decided + 1) (drop decided (documents collection))

-- those that were not answered yet
abbrev pub left_of : List ℕ → Matching → List Shown
left_of collection m = left_in collection (query_of m.asks) m.decided

-- the next one is its number, or none where none is left; then those after it are left
abbrev pub GoesOn : List Shown → List Shown → Option ℕ → Type 0
GoesOn [] now None = now ≡ []
GoesOn [] now (Some doc) = ⊥
GoesOn (s ∷ more) now None = ⊥
GoesOn (s ∷ more) now (Some doc) = (doc ≡ s.number) × (now ≡ more)

-- no document between satisfies the query, and this one may be asked of each place
pub record IsNextDoc (collection : List ℕ) (q : Query) (decided doc : ℕ) : Type 0 where
  pub later : decided < doc
  pub within : doc ≤ length (documents collection)
  pub same : left_in collection q decided ≡ found q doc (drop (doc - 1) (documents collection))
  pub among : (t : List ℕ) → IsAmong (asked_of collection q) (postings collection t) doc

abbrev pub IsNext : List ℕ → Query → ℕ → Option ℕ → Type 0
IsNext collection q decided None = left_in collection q decided ≡ []
IsNext collection q decided (Some doc) = IsNextDoc collection q decided doc

-- the place that leads is one of so many
abbrev pub IsWithin : Option ℕ → ℕ → Type 0
IsWithin None n = Unit {0}
IsWithin (Some place) n = place < n

-- ---- what a call finds and reads

-- the pages of Post that a query may read: at each place of a term those that the place may read for the documents that are asked
unfoldable pub query_bound : List ℕ → Query → ℕ
query_bound collection q = sum_by (place_bound collection (asked_of collection q)) (query_terms q)

-- before the first document that satisfies the query, of whose terms these are told
abbrev pub StartsMatches : List ℕ → Query → List (Option TermInfo) → ℕ → Matching → Type 0
StartsMatches base q infos all m = (collection : List ℕ) → AreInfos collection (query_terms q) infos →
    all ≡ length (documents collection) → MatchesOver base collection m

-- for each base and collection over whose documents it goes, and whose lists stand
abbrev pub ForMatches : Option Files → Matching → (List ℕ → List ℕ → Type 0) → Type 0
ForMatches files m claim = (base collection : List ℕ) → ListsStand base files collection →
    MatchesOver base collection m → claim base collection

-- the first of what was left was answered, and it goes on over what follows it
abbrev pub MatchesGoOn : List ℕ → List ℕ → Matching → Matching → Option ℕ → Type 0
MatchesGoOn base collection old now found = GoesOn (left_of collection old) (left_of collection now) found
    × MatchesOver base collection now

-- no more pages of Post are read than those of the blocks whose range holds a document that is asked
abbrev pub MatchesRead : List ℕ → Matching → Matching → Reads → Reads → Type 0
MatchesRead collection old now before after = PagesWithin (boolean_bound collection (query_of old.asks))
    (pages_read old.places) (pages_read now.places) before after

-- how many documents are decided with an answer: those up to it, or all where there is none
abbrev pub decided_by : ℕ → Option ℕ → ℕ
decided_by all found = unwrap_or found all

-- where the places go over a collection's documents, the answer is the next one that may satisfy the query
abbrev pub FindsCandidate : Query → Option Files → Option ℕ → ℕ → List Place → List Place → ℕ →
    Result (Option ℕ) PartErr → Type 0
FindsCandidate q files lead all old now decided result = (base collection : List ℕ) →
    GoesOver base collection q files old lead all decided →
    AnswersList result (λ found. IsNext collection q decided found ×
    PlacesFor base collection (asked_of collection q) (query_terms q) (decided + 1) now)

-- where they do, the answer is the next one that satisfies it; for each answer it is told how many documents are decided then
abbrev pub FindsNext : Query → Option Files → Option ℕ → ℕ → List Place → List Place → ℕ → (Option ℕ → ℕ) →
    Result (Option ℕ) PartErr → Type 0
FindsNext q files lead all old now decided decided_now result = (base collection : List ℕ) →
    GoesOver base collection q files old lead all decided →
    AnswersList result (λ found. GoesOn (left_in collection q decided) (left_in collection q (decided_now found)) found
    × PlacesOver base collection q now lead all (decided_now found))

-- where they do, no more pages of Post are read than the query may read of the collection
abbrev pub ReadsBetween : Query → Option Files → Reads → Reads → Option ℕ → ℕ → List Place → List Place → ℕ → Type 0
ReadsBetween q files before after lead all old now decided = (base collection : List ℕ) →
    GoesOver base collection q files old lead all decided →
    PagesWithin (query_bound collection q) (pages_read old) (pages_read now) before after

-- the same of a store, by what tells its files and its reads
abbrev pub ReadsNext : {X : Type 0} → Query → (X → Option Files) → (X → Reads) → X → X → Option ℕ → ℕ → List Place →
    List Place → ℕ → Type 0
ReadsNext q files reads before after lead all old now decided = ReadsBetween q (files before) (reads before)
    (reads after) lead all old now decided

-- a claim for which the two parts of a base have to stay as they are
abbrev pub WhereListsStay : List ℕ → Option Files → Option Files → Type 0 → Type 0
WhereListsStay base files_before files_now claim = WhereSame files_before files_now (full_name base part.Post)
    (full_name base part.Skip) claim
