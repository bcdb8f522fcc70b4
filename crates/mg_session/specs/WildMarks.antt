-- What is marked and passed on while a pattern is answered.
use Rattle.std.specs.Prelude.{◌≡◌, ◌≢◌, ℕ, ◌+◌, ◌≤◌, ◌<◌, ◌||◌, List, [], All, length, get_or, map, sum_by}
use Rattle.std.specs.List.{flat_map, list_any}
use Rattle.std.specs.declared.result.Result.{Result}
use Rattle.mg_dev.specs.Each.{ForEach}
use Rattle.mg_dev.specs.Files.{Reads}
use Rattle.mg_dev.specs.Moments.{StoreAt}
use Rattle.mg_dev.specs.Names.{full_name}
use Rattle.mg_dev.specs.PartCauses.{HasPartCause}
use Rattle.mg_dev.specs.declared.part.Part.{Part}
use Rattle.mg_dev.specs.declared.part.Part.TheVariants.{Post}
use Rattle.mg_dev.specs.declared.part_err.PartErr.{PartErr}
use Rattle.mg_dev.specs.declared.store.Store as stores
use Rattle.mg_defs.specs.Split.{documents}
use Rattle.mg_defs.specs.Terms.{dictionary, docs, document}
use Rattle.mg_defs.specs.Weights.{has_term}
use Rattle.mg_defs.specs.WildSession.{term_row}
use Rattle.mg_post.specs.ListReading.{ListReading}
use Rattle.mg_post.specs.PagesOnce.{span_pages}
use Rattle.mg_rank.specs.Ranked.{AnswersOr}
use Rattle.mg_wild.specs.Terms.{LexTerms}
use Rattle.mg_session.specs.Calls.{at_store}
use Rattle.mg_session.specs.DocumentSets.{DocumentMarks, has_doc}
use Rattle.mg_session.specs.WildAnswers.{WildSources}

-- the documents of a collection that have one of these terms were added
pub record AddsLists (collection : List ℕ) (ts : List (List ℕ)) (old new : DocumentMarks) : Type 0 where
  pub each : (doc : ℕ) → 1 ≤ doc → doc ≤ length (documents collection) →
      has_doc new doc ≡ (has_doc old doc || list_any (has_term (document collection doc)) ts)

-- the terms of a collection with these numbers
abbrev pub terms_at : List ℕ → List ℕ → List (List ℕ)
terms_at collection numbers = map (λ n. get_or (dictionary collection) n []) numbers

-- what is printed for these terms of a collection
unfoldable pub term_rows : List ℕ → List (List ℕ) → List ℕ
term_rows collection ts = flat_map (λ t. term_row t (docs collection t)) ts

-- and of the terms with these numbers
abbrev pub rows_at : List ℕ → List ℕ → List ℕ
rows_at numbers collection = term_rows collection (terms_at collection numbers)

-- no count falls, and none rises but that of Post
pub record ReadsPost (before now : Reads) : Type 0 where
  pub later : (p : Part) → before p ≤ now p
  pub others : (p : Part) → p ≢ Post → now p ≡ before p

-- a reader of the lists of a base, in a set with so many documents
pub record ReadsBase (base : List ℕ) (all : ℕ) (r : ListReading) : Type 0 where
  pub post : r.post.name ≡ full_name base Post
  pub documents : r.all ≡ all

-- ---- what marking answers, where the lists stand

-- the documents that have one of these terms are marked
abbrev pub MarksLists : List (List ℕ) → DocumentMarks → DocumentMarks → Result (Unit {0}) PartErr → List ℕ → Type 0
MarksLists ts old new result collection = AnswersOr result (λ done. AddsLists collection ts old new)

-- and those that have one of the terms with these numbers
abbrev pub MarksTerms : List ℕ → DocumentMarks → DocumentMarks → Result (Unit {0}) PartErr → List ℕ → Type 0
MarksTerms numbers old new result collection = MarksLists (terms_at collection numbers) old new result collection

-- ---- what marking does to the marks and the store, whatever it answers

-- Documents were marked, or a list is refused.
pub record MarkStep (all : ℕ) (marked_now : DocumentMarks) (before now : StoreAt)
    (result : Result (Unit {0}) PartErr) : Type 0 where
  -- so many documents can be marked
  pub room : marked_now.all ≡ all
  -- no file changes, and nothing but Post is read
  pub files : now.files ≡ before.files
  pub reads : ReadsPost before.reads now.reads
  -- a failing device has its cause
  pub cause : HasPartCause before.faults now.faults result

-- The documents of the terms with these numbers were marked, or a list is refused.
pub record NumbersMarked (base : List ℕ) (terms : LexTerms) (all : ℕ) (numbers : List ℕ) (marked marked_now : DocumentMarks)
    (before now : StoreAt) (result : Result (Unit {0}) PartErr) : Type 0 where
  -- where the lists and the terms are those of a collection, no list is refused for what it holds
  pub answer : ForEach (WildSources base before.files terms all) (MarksTerms numbers marked marked_now result)
  -- and no more pages of Post are read than those on which the list of each term lies
  pub pages : ForEach (WildSources base before.files terms all) (λ collection. now.reads Post
      ≤ before.reads Post + sum_by (span_pages collection) (terms_at collection numbers))
  pub step : MarkStep all marked_now before now result

-- by what the type of the store tells
abbrev pub StepsMarks : {X : Type 0} → stores.Ghosts X → X → X → Result (Unit {0}) PartErr → ℕ → DocumentMarks → Type 0
StepsMarks of_store store store_now result all marked_now = MarkStep all marked_now (at_store of_store store)
    (at_store of_store store_now) result

abbrev pub MarksNumbers : {X : Type 0} → stores.Ghosts X → X → X → Result (Unit {0}) PartErr → List ℕ → LexTerms → ℕ →
    List ℕ → DocumentMarks → DocumentMarks → Type 0
MarksNumbers of_store store store_now result base terms all numbers marked marked_now = NumbersMarked base terms all
    numbers marked marked_now (at_store of_store store) (at_store of_store store_now) result

-- ---- numbers of terms

-- These are numbers of terms, and something is told of each term.
pub record AreNumbersOf (terms : LexTerms) (numbers : List ℕ) : Type 0 where
  pub told : length terms.infos ≡ length terms.terms
  pub below : All (λ n. n < length terms.terms) numbers
