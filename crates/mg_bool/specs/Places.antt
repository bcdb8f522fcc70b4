-- The places of a query's terms: a cursor over the list of each, or none where no document has the term.
use Rattle.std.specs.Prelude.{◌≡◌, ℕ, ◌+◌, ◌≤◌, ◌<◌, ◌==◌, nat_lt, min, true, false, Bool, List, [], length, get_or, slice_index_or, sum_by, Option, Result, Some, None, IfSome}
use Rattle.mg_dev.specs.Files.{Files, Reads}
use Rattle.mg_dev.specs.Names.{full_name}
use Rattle.mg_dev.specs.declared.part.Part.TheVariants as part
use Rattle.mg_dev.specs.declared.part_err.PartErr.{PartErr}
use Rattle.mg_defs.specs.declared.Posting.{Posting}
use Rattle.mg_defs.specs.Split.{documents}
use Rattle.mg_defs.specs.Terms.{document, docs, term_number}
use Rattle.mg_defs.specs.Weights.{has_term}
use Rattle.mg_defs.specs.Lists.{block_count, first_entry, from_doc, postings}
use Rattle.mg_defs.specs.PageBounds.{pages_for}
use Rattle.mg_layout.specs.Infos.{IsInfoOf}
use Rattle.mg_layout.specs.declared.term_info.TermInfo.{TermInfo}
use Rattle.mg_query.specs.Holds.{AreThere}
use Rattle.mg_post.specs.Cursor.{Cursoring, CursorFits, SameList, head_of, post_pages}
use Rattle.mg_post.specs.PagesOnce.{span_pages}
use Rattle.mg_post.specs.Answers.{AnswersList}
use Rattle.mg_post.specs.Finding.{entries_pages}
use Rattle.mg_post.specs.TermLists.{CursorFor, IsAmong, ListsStand, MayAsk, PagesWithin}

-- ---- what the lexicon tells

-- of a term, or none where no document has it
abbrev pub IsToldOf : List ℕ → List ℕ → Option TermInfo → Type 0
IsToldOf collection t None = docs collection t ≡ 0
IsToldOf collection t (Some info) = IsInfoOf collection t info

pub record AreInfos (collection : List ℕ) (ts : List (List ℕ)) (infos : List (Option TermInfo)) : Type 0 where
  pub size : length infos ≡ length ts
  pub each : (k : ℕ) → k < length ts → IsToldOf collection (get_or ts k []) (slice_index_or infos k None)

-- the first of these are told so
abbrev pub TellFirst : List ℕ → List (List ℕ) → List (Option TermInfo) → Type 0
TellFirst collection ts infos = (k : ℕ) → k < length ts → (k < length infos)
    × IsToldOf collection (get_or ts k []) (slice_index_or infos k None)

-- ---- one place

abbrev pub number_in : Option Posting → Option ℕ
number_in None = None
number_in (Some p) = Some p.doc

abbrev pub Place : Type 0
Place = Option Cursoring

abbrev pub PlaceFits : Option Files → Place → Type 0
PlaceFits files None = Unit {0}
PlaceFits files (Some c) = CursorFits c files

-- the pages of Post that its cursor has read
abbrev pub place_pages : Place → ℕ
place_pages None = 0
place_pages (Some c) = post_pages c

-- the pages of Post that a place of a term may read: those of the blocks of its list whose range holds a document that is
-- asked, or where these are fewer those on which the list lies
unfoldable pub place_bound : List ℕ → List ℕ → List ℕ → ℕ
place_bound collection asked t = min (pages_for collection asked t) (span_pages collection t)

-- the pages of Skip on which the entries of the list of a term lie
unfoldable pub term_entries : List ℕ → List ℕ → ℕ
term_entries collection t = entries_pages (first_entry collection (term_number collection t))
    (block_count (length (postings collection t)))

-- over the list of a term that was asked for no document past n; none where no document has the term
abbrev pub PlaceFor : List ℕ → List ℕ → List ℕ → List ℕ → ℕ → Place → Type 0
PlaceFor base collection asked t n None = postings collection t ≡ []
PlaceFor base collection asked t n (Some c) = CursorFor base collection asked t n c

-- over the same list
abbrev pub SamePlace : Place → Place → Type 0
SamePlace None None = Unit {0}
SamePlace None (Some v) = ⊥
SamePlace (Some c) None = ⊥
SamePlace (Some c) (Some v) = SameList c v

-- a cursor over the two parts of this base, among so many documents
pub record CursorOn (base : List ℕ) (all : ℕ) (c : Cursoring) : Type 0 where
  pub post : c.post.name ≡ full_name base part.Post
  pub skip : c.skip.name ≡ full_name base part.Skip
  pub all_is : c.all ≡ all

abbrev pub PlaceOn : List ℕ → ℕ → Place → Type 0
PlaceOn base all None = Unit {0}
PlaceOn base all (Some c) = CursorOn base all c

-- it may be asked for the document: the lists stand, and each block of its list whose range holds the document may be read
pub record AsksPlace (base collection asked t : List ℕ) (doc : ℕ) (files : Option Files) (p : Place) : Type 0 where
  pub stand : ListsStand base files collection
  pub place : PlaceFor base collection asked t doc p
  pub among : IsAmong asked (postings collection t) doc

-- the first document of the list from the one asked for on
pub record AnswersPlace (base collection asked t : List ℕ) (doc : ℕ) (found : Option ℕ) (p : Place) : Type 0 where
  pub found_is : found ≡ number_in (head_of (from_doc doc (postings collection t)))
  pub place : PlaceFor base collection asked t doc p

-- a place for a term of which this is told, before anything was asked of it
abbrev pub StartsPlace : List ℕ → Option TermInfo → ℕ → Place → Type 0
StartsPlace base info all p = (collection asked t : List ℕ) (n : ℕ) → IsToldOf collection t info →
    all ≡ length (documents collection) → PlaceFor base collection asked t n p

-- where a cursor may be asked for the document, the answer is the first document of its list from that one on
abbrev pub CursorAnswers : ℕ → Option Files → Cursoring → Cursoring → Result (Option ℕ) PartErr → Type 0
CursorAnswers doc files old now result = (base collection asked t : List ℕ) →
    MayAsk base collection asked t doc files old →
    AnswersList result (λ found. (found ≡ number_in (head_of (from_doc doc (postings collection t))))
    × CursorFor base collection asked t doc now)

-- where it may be asked, no more pages of Post are read than its place may read for the documents that are asked
abbrev pub CursorReads : ℕ → Option Files → Cursoring → Cursoring → Reads → Reads → Type 0
CursorReads doc files old now before after = (base collection asked t : List ℕ) →
    MayAsk base collection asked t doc files old →
    PagesWithin (place_bound collection asked t) (post_pages old) (post_pages now) before after

-- where a place may be asked for the document, the answer is the first document of its list from that one on
abbrev pub PlaceAnswers : ℕ → Option Files → Place → Place → Result (Option ℕ) PartErr → Type 0
PlaceAnswers doc files old now result = (base collection asked t : List ℕ) →
    AsksPlace base collection asked t doc files old →
    AnswersList result (λ found. AnswersPlace base collection asked t doc found now)

-- where it may be asked, no more pages of Post are read than its place may read for the documents that are asked
abbrev pub PlaceReads : ℕ → Option Files → Place → Place → Reads → Reads → Type 0
PlaceReads doc files old now before after = (base collection asked t : List ℕ) →
    AsksPlace base collection asked t doc files old →
    PagesWithin (place_bound collection asked t) (place_pages old) (place_pages now) before after

-- a document from the one asked for up to the last of all
abbrev pub IsInRange : ℕ → ℕ → ℕ → Type 0
IsInRange doc all found = (doc ≤ found) × (found ≤ all)

-- ---- all places

-- the place of this number
abbrev pub nth_place : List Place → ℕ → Place
nth_place places i = slice_index_or places i None

abbrev pub pages_read : List Place → ℕ
pages_read places = sum_by place_pages places

pub record PlacesFit (files : Option Files) (places : List Place) : Type 0 where
  pub each : (k : ℕ) → k < length places → PlaceFits files (slice_index_or places k None)

-- over the same lists
pub record SamePlaces (old now : List Place) : Type 0 where
  pub size : length now ≡ length old
  pub each : (k : ℕ) → SamePlace (slice_index_or old k None) (slice_index_or now k None)

-- over the two parts of this base, among so many documents
pub record PlacesOn (base : List ℕ) (all : ℕ) (places : List Place) : Type 0 where
  pub each : (k : ℕ) → PlaceOn base all (slice_index_or places k None)

pub record PlacesFor (base collection asked : List ℕ) (ts : List (List ℕ)) (n : ℕ) (places : List Place) : Type 0 where
  pub size : length places ≡ length ts
  pub each : (k : ℕ) → k < length ts → PlaceFor base collection asked (get_or ts k []) n (slice_index_or places k None)

-- all may be asked for the document
pub record AsksAll (base collection asked : List ℕ) (ts : List (List ℕ)) (doc : ℕ) (files : Option Files)
    (places : List Place) : Type 0 where
  pub stand : ListsStand base files collection
  pub places_for : PlacesFor base collection asked ts doc places
  pub within : doc ≤ length (documents collection)
  pub among : (t : List ℕ) → IsAmong asked (postings collection t) doc

pub record AnswersAll (base collection asked : List ℕ) (ts : List (List ℕ)) (doc : ℕ) (there : List Bool)
    (places : List Place) : Type 0 where
  pub places_for : PlacesFor base collection asked ts doc places
  pub are_there : AreThere (document collection doc) ts there

-- places for terms of which these are told, before anything was asked of them
abbrev pub StartPlaces : List ℕ → List (Option TermInfo) → ℕ → List Place → Type 0
StartPlaces base infos all places = (collection asked : List ℕ) (ts : List (List ℕ)) (n : ℕ) →
    AreInfos collection ts infos → all ≡ length (documents collection) → PlacesFor base collection asked ts n places

-- where all may be asked for the document, the answer is of which terms it has one
abbrev pub PlacesAnswer : {T : Type 0} → ℕ → Option Files → List Place → List Place → List Bool → Result T PartErr →
    Type 0
PlacesAnswer doc files old now there result = (base collection asked : List ℕ) (ts : List (List ℕ)) →
    AsksAll base collection asked ts doc files old →
    AnswersList result (λ _. AnswersAll base collection asked ts doc there now)

-- where all may be asked, no more pages of Post are read than their places may read for the documents that are asked
abbrev pub PlacesRead : ℕ → Option Files → List Place → List Place → Reads → Reads → Type 0
PlacesRead doc files old now before after = (base collection asked : List ℕ) (ts : List (List ℕ)) →
    AsksAll base collection asked ts doc files old →
    PagesWithin (sum_by (place_bound collection asked) ts) (pages_read old) (pages_read now) before after

-- ---- the first document that the list of any place has

-- the first document of the term's list from this one on
abbrev pub first_from : List ℕ → ℕ → List ℕ → Option ℕ
first_from collection doc t = number_in (head_of (from_doc doc (postings collection t)))

-- one is found, before the first so far
abbrev pub comes_sooner : Option ℕ → Option ℕ → Bool
comes_sooner None first = false
comes_sooner (Some doc) None = true
comes_sooner (Some doc) (Some n) = nat_lt doc n

-- what is found is this first one
abbrev pub is_first : Option ℕ → Option ℕ → Bool
is_first None found = false
is_first (Some n) None = false
is_first (Some n) (Some doc) = doc == n

-- what is found is not before the first one; where there is no first one, nothing is found
abbrev pub IsNoLater : Option ℕ → Option ℕ → Type 0
IsNoLater None found = found ≡ None
IsNoLater (Some n) found = IfSome found (λ doc. n ≤ doc)

-- of the documents that were found in the first so many lists this is the least, and it is told which lists have it
pub record FirstOf (found : ℕ → Option ℕ) (count : ℕ) (first : Option ℕ) (there : List Bool) : Type 0 where
  pub least : (k : ℕ) → k < count → IsNoLater first (found k)
  pub one : IfSome first (λ n. (k : ℕ) × (k < count) × (found k ≡ Some n))
  pub told : (k : ℕ) → k < count → get_or there k true ≡ is_first first (found k)

-- with what list i has found, the first one of the lists before becomes that of the lists up to i
abbrev pub TakesFound : Option ℕ → ℕ → Option ℕ → List Bool → Option ℕ → List Bool → Type 0
TakesFound found i first there first_now there_now = (documents : ℕ → Option ℕ) → documents i ≡ found →
    FirstOf documents i first there → FirstOf documents (i + 1) first_now there_now

-- the least of the first documents of these lists from this one on, and which terms it has; the places were asked for it
pub record AnswersFirst (base collection asked : List ℕ) (ts : List (List ℕ)) (doc : ℕ) (first : Option ℕ)
    (there : List Bool) (places : List Place) : Type 0 where
  pub places_for : PlacesFor base collection asked ts doc places
  pub least : (k : ℕ) → k < length ts → IsNoLater first (first_from collection doc (get_or ts k []))
  pub one : IfSome first (λ n. (k : ℕ) × (k < length ts) × (first_from collection doc (get_or ts k []) ≡ Some n))
  pub are_there : IfSome first (λ n. AreThere (document collection n) ts there)

-- where all may be asked for the document, the answer is the first document from it on of any list, and of which terms that one has one
abbrev pub FindsFirst : ℕ → Option Files → List Place → List Place → List Bool → Result (Option ℕ) PartErr → Type 0
FindsFirst doc files old now there result = (base collection asked : List ℕ) (ts : List (List ℕ)) →
    AsksAll base collection asked ts doc files old →
    AnswersList result (λ first. AnswersFirst base collection asked ts doc first there now)

-- ---- while a document is asked of all places

-- those below i were asked for it
pub record Asking (base collection asked : List ℕ) (ts : List (List ℕ)) (doc i : ℕ) (old now : List Place)
    (there : List Bool) (before after : Reads) : Type 0 where
  pub places_for : PlacesFor base collection asked ts doc now
  pub found : (k : ℕ) → k < i → k < length ts → get_or there k true
      ≡ has_term (document collection doc) (get_or ts k [])
  pub post : after part.Post + pages_read old ≤ before part.Post + pages_read now
