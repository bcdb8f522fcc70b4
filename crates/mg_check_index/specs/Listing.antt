-- The lists of a range of terms in one vector, and lists, skip entries and lexicon as far as the terms below a number.
use Rattle.std.specs.Prelude.{◌≡◌, ◌<◌, ◌≤◌, ◌+◌, ◌-◌, ◌^◌, ℕ, List, [], ◌++◌, IfErr, OnOk, length, map, filter, flat_map, take, drop, get_or, slice_get, slice_index, nat_eq, Some}
use Rattle.std.specs.Cmp.Lexicographic.{slice_cmp}
use Rattle.std.specs.List.Sorted.{IsStrictlySortedBy}
use Rattle.std.specs.Option.{IsSome}
use Rattle.std.specs.Ordering.{nat_cmp}
use Rattle.std.specs.declared.option.Option.{Option}
use Rattle.std.specs.declared.result.Result.{Result}
use Rattle.mg_dev.specs.Files.{Files, Reads, bytes_at}
use Rattle.mg_dev.specs.Names.{full_name}
use Rattle.mg_dev.specs.declared.part.Part.TheVariants.{Lex, LexAt, Post, Skip}
use Rattle.mg_dev.specs.declared.part_err.PartErr.{PartErr}
use Rattle.mg_defs.specs.Limits.{version_2}
use Rattle.mg_defs.specs.declared.Posting.{Posting}
use Rattle.mg_defs.specs.Bits.{as_bytes}
use Rattle.mg_defs.specs.Lexicon.{lex_at_part, lex_part}
use Rattle.mg_defs.specs.Lists.{entry_bits, inverted, lists_bits, lists_entries, postings, skip_bits}
use Rattle.mg_defs.specs.PostingLists.{postings_upto}
use Rattle.mg_defs.specs.Split.{documents}
use Rattle.mg_defs.specs.Stands.{post_part}
use Rattle.mg_defs.specs.Terms.{dictionary, docs}
use Rattle.mg_layout.specs.Contents.{StandAt}
use Rattle.mg_layout.specs.Infos.{info_of}
use Rattle.mg_layout.specs.declared.term_info.TermInfo.{TermInfo}
use Rattle.mg_lex.specs.Terms.{Term, terms_of}
use Rattle.mg_lex.specs.Writing.{LexWriting, TookTerms}
use Rattle.mg_model.specs.Terms.{TermNumbers}
use Rattle.mg_post.specs.Writing.{Listing, Took}
use Rattle.mg_check_index.specs.InPair.{pair_files, set_name}
use Rattle.mg_check_index.specs.declared.pair_store.WrittenPair.{WrittenPair}
use Rattle.mg_check_parts.specs.Looks.{LooksAtSet}
use Rattle.mg_check_parts.specs.Refusals.{Refutes}
use Rattle.mg_check_index.specs.declared.indexed.Indexed.{Indexed}
use Rattle.mg_check_index.specs.declared.lists.Compared.{Compared}
use Rattle.mg_check_index.specs.declared.lists.Places.{Places}

-- ---- sizes

-- there is a number of documents for each of so many terms, at least 1 and at most that of all
pub record AreSizes (docs : List ℕ) (terms all : ℕ) : Type 0 where
  pub each : length docs ≡ terms
  pub some : (k : ℕ) → k < length docs → 1 ≤ slice_index docs k
  pub within : (k : ℕ) → k < length docs → slice_index docs k ≤ all

-- ---- the lists of a range of terms

-- the number of the first term, where each list begins and the last one ends, where the next posting of each goes, all
-- postings, and how many more of them may be kept beside without memory
pub record Ranged : Type 0 where
  pub first : ℕ
  pub starts : List ℕ
  pub next : List ℕ
  pub postings : List Posting
  pub left : ℕ

-- the lists follow one another, and each is within its room
pub record IsLaidOut (w : Ranged) : Type 0 where
  pub count : length w.starts ≡ length w.next + 1
  pub begun : (k : ℕ) → k < length w.next → slice_index w.starts k ≤ slice_index w.next k
  pub within : (k : ℕ) → k < length w.next → slice_index w.next k ≤ slice_index w.starts (k + 1)
  pub rise : (j k : ℕ) → j ≤ k → k < length w.starts → slice_index w.starts j ≤ slice_index w.starts k
  pub whole : (k : ℕ) → k < length w.starts → slice_index w.starts k ≤ length w.postings

-- the room of list k
abbrev pub room_at : Ranged → ℕ → ℕ
room_at w k = slice_index w.starts (k + 1) - slice_index w.starts k

-- what list k holds
abbrev pub list_at : Ranged → ℕ → List Posting
list_at w k = take (slice_index w.next k - slice_index w.starts k) (drop (slice_index w.starts k) w.postings)

-- so many of the lists of a range, from one of them on
abbrev pub some_of : Ranged → ℕ → ℕ → Ranged
some_of w first count = record {
  first = w.first + first;
  starts = take (count + 1) (drop first w.starts);
  next = take count (drop first w.next);
  postings = w.postings;
  left = w.left;
}

-- the lists of the terms from one on to before another, with room for so many postings each
pub record HasRooms (w : Ranged) (docs : List ℕ) (first end : ℕ) : Type 0 where
  pub first_is : w.first ≡ first
  pub count : length w.next ≡ end - first
  pub rooms : (k : ℕ) → k < length w.next → room_at w k ≡ slice_index docs (first + k)

-- the lists hold those that a term's number tells
pub record HoldsLists (w : Ranged) (lists : ℕ → List Posting) : Type 0 where
  pub each : (k : ℕ) → k < length w.next → list_at w k ≡ lists (w.first + k)

-- there is room for these lists
pub record HasRoomFor (w : Ranged) (lists : ℕ → List Posting) : Type 0 where
  pub each : (k : ℕ) → k < length w.next → length (lists (w.first + k)) ≤ room_at w k

-- the same lists, of which each may hold others
pub record SameRooms (old new : Ranged) : Type 0 where
  pub first : new.first ≡ old.first
  pub starts : new.starts ≡ old.starts
  pub count : length new.next ≡ length old.next

-- a step that adds to lists, and takes room beside for at most so many postings: they are the same ones, and each is still
-- within its room
pub record KeepsRooms (old new : Ranged) (beside : ℕ) : Type 0 where
  pub laid : IsLaidOut new
  pub same : SameRooms old new
  pub left : old.left ≤ new.left + beside

-- the postings of a document, by the terms that it has and how often each comes, in the list of one of them
abbrev pub postings_in : ℕ → List (ℕ × ℕ) → ℕ → List Posting
postings_in doc counted number = map (λ (e : ℕ × ℕ). record { doc = doc; freq = e.1 })
    (filter (λ (e : ℕ × ℕ). nat_eq e.0 number) counted)

-- these lists, each with what a document adds
abbrev pub with_document : (ℕ → List Posting) → ℕ → List (ℕ × ℕ) → ℕ → List Posting
with_document lists doc counted number = lists number ++ postings_in doc counted number

-- the list of the term with this number, as far as the first n documents go
abbrev pub lists_upto : ℕ → List ℕ → ℕ → List Posting
lists_upto n collection number = postings_upto n collection (get_or (dictionary collection) number [])

-- the whole list of that term
abbrev pub lists_of : List ℕ → ℕ → List Posting
lists_of collection number = postings collection (get_or (dictionary collection) number [])

-- each list has room for as many postings as documents have its term
pub record HasRoomForAll (w : Ranged) (collection : List ℕ) : Type 0 where
  pub each : (k : ℕ) → k < length w.next → room_at w k ≡ docs collection
      (get_or (dictionary collection) (w.first + k) [])

-- the rooms are those of lists of some of so many documents
pub record AreRooms (w : Ranged) (all : ℕ) : Type 0 where
  pub some : (k : ℕ) → k < length w.next → 1 ≤ room_at w k
  pub within : (k : ℕ) → k < length w.next → room_at w k ≤ all

-- ---- what is written anew

-- what is to stand of a term
abbrev pub term_of : List ℕ → TermInfo → Term
term_of t info = record { string = t; info = info_of info }

-- The lexicon has the terms below a number.
pub record CanPush (terms : List (List ℕ)) (number : ℕ) (lex : LexWriting) (files : Option Files) : Type 0 where
  pub before : List Term
  pub took : TookTerms lex files before
  pub count : lex.front.count ≡ number
  pub last : (k : ℕ) → k + 1 ≡ number → slice_get terms k ≡ Some lex.front.last

-- The first lists of a range were written.
pub record CanList (w : Ranged) (index : ℕ) (lists : Listing) (files : Option Files) : Type 0 where
  pub done : List (List Posting)
  pub took : Took lists files done []
  pub between : lists.pushed ≡ 0
  pub total : lists.total + slice_index w.starts 0 ≡ slice_index w.starts index
  pub rooms : AreRooms w lists.all

-- the bytes of the lists of the terms below a number, and those of their skip entries
abbrev pub post_upto : ℕ → List ℕ → List ℕ
post_upto number collection = as_bytes (lists_bits (length (documents collection)) (take number (inverted collection)))

abbrev pub skip_upto : ℕ → List ℕ → List ℕ
skip_upto number collection =
    as_bytes (flat_map entry_bits (lists_entries (length (documents collection)) (take number (inverted collection))))

-- the places are behind the lists of the terms below a number
pub record ArePlacesOf (number : ℕ) (places : Places) (collection : List ℕ) : Type 0 where
  pub post_is : places.post ≡ length (post_upto number collection)
  pub skip_is : places.skip ≡ length (skip_upto number collection)

-- the terms of a range and their lists are those of a collection
pub record IsRangeOf (w : Ranged) (terms : List (List ℕ)) (all : ℕ) (collection : List ℕ) : Type 0 where
  pub terms_are : terms ≡ dictionary collection
  pub all_are : all ≡ length (documents collection)
  pub few : length collection < 2 ^ 32
  pub lists : HoldsLists w (lists_of collection)
  pub rooms : HasRoomForAll w collection

-- The range is one of a collection, and places are behind the lists before it. The lists of its first terms were written, and the lexicon as far as they go.
pub record HasListed (w : Ranged) (terms : List (List ℕ)) (before : Places) (index : ℕ) (collection : List ℕ)
    (lists : Listing) (files : Option Files) (lex : LexWriting) (lex_files : Option Files) : Type 0 where
  pub of : IsRangeOf w terms lists.all collection
  pub places : ArePlacesOf w.first before collection
  pub took : Took lists files (take index (drop w.first (inverted collection))) []
  pub lexicon : TookTerms lex lex_files (take (w.first + index) (terms_of collection))

-- ---- what was compared

-- bytes begin with these, and a place is behind them
pub record BeginsAt (bytes : List ℕ) (place : ℕ) (front : List ℕ) : Type 0 where
  pub place_is : place ≡ length front
  pub bytes_are : take place bytes ≡ front

-- Post and Skip begin with the lists of the terms below a number
pub record ListsAgree (files : Option Files) (base collection : List ℕ) (number : ℕ) (places : Places) : Type 0 where
  pub post_is : BeginsAt (bytes_at files (full_name base Post)) places.post (post_upto number collection)
  pub skip_is : BeginsAt (bytes_at files (full_name base Skip)) places.skip (skip_upto number collection)

-- these lists stand in Post and Skip from two places on
pub record ListsFollow (files : Option Files) (base : List ℕ) (all : ℕ) (lists : List (List Posting))
    (places : Places) : Type 0 where
  pub post_is : StandAt places.post (as_bytes (lists_bits all lists)) (bytes_at files (full_name base Post))
  pub skip_is : StandAt places.skip (as_bytes (flat_map entry_bits (lists_entries all lists)))
      (bytes_at files (full_name base Skip))

-- two places are behind these lists, which begin at two others
pub record AreBehind (all : ℕ) (lists : List (List Posting)) (before after : Places) : Type 0 where
  pub post_is : after.post ≡ before.post + length (as_bytes (lists_bits all lists))
  pub skip_is : after.skip ≡ before.skip + length (as_bytes (flat_map entry_bits (lists_entries all lists)))

-- the places are those of bytes in a part
pub record ArePlaces (places : Places) : Type 0 where
  pub post : places.post ≤ 2 ^ 63
  pub skip : places.skip ≤ 2 ^ 63

-- the lexicon has the terms below a number, and the places are those of bytes
pub record CanCompare (terms : List (List ℕ)) (number : ℕ) (places : Places) (lex : LexWriting)
    (lex_files : Option Files) : Type 0 where
  pub push : CanPush terms number lex lex_files
  pub within : ArePlaces places

-- a writer's two files are those that are compared with the lexicon of a base
pub record GoesToLexicon (lex : LexWriting) (pair : WrittenPair) (base : List ℕ) : Type 0 where
  pub strings : full_name lex.base Lex ≡ pair.one.own.now
  pub places : full_name lex.base LexAt ≡ pair.other.own.now
  pub strings_of : set_name pair.one ≡ full_name base Lex
  pub places_of : set_name pair.other ≡ full_name base LexAt
  pub strings_from : pair.one.from ≡ 0
  pub places_from : pair.other.from ≡ 0

-- Post and Skip begin with the lists of the terms below a number, and the lexicon has what is to stand of these terms.
pub record HasCompared (files : Option Files) (base collection : List ℕ) (number : ℕ) (places : Places)
    (lex : LexWriting) (lex_files : Option Files) : Type 0 where
  pub lists : ListsAgree files base collection number places
  pub terms : TookTerms lex lex_files (take number (terms_of collection))

-- Post and Skip are the lists of a collection
pub record ListsStand (files : Option Files) (base collection : List ℕ) : Type 0 where
  pub post : bytes_at files (full_name base Post) ≡ post_part collection
  pub skip : bytes_at files (full_name base Skip) ≡ as_bytes (skip_bits collection)

-- Lex and LexAt are its lexicon
pub record LexiconStands (files : Option Files) (base collection : List ℕ) : Type 0 where
  pub lex : bytes_at files (full_name base Lex) ≡ lex_part collection
  pub lex_at : bytes_at files (full_name base LexAt) ≡ lex_at_part collection

pub record IndexStands (files : Option Files) (base collection : List ℕ) : Type 0 where
  pub lists : ListsStand files base collection
  pub lexicon : LexiconStands files base collection

-- ---- claims on the lists and the lexicon of a collection

-- the number behind the last term of a range
abbrev pub end_of_range : Ranged → ℕ
end_of_range w = w.first + length w.next

-- the lists are those of a range of the terms of a collection
abbrev pub AreListsOf : Indexed → List ℕ → Ranged → Type 0
AreListsOf of collection lists = IsRangeOf lists of.table.now.terms of.documents collection

-- for each collection as far as whose last term Post and Skip were compared
abbrev pub ForEnds : Option Files → List ℕ → Places → (List ℕ → Type 0) → Type 0
ForEnds files base ends claim = (collection : List ℕ) → IsSome files →
    ListsAgree files base collection (length (dictionary collection)) ends → claim collection

-- ---- with a lexicon that is compared with the files of a set

-- what was compared of the terms below a number may be followed by the next term
pub record CanCompareIn (files : Option Files) (of : Indexed) (number : ℕ) (compared : Compared) : Type 0 where
  pub compare : CanCompare of.table.now.terms number compared.places compared.lexicon.writer
      (pair_files files compared.lexicon.pair)
  pub goes : GoesToLexicon compared.lexicon.writer compared.lexicon.pair of.base.now

-- Post, Skip and what was written of the lexicon agree with a collection, as far as the terms below a number
pub record ComparedIn (files : Option Files) (of : Indexed) (collection : List ℕ) (number : ℕ) (compared : Compared) :
    Type 0 where
  pub has : HasCompared files of.base.now collection number compared.places compared.lexicon.writer
      (pair_files files compared.lexicon.pair)

-- the terms of a range are compared, told of the moments before and after
pub record RangeCompared {T : Type 0} (of : Indexed) (w : Ranged)
    (old new : Compared) (result : Result T PartErr)
    (files files_now : Option Files) (reads reads_now : Reads) (faults faults_now : ℕ) : Type 0 where
  -- the next range may be compared
  pub can : OnOk result (CanCompareIn files of (end_of_range w) new)
  -- where these are the lists of a collection, and the terms before them agree with it, the terms of the range do
  pub agree : (collection : List ℕ) → IsSome files → AreListsOf of collection w →
      ComparedIn files of collection w.first old →
      OnOk result (ComparedIn files of collection (end_of_range w) new)
  -- where they are, a refusal tells that Post and Skip are not the lists of the collection
  pub other : (collection : List ℕ) → IsSome files → AreListsOf of collection w →
      ComparedIn files of collection w.first old → IfErr result (Refutes (ListsStand files of.base.now collection))
  -- only parts of the set were read
  pub looks : LooksAtSet result files files_now reads reads_now faults faults_now

-- ---- what a comparison of the index starts from

-- lists of a range of terms, which has some
pub record IsRange (w : Ranged) (of : Indexed) : Type 0 where
  pub some : 1 ≤ length w.next
  -- each is a term of the table
  pub range : w.first + length w.next ≤ length of.table.now.terms
  -- each list is within its room, which is for some of so many documents
  pub laid : IsLaidOut w
  pub rooms : AreRooms w of.documents
  pub most : of.documents ≤ version_2.documents
  -- the table's terms rise, and are few
  pub few : length of.table.now.terms ≤ version_2.pieces
  pub rising : IsStrictlySortedBy (slice_cmp nat_cmp) of.table.now.terms

-- postings of a document may be added to the lists of a range of a table's terms
pub record CanFill (w : Ranged) (table : TermNumbers) : Type 0 where
  pub laid : IsLaidOut w
  pub range : w.first + length w.next ≤ length table.terms

-- a range may be compared, behind what was
pub record CanCompareRange (files : Option Files) (of : Indexed) (w : Ranged) (compared : Compared) : Type 0
  where
    -- it is one of the table's terms
    pub range : IsRange w of
    -- the terms before it were compared
    pub can : CanCompareIn files of w.first compared

-- nothing was compared
pub record IsStart (files : Option Files) (base : List ℕ) (compared : Compared) : Type 0 where
  pub can : (of : Indexed) → of.base.now ≡ base → CanCompareIn files of 0 compared
  pub none : (of : Indexed) (collection : List ℕ) → ComparedIn files of collection 0 compared
