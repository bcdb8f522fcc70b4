-- The index of a collection: how many documents have each term, its ranges, and where its parts begin and end.
use Rattle.std.proofs.Common.{arith, ◌≡◌, ◌<◌, ◌≤◌, ◌+◌, ◌/◌, ◌^◌, ℕ, List, [], length, get_or, min, sym, ap, subst, ◌∙◌}
use Rattle.std.specs.Prelude.{slice_index}
use Rattle.std.specs.declared.option.Option.{Option}
use Rattle.std.specs.declared.result.Result.{Result}
use Rattle.std.specs.List.{list_any}
use Rattle.std.proofs.lemmas.List.{get_or-map, length-map}
use Rattle.std.proofs.lemmas.List.Sums.{count_by-le-length}
use Rattle.mg_dev.specs.Files.{Files, Reads}
use Rattle.mg_dev.specs.declared.part_err.PartErr.{PartErr}
use Rattle.mg_defs.specs.Split.{documents}
use Rattle.mg_defs.specs.Terms.{dictionary, docs, same_term, terms}
use Rattle.mg_laws.proofs.SizeLaws.{few_occurrences}
use Rattle.mg_laws.proofs.TermLaws.{some_docs}
use Rattle.mg_text.specs.Reading.{SameText, TextFits, TextReading}
use Rattle.mg_check_index.specs.declared.indexed.Indexed.{Indexed}
use Rattle.mg_check_index.specs.Listing.{AreSizes, HasRoomForAll, HasRooms, HoldsLists, IsRangeOf, Ranged, SameRooms, lists_of}
use Rattle.mg_check_text.specs.Reads.{ReadsText}
use Rattle.mg_check.specs.IndexedText.{CanIndex, HasWholeRoom, IndexCompared, IsIndexOf}
use Rattle.mg_check.proofs.DocumentLaws.{room_stays}
use Rattle.mg_check_text.proofs.CallerLemmas.{stands_on, terms_stay, text_then}

-- ---- sizes

most_docs : (collection t : List ℕ) → docs collection t ≤ length (documents collection)
most_docs collection t = count_by-le-length (λ doc. list_any (same_term t) (terms doc)) (documents collection)

docs_at : {r : TextReading} {files : Option Files} {ts : List (List ℕ)} {sizes : List ℕ} {all : ℕ} {collection : List ℕ} (n : ℕ) → IsIndexOf r files ts sizes all collection →
    n < length sizes → slice_index sizes n ≡ docs collection (get_or (dictionary collection) n [])
docs_at {collection = collection} n is lt =
    ap (λ xs. slice_index xs n) is.docs_are ∙ get_or-map (docs collection) (dictionary collection) n [] 0
    (omega (arith, lt, ap (λ (xs : List ℕ). length xs) is.docs_are, length-map (dictionary collection) (docs collection)))

sizes_long : {r : TextReading} {files : Option Files} {ts : List (List ℕ)} {sizes : List ℕ} {all : ℕ} {collection : List ℕ} → IsIndexOf r files ts sizes all collection →
    length sizes ≡ length (dictionary collection)
sizes_long {collection = collection} is = ap (λ (xs : List ℕ). length xs) is.docs_are ∙ length-map (dictionary collection) (docs collection)

pub sizes_of : {r : TextReading} {files : Option Files} {ts : List (List ℕ)} {sizes : List ℕ} {all : ℕ} {collection : List ℕ} (number : ℕ) →
    IsIndexOf r files ts sizes all collection → number ≡ r.documents → AreSizes sizes (length ts) number
sizes_of {collection = collection} number is number_is =
    let long = sizes_long is in
    record {
      each = long ∙ sym (ap (λ (xs : List (List ℕ)). length xs) is.terms_are);
      some = λ k lt. omega (arith, docs_at k is lt, some_docs collection k (omega (arith, lt, long)));
      within = λ k lt. omega (arith, docs_at k is lt, most_docs collection (get_or (dictionary collection) k []), number_is, is.stands.documents);
    }

pub few_documents : {r : TextReading} {files : Option Files} {ts : List (List ℕ)} {sizes : List ℕ} {all : ℕ} {collection : List ℕ} (number : ℕ) →
    IsIndexOf r files ts sizes all collection → number ≡ r.documents → number ≤ 2 ^ 24
few_documents number is number_is = omega (arith, is.few, number_is, is.stands.documents)

-- ---- ranges

pub room_of_docs : {r : TextReading} {files : Option Files} {ts : List (List ℕ)} {sizes : List ℕ} {all : ℕ} {collection : List ℕ} (w : Ranged) (first end : ℕ) →
    IsIndexOf r files ts sizes all collection → HasRooms w sizes first end → end ≤ length sizes → HasRoomForAll w collection
room_of_docs {collection = collection} w first end is has within = record {
  each = λ k lt.
      has.rooms k lt ∙ docs_at (first + k) is (omega (arith, lt, has.count, within))
      ∙ ap (λ n. docs collection (get_or (dictionary collection) (n + k) [])) (sym has.first_is);
}

-- and beside for as many postings as all occurrences may make
pub whole_room : {r : TextReading} {files : Option Files} {ts : List (List ℕ)} {sizes : List ℕ} {all : ℕ} {collection : List ℕ} (w : Ranged) →
    IsIndexOf r files ts sizes all collection → HasRoomForAll w collection → w.left ≡ min (all / 256) (2 ^ 24) → HasWholeRoom w collection
whole_room {collection = collection} w is room left = record {
  all = room;
  beside = omega (arith, left, is.occurrences_are, few_occurrences collection, is.stands.few);
  few = is.few;
}

-- the lists that were read are those of the collection
pub range_of_index : {r : TextReading} {files : Option Files} {ts : List (List ℕ)} {sizes : List ℕ} {all : ℕ} {collection : List ℕ} (w v : Ranged) (number : ℕ) →
    IsIndexOf r files ts sizes all collection → HasRoomForAll w collection → SameRooms w v → number ≡ r.documents → HoldsLists v (lists_of collection) →
    IsRangeOf v ts number collection
range_of_index {collection = collection} w v number is room same number_is holds = record {
  terms_are = is.terms_are;
  all_are = number_is ∙ is.stands.documents;
  few = is.stands.few;
  lists = holds;
  rooms = room_stays w v collection same room;
}

-- ---- from range to range

pub index_stays : {r now : TextReading} {files files_now : Option Files} {ts : List (List ℕ)} {sizes : List ℕ} {all : ℕ} {collection : List ℕ} → SameText r now →
    files_now ≡ files → IsIndexOf r files ts sizes all collection → IsIndexOf now files_now ts sizes all collection
index_stays {r} {now} {files} {files_now} {collection = collection} same stay is = record {
  stands = stands_on r now files files_now collection same stay is.stands;
  terms_are = is.terms_are;
  docs_are = is.docs_are;
  occurrences_are = is.occurrences_are;
  few = is.few;
}

-- a reader of the index that has read on
pub index_on : {r now : TextReading} {files files_now : Option Files} {of : Indexed} → TextFits now files_now → SameText r now → CanIndex r files of → CanIndex now files_now of
index_on fits same index = record { text = terms_stay fits same index.text; sizes = index.sizes; most = index.most }

-- an index that is compared behind what was done
pub index_behind : {T U : Type 0} {one : Result U PartErr} {result : Result T PartErr} {r now : TextReading} {of : Indexed} {f g h : Option Files} {a b d : Reads} {l m n : ℕ} →
    ReadsText r r one f g a b l m → IndexCompared r now of result g h b d m n → IndexCompared r now of result f h a d l n
index_behind {result = result} {r = r} {now} {of} {h = h} {b = b} {d} {m = m} {n} begun compared =
    let here = subst (λ k. IndexCompared r now of result k h b d m n) begun.looks.files compared in
    record { stand = here.stand; other = here.other; text = text_then begun compared.text }
