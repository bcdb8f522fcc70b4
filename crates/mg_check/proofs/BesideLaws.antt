-- Postings that are kept beside: each counts at least 256 occurrences, so a collection has room for its own.
use Rattle.std.proofs.Common.{arith, ◌≡◌, ◌<◌, ◌≤◌, ◌+◌, ◌*◌, ◌/◌, ◌^◌, ℕ, zero, suc, true, false, Bool, cond, nat_lt, List, [], ◌∷◌, length, map, take, get_or, refl, sum_by}
use Rattle.std.specs.Prelude.{filter}
use Rattle.std.specs.List.{AllByRecursion, IsDistinct, enumerate_from, list_any}
use Rattle.std.specs.Str.{bytes_eq}
use Rattle.std.proofs.lemmas.Bool.{ltb-true}
use Rattle.std.proofs.lemmas.List.{length-map}
use Rattle.std.proofs.lemmas.List.Concat.{length-flat_map}
use Rattle.std.proofs.lemmas.List.Elements.{All-from_recursion}
use Rattle.std.proofs.lemmas.List.Sums.{sum_by-cons, sum_by-take-le, sum_by_more}
use Rattle.mg_defs.specs.declared.Posting.{Posting}
use Rattle.mg_defs.specs.Cost.{cost_of}
use Rattle.mg_defs.specs.Occurrences.{occurrences}
use Rattle.mg_defs.specs.Sorted.{number_of}
use Rattle.mg_defs.specs.Split.{documents}
use Rattle.mg_defs.specs.Terms.{all_terms, dictionary, freq_in, terms}
use Rattle.mg_defs.specs.Vocabulary.{count_in}
use Rattle.mg_defs.proofs.StandLists.{occurrences-are}
use Rattle.mg_defs.proofs.TextBitsLaws.{cost-of_pieces}
use Rattle.mg_defs.proofs.VocabularyLaws.{distinct-sorted}
use Rattle.mg_laws.proofs.InOrderLaws.{Have, terms_there}
use Rattle.mg_check_index.specs.Packing.{beside_in, beside_of}
use Rattle.mg_check_index.specs.Listing.{HoldsLists, Ranged, SameRooms, lists_upto}
use Rattle.mg_check_index.proofs.CallerLemmas.{often_beside}
use Rattle.mg_check.specs.IndexedText.{HasRoomForNext, HasWholeRoom, beside_behind}
use Rattle.mg_check.proofs.DocumentLaws.{room_for_all, room_stays}

-- ---- the terms of a document

abbrev entries : ℕ → List ℕ → List (List ℕ) → List (ℕ × ℕ)
entries i doc ts = filter (λ (e : ℕ × ℕ). nat_lt 0 e.1) (map (λ (e : ℕ × List ℕ). (e.0, freq_in doc e.1)) (enumerate_from i ts))

-- the counts of these words are the cost of a code in which each word has one bit
abbrev ones : List (List ℕ) → List ℕ
ones ts = map (λ (t : List ℕ). 1) ts

beside_cost : (d i : ℕ) (doc : List ℕ) (ts : List (List ℕ)) → 1 ≤ d → d ≤ 2 ^ 24 → 256 * beside_in d (entries i doc ts) ≤ cost_of (map (count_in (terms doc)) ts) (ones ts)
beside_cost d i doc [] some few = omega arith
beside_cost d i doc (t ∷ ts) some few = by (nat_lt 0 (freq_in doc t)) refl (beside_cost d (i + 1) doc ts some few)
  where
    by : (b : Bool) → nat_lt 0 (freq_in doc t) ≡ b → 256 * beside_in d (entries (i + 1) doc ts) ≤ cost_of (map (count_in (terms doc)) ts) (ones ts) →
        256 * beside_in d (cond b ((i, freq_in doc t) ∷ entries (i + 1) doc ts) (entries (i + 1) doc ts)) ≤ freq_in doc t * 1 + cost_of (map (count_in (terms doc)) ts) (ones ts)
    by true there rest =
        omega (
          arith,
          rest,
          often_beside (record { doc = d; freq = freq_in doc t }) some few (ltb-true 0 (freq_in doc t) there),
          sum_by-cons (λ (e : ℕ × ℕ). beside_of (record { doc = d; freq = e.1 })) (i, freq_in doc t) (entries (i + 1) doc ts),
        )
    by false none rest = omega (arith, rest)

one_at_most : (ts : List (List ℕ)) (k : ℕ) → get_or (ones ts) k 0 ≤ 1
one_at_most [] k = omega arith
one_at_most (t ∷ ts) zero = omega arith
one_at_most (t ∷ ts) (suc k) = one_at_most ts k

one_each : (ts us : List (List ℕ)) → sum_by (λ p. get_or (ones ts) (number_of ts p) 0) us ≤ length us
one_each ts [] = omega arith
one_each ts (u ∷ us) = omega (arith, sum_by-cons (λ p. get_or (ones ts) (number_of ts p) 0) u us, one_at_most ts (number_of ts u), one_each ts us)

-- they add up to no more than there are
counts_within : (ts us : List (List ℕ)) → IsDistinct bytes_eq ts → Have ts us → cost_of (map (count_in us) ts) (ones ts) ≤ length us
counts_within ts us apart have = omega (arith, cost-of_pieces ts us (ones ts) (length-map ts (λ (t : List ℕ). 1)) apart have, one_each ts us)

beside_few : (collection : List ℕ) (n : ℕ) → n < length (documents collection) → length (documents collection) ≤ 2 ^ 24 →
    256 * beside_behind n collection ≤ length (terms (get_or (documents collection) n []))
beside_few collection n lt few =
    let doc = get_or (documents collection) n [] in
    omega (
      arith,
      beside_cost (n + 1) 0 doc (dictionary collection) (omega arith) (omega (arith, lt, few)),
      counts_within (dictionary collection) (terms doc) (distinct-sorted (all_terms collection))
          (All-from_recursion (λ (d : List ℕ). Have (dictionary collection) (terms d)) (documents collection) (terms_there collection) n [] lt),
    )

-- ---- the documents that were read

-- how many terms the first documents have
abbrev pub terms_upto : ℕ → List ℕ → ℕ
terms_upto n collection = sum_by (λ (d : List ℕ). length (terms d)) (take n (documents collection))

terms_more : (collection : List ℕ) (n : ℕ) → n < length (documents collection) → terms_upto (n + 1) collection ≡ terms_upto n collection + length (terms (get_or (documents collection) n []))
terms_more collection n lt = sum_by_more (λ (d : List ℕ). length (terms d)) (documents collection) n [] lt

terms_few : (collection : List ℕ) (n : ℕ) → terms_upto n collection ≤ length (occurrences collection)
terms_few collection n =
    omega (arith, occurrences-are collection, length-flat_map terms (documents collection), sum_by-take-le (λ (d : List ℕ). length (terms d)) (documents collection) n)

-- lists hold the postings of the first documents, and no more room beside was taken than their terms may take
pub record HasReadLists (old now : Ranged) (n : ℕ) (collection : List ℕ) : Type 0 where
  pub lists : HoldsLists now (lists_upto n collection)
  pub left : 256 * old.left ≤ 256 * now.left + terms_upto n collection

-- room that was left beside lists before a document is left for its postings
pub left_next : (w v : Ranged) (collection : List ℕ) (n : ℕ) → n < length (documents collection) → length (documents collection) ≤ 2 ^ 24 →
    length (occurrences collection) / 256 ≤ w.left → 256 * w.left ≤ 256 * v.left + terms_upto n collection → beside_behind n collection ≤ v.left
left_next w v collection n lt few room left =
    omega (arith, room, left, beside_few collection n lt few, terms_more collection n lt, terms_few collection (n + 1))

-- so there is room for the document
pub next_room : (w v : Ranged) (collection : List ℕ) (n : ℕ) → n < length (documents collection) → SameRooms w v → HasWholeRoom w collection →
    256 * w.left ≤ 256 * v.left + terms_upto n collection → HasRoomForNext v n collection
next_room w v collection n lt same room left = record {
  each = room_for_all v collection (n + 1) (omega (arith, lt)) (room_stays w v collection same room.all).each;
  beside = left_next w v collection n lt room.few room.beside left;
}

-- and is left behind it
pub left_more : (w v u : Ranged) (collection : List ℕ) (n : ℕ) → n < length (documents collection) → length (documents collection) ≤ 2 ^ 24 →
    256 * w.left ≤ 256 * v.left + terms_upto n collection → v.left ≤ u.left + beside_behind n collection → 256 * w.left ≤ 256 * u.left + terms_upto (n + 1) collection
left_more w v u collection n lt few left next = omega (arith, left, next, beside_few collection n lt few, terms_more collection n lt)
