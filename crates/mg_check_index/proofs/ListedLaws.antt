-- The lists of a range that are written anew, and what the lexicon has of their terms.
use Rattle.std.proofs.Common.{arith, ◌≡◌, ◌<◌, ◌≤◌, ◌+◌, ◌/◌, ◌^◌, ℕ, List, [], ◌∷◌, ◌++◌, length, take, drop, get_or, refl, sym, ap, subst, ◌∙◌, Some, length-append, length-drop}
use Rattle.std.specs.Prelude.{slice_get}
use Rattle.std.specs.declared.option.Option.{Option}
use Rattle.std.specs.List.{flat_map}
use Rattle.std.proofs.Math.Seq.{take-add}
use Rattle.std.proofs.lemmas.Grind.{flat_map-append}
use Rattle.std.proofs.lemmas.List.{get_or-drop, take_more}
use Rattle.std.proofs.lemmas.Option.{get_or_from_slice_get}
use Rattle.mg_dev.specs.Files.{Files}
use Rattle.mg_defs.proofs.ListLaws.{list_rises}
use Rattle.mg_defs.proofs.StandGrow.{docs-are}
use Rattle.mg_defs.proofs.StandLists.{entry_fits}
use Rattle.mg_defs.proofs.StandRanges.{lists-append}
use Rattle.mg_defs.specs.declared.Posting.{Posting}
use Rattle.mg_defs.specs.Bits.{as_bytes}
use Rattle.mg_defs.specs.Lexicon.{TermInfo, info_of}
use Rattle.mg_defs.specs.Lists.{Rises, entries_of_list, entry_bits, first_entry, inverted, list_byte, lists_bits, lists_entries}
use Rattle.mg_defs.specs.Split.{documents}
use Rattle.mg_defs.specs.Terms.{dictionary}
use Rattle.mg_laws.proofs.TermLaws.{list_of_term, lists_long}
use Rattle.mg_laws.proofs.WholeBytes.{entries_sized, lists_are_whole, whole_long}
use Rattle.mg_lex.proofs.CallerLemmas.{terms_more}
use Rattle.mg_lex.specs.Terms.{Term, terms_of}
use Rattle.mg_lex.specs.Writing.{LexWriting, TookTerms}
use Rattle.mg_post.specs.Writing.{Listing, Took}
use Rattle.mg_check_index.specs.declared.lists.Places.{Places}
use Rattle.mg_check_index.specs.Listing.{ArePlacesOf, AreRooms, CanList, HasCompared, HasListed, IsRangeOf, Ranged, list_at, lists_of, room_at, skip_upto}

-- ---- lists in a row

-- one list more behind those from one on
pub lists_more : (collection : List ℕ) (first n : ℕ) → first + n < length (dictionary collection) →
    take (n + 1) (drop first (inverted collection)) ≡ take n (drop first (inverted collection)) ++ lists_of collection (first + n) ∷ []
lists_more collection first n lt =
    take_more (drop first (inverted collection)) n [] (omega (arith, length-drop first (inverted collection), lists_long collection, lt))
    ∙ ap (λ ps. take n (drop first (inverted collection)) ++ ps ∷ []) (get_or-drop first (inverted collection) n [] ∙ list_of_term collection (first + n) lt)

-- where a list begins, as bytes of the lists before a range and bits of those of the range
list_behind : (all : ℕ) (before some : List (List Posting)) → length (as_bytes (lists_bits all before)) + length (lists_bits all some) / 8 ≡ length (lists_bits all (before ++ some)) / 8
list_behind all before some =
    ap (λ n. length (as_bytes (lists_bits all before)) + n) (sym (whole_long (lists_bits all some) (lists_are_whole all some)))
    ∙ sym (length-append (as_bytes (lists_bits all before)) (as_bytes (lists_bits all some)))
    ∙ ap (λ (bytes : List ℕ). length bytes) (sym (lists-append all before some))
    ∙ whole_long (lists_bits all (before ++ some)) (lists_are_whole all (before ++ some))

entries_both : (all : ℕ) (before some : List (List Posting)) → length (lists_entries all (before ++ some)) ≡ length (lists_entries all before) + length (lists_entries all some)
unfolding lists_entries
entries_both all before some = ap length (flat_map-append (entries_of_list all) before some) ∙ length-append (flat_map (entries_of_list all) before) (flat_map (entries_of_list all) some)

entry_behind : (all : ℕ) (before some : List (List Posting)) → length (as_bytes (flat_map entry_bits (lists_entries all before))) / 16
    + length (lists_entries all some) ≡ length (lists_entries all (before ++ some))
entry_behind all before some =
    omega (arith, entries_sized (lists_entries all before), entries_both all before some)

-- ---- one list of a range

pub range_within : (w : Ranged) (terms : List (List ℕ)) (all : ℕ) (collection : List ℕ) (index : ℕ) → IsRangeOf w terms all collection → index < length w.next →
    w.first + length w.next ≤ length terms → w.first + index < length (dictionary collection)
range_within w terms all collection index of lt range = omega (arith, lt, range, ap (λ (ts : List (List ℕ)). length ts) of.terms_are)

pub range_rises : (w : Ranged) (terms : List (List ℕ)) (all : ℕ) (collection : List ℕ) (index : ℕ) → IsRangeOf w terms all collection → index < length w.next → Rises all 0 (list_at w index)
range_rises w terms all collection index of lt =
    subst (λ n. Rises n 0 (list_at w index)) (sym of.all_are)
    (subst (λ ps. Rises (length (documents collection)) 0 ps) (sym (of.lists.each index lt)) (list_rises collection (get_or (dictionary collection) (w.first + index) []) of.few))

pub range_full : (w : Ranged) (terms : List (List ℕ)) (all : ℕ) (collection : List ℕ) (index : ℕ) → IsRangeOf w terms all collection → index < length w.next →
    length (list_at w index) ≡ room_at w index
range_full w terms all collection index of lt =
    ap (λ (ps : List Posting). length ps) (of.lists.each index lt) ∙ docs-are collection (get_or (dictionary collection) (w.first + index) []) ∙ sym (of.rooms.each index lt)

pub post_behind : (w : Ranged) (terms : List (List ℕ)) (all : ℕ) (before : Places) (collection : List ℕ) (index : ℕ) → IsRangeOf w terms all collection → ArePlacesOf w.first before collection →
    before.post + length (lists_bits all (take index (drop w.first (inverted collection)))) / 8 ≡ list_byte collection (w.first + index)
post_behind w terms all before collection index of behind =
    let some = take index (drop w.first (inverted collection)) in
    ap (λ n. n + length (lists_bits all some) / 8) behind.post_is
    ∙ ap (λ n. length (as_bytes (lists_bits (length (documents collection)) (take w.first (inverted collection)))) + length (lists_bits n some) / 8) of.all_are
    ∙ list_behind (length (documents collection)) (take w.first (inverted collection)) some
    ∙ ap (λ ls. length (lists_bits (length (documents collection)) ls) / 8) (sym (take-add w.first index (inverted collection)))

pub skip_behind : (w : Ranged) (terms : List (List ℕ)) (all : ℕ) (before : Places) (collection : List ℕ) (index : ℕ) → IsRangeOf w terms all collection → ArePlacesOf w.first before collection →
    before.skip / 16 + length (lists_entries all (take index (drop w.first (inverted collection)))) ≡ first_entry collection (w.first + index)
skip_behind w terms all before collection index of behind =
    let some = take index (drop w.first (inverted collection)) in
    ap (λ n. n / 16 + length (lists_entries all some)) behind.skip_is
    ∙ ap (λ n. length (skip_upto w.first collection) / 16 + length (lists_entries n some)) of.all_are
    ∙ entry_behind (length (documents collection)) (take w.first (inverted collection)) some
    ∙ ap (λ ls. length (lists_entries (length (documents collection)) ls)) (sym (take-add w.first index (inverted collection)))

-- there are few enough skip entries before a list
pub skip_fits : (w : Ranged) (terms : List (List ℕ)) (all : ℕ) (before : Places) (collection : List ℕ) (index : ℕ) → IsRangeOf w terms all collection → ArePlacesOf w.first before collection →
    before.skip / 16 + length (lists_entries all (take index (drop w.first (inverted collection)))) < 2 ^ 32
skip_fits w terms all before collection index of behind = subst (λ n. n < 2 ^ 32) (sym (skip_behind w terms all before collection index of behind)) (entry_fits collection (w.first + index) of.few)

pub same_info : (a b c d e f : ℕ) → a ≡ d → b ≡ e → c ≡ f → ◌≡◌ {A = TermInfo} (record { docs = a; post_at = b; skip_at = c }) (record { docs = d; post_at = e; skip_at = f })
same_info a b c d e f p q r = rw (p, q, r) refl

-- the term that is written next is that of the collection
pub info_is : (w : Ranged) (terms : List (List ℕ)) (all : ℕ) (before : Places) (collection : List ℕ) (index count post_at skip_at : ℕ) (t : List ℕ) →
    IsRangeOf w terms all collection → ArePlacesOf w.first before collection → index < length w.next → w.first + length w.next ≤ length terms →
    slice_get terms (w.first + index) ≡ Some t → count ≡ room_at w index → post_at ≡ before.post + length (lists_bits all (take index (drop w.first (inverted collection)))) / 8 →
    skip_at ≡ before.skip / 16 + length (lists_entries all (take index (drop w.first (inverted collection)))) →
    take (w.first + index + 1) (terms_of collection) ≡ take (w.first + index) (terms_of collection) ++ record { string = t; info = record { docs = count; post_at = post_at; skip_at = skip_at } } ∷ []
info_is w terms all before collection index count post_at skip_at t of behind lt range t_is count_is post_is skip_is =
    let n = w.first + index in
    let string : get_or (dictionary collection) n [] ≡ t = sym (ap (λ xs. get_or xs n []) of.terms_are) ∙ get_or_from_slice_get terms n t [] t_is in
    let told : info_of collection n (get_or (dictionary collection) n []) ≡ record { docs = count; post_at = post_at; skip_at = skip_at } =
    same_info _ _ _ _ _ _ (sym (count_is ∙ of.rooms.each index lt)) (sym (post_is ∙ post_behind w terms all before collection index of behind))
    (sym (skip_is ∙ skip_behind w terms all before collection index of behind)) in
    terms_more collection n (range_within w terms all collection index of lt range)
    ∙ ap (λ s. take n (terms_of collection) ++ record { string = s; info = info_of collection n (get_or (dictionary collection) n []) } ∷ []) string
    ∙ ap (λ i. take n (terms_of collection) ++ record { string = t; info = i } ∷ []) told

pub listed_more : (w : Ranged) (terms : List (List ℕ)) (before : Places) (index : ℕ) (collection : List ℕ) (lists now : Listing) (f g : Option Files)
    (lex lexed : LexWriting) (h k : Option Files) (t : List ℕ) (info : TermInfo) → HasListed w terms before index collection lists f lex h →
    index < length w.next → w.first + length w.next ≤ length terms → now.all ≡ lists.all → slice_get terms (w.first + index) ≡ Some t →
    info ≡ record {
      docs = room_at w index;
      post_at = before.post + length (lists_bits lists.all (take index (drop w.first (inverted collection)))) / 8;
      skip_at = before.skip / 16 + length (lists_entries lists.all (take index (drop w.first (inverted collection))));
    } →
    ((done : List (List Posting)) → Took lists f done [] → Took now g (done ++ list_at w index ∷ []) []) →
    ((ts : List Term) → TookTerms lex h ts → TookTerms lexed k (ts ++ record { string = t; info = info } ∷ [])) →
    HasListed w terms before (index + 1) collection now g lexed k
listed_more w terms before index collection lists now f g lex lexed h k t info has lt range all t_is info_eq took took_terms =
    let some = take index (drop w.first (inverted collection)) in
    let within = range_within w terms lists.all collection index has.of lt range in
    let next : some ++ list_at w index ∷ [] ≡ take (index + 1) (drop w.first (inverted collection)) = ap (λ ps. some ++ ps ∷ []) (has.of.lists.each index lt)
    ∙ sym (lists_more collection w.first index within) in
    let at : w.first + index + 1 ≡ w.first + (index + 1) = omega arith in
    let more = info_is w terms lists.all before collection index _ _ _ t has.of has.places lt range t_is refl refl refl in
    let terms_next : take (w.first + index) (terms_of collection) ++ record { string = t; info = info } ∷ [] ≡ take (w.first + (index + 1)) (terms_of collection) =
    ap (λ i. take (w.first + index) (terms_of collection) ++ record { string = t; info = i } ∷ []) info_eq ∙ sym more ∙ ap (λ n. take n (terms_of collection)) at in
    record {
      of = subst (λ n. IsRangeOf w terms n collection) (sym all) has.of;
      places = has.places;
      took = subst (λ ls. Took now g ls []) next (took some has.took);
      lexicon = subst (λ ts. TookTerms lexed k ts) terms_next (took_terms (take (w.first + index) (terms_of collection)) has.lexicon);
    }

-- no list of the range was written
pub listed_none : (w : Ranged) (terms : List (List ℕ)) (before : Places) (collection : List ℕ) (lists : Listing) (f : Option Files) (lex : LexWriting)
    (h : Option Files) (all : ℕ) (set : Option Files) (base : List ℕ) → lists.all ≡ all → IsRangeOf w terms all collection →
    HasCompared set base collection w.first before lex h → Took lists f [] [] →
    HasListed w terms before 0 collection lists f lex h
listed_none w terms before collection lists f lex h all set base all_is of has took =
    let at : w.first ≡ w.first + 0 = omega arith in
    record {
      of = subst (λ n. IsRangeOf w terms n collection) (sym all_is) of;
      places = record { post_is = has.lists.post_is.place_is; skip_is = has.lists.skip_is.place_is };
      took = took;
      lexicon = subst (λ n. TookTerms lex h (take n (terms_of collection))) at has.terms;
    }

-- where no list was written, those of a range may be
pub can_start : (w : Ranged) (lists : Listing) (files : Option Files) → Took lists files [] [] → lists.total ≡ 0 → lists.pushed ≡ 0 → AreRooms w lists.all → CanList w 0 lists files
can_start w lists files took nothing between rooms = record {
  done = [];
  took = took;
  between = between;
  total = omega (arith, nothing);
  rooms = rooms;
}
