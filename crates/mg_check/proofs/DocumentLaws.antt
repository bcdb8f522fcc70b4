-- What a document adds to the lists of terms.
use Rattle.std.proofs.Common.{arith, ◌≡◌, ◌<◌, ◌≤◌, ◌+◌, ◌-◌, ℕ, zero, suc, true, false, Bool, cond, nat_lt, List, [], ◌∷◌, ◌++◌, length, map, get_or, refl, sym, ap, subst, ◌∙◌, append-nil, length-append, eq-eqb}
use Rattle.std.specs.Prelude.{nat_eq, filter, slice_index}
use Rattle.std.specs.List.{enumerate_from}
use Rattle.std.specs.declared.option.Option.{Option}
use Rattle.std.proofs.lemmas.Bool.Decides.{nat_tests}
use Rattle.mg_defs.specs.declared.Posting.{Posting}
use Rattle.mg_defs.specs.PostingLists.{postings_upto}
use Rattle.mg_defs.specs.Split.{documents}
use Rattle.mg_defs.specs.Terms.{dictionary, docs, freq, freq_in}
use Rattle.mg_defs.proofs.StandGrow.{docs-are, grown, grows-by}
use Rattle.mg_defs.proofs.TermLaws.{document_behind}
use Rattle.mg_dev.specs.Files.{Files}
use Rattle.mg_model.specs.Terms.{TermNumbers, terms_and_numbers}
use Rattle.mg_text.specs.Reading.{TextReading, TextStands}
use Rattle.mg_check_parts.specs.Documents.{counted_in}
use Rattle.mg_check_text.proofs.CallerLemmas.{table_terms}
use Rattle.mg_check_index.specs.Listing.{HasRoomFor, HasRoomForAll, HoldsLists, Ranged, SameRooms, lists_of, lists_upto, postings_in, room_at, with_document}

-- ---- the posting of a document in the list of one of its terms

-- the entries from a number on that come
abbrev entries : ℕ → List ℕ → List (List ℕ) → List (ℕ × ℕ)
entries i doc ts = filter (λ (e : ℕ × ℕ). nat_lt 0 e.1) (map (λ (e : ℕ × List ℕ). (e.0, freq_in doc e.1)) (enumerate_from i ts))

-- one posting, where the count is not 0
abbrev one : ℕ → ℕ → List Posting
one d count = cond (nat_lt 0 count) (record { doc = d; freq = count } ∷ []) []

eq_same : (n : ℕ) → nat_eq n n ≡ true
eq_same n = eq-eqb n n refl

map_cond : (f : ℕ × ℕ → Posting) (b : Bool) (e : ℕ × ℕ) (es : List (ℕ × ℕ)) → map f (cond b (e ∷ es) es) ≡ cond b (f e ∷ []) [] ++ map f es
map_cond f true e es = refl
map_cond f false e es = refl

first_entry : (d m : ℕ) (b : Bool) (e : ℕ × ℕ) (es : List (ℕ × ℕ)) → postings_in d (cond b (e ∷ es) es) m
    ≡ cond b (cond (nat_eq e.0 m) (record { doc = d; freq = e.1 } ∷ []) []) [] ++ postings_in d es m
first_entry d m true e es = map_cond (λ (e : ℕ × ℕ). record { doc = d; freq = e.1 }) (nat_eq e.0 m) e (filter (λ (e : ℕ × ℕ). nat_eq e.0 m) es)
first_entry d m false e es = refl

no_posting : (b : Bool) (p : Posting) (c : Bool) → c ≡ false → cond b (cond c (p ∷ []) []) [] ≡ []
no_posting true p c e = ap (λ x. cond x (p ∷ []) []) e
no_posting false p c e = refl

a_posting : (b : Bool) (p : Posting) (c : Bool) → c ≡ true → cond b (cond c (p ∷ []) []) [] ≡ cond b (p ∷ []) []
a_posting true p c e = ap (λ x. cond x (p ∷ []) []) e
a_posting false p c e = refl

differ : (a b : ℕ) → a < b → nat_eq a b ≡ false
differ a b lt = grind (arith, nat_tests)

differ_back : (a b : ℕ) → b < a → nat_eq a b ≡ false
differ_back a b lt = grind (arith, nat_tests)

before : (d : ℕ) (doc : List ℕ) (i m : ℕ) (ts : List (List ℕ)) → m < i → postings_in d (entries i doc ts) m ≡ []
before d doc i m [] lt = refl
before d doc i m (t ∷ ts) lt =
    first_entry d m (nat_lt 0 (freq_in doc t)) (i, freq_in doc t) (entries (i + 1) doc ts)
    ∙ ap (λ ps. ps ++ postings_in d (entries (i + 1) doc ts) m) (no_posting (nat_lt 0 (freq_in doc t)) (record { doc = d; freq = freq_in doc t }) (nat_eq i m) (differ_back i m lt))
    ∙ before d doc (i + 1) m ts (omega (arith, lt))

posting_of_term : (d : ℕ) (doc : List ℕ) (i n m : ℕ) (ts : List (List ℕ)) → m ≡ i + n → n < length ts → postings_in d (entries i doc ts) m ≡ one d (freq_in doc (get_or ts n []))
posting_of_term d doc i n m [] is lt = absurd (omega (arith, lt))
posting_of_term d doc i zero m (t ∷ ts) is lt =
    let here : nat_eq i m ≡ true = subst (λ x. nat_eq i x ≡ true) (sym (let e : m ≡ i = omega (arith, is) in e)) (eq_same i) in
    first_entry d m (nat_lt 0 (freq_in doc t)) (i, freq_in doc t) (entries (i + 1) doc ts)
    ∙ ap (λ ps. ps ++ postings_in d (entries (i + 1) doc ts) m) (a_posting (nat_lt 0 (freq_in doc t)) (record { doc = d; freq = freq_in doc t }) (nat_eq i m) here)
    ∙ ap (λ ps. one d (freq_in doc t) ++ ps) (before d doc (i + 1) m ts (omega (arith, is)))
    ∙ append-nil (one d (freq_in doc t))
posting_of_term d doc i (suc n) m (t ∷ ts) is lt =
    first_entry d m (nat_lt 0 (freq_in doc t)) (i, freq_in doc t) (entries (i + 1) doc ts)
    ∙ ap (λ ps. ps ++ postings_in d (entries (i + 1) doc ts) m) (no_posting (nat_lt 0 (freq_in doc t)) (record { doc = d; freq = freq_in doc t }) (nat_eq i m) (differ i m (omega (arith, is))))
    ∙ posting_of_term d doc (i + 1) n m ts (omega (arith, is)) (omega (arith, lt))

-- ---- a document more

upto_more : (collection : List ℕ) (n m : ℕ) → n < length (documents collection) → m < length (dictionary collection) →
    with_document (lists_upto n collection) (n + 1) (counted_in (dictionary collection) (get_or (documents collection) n [])) m ≡ lists_upto (n + 1) collection m
upto_more collection n m lt within =
    let t = get_or (dictionary collection) m [] in
    ap (λ ps. lists_upto n collection m ++ ps) (posting_of_term (n + 1) (get_or (documents collection) n []) 0 m m (dictionary collection) (let e : m ≡ 0 + m = omega arith in e) within)
    ∙ ap (λ (doc : List ℕ). lists_upto n collection m ++ one (n + 1) (freq_in doc t)) (sym (document_behind collection n))
    ∙ sym (grows-by collection t n lt)

pub holds_upto : (w : Ranged) (collection : List ℕ) (n : ℕ) → n < length (documents collection) → w.first + length w.next ≤ length (dictionary collection) →
    HoldsLists w (with_document (lists_upto n collection) (n + 1) (counted_in (dictionary collection) (get_or (documents collection) n []))) → HoldsLists w (lists_upto (n + 1) collection)
holds_upto w collection n lt within holds = record { each = λ k in_range. holds.each k in_range ∙ upto_more collection n (w.first + k) lt (omega (arith, within, in_range)) }

pub room_upto : (w : Ranged) (collection : List ℕ) (n : ℕ) → n < length (documents collection) → w.first + length w.next ≤ length (dictionary collection) →
    HasRoomFor w (lists_upto (n + 1) collection) →
    HasRoomFor w (with_document (lists_upto n collection) (n + 1) (counted_in (dictionary collection) (get_or (documents collection) n [])))
room_upto w collection n lt within room = record {
  each = λ k in_range. subst (λ ps. length ps ≤ room_at w k) (sym (upto_more collection n (w.first + k) lt (omega (arith, within, in_range)))) (room.each k in_range);
}

-- the first documents have no more than all
grows_to : (collection t : List ℕ) (n more : ℕ) → n + more ≡ length (documents collection) → length (postings_upto n collection t) ≤ docs collection t
grows_to collection t n zero is =
    let all : n ≡ length (documents collection) = omega (arith, is) in
    omega (arith, ap (λ k. length (postings_upto k collection t)) all, ap (λ (ps : List Posting). length ps) (grown collection t), docs-are collection t)
grows_to collection t n (suc more) is =
    let next = ap (λ (ps : List Posting). length ps) (grows-by collection t n (omega (arith, is))) ∙ length-append (postings_upto n collection t) (one (n + 1) (freq collection (n + 1) t)) in
    omega (arith, grows_to collection t (n + 1) more (omega (arith, is)), next)

pub room_for_all : (w : Ranged) (collection : List ℕ) (n : ℕ) → n ≤ length (documents collection) →
    ((k : ℕ) → k < length w.next → room_at w k ≡ docs collection (get_or (dictionary collection) (w.first + k) [])) →
    HasRoomFor w (lists_upto n collection)
room_for_all w collection n le rooms = record {
  each = λ k in_range. omega (arith, rooms k in_range, grows_to collection (get_or (dictionary collection) (w.first + k) []) n (length (documents collection) - n) (omega (arith, le)));
}

-- ---- lists as far as documents go

-- no posting is there before the first document
pub upto_none : (w : Ranged) (collection : List ℕ) → HoldsLists w (λ number. []) → HoldsLists w (lists_upto 0 collection)
upto_none w collection holds = record { each = holds.each }

pub upto_all : (w : Ranged) (collection : List ℕ) (n : ℕ) → n ≡ length (documents collection) → HoldsLists w (lists_upto n collection) → HoldsLists w (lists_of collection)
upto_all w collection n is holds = record {
  each = λ k in_range.
      let t = get_or (dictionary collection) (w.first + k) [] in
      holds.each k in_range ∙ ap (λ m. postings_upto m collection t) is ∙ grown collection t;
}

-- the same lists have the same room
pub room_stays : (w v : Ranged) (collection : List ℕ) → SameRooms w v → HasRoomForAll w collection → HasRoomForAll v collection
room_stays w v collection same room = record {
  each = λ k in_range.
      subst (λ xs. slice_index xs (k + 1) - slice_index xs k ≡ docs collection (get_or (dictionary collection) (v.first + k) [])) (sym same.starts)
      (subst (λ n. room_at w k ≡ docs collection (get_or (dictionary collection) (n + k) [])) (sym same.first) (room.each k (omega (arith, in_range, same.count))));
}

pub counted_is : (r : TextReading) (table : TermNumbers) (files : Option Files) (collection : List ℕ) (before : ℕ) (doc : List ℕ) (found told : List (ℕ × ℕ)) →
    doc ≡ get_or (documents collection) before [] → table ≡ terms_and_numbers r.code.words.pieces →
    TextStands r files collection → found ≡ counted_in table.terms doc → told ≡ found → told ≡ counted_in (dictionary collection) (get_or (documents collection) before [])
counted_is r table files collection before doc found told doc_is table_is stand found_is told_is =
    told_is ∙ found_is ∙ ap (λ ts. counted_in ts doc) (table_terms table r files collection table_is stand) ∙ ap (λ d. counted_in (dictionary collection) d) doc_is

pub range_in : (w : Ranged) (table : TermNumbers) (r : TextReading) (files : Option Files) (collection : List ℕ) →
    table ≡ terms_and_numbers r.code.words.pieces → TextStands r files collection → w.first + length w.next ≤ length table.terms →
    w.first + length w.next ≤ length (dictionary collection)
range_in w table r files collection table_is stand range = omega (arith, range, ap (λ (ts : List (List ℕ)). length ts) (table_terms table r files collection table_is stand))
