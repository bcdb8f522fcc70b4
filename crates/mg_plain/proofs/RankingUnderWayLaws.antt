-- Laws of a ranking.
use Rattle.std.proofs.Common.{◌≡◌, ℕ, suc, ◌+◌, ◌-◌, ◌*◌, ◌<◌, ◌≤◌, ◌^◌, true, false, cond, ◌||◌, inl, inr, List, [], ◌∷◌, ◌++◌, length, take, drop, get_or, refl, sym, ◌∙◌, ap, arith, append_assoc, append-nil, length-append, length-drop}
use Rattle.std.specs.Prelude.{nat_lt}
use Rattle.std.specs.List.{list_any, prefix_len}
use Rattle.std.proofs.Math.Nat.{div-zero}
use Rattle.std.proofs.Common.{drop-drop}
use Rattle.std.proofs.lemmas.Bool.{cases_lt, or_cases, false≢true}
use Rattle.std.proofs.lemmas.List.Elements.{All-push}
use Rattle.std.proofs.lemmas.List.Sums.{sum_by-cons, count_by-le-length, prefix_len-le-length}
use Rattle.std.proofs.lemmas.List.Folds.{length-prefix_len}
use Rattle.std.proofs.Math.ListN.{drop_of_length-le}
use Rattle.mg_defs.specs.Fixed.{lg, digits_of, digit, next}
use Rattle.mg_defs.specs.Split.{documents}
use Rattle.mg_defs.specs.Terms.{docs, freq_in}
use Rattle.mg_defs.specs.Weights.{Hit, has_term, score_over, hits_over, weight, weight_of_term, wt}
use Rattle.mg_defs.proofs.ReplyLaws.{document_at}
use Rattle.mg_plain.specs.declared.order.Row.{Row}
use Rattle.mg_plain.specs.Inside.{is_inside}
use Rattle.mg_plain.specs.Counts.{AreCounts}
use Rattle.mg_plain.specs.RankedRows.{hit_of, hits_of, IsPlaced}
use Rattle.mg_plain.specs.RankingUnderWay.{having, hits_from, Tallied, Ranked}
use Rattle.mg_plain.proofs.CountLaws.{some-freq}
use Rattle.mg_plain.proofs.ScoreLaws.{weight-some}
use Rattle.mg_plain.proofs.DocumentLaws.{first_document, few_documents, short_document}

-- ---- how many documents have a term

having-cons : (t doc : List ℕ) (rest : List (List ℕ)) → having t (doc ∷ rest) ≡ cond (has_term doc t) 1 0 + having t rest
unfolding having
having-cons t doc rest = sum_by-cons (λ d. cond (has_term d t) 1 0) doc rest

having-none : (t : List ℕ) → having t [] ≡ 0
unfolding having
having-none t = refl

having-all : (t collection : List ℕ) → having t (documents collection) ≡ docs collection t
unfolding having
having-all t collection = refl

pub docs-few : (collection t : List ℕ) → docs collection t ≤ length (documents collection)
docs-few collection t = count_by-le-length (λ doc. has_term doc t) (documents collection)

pub tallied_start : (collection : List ℕ) (query : List (List ℕ)) (found : List ℕ) → length found ≡ length query →
    ((k : ℕ) → k < length query → get_or found k 0 ≡ 0) → Tallied collection query found 0 (documents collection)
tallied_start collection query found size none = record {
  front = [];
  docs_is = refl;
  count = refl;
  size = size;
  each = λ k lt. omega (arith, none k lt, having-all (get_or query k []) collection);
}

pub tallied_more : {collection doc : List ℕ} {query before rest : List (List ℕ)} {counts found found2 : List ℕ} {number : ℕ} →
    Tallied collection query found number before → before ≡ doc ∷ rest → AreCounts (freq_in doc) query counts → length found2 ≡ length counts →
    ((k : ℕ) → k < length counts → get_or found2 k 0 ≡ get_or found k 0 + cond (nat_lt 0 (get_or counts k 0)) 1 0) →
    Tallied collection query found2 (number + 1) rest
tallied_more {doc} {query} {before} {rest} {counts} s e c size added = record {
  front = s.front ++ doc ∷ [];
  docs_is = s.docs_is ∙ ap (λ r. s.front ++ r) e ∙ sym (append_assoc s.front (doc ∷ []) rest);
  count = omega (arith, length-append s.front (doc ∷ []), s.count);
  size = size ∙ c.size;
  each = λ k lt.
      let t = get_or query k [] in
      let test : nat_lt 0 (get_or counts k 0) ≡ has_term doc t = ap (nat_lt 0) (c.each k lt) ∙ some-freq doc t in
      let one : ◌≡◌ {A = ℕ} (cond (nat_lt 0 (get_or counts k 0)) 1 0) (cond (has_term doc t) 1 0) = ap {B = ℕ} (λ b. cond b 1 0) test in
      let first : having t before ≡ cond (has_term doc t) 1 0 + having t rest = ap (having t) e ∙ having-cons t doc rest in
      omega (arith, added k (omega (arith, lt, c.size)), one, first, s.each k lt);
}

pub tallied_all : {collection : List ℕ} {query rest : List (List ℕ)} {found : List ℕ} {number : ℕ} → Tallied collection query found number rest →
    rest ≡ [] → number ≡ length (documents collection)
tallied_all {rest} s none = omega (arith, ap length s.docs_is, length-append s.front rest, ap length none, s.count)

pub tallied_found : {collection : List ℕ} {query rest : List (List ℕ)} {found : List ℕ} {number : ℕ} → Tallied collection query found number rest →
    rest ≡ [] → AreCounts (docs collection) query found
tallied_found {query} s none = record {
  size = s.size;
  each = λ k lt. omega (arith, s.each k lt, ap (having (get_or query k [])) none, having-none (get_or query k []));
}

-- one more can be counted
pub tallied_small : (collection : List ℕ) (query rest : List (List ℕ)) (found : List ℕ) (number : ℕ) → Tallied collection query found number rest →
    length collection ≤ 2 ^ 28 → (k : ℕ) → k < length query → get_or found k 0 < 2 ^ 31
tallied_small collection query rest found number s small k lt = omega (arith, s.each k lt, docs-few collection (get_or query k []), few_documents collection, small)

pub next_small : (collection doc : List ℕ) (front before rest : List (List ℕ)) (number : ℕ) → documents collection ≡ front ++ before → length front ≡ number →
    before ≡ doc ∷ rest → length collection ≤ 2 ^ 28 → (number + 1 ≤ 2 ^ 28) × (length doc ≤ 2 ^ 28)
next_small collection doc front before rest number is count e small = (
  omega (arith, few_documents collection, ap length is, length-append front before, ap length e, count),
  omega (arith, short_document collection doc front rest (is ∙ ap (λ r. front ++ r) e), small),
)

-- ---- the weights of terms

pub weightless : (all : ℕ) → weight_of_term 0 all ≡ 0
unfolding weight_of_term lg digits_of digit next
weightless all = ap (λ x. lg x - 4096) (div-zero (65536 * (all + 0)))

pub weights_are : (collection : List ℕ) (query : List (List ℕ)) (found weights : List ℕ) (all : ℕ) → all ≡ length (documents collection) →
    AreCounts (docs collection) query found → length weights ≡ length found →
    ((k : ℕ) → k < length found → get_or weights k 0 ≡ weight_of_term (get_or found k 0) all) → AreCounts (wt collection) query weights
weights_are collection query found weights all is c size each = record {
  size = size ∙ c.size;
  each = λ k lt. each k (omega (arith, lt, c.size)) ∙ ap (λ n. weight_of_term n all) (c.each k lt) ∙ ap (weight_of_term (docs collection (get_or query k []))) is;
}

-- ---- a document with a term

later : (of : List ℕ → ℕ) (t : List ℕ) (ts : List (List ℕ)) (n : ℕ) (ns : List ℕ) → AreCounts of (t ∷ ts) (n ∷ ns) → AreCounts of ts ns
later of t ts n ns c = record { size = omega (arith, c.size); each = λ k lt. c.each (suc k) (omega (arith, lt)) }

pub some-is : (doc : List ℕ) (query : List (List ℕ)) (counts : List ℕ) → AreCounts (freq_in doc) query counts → list_any (nat_lt 0) counts ≡ list_any (has_term doc) query
some-is doc [] [] c = refl
some-is doc [] (n ∷ counts) c = absurd (omega (arith, c.size))
some-is doc (t ∷ query) [] c = absurd (omega (arith, c.size))
some-is doc (t ∷ query) (n ∷ counts) c =
    let first : nat_lt 0 n ≡ has_term doc t = ap (nat_lt 0) (c.each 0 (omega arith)) ∙ some-freq doc t in
    ap (λ b. b || list_any (nat_lt 0) counts) first ∙ ap (λ b. has_term doc t || b) (some-is doc query counts (later (freq_in doc) t query n counts c))

pub weighs : (doc : List ℕ) (query : List (List ℕ)) → length doc ≤ 2 ^ 28 → list_any (has_term doc) query ≡ true → 1 ≤ weight doc
weighs doc [] short some = absurd (false≢true some)
weighs doc (t ∷ query) short some =
    elim (or_cases (has_term doc t) (list_any (has_term doc) query) some) [
      | inl here ↦ weight-some doc t short here
      | inr there ↦ weighs doc query short there
    ]

-- ---- where documents begin

-- The first document of the rest begins at the place.
pub record Next (collection doc : List ℕ) (rest : List (List ℕ)) (place : ℕ) : Type 0 where
  pub within : place + length doc ≤ length collection
  pub doc_is : doc ≡ take (prefix_len is_inside (drop place collection)) (drop place collection)
  pub rest_is : documents (drop (place + (length doc + 1)) collection) ≡ rest

-- ---- hits, one document after another

hits-one : (collection doc : List ℕ) (query rest : List (List ℕ)) (n : ℕ) → list_any (has_term doc) query ≡ true →
    hits_from collection query n (doc ∷ rest) ≡ record { number = n; score = score_over collection query doc } ∷ hits_from collection query (n + 1) rest
unfolding hits_from
hits-one collection doc query rest n some = rw some refl

hits-skip : (collection doc : List ℕ) (query rest : List (List ℕ)) (n : ℕ) → list_any (has_term doc) query ≡ false → hits_from collection query n (doc ∷ rest) ≡ hits_from collection query (n + 1) rest
unfolding hits_from
hits-skip collection doc query rest n none = rw none refl

hits-none : (collection : List ℕ) (query : List (List ℕ)) (n : ℕ) → hits_from collection query n [] ≡ []
unfolding hits_from
hits-none collection query n = refl

hits-all : (collection : List ℕ) (query : List (List ℕ)) → hits_over collection query ≡ hits_from collection query 1 (documents collection)
unfolding hits_from
hits-all collection query = refl

hits_of-push : (rows : List Row) (r : Row) → hits_of (rows ++ r ∷ []) ≡ hits_of rows ++ hit_of r ∷ []
hits_of-push [] r = refl
hits_of-push (x ∷ rows) r = ap (λ (hs : List Hit). hit_of x ∷ hs) (hits_of-push rows r)

first-place : (collection doc : List ℕ) (rest : List (List ℕ)) (place : ℕ) → documents (drop place collection) ≡ doc ∷ rest → place < length collection
first-place collection doc rest place e =
    elim (cases_lt place (length collection)) [
      | inl lt ↦ lt
      | inr ge ↦ absurd (let none : drop place collection ≡ [] = drop_of_length-le collection ge in let m : ◌≡◌ {A = List (List ℕ)} [] (doc ∷ rest) = sym (ap documents none) ∙ e in cc)
    ]

head-is : (a b : List ℕ) (r s : List (List ℕ)) → a ∷ r ≡ b ∷ s → (a ≡ b) × (r ≡ s)
head-is a b r s e = (cc, cc)

pub next_place : (collection doc : List ℕ) (rest : List (List ℕ)) (place : ℕ) → documents (drop place collection) ≡ doc ∷ rest → Next collection doc rest place
next_place collection doc rest place e =
    let left = drop place collection in
    let p = prefix_len is_inside left in
    let lt = first-place collection doc rest place e in
    let size : length left ≡ length collection - place = length-drop place collection in
    let both = head-is _ _ _ _ (sym e ∙ first_document left (omega (arith, lt, size))) in
    let long : length doc ≡ p = ap length both.0 ∙ length-prefix_len is_inside left in
    let past : drop (suc p) left ≡ drop (place + suc p) collection = drop-drop (suc p) place collection in
    let from : place + suc p ≡ place + (length doc + 1) = omega (arith, long) in
    record {
      within = omega (arith, long, prefix_len-le-length is_inside left, size, lt);
      doc_is = both.0;
      rest_is = ap documents (ap (λ n. drop n collection) (sym from) ∙ sym past) ∙ sym both.1;
    }

-- ---- one document after another

pub ranked_start : (collection : List ℕ) (query : List (List ℕ)) → Ranked collection query [] 0 0 (documents collection)
ranked_start collection query = record {
  front = [];
  docs_is = refl;
  count = refl;
  place_is = refl;
  hits_is = hits-all collection query;
  rows_placed = λ k d lt. elim lt [ ];
}

pub ranked_next : {collection doc : List ℕ} {query : List (List ℕ)} {rows : List Row} {number place : ℕ} {before rest : List (List ℕ)} →
    Ranked collection query rows number place before → before ≡ doc ∷ rest → Next collection doc rest place
ranked_next {collection} {doc} {place} {rest} s e = next_place collection doc rest place (s.place_is ∙ e)

pub ranked_small : {collection doc : List ℕ} {query : List (List ℕ)} {rows : List Row} {number place : ℕ} {before rest : List (List ℕ)} →
    Ranked collection query rows number place before → before ≡ doc ∷ rest → length collection ≤ 2 ^ 28 →
    (number + 1 ≤ 2 ^ 28) × (length doc ≤ 2 ^ 28) × (place + length doc ≤ 2 ^ 28)
ranked_small {collection} {doc} {number} {before} {rest} s e small =
    let counts = next_small collection doc s.front before rest number s.docs_is s.count e small in
    (counts.0, counts.1, omega (arith, (ranked_next s e).within, small))

pub ranked_miss : {collection doc : List ℕ} {query : List (List ℕ)} {rows : List Row} {number place : ℕ} {before rest : List (List ℕ)} →
    Ranked collection query rows number place before → before ≡ doc ∷ rest → list_any (has_term doc) query ≡ false →
    Ranked collection query rows (number + 1) (place + (length doc + 1)) rest
ranked_miss {collection} {doc} {query} {rows} {number} {rest} s e none = record {
  front = s.front ++ doc ∷ [];
  docs_is = s.docs_is ∙ ap (λ r. s.front ++ r) e ∙ sym (append_assoc s.front (doc ∷ []) rest);
  count = omega (arith, length-append s.front (doc ∷ []), s.count);
  place_is = (ranked_next s e).rest_is;
  hits_is = s.hits_is ∙ ap (λ r. hits_of rows ++ hits_from collection query (number + 1) r) e ∙ ap (λ hs. hits_of rows ++ hs) (hits-skip collection doc query rest (number + 1) none);
  rows_placed = s.rows_placed;
}

pub ranked_hit : {collection doc : List ℕ} {query : List (List ℕ)} {rows : List Row} {number place score_is : ℕ} {before rest : List (List ℕ)} →
    Ranked collection query rows number place before → before ≡ doc ∷ rest → list_any (has_term doc) query ≡ true →
    score_is ≡ score_over collection query doc →
    Ranked collection query (rows ++ record { number = number + 1; place = place; score = score_is } ∷ []) (number + 1) (place + (length doc + 1)) rest
ranked_hit {collection} {doc} {query} {rows} {number} {place} {score_is} {rest} s e some is =
    let r : Row = record { number = number + 1; place = place; score = score_is } in
    let next = ranked_next s e in
    let hit : Hit = record { number = number + 1; score = score_over collection query doc } in
    let same : hit_of r ≡ hit = ap {B = Hit} (λ x. record { number = number + 1; score = x }) is in
    let pushed : hits_of (rows ++ r ∷ []) ≡ hits_of rows ++ hit ∷ [] = hits_of-push rows r ∙ ap (λ (h : Hit). hits_of rows ++ h ∷ []) same in
    let later = hits_from collection query (number + 1 + 1) rest in
    record {
      front = s.front ++ doc ∷ [];
      docs_is = s.docs_is ∙ ap (λ r. s.front ++ r) e ∙ sym (append_assoc s.front (doc ∷ []) rest);
      count = omega (arith, length-append s.front (doc ∷ []), s.count);
      place_is = next.rest_is;
      hits_is = s.hits_is ∙ ap (λ r. hits_of rows ++ hits_from collection query (number + 1) r) e
          ∙ ap (λ hs. hits_of rows ++ hs) (hits-one collection doc query rest (number + 1) some) ∙ sym (append_assoc (hits_of rows) (hit ∷ []) later)
          ∙ ap (λ hs. hs ++ later) (sym pushed);
      rows_placed = All-push (IsPlaced collection) rows r s.rows_placed (record {
        within = omega (arith, next.within);
        document = document_at collection doc s.front rest (number + 1) (s.docs_is ∙ ap (λ r. s.front ++ r) e) (omega (arith, s.count)) ∙ next.doc_is;
      });
    }

-- all documents were read
pub ranked_all : {collection : List ℕ} {query : List (List ℕ)} {rows : List Row} {number place : ℕ} {rest : List (List ℕ)} →
    Ranked collection query rows number place rest → rest ≡ [] → hits_of rows ≡ hits_over collection query
ranked_all {collection} {query} {rows} {number} s none =
    sym (s.hits_is ∙ ap (λ r. hits_of rows ++ hits_from collection query (number + 1) r) none ∙ ap (λ hs. hits_of rows ++ hs) (hits-none collection query (number + 1)) ∙ append-nil (hits_of rows))
