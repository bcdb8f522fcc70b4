-- Laws of a ranked answer.
use Rattle.std.proofs.Common.{◌≡◌, ℕ, ◌+◌, ◌<◌, ◌≤◌, ◌^◌, List, [], ◌∷◌, ◌++◌, length, get_or, take, drop, Some, None, map, filter, refl, sym, ◌∙◌, ap, subst, arith, add-one, length-append, append-nil, append_assoc}
use Rattle.std.specs.Prelude.{nat_lt, nat_le, flat_map}
use Rattle.std.specs.List.{list_any, enumerate_from}
use Rattle.std.specs.declared.option.Option.{Option}
use Rattle.std.specs.declared.result.Result.{Result}
use Rattle.std.proofs.Math.Seq.{take-suc}
use Rattle.std.proofs.lemmas.Bool.{cond_both, leb-false}
use Rattle.std.specs.List.Sorted.{IsPermutation}
use Rattle.std.proofs.lemmas.List.Sorted.{length_permutation}
use Rattle.std.proofs.lemmas.List.{take-append-drop, take-map, length-map}
use Rattle.std.proofs.lemmas.List.Sums.{length-filter, count_by-le-length}
use Rattle.std.proofs.lemmas.List.FromFn.{length-enumerate_from}
use Rattle.mg_dev.specs.Streams.{AfterPut, GrewByPrefix}
use Rattle.mg_defs.specs.Tokens.{Token, PlacedToken, word, bar, amp, bang, opening, closing, tokens}
use Rattle.mg_defs.specs.Terms.{folded, same_term}
use Rattle.mg_defs.specs.Read.{ranked_with, ranked_token, ranked_next, ranked_from, ranked}
use Rattle.mg_defs.specs.Refusals.{Reading, reads, refused}
use Rattle.mg_defs.specs.Split.{documents}
use Rattle.mg_defs.specs.Weights.{Hit, hits_over, by_score, limited_to, has_term, score_over}
use Rattle.mg_defs.specs.Texts.{count}
use Rattle.mg_defs.specs.ShownAnswers.{shown, ranked_as, answer_text}
use Rattle.mg_defs.specs.declared.session.Mode.{Mode}
use Rattle.mg_defs.specs.declared.session.Settings.{Settings}
use Rattle.mg_reply.specs.Pending.{Passed}
use Rattle.mg_reply.proofs.CallerLemmas.{pass_nothing, pass_both, pass_cut, pass_part, pass_put, pass_refused}
use Rattle.mg_plain.specs.declared.order.Row.{Row}
use Rattle.mg_plain.specs.RankedRows.{hit_of, hits_of, shown_of, shown_rows, rows_text}
use Rattle.mg_plain.proofs.DocumentLaws.{few_documents}

-- ---- a ranked line has at most 64 terms

abbrev HasFew : Reading (List (List ℕ)) → Type 0
HasFew (reads terms) = length terms ≤ 64
HasFew (refused why) = Unit {0}

few_with : (terms : List (List ℕ)) (at : ℕ) (w : List ℕ) → length terms ≤ 64 → HasFew (ranked_with terms at w)
few_with terms at w few =
    cond_both (nat_lt 255 (length w)) _ _ HasFew (λ _. tt)
    (λ _. cond_both (list_any (same_term (folded w)) terms) _ _ HasFew (λ _. few)
    (λ _. cond_both (nat_le 64 (length terms)) _ _ HasFew (λ _. tt)
    (λ f. omega (arith, length-append terms (folded w ∷ []), leb-false 64 (length terms) f))))

few_token : (terms : List (List ℕ)) (at : ℕ) (t : Token) → length terms ≤ 64 → HasFew (ranked_token terms at t)
few_token terms at (word w) few = few_with terms at w few
few_token terms at bar few = few
few_token terms at amp few = few
few_token terms at bang few = few
few_token terms at opening few = few
few_token terms at closing few = few

few_next : (r : Reading (List (List ℕ))) (t : PlacedToken) → HasFew r → HasFew (ranked_next r t)
few_next (reads terms) t few = few_token terms t.at t.token few
few_next (refused why) t few = tt

few_from : (r : Reading (List (List ℕ))) (ts : List PlacedToken) → HasFew r → HasFew (ranked_from r ts)
few_from r [] few = few
few_from r (t ∷ ts) few = few_from (ranked_next r t) ts (few_next r t few)

pub few_terms : (line : List ℕ) (terms : List (List ℕ)) → ranked line ≡ reads terms → length terms ≤ 64
unfolding ranked
few_terms line terms e =
    let few : HasFew (reads []) = omega arith in
    subst HasFew e (few_from (reads []) (tokens line) few)

-- ---- there are no more rows than bytes

few_hits : (collection : List ℕ) (query : List (List ℕ)) → length (hits_over collection query) ≤ length collection
few_hits collection query =
    let docs = enumerate_from 1 (documents collection) in
    let is_met = λ (d : ℕ × List ℕ). list_any (has_term d.1) query in
    omega (
      arith,
      length-map {B = Hit} (filter is_met docs) (λ (d : ℕ × List ℕ). record { number = d.0; score = score_over collection query d.1 }),
      length-filter is_met docs,
      count_by-le-length is_met docs,
      length-enumerate_from 1 (documents collection),
      few_documents collection,
    )

pub few_rows : (collection : List ℕ) (query : List (List ℕ)) (rows sorted : List Row) → hits_of rows ≡ hits_over collection query → IsPermutation rows sorted →
    length collection ≤ 2 ^ 28 → length sorted ≤ 2 ^ 28
few_rows collection query rows sorted e same small =
    omega (arith, ap length e, length-map rows hit_of, few_hits collection query, length_permutation rows sorted same, small)

-- rows in the order of the ranking are the ranking
pub ranking-is : (collection : List ℕ) (query : List (List ℕ)) (rows : List Row) → hits_of rows ≡ by_score (hits_over collection query) → shown_rows rows ≡ ranked_as (hits_over collection query)
ranking-is collection query rows e = as_hits rows ∙ ap (map (λ (h : Hit). record { number = h.number; score = Some h.score })) e
  where
    as_hits : (rows : List Row) → shown_rows rows ≡ map (λ (h : Hit). record { number = h.number; score = Some h.score }) (hits_of rows)
    as_hits [] = refl
    as_hits (r ∷ rows) = ap (λ l. shown_of r ∷ l) (as_hits rows)

-- ---- showing rows one after another

text-append : (collection : List ℕ) (mode : Mode) (xs ys : List Row) → rows_text collection mode (xs ++ ys) ≡ rows_text collection mode xs ++ rows_text collection mode ys
unfolding rows_text
text-append collection mode [] ys = refl
text-append collection mode (x ∷ xs) ys = ap (λ t. shown collection mode (shown_of x) ++ t) (text-append collection mode xs ys)
    ∙ sym (append_assoc (shown collection mode (shown_of x)) (rows_text collection mode xs) (rows_text collection mode ys))

text-one : (collection : List ℕ) (mode : Mode) (r : Row) → rows_text collection mode (r ∷ []) ≡ shown collection mode (shown_of r)
unfolding rows_text
text-one collection mode r = append-nil (shown collection mode (shown_of r))

text-more : (collection : List ℕ) (mode : Mode) (rows : List Row) (i : ℕ) (d : Row) → i < length rows →
    rows_text collection mode (take (i + 1) rows) ≡ rows_text collection mode (take i rows) ++ shown collection mode (shown_of (get_or rows i d))
text-more collection mode rows i d lt =
    ap (λ n. rows_text collection mode (take n rows)) (add-one i) ∙ ap (rows_text collection mode) (take-suc rows i d lt) ∙ text-append collection mode (take i rows) (get_or rows i d ∷ [])
    ∙ ap (λ t. rows_text collection mode (take i rows) ++ t) (text-one collection mode (get_or rows i d))

pub rows_start : (collection : List ℕ) (mode : Mode) (rows : List Row) (w : Option (List ℕ)) (waiting : List ℕ) → Passed w w waiting waiting (rows_text collection mode (take 0 rows))
unfolding rows_text
rows_start collection mode rows w waiting = pass_nothing w waiting

pub rows_more : (collection : List ℕ) (mode : Mode) (rows : List Row) (i : ℕ) (d : Row) (w0 w1 w2 : Option (List ℕ)) (p0 p1 p2 : List ℕ) → i < length rows →
    Passed w0 w1 p0 p1 (rows_text collection mode (take i rows)) → Passed w1 w2 p1 p2 (shown collection mode (shown_of (get_or rows i d))) →
    Passed w0 w2 p0 p2 (rows_text collection mode (take (i + 1) rows))
rows_more collection mode rows i d w0 w1 w2 p0 p1 p2 lt before one =
    subst (Passed w0 w2 p0 p2) (sym (text-more collection mode rows i d lt)) (pass_both w0 w1 w2 p0 p1 p2 _ _ before one)

-- one was refused
pub rows_part : (collection : List ℕ) (mode : Mode) (rows : List Row) (i : ℕ) (d : Row) (w0 w1 w2 : Option (List ℕ)) (p0 p1 : List ℕ) → i < length rows →
    Passed w0 w1 p0 p1 (rows_text collection mode (take i rows)) → GrewByPrefix w1 w2 (p1 ++ shown collection mode (shown_of (get_or rows i d))) →
    GrewByPrefix w0 w2 (p0 ++ rows_text collection mode rows)
rows_part collection mode rows i d w0 w1 w2 p0 p1 lt before grew =
    let front = rows_text collection mode (take (i + 1) rows) in
    let back = rows_text collection mode (drop (i + 1) rows) in
    let whole : rows_text collection mode rows ≡ front ++ back = ap (rows_text collection mode) (sym (take-append-drop (i + 1) rows))
    ∙ text-append collection mode (take (i + 1) rows) (drop (i + 1) rows) in
    let cut : GrewByPrefix w0 w2 (p0 ++ (rows_text collection mode (take i rows) ++ shown collection mode (shown_of (get_or rows i d)))) =
    pass_cut w0 w1 w2 p0 p1 (rows_text collection mode (take i rows)) (shown collection mode (shown_of (get_or rows i d))) before grew in
    let part : GrewByPrefix w0 w2 (p0 ++ front) = subst (λ t. GrewByPrefix w0 w2 (p0 ++ t)) (sym (text-more collection mode rows i d lt)) cut in
    subst (λ t. GrewByPrefix w0 w2 (p0 ++ t)) (sym whole) (pass_part w0 w2 p0 front back part)

-- ---- the whole reply

first-map : (most : Option ℕ) (rows : List Row) → limited_to most (shown_rows rows) ≡ shown_rows (limited_to most rows)
first-map None rows = refl
first-map (Some k) rows = take-map shown_of k rows

text-answer : (collection : List ℕ) (now : Settings) (rows shown_too : List Row) → shown_too ≡ limited_to now.most rows →
    answer_text collection now (shown_rows rows) ≡ rows_text collection now.mode shown_too ++ count (length rows)
unfolding rows_text answer_text
text-answer collection now rows shown_too e =
    ap (λ xs. flat_map (shown collection now.mode) xs ++ count (length (shown_rows rows))) (first-map now.most rows ∙ ap shown_rows (sym e))
    ∙ ap (λ n. flat_map (shown collection now.mode) (shown_rows shown_too) ++ count n) (length-map rows shown_of)

pub answer_put : {T E : Type 0} (collection : List ℕ) (now : Settings) (rows : List Row) {shown_too : List Row} {w0 w1 w2 : Option (List ℕ)}
    {p0 p1 p2 : List ℕ} (w3 : Option (List ℕ)) (r : Result T E) → p0 ≡ [] → shown_too ≡ limited_to now.most rows → Passed w0 w1 p0 p1 (rows_text collection now.mode shown_too) →
    Passed w1 w2 p1 p2 (count (length rows)) → AfterPut w2 w3 p2 r → AfterPut w0 w3 (answer_text collection now (shown_rows rows)) r
answer_put collection now rows {shown_too} {w0} {w1} {w2} {p0} {p1} {p2} w3 r none e passed counted put =
    subst (λ t. AfterPut w0 w3 t r) (sym (text-answer collection now rows shown_too e)) (pass_put w0 w2 w3 p0 p2 _ r none (pass_both w0 w1 w2 p0 p1 p2 _ _ passed counted) put)

-- the count was refused
pub answer_cut : (collection : List ℕ) (now : Settings) (rows shown_too : List Row) (w0 w1 w2 : Option (List ℕ)) (p0 p1 : List ℕ) → p0 ≡ [] →
    shown_too ≡ limited_to now.most rows → Passed w0 w1 p0 p1 (rows_text collection now.mode shown_too) → GrewByPrefix w1 w2 (p1 ++ count (length rows)) →
    GrewByPrefix w0 w2 (answer_text collection now (shown_rows rows))
answer_cut collection now rows shown_too w0 w1 w2 p0 p1 none e passed grew =
    subst (GrewByPrefix w0 w2) (sym (text-answer collection now rows shown_too e)) (pass_refused w0 w2 p0 _ none (pass_cut w0 w1 w2 p0 p1 _ _ passed grew))

-- a row was refused
pub answer_part : (collection : List ℕ) (now : Settings) (rows shown_too : List Row) (w0 w1 : Option (List ℕ)) (p0 : List ℕ) → p0 ≡ [] →
    shown_too ≡ limited_to now.most rows → GrewByPrefix w0 w1 (p0 ++ rows_text collection now.mode shown_too) →
    GrewByPrefix w0 w1 (answer_text collection now (shown_rows rows))
answer_part collection now rows shown_too w0 w1 p0 none e grew =
    subst (GrewByPrefix w0 w1) (sym (text-answer collection now rows shown_too e)) (pass_refused w0 w1 p0 _ none (pass_part w0 w1 p0 _ _ grew))
