-- A ranked answer, shown row by row.
use Rattle.std.proofs.Common.{arith, ◌≡◌, ℕ, zero, suc, ◌+◌, ◌<◌, ◌≤◌}
use Rattle.std.proofs.Common.{List, [], ◌∷◌, ◌++◌, length, take, drop, filter, Some, None, Err, refl, sym, ◌∙◌, ap, subst, append_assoc, append-nil, add-one, sum_by}
use Rattle.std.specs.Prelude.{flat_map, slice_index_or, unwrap_or}
use Rattle.std.specs.List.{list_any, enumerate_from}
use Rattle.std.specs.declared.option.Option.{Option}
use Rattle.std.specs.declared.result.Result.{Result}
use Rattle.std.proofs.lemmas.List.{length-map, take-map, take-append-drop, take_all}
use Rattle.std.proofs.lemmas.List.FromFn.{length-enumerate_from}
use Rattle.std.proofs.lemmas.List.Sorted.{length_permutation}
use Rattle.std.proofs.lemmas.List.Sums.{count_by-le-length, length-filter, sum_by-cons}
use Rattle.mg_dev.specs.Files.{Reads}
use Rattle.mg_dev.specs.Streams.{AfterPut, GrewByPrefix}
use Rattle.mg_dev.specs.StreamLaws.{grew_first, grew_nothing}
use Rattle.mg_dev.specs.declared.part.Part.TheVariants as part
use Rattle.mg_dev.specs.declared.show_err.ShowErr.{ShowErr}
use Rattle.mg_defs.specs.CodedText.{TextCode}
use Rattle.mg_defs.specs.ShownAnswers.{Shown, answer_text, ranking, shown}
use Rattle.mg_defs.specs.Split.{documents}
use Rattle.mg_defs.specs.TextBounds.{doc_pages, texts_in}
use Rattle.mg_defs.specs.Texts.{count}
use Rattle.mg_defs.specs.Weights.{Hit, by_score, limited_to, has_term, hits, score}
use Rattle.mg_defs.specs.declared.session.Mode.{Mode}
use Rattle.mg_defs.specs.declared.session.Mode.TheVariants.{Docnums, Text, Count}
use Rattle.mg_defs.specs.declared.session.Settings.{Settings}
use Rattle.mg_defs.proofs.TopLaws.{by_score_permutes}
use Rattle.mg_reply.specs.Pending.{Passed}
use Rattle.mg_reply.proofs.CallerLemmas.{pass_both, pass_cut, pass_nothing, pass_part, pass_refused}
use Rattle.mg_text.specs.Reading.{ShowIsNotBad}
use Rattle.mg_reply.specs.Printed.{at_score}
use Rattle.mg_session.specs.Answering.{Answered, RowsShown, answer_pages, mode_pages, rows_pages, rows_text, shown_hit, shown_hits}
use Rattle.mg_session.specs.PagesAllowed.{PartPages, ReadsAllowed, rows_asked, rows_in}
use Rattle.mg_session.proofs.AllowedLaws.{KeepsParts, allowed_then}
use Rattle.mg_session.proofs.TotalLaws.{put_rows}

-- ---- row by row

text_next : (collection : List ℕ) (mode : Mode) (rows : List Hit) (i : ℕ) (d : Hit) → i < length rows →
    rows_text collection mode (take (suc i) rows) ≡ rows_text collection mode (take i rows) ++ shown collection mode (shown_hit (slice_index_or rows i d))
unfolding rows_text
text_next collection mode [] i d lt = absurd (omega (arith, lt))
text_next collection mode (r ∷ rows) zero d lt = append-nil (shown collection mode (shown_hit r))
text_next collection mode (r ∷ rows) (suc i) d lt =
    ap (λ t. shown collection mode (shown_hit r) ++ t) (text_next collection mode rows i d (omega (arith, lt)))
    ∙ sym (append_assoc (shown collection mode (shown_hit r)) (rows_text collection mode (take i rows)) (shown collection mode (shown_hit (slice_index_or rows i d))))

text_more : (collection : List ℕ) (mode : Mode) (rows : List Hit) (i : ℕ) (d : Hit) → i < length rows →
    rows_text collection mode (take (i + 1) rows) ≡ rows_text collection mode (take i rows) ++ shown collection mode (shown_hit (slice_index_or rows i d))
text_more collection mode rows i d lt = ap (λ n. rows_text collection mode (take n rows)) (add-one i) ∙ text_next collection mode rows i d lt

pages_cons : (code : TextCode) (collection : List ℕ) (mode : Mode) (r : Hit) (rows : List Hit) →
    rows_pages code collection mode (r ∷ rows) ≡ mode_pages code collection mode (shown_hit r) + rows_pages code collection mode rows
unfolding rows_pages
pages_cons code collection mode r rows = sum_by-cons (mode_pages code collection mode) (shown_hit r) (shown_hits rows)

pages_next : (code : TextCode) (collection : List ℕ) (mode : Mode) (rows : List Hit) (i : ℕ) (d : Hit) → i < length rows →
    rows_pages code collection mode (take (suc i) rows) ≡ rows_pages code collection mode (take i rows)
    + mode_pages code collection mode (shown_hit (slice_index_or rows i d))
unfolding rows_pages
pages_next code collection mode [] i d lt = absurd (omega (arith, lt))
pages_next code collection mode (r ∷ rows) zero d lt = omega arith
pages_next code collection mode (r ∷ rows) (suc i) d lt = omega (
  arith,
  pages_cons code collection mode r (take (suc i) rows),
  pages_cons code collection mode r (take i rows),
  pages_next code collection mode rows i d (omega (arith, lt)),
)

pages_more : (code : TextCode) (collection : List ℕ) (mode : Mode) (rows : List Hit) (i : ℕ) (d : Hit) → i < length rows →
    rows_pages code collection mode (take (i + 1) rows) ≡ rows_pages code collection mode (take i rows)
    + mode_pages code collection mode (shown_hit (slice_index_or rows i d))
pages_more code collection mode rows i d lt = ap (λ n. rows_pages code collection mode (take n rows)) (add-one i) ∙ pages_next code collection mode rows i d lt

text_append : (collection : List ℕ) (mode : Mode) (xs ys : List Hit) → rows_text collection mode (xs ++ ys) ≡ rows_text collection mode xs ++ rows_text collection mode ys
unfolding rows_text
text_append collection mode [] ys = refl
text_append collection mode (x ∷ xs) ys = ap (λ t. shown collection mode (shown_hit x) ++ t) (text_append collection mode xs ys)
    ∙ sym (append_assoc (shown collection mode (shown_hit x)) (rows_text collection mode xs) (rows_text collection mode ys))

pages_take : (code : TextCode) (collection : List ℕ) (mode : Mode) (k : ℕ) (rows : List Hit) → rows_pages code collection mode (take k rows) ≤ rows_pages code collection mode rows
unfolding rows_pages
pages_take code collection mode zero rows = omega arith
pages_take code collection mode (suc k) [] = omega arith
pages_take code collection mode (suc k) (r ∷ rows) = omega (arith, pages_cons code collection mode r (take k rows), pages_cons code collection mode r rows, pages_take code collection mode k rows)

row_is : (rows : List Hit) (i number score : ℕ) (d : Hit) → number ≡ (slice_index_or rows i d).number → score ≡ (slice_index_or rows i d).score →
    at_score number (Some score) ≡ shown_hit (slice_index_or rows i d)
row_is rows i number score d n s = λ j. record { number = n j; score = Some (s j) }

no_hit : Hit
no_hit = record { number = 0; score = 0 }

pub rows_start : (code : TextCode) (collection : List ℕ) (mode : Mode) (rows : List Hit) (w : Option (List ℕ)) (p : List ℕ) (r : Reads) → RowsShown code collection mode rows 0 w w p p r r
unfolding rows_text
rows_start code collection mode rows w p r = record { passed = pass_nothing w p; text = omega arith }

pub rows_more : (code : TextCode) (collection : List ℕ) (mode : Mode) (rows : List Hit) (i number score : ℕ) (w0 w1 w2 : Option (List ℕ)) (p0 p1 p2 : List ℕ)
    (r0 r1 r2 : Reads) → i < length rows → ((d : Hit) → number ≡ (slice_index_or rows i d).number) → ((d : Hit) → score ≡ (slice_index_or rows i d).score) →
    RowsShown code collection mode rows i w0 w1 p0 p1 r0 r1 → Passed w1 w2 p1 p2 (shown collection mode (at_score number (Some score))) →
    r2 part.Text ≤ r1 part.Text + mode_pages code collection mode (at_score number (Some score)) →
    RowsShown code collection mode rows (i + 1) w0 w2 p0 p2 r0 r2
rows_more code collection mode rows i number score w0 w1 w2 p0 p1 p2 r0 r1 r2 lt n s before one pages =
    let is = row_is rows i number score no_hit (n no_hit) (s no_hit) in
    record {
      passed = subst (Passed w0 w2 p0 p2) (sym (text_more collection mode rows i no_hit lt))
          (pass_both w0 w1 w2 p0 p1 p2 (rows_text collection mode (take i rows)) (shown collection mode (shown_hit (slice_index_or rows i no_hit)))
          before.passed (subst (λ h. Passed w1 w2 p1 p2 (shown collection mode h)) is one));
      text = omega (arith, before.text, pages, ap (mode_pages code collection mode) is, pages_more code collection mode rows i no_hit lt);
    }

-- a row was refused
pub rows_cut : (code : TextCode) (collection : List ℕ) (mode : Mode) (rows : List Hit) (i number score : ℕ) (w0 w1 w2 : Option (List ℕ)) (p0 p1 : List ℕ)
    (r0 r1 : Reads) → i < length rows → ((d : Hit) → number ≡ (slice_index_or rows i d).number) → ((d : Hit) → score ≡ (slice_index_or rows i d).score) →
    RowsShown code collection mode rows i w0 w1 p0 p1 r0 r1 → GrewByPrefix w1 w2 (p1 ++ shown collection mode (at_score number (Some score))) →
    GrewByPrefix w0 w2 (p0 ++ rows_text collection mode rows)
rows_cut code collection mode rows i number score w0 w1 w2 p0 p1 r0 r1 lt n s before grew =
    let is = row_is rows i number score no_hit (n no_hit) (s no_hit) in
    let front = rows_text collection mode (take i rows) in
    let one = shown collection mode (shown_hit (slice_index_or rows i no_hit)) in
    let back = rows_text collection mode (drop (i + 1) rows) in
    let whole : rows_text collection mode rows ≡ (front ++ one) ++ back =
    ap (rows_text collection mode) (sym (take-append-drop (i + 1) rows)) ∙ text_append collection mode (take (i + 1) rows) (drop (i + 1) rows)
    ∙ ap (λ t. t ++ back) (text_more collection mode rows i no_hit lt) in
    let cut : GrewByPrefix w0 w2 (p0 ++ (front ++ one)) = pass_cut w0 w1 w2 p0 p1 front one before.passed (subst (λ h. GrewByPrefix w1 w2 (p1 ++ shown collection mode h)) is grew) in
    subst (λ t. GrewByPrefix w0 w2 (p0 ++ t)) (sym whole) (pass_part w0 w2 p0 (front ++ one) back cut)

pub pages_cut : (code : TextCode) (collection : List ℕ) (mode : Mode) (rows : List Hit) (i number score : ℕ) (w0 w1 : Option (List ℕ)) (p0 p1 : List ℕ)
    (r0 r1 r2 : Reads) → i < length rows → ((d : Hit) → number ≡ (slice_index_or rows i d).number) → ((d : Hit) → score ≡ (slice_index_or rows i d).score) →
    RowsShown code collection mode rows i w0 w1 p0 p1 r0 r1 → r2 part.Text ≤ r1 part.Text + mode_pages code collection mode (at_score number (Some score)) →
    r2 part.Text ≤ r0 part.Text + rows_pages code collection mode rows
pages_cut code collection mode rows i number score w0 w1 p0 p1 r0 r1 r2 lt n s before pages =
    omega (
      arith,
      before.text,
      pages,
      ap (mode_pages code collection mode) (row_is rows i number score no_hit (n no_hit) (s no_hit)),
      pages_more code collection mode rows i no_hit lt,
      pages_take code collection mode (i + 1) rows,
    )

pub rows_passed : (code : TextCode) (collection : List ℕ) (mode : Mode) (rows : List Hit) (w0 w1 : Option (List ℕ)) (p0 p1 : List ℕ) (r0 r1 : Reads) →
    RowsShown code collection mode rows (length rows) w0 w1 p0 p1 r0 r1 → Passed w0 w1 p0 p1 (rows_text collection mode rows)
rows_passed code collection mode rows w0 w1 p0 p1 r0 r1 all = subst (λ xs. Passed w0 w1 p0 p1 (rows_text collection mode xs)) (take_all (length rows) rows (omega arith)) all.passed

pub rows_read : (code : TextCode) (collection : List ℕ) (mode : Mode) (rows : List Hit) (w0 w1 : Option (List ℕ)) (p0 p1 : List ℕ) (r0 r1 : Reads) →
    RowsShown code collection mode rows (length rows) w0 w1 p0 p1 r0 r1 → r1 part.Text ≤ r0 part.Text + rows_pages code collection mode rows
rows_read code collection mode rows w0 w1 p0 p1 r0 r1 all = omega (arith, all.text, pages_take code collection mode (length rows) rows)

-- ---- the rows are the first of the answer

few_hits : (collection : List ℕ) (query : List (List ℕ)) → length (hits collection query) ≤ length (documents collection)
few_hits collection query =
    let docs = enumerate_from 1 (documents collection) in
    let is_met = λ (d : ℕ × List ℕ). list_any (has_term d.1) query in
    omega (
      arith,
      length-map {B = Hit} (filter is_met docs) (λ (d : ℕ × List ℕ). record { number = d.0; score = score collection query d.1 }),
      length-filter is_met docs,
      count_by-le-length is_met docs,
      length-enumerate_from 1 (documents collection),
    )

ranked_count : (collection : List ℕ) (query : List (List ℕ)) → length (by_score (hits collection query)) ≡ length (hits collection query)
ranked_count collection query = length_permutation (hits collection query) (by_score (hits collection query)) (by_score_permutes (hits collection query))

first_rows : (collection : List ℕ) (query : List (List ℕ)) (most : Option ℕ) (all : ℕ) → all ≡ length (documents collection) →
    shown_hits (take (unwrap_or most all) (by_score (hits collection query))) ≡ limited_to most (ranking collection query)
first_rows collection query None all is = ap shown_hits (take_all all (by_score (hits collection query)) (omega (arith, is, few_hits collection query, ranked_count collection query)))
first_rows collection query (Some k) all is = sym (take-map shown_hit k (by_score (hits collection query)))

no_mode_pages : (rows : List Shown) → sum_by (λ (h : Shown). 0) rows ≡ 0
no_mode_pages [] = refl
no_mode_pages (r ∷ rows) = no_mode_pages rows

mode_sum : (code : TextCode) (collection : List ℕ) (mode : Mode) (most : Option ℕ) (answer : List Shown) →
    sum_by (mode_pages code collection mode) (limited_to most answer) ≡ sum_by (doc_pages code collection) (texts_in mode most answer)
mode_sum code collection Docnums most answer = no_mode_pages (limited_to most answer)
mode_sum code collection Text most answer = refl
mode_sum code collection Count most answer = no_mode_pages (limited_to most answer)

-- ---- where only the count is shown, no row is

nothing_shown : (collection : List ℕ) (rows : List Shown) → flat_map (shown collection Count) rows ≡ []
nothing_shown collection [] = refl
nothing_shown collection (r ∷ rows) = nothing_shown collection rows

shown_first : (collection : List ℕ) (query : List (List ℕ)) (mode : Mode) (most : Option ℕ) (all : ℕ) → all ≡ length (documents collection) →
    flat_map (shown collection mode) (shown_hits (take (rows_in mode (unwrap_or most all)) (by_score (hits collection query))))
    ≡ flat_map (shown collection mode) (limited_to most (ranking collection query))
shown_first collection query Docnums most all is = ap (flat_map (shown collection Docnums)) (first_rows collection query most all is)
shown_first collection query Text most all is = ap (flat_map (shown collection Text)) (first_rows collection query most all is)
shown_first collection query Count most all is =
    nothing_shown collection (shown_hits (take 0 (by_score (hits collection query)))) ∙ sym (nothing_shown collection (limited_to most (ranking collection query)))

pages_first : (code : TextCode) (collection : List ℕ) (query : List (List ℕ)) (mode : Mode) (most : Option ℕ) (all : ℕ) → all ≡ length (documents collection) →
    sum_by (mode_pages code collection mode) (shown_hits (take (rows_in mode (unwrap_or most all)) (by_score (hits collection query))))
    ≡ sum_by (mode_pages code collection mode) (limited_to most (ranking collection query))
pages_first code collection query Docnums most all is = ap (sum_by (mode_pages code collection Docnums)) (first_rows collection query most all is)
pages_first code collection query Text most all is = ap (sum_by (mode_pages code collection Text)) (first_rows collection query most all is)
pages_first code collection query Count most all is =
    no_mode_pages (shown_hits (take 0 (by_score (hits collection query)))) ∙ sym (no_mode_pages (limited_to most (ranking collection query)))

rows_pages_are : (code : TextCode) (collection : List ℕ) (query : List (List ℕ)) (now : Settings) (all : ℕ) (rows : List Hit) →
    all ≡ length (documents collection) → rows ≡ take (rows_asked now all) (by_score (hits collection query)) →
    rows_pages code collection now.mode rows ≡ answer_pages code collection now (ranking collection query)
unfolding rows_pages
rows_pages_are code collection query now all rows is e =
    ap (λ hits. sum_by (mode_pages code collection now.mode) (shown_hits hits)) e ∙ pages_first code collection query now.mode now.most all is
    ∙ mode_sum code collection now.mode now.most (ranking collection query)

rows_text_is : (collection : List ℕ) (query : List (List ℕ)) (now : Settings) (all total : ℕ) (rows : List Hit) → all ≡ length (documents collection) →
    rows ≡ take (rows_asked now all) (by_score (hits collection query)) → total ≡ length (hits collection query) →
    answer_text collection now (ranking collection query) ≡ rows_text collection now.mode rows ++ count total
unfolding answer_text rows_text
rows_text_is collection query now all total rows is e n =
    let same : flat_map (shown collection now.mode) (shown_hits rows) ≡ flat_map (shown collection now.mode) (limited_to now.most (ranking collection query)) =
    ap (λ hits. flat_map (shown collection now.mode) (shown_hits hits)) e ∙ shown_first collection query now.mode now.most all is in
    let size : length (ranking collection query) ≡ total = length-map (by_score (hits collection query)) shown_hit ∙ ranked_count collection query ∙ sym n in
    ap (λ k. flat_map (shown collection now.mode) (limited_to now.most (ranking collection query)) ++ count k) size
    ∙ ap (λ t. t ++ count total) (sym same)

-- ---- numbers that are shown

pub numbered : (n : ℕ) (rows : List Hit) (i number : ℕ) →
    ((k : ℕ) (d : Hit) → k < length rows → (1 ≤ (slice_index_or rows k d).number) × ((slice_index_or rows k d).number ≤ n)) → i < length rows →
    ((d : Hit) → number ≡ (slice_index_or rows i d).number) → (1 ≤ number) × (number ≤ n)
numbered n rows i number all lt is = (omega (arith, (all i no_hit lt).0, is no_hit), omega (arith, (all i no_hit lt).1, is no_hit))

-- ---- the whole answer

-- the lists or the weights were refused
pub terms_stop : (code : TextCode) (collection : List ℕ) (now : Settings) (query : List (List ℕ)) (most : PartPages) (w : Option (List ℕ)) (r0 r1 : Reads)
    (error : ShowErr) → ReadsAllowed most r0 r1 → r1 part.Text ≡ r0 part.Text → ShowIsNotBad (Err error) →
    Answered code collection now (ranking collection query) most w w r0 r1 (Err error)
terms_stop code collection now query most w r0 r1 error allowed text sound = record {
  put = grew_nothing w (answer_text collection now (ranking collection query));
  sound = sound;
  allowed = allowed;
  text = omega (arith, text);
}

-- the rows are the first of the answer, and so many documents are counted
pub record AreRows (collection : List ℕ) (query : List (List ℕ)) (now : Settings) (all total : ℕ) (rows : List Hit) : Type 0 where
  pub all_is : all ≡ length (documents collection)
  pub rows_are : rows ≡ take (rows_asked now all) (by_score (hits collection query))
  pub total_is : total ≡ length (hits collection query)

-- the rows of an answer to the terms that are known
pub are_rows : (collection : List ℕ) (kept query : List (List ℕ)) (now : Settings) (all most total : ℕ) (rows : List Hit) →
    hits collection kept ≡ hits collection query → all ≡ length (documents collection) → most ≡ rows_asked now all →
    rows ≡ take most (by_score (hits collection kept)) → total ≡ length (hits collection kept) → AreRows collection query now all total rows
are_rows collection kept query now all most total rows same is m rows_are total_is = record {
  all_is = is;
  rows_are = rows_are ∙ ap (λ hs. take most (by_score hs)) same ∙ ap (λ k. take k (by_score (hits collection query))) m;
  total_is = total_is ∙ ap length same;
}

-- the rows and the count were put, or refused
pub rows_end : {code : TextCode} {collection : List ℕ} {now : Settings} (query : List (List ℕ)) {all total : ℕ} {most : PartPages} {rows : List Hit} {w0 w1 : Option (List ℕ)}
    {r0 : Reads} (r1 : Reads) {r2 : Reads} {result : Result (Unit {0}) ShowErr} → AreRows collection query now all total rows → ReadsAllowed most r0 r1 → r1 part.Text ≡ r0 part.Text →
    AfterPut w0 w1 (rows_text collection now.mode rows ++ count total) result → KeepsParts r1 r2 →
    r2 part.Text ≤ r1 part.Text + rows_pages code collection now.mode rows → ShowIsNotBad result →
    Answered code collection now (ranking collection query) most w0 w1 r0 r2 result
rows_end {code} {collection} {now} query {all} {total} {most} {rows} {w0} {w1} {r0} r1 {r2} {result} are allowed text put kept shown_text sound = record {
  put = subst (λ t. AfterPut w0 w1 t result) (sym (rows_text_is collection query now all total rows are.all_is are.rows_are are.total_is)) put;
  sound = sound;
  allowed = allowed_then allowed kept;
  text = omega (arith, text, shown_text, rows_pages_are code collection query now all rows are.all_is are.rows_are);
}

-- ---- a ranking on its way out

-- rows were passed on, and the count was put behind them or refused
pub ranking_put : (collection : List ℕ) (mode : Mode) (rows same : List Hit) (total told : ℕ) (w0 w1 w2 : Option (List ℕ)) (waited waiting : List ℕ)
    (r : Result (Unit {0}) ShowErr) → rows ≡ same → total ≡ told → waited ≡ [] →
    Passed w0 w1 waited waiting (rows_text collection mode rows) → AfterPut w1 w2 (waiting ++ count total) r → AfterPut w0 w2 (rows_text collection mode same ++ count told) r
ranking_put collection mode rows same total told w0 w1 w2 waited waiting r is is_told none passed put =
    subst (λ n. AfterPut w0 w2 (rows_text collection mode same ++ count n) r) is_told
    (subst (λ hits. AfterPut w0 w2 (rows_text collection mode hits ++ count total) r) is (put_rows w0 w1 w2 waited waiting (rows_text collection mode rows) (count total) r none passed put))

-- a row was refused, and so nothing came behind the rows
pub ranking_cut : (collection : List ℕ) (mode : Mode) (rows same : List Hit) (more : List ℕ) (w0 w1 : Option (List ℕ)) (waited : List ℕ) → rows ≡ same →
    waited ≡ [] → GrewByPrefix w0 w1 (waited ++ rows_text collection mode rows) → GrewByPrefix w0 w1 (rows_text collection mode same ++ more)
ranking_cut collection mode rows same more w0 w1 waited is none grew =
    subst (λ hits. GrewByPrefix w0 w1 (rows_text collection mode hits ++ more)) is
    (grew_first w0 w1 (rows_text collection mode rows) more (pass_refused w0 w1 waited (rows_text collection mode rows) none grew))
