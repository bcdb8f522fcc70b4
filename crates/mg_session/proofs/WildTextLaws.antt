-- The answer to a pattern: its terms, their lists, and what is printed of both.
use Rattle.std.proofs.Common.{arith, ◌≡◌, ◌≢◌, ℕ, zero, suc, ◌+◌, ◌-◌, ◌<◌, ◌≤◌, ◌∙◌, true, false}
use Rattle.std.proofs.Common.{List, [], ◌∷◌, ◌++◌, length, get_or, slice_get, map, take, drop, filter, codes, Some, None, Err, inl, inr, refl, sym, ap, subst, append_assoc, append-nil, add-one}
use Rattle.std.specs.Prelude.{◌||◌}
use Rattle.std.specs.List.{flat_map, list_any}
use Rattle.std.specs.declared.option.Option.{Option}
use Rattle.std.specs.declared.result.Result.{Result}
use Rattle.std.proofs.lemmas.Bool.{cases_Bool, cases_eq, or_left, or_right}
use Rattle.std.proofs.lemmas.Grind.{flat_map-append}
use Rattle.std.proofs.lemmas.List.{map-append, take-append-drop, take_more}
use Rattle.std.proofs.lemmas.Option.{slice_get-get_or}
use Rattle.std.proofs.Math.Seq.{take-length}
use Rattle.mg_dev.specs.Files.{Files, Reads}
use Rattle.mg_dev.specs.Streams.{AfterPut, GrewByPrefix}
use Rattle.mg_dev.specs.StreamLaws.{grew_first, grew_nothing}
use Rattle.mg_dev.specs.declared.part.Part.{Part}
use Rattle.mg_dev.specs.declared.part.Part.TheVariants as part
use Rattle.mg_dev.specs.declared.show_err.ShowErr.{ShowErr}
use Rattle.mg_defs.specs.Lexicon as defs
use Rattle.mg_defs.specs.Patterns.{Pattern, has_match, matches, matching}
use Rattle.mg_defs.specs.Rotations.{matching_numbers}
use Rattle.mg_defs.specs.Split.{documents}
use Rattle.mg_defs.specs.Terms.{dictionary, docs, document, same_term}
use Rattle.mg_defs.specs.Texts.{count, row}
use Rattle.mg_defs.specs.Weights.{has_term}
use Rattle.mg_defs.specs.WildSession.{match_text, numbers_text, term_row, with_match}
use Rattle.mg_defs.proofs.ReplyLaws.{document_at}
use Rattle.mg_defs.proofs.SortedLaws.{same-refl}
use Rattle.mg_defs.proofs.TermLaws.{document_is}
use Rattle.mg_laws.proofs.MatchLists.{match_lists}
use Rattle.mg_layout.specs.Infos.{IsInfoOf}
use Rattle.mg_layout.specs.declared.term_info.TermInfo.{TermInfo}
use Rattle.mg_reply.specs.Pending.{AfterPass, Passed}
use Rattle.mg_reply.proofs.CallerLemmas.{pass_nothing, pass_both, pass_cut, pass_more, pass_part, pass_put, pass_refused}
use Rattle.mg_text.specs.Reading.{ShowIsNotBad}
use Rattle.mg_wild.specs.Loading.{HasTermsOf, TellsOf}
use Rattle.mg_wild.specs.Terms.{LexTerms}
use Rattle.mg_session.specs.DocumentSets.{DocumentMarks, IsNextBehind, has_doc, marked_to}
use Rattle.mg_session.specs.WildAnswers.{NeverReadByPatterns, ReadsNoOther, WildAnswered, WildSources}
use Rattle.mg_session.specs.WildMarks.{AddsLists, ReadsPost, term_rows, terms_at}
use Rattle.mg_session.proofs.MarkLaws.{marked_end, marked_hit, marked_miss, marked_next, marked_none}

-- ---- the numbers of the terms that match

number-hit : (p : Pattern) (n : ℕ) (t : List ℕ) (ts : List (List ℕ)) → matches p t ≡ true → matching_numbers p n (t ∷ ts) ≡ n ∷ matching_numbers p (n + 1) ts
unfolding matching_numbers
number-hit p n t ts is = rw is refl

number-miss : (p : Pattern) (n : ℕ) (t : List ℕ) (ts : List (List ℕ)) → matches p t ≡ false → matching_numbers p n (t ∷ ts) ≡ matching_numbers p (n + 1) ts
unfolding matching_numbers
number-miss p n t ts is = rw is refl

number-none : (p : Pattern) (n : ℕ) → matching_numbers p n [] ≡ []
unfolding matching_numbers
number-none p n = refl

abbrev AreBelow : ℕ → List ℕ → Type 0
AreBelow bound ns = (k d : ℕ) → k < length ns → get_or ns k d < bound

below-cons : (bound n : ℕ) (ns : List ℕ) → n < bound → AreBelow bound ns → AreBelow bound (n ∷ ns)
below-cons bound n ns lt rest zero d within = lt
below-cons bound n ns lt rest (suc k) d within = rest k d (omega (arith, within))

below-none : (bound : ℕ) → AreBelow bound []
below-none bound k d within = absurd (omega (arith, within))

numbers_from : (p : Pattern) (bound n : ℕ) (ts : List (List ℕ)) → bound ≡ n + length ts → AreBelow bound (matching_numbers p n ts)
numbers_from p bound n [] is = subst (AreBelow bound) (sym (number-none p n)) (below-none bound)
numbers_from p bound n (t ∷ ts) is =
    let rest = numbers_from p bound (n + 1) ts (omega (arith, is)) in
    elim (cases_Bool (matches p t)) [
      | inl hit ↦ subst (AreBelow bound) (sym (number-hit p n t ts hit)) (below-cons bound n (matching_numbers p (n + 1) ts) (omega (arith, is)) rest)
      | inr miss ↦ subst (AreBelow bound) (sym (number-miss p n t ts miss)) rest
    ]

-- they are numbers of terms
pub numbers_below : (p : Pattern) (terms : List (List ℕ)) (ns : List ℕ) → ns ≡ matching_numbers p 0 terms → AreBelow (length terms) ns
numbers_below p terms ns is = subst (AreBelow (length terms)) (sym is) (numbers_from p (length terms) 0 terms (omega arith))

term_here : (front rest : List (List ℕ)) (t : List ℕ) (n : ℕ) → n ≡ length front → get_or (front ++ (t ∷ rest)) n [] ≡ t
term_here front rest t n is = ap (λ k. get_or (front ++ (t ∷ rest)) k []) is ∙ at front
  where
    at : (front : List (List ℕ)) → get_or (front ++ (t ∷ rest)) (length front) [] ≡ t
    at [] = refl
    at (d ∷ front) = at front

terms_from : (p : Pattern) (all front ts : List (List ℕ)) (n : ℕ) → all ≡ front ++ ts → n ≡ length front → map (λ k. get_or all k []) (matching_numbers p n ts) ≡ filter (matches p) ts
terms_from p all front [] n is size = ap (map (λ k. get_or all k [])) (number-none p n)
terms_from p all front (t ∷ ts) n is size =
    let rest : map (λ k. get_or all k []) (matching_numbers p (n + 1) ts) ≡ filter (matches p) ts =
    terms_from p all (front ++ t ∷ []) ts (n + 1) (is ∙ sym (append_assoc front (t ∷ []) ts)) (omega (arith, size, one_more front t)) in
    elim (cases_Bool (matches p t)) [
      | inl hit ↦
          ap (map (λ k. get_or all k [])) (number-hit p n t ts hit)
          ∙ ap (λ u. u ∷ map (λ k. get_or all k []) (matching_numbers p (n + 1) ts)) (ap (λ us. get_or us n []) is ∙ term_here front ts t n size)
          ∙ ap (λ us. t ∷ us) rest
          ∙ sym (filter-hit t ts hit)
      | inr miss ↦ ap (map (λ k. get_or all k [])) (number-miss p n t ts miss) ∙ rest ∙ sym (filter-miss t ts miss)
    ]
  where
    one_more : (front : List (List ℕ)) (t : List ℕ) → length (front ++ t ∷ []) ≡ length front + 1
    one_more [] t = refl
    one_more (d ∷ front) t = omega (arith, one_more front t)

    filter-hit : (t : List ℕ) (ts : List (List ℕ)) → matches p t ≡ true → filter (matches p) (t ∷ ts) ≡ t ∷ filter (matches p) ts
    filter-hit t ts is = rw is refl

    filter-miss : (t : List ℕ) (ts : List (List ℕ)) → matches p t ≡ false → filter (matches p) (t ∷ ts) ≡ filter (matches p) ts
    filter-miss t ts is = rw is refl

-- the terms with these numbers are those that match
pub matching_terms : (collection : List ℕ) (p : Pattern) (terms : List (List ℕ)) (ns : List ℕ) → ns ≡ matching_numbers p 0 terms →
    terms ≡ dictionary collection → terms_at collection ns ≡ matching collection p
matching_terms collection p terms ns is same =
    ap (terms_at collection) (is ∙ ap (matching_numbers p 0) same) ∙ terms_from p (dictionary collection) [] (dictionary collection) 0 refl refl

-- ---- what is told of a term

pub told_info : (collection : List ℕ) (r : LexTerms) (n : ℕ) (info : TermInfo) → HasTermsOf r collection → TellsOf r collection → n < length r.terms →
    slice_get r.infos n ≡ Some info → info.number ≡ n → IsInfoOf collection (get_or (dictionary collection) n []) info
told_info collection r n info has tells within is number =
    let there : slice_get (dictionary collection) n ≡ Some (get_or (dictionary collection) n []) = slice_get-get_or (dictionary collection) n [] (omega (arith, within, ap length has.terms)) in
    record {
      number = ap (slice_get (dictionary collection)) number ∙ there;
      is = tells n info (get_or (dictionary collection) n []) is there ∙ ap (λ k. defs.info_of collection k (get_or (dictionary collection) n [])) (sym number);
    }

pub told_docs : (collection t : List ℕ) (info : TermInfo) → IsInfoOf collection t info → info.docs ≡ docs collection t
told_docs collection t info told = ap (λ (x : defs.TermInfo). x.docs) told.is

-- the terms with one number more
pub terms_next : (collection : List ℕ) (ns : List ℕ) (i n : ℕ) → i < length ns → n ≡ get_or ns i 0 →
    terms_at collection (take (i + 1) ns) ≡ terms_at collection (take i ns) ++ get_or (dictionary collection) n [] ∷ []
terms_next collection ns i n within is =
    let number : ℕ → List ℕ = λ k. get_or (dictionary collection) k [] in
    ap (map number) (take_more ns i 0 within) ∙ map-append number (take i ns) (get_or ns i 0 ∷ []) ∙ ap (λ k. terms_at collection (take i ns) ++ number k ∷ []) (sym is)

-- ---- the row of a term

term-is : (t : List ℕ) (n : ℕ) → codes "+ " ++ (t ++ (codes " " ++ row n None)) ≡ term_row t n
unfolding term_row row
term-is t n = refl

pub term_cut_first : (t : List ℕ) (n : ℕ) (w0 w1 : Option (List ℕ)) (p0 : List ℕ) → GrewByPrefix w0 w1 (p0 ++ codes "+ ") → GrewByPrefix w0 w1 (p0 ++ term_row t n)
term_cut_first t n w0 w1 p0 grew = subst (λ x. GrewByPrefix w0 w1 (p0 ++ x)) (term-is t n) (pass_part w0 w1 p0 (codes "+ ") (t ++ (codes " " ++ row n None)) grew)

pub term_cut_second : (t : List ℕ) (n : ℕ) (w0 w1 w2 : Option (List ℕ)) (p0 p1 : List ℕ) → Passed w0 w1 p0 p1 (codes "+ ") → GrewByPrefix w1 w2 (p1 ++ t) → GrewByPrefix w0 w2 (p0 ++ term_row t n)
term_cut_second t n w0 w1 w2 p0 p1 first grew =
    subst (λ x. GrewByPrefix w0 w2 (p0 ++ x)) (term-is t n)
    (pass_cut w0 w1 w2 p0 p1 (codes "+ ") (t ++ (codes " " ++ row n None)) first (pass_part w1 w2 p1 t (codes " " ++ row n None) grew))

pub term_cut_third : (t : List ℕ) (n : ℕ) (w0 w1 w2 w3 : Option (List ℕ)) (p0 p1 p2 : List ℕ) → Passed w0 w1 p0 p1 (codes "+ ") → Passed w1 w2 p1 p2 t →
    GrewByPrefix w2 w3 (p2 ++ codes " ") → GrewByPrefix w0 w3 (p0 ++ term_row t n)
term_cut_third t n w0 w1 w2 w3 p0 p1 p2 first second grew =
    subst (λ x. GrewByPrefix w0 w3 (p0 ++ x)) (term-is t n)
    (pass_cut w0 w1 w3 p0 p1 (codes "+ ") (t ++ (codes " " ++ row n None)) first (pass_cut w1 w2 w3 p1 p2 t (codes " " ++ row n None) second (pass_part w2 w3 p2 (codes " ") (row n None) grew)))

pub term_passed : {T E : Type 0} (t : List ℕ) (n : ℕ) (w0 w1 w2 w3 w4 : Option (List ℕ)) (p0 p1 p2 p3 p4 : List ℕ) (r : Result T E) →
    Passed w0 w1 p0 p1 (codes "+ ") → Passed w1 w2 p1 p2 t → Passed w2 w3 p2 p3 (codes " ") → AfterPass w3 w4 p3 p4 (row n None) r →
    AfterPass w0 w4 p0 p4 (term_row t n) r
term_passed t n w0 w1 w2 w3 w4 p0 p1 p2 p3 p4 r first second third last =
    subst (λ x. AfterPass w0 w4 p0 p4 x r) (term-is t n)
    (pass_more w0 w1 w4 p0 p1 p4 (codes "+ ") (t ++ (codes " " ++ row n None)) r first
    (pass_more w1 w2 w4 p1 p2 p4 t (codes " " ++ row n None) r second (pass_more w2 w3 w4 p2 p3 p4 (codes " ") (row n None) r third last)))

-- ---- the rows of terms

rows-append : (collection : List ℕ) (ts us : List (List ℕ)) → term_rows collection (ts ++ us) ≡ term_rows collection ts ++ term_rows collection us
unfolding term_rows
rows-append collection ts us = flat_map-append (λ t. term_row t (docs collection t)) ts us

rows-none : (collection : List ℕ) → term_rows collection [] ≡ []
unfolding term_rows
rows-none collection = refl

rows-one : (collection t : List ℕ) → term_rows collection (t ∷ []) ≡ term_row t (docs collection t)
unfolding term_rows
rows-one collection t = append-nil (term_row t (docs collection t))

rows-next : (collection : List ℕ) (ns : List ℕ) (i n : ℕ) → i < length ns → n ≡ get_or ns i 0 →
    term_rows collection (terms_at collection (take (i + 1) ns)) ≡ term_rows collection (terms_at collection (take i ns))
    ++ term_row (get_or (dictionary collection) n []) (docs collection (get_or (dictionary collection) n []))
rows-next collection ns i n within is =
    let t = get_or (dictionary collection) n [] in
    ap (term_rows collection) (terms_next collection ns i n within is) ∙ rows-append collection (terms_at collection (take i ns)) (t ∷ [])
    ∙ ap (λ x. term_rows collection (terms_at collection (take i ns)) ++ x) (rows-one collection t)

pub terms_start : (collection : List ℕ) (ns : List ℕ) (w : Option (List ℕ)) (waiting : List ℕ) → Passed w w waiting waiting (term_rows collection (terms_at collection (take 0 ns)))
terms_start collection ns w waiting = subst (Passed w w waiting waiting) (sym (rows-none collection)) (pass_nothing w waiting)

row_told : (collection : List ℕ) (n count : ℕ) (t : List ℕ) → t ≡ get_or (dictionary collection) n [] →
    count ≡ docs collection (get_or (dictionary collection) n []) →
    term_row t count ≡ term_row (get_or (dictionary collection) n []) (docs collection (get_or (dictionary collection) n []))
row_told collection n count t is told = ap (λ u. term_row u count) is ∙ ap (term_row (get_or (dictionary collection) n [])) told

pub terms_passed : (collection : List ℕ) (ns : List ℕ) (i n count : ℕ) (t : List ℕ) (w0 w1 w2 : Option (List ℕ)) (p0 p1 p2 : List ℕ) → i < length ns →
    n ≡ get_or ns i 0 → t ≡ get_or (dictionary collection) n [] → count ≡ docs collection (get_or (dictionary collection) n []) →
    Passed w0 w1 p0 p1 (term_rows collection (terms_at collection (take i ns))) → Passed w1 w2 p1 p2 (term_row t count) →
    Passed w0 w2 p0 p2 (term_rows collection (terms_at collection (take (i + 1) ns)))
terms_passed collection ns i n count t w0 w1 w2 p0 p1 p2 within is named told before one =
    subst (Passed w0 w2 p0 p2) (sym (rows-next collection ns i n within is))
    (pass_both w0 w1 w2 p0 p1 p2 (term_rows collection (terms_at collection (take i ns))) _ before (subst (Passed w1 w2 p1 p2) (row_told collection n count t named told) one))

-- a row was refused
pub terms_cut : (collection : List ℕ) (ns : List ℕ) (i n count : ℕ) (t : List ℕ) (w0 w1 w2 : Option (List ℕ)) (p0 p1 : List ℕ) → i < length ns →
    n ≡ get_or ns i 0 → t ≡ get_or (dictionary collection) n [] → count ≡ docs collection (get_or (dictionary collection) n []) →
    Passed w0 w1 p0 p1 (term_rows collection (terms_at collection (take i ns))) → GrewByPrefix w1 w2 (p1 ++ term_row t count) → GrewByPrefix w0 w2 (p0 ++ term_rows collection (terms_at collection ns))
terms_cut collection ns i n count t w0 w1 w2 p0 p1 within is named told before grew =
    let front = term_rows collection (terms_at collection (take i ns)) in
    let one = term_row (get_or (dictionary collection) n []) (docs collection (get_or (dictionary collection) n [])) in
    let back = term_rows collection (terms_at collection (drop (i + 1) ns)) in
    let split : terms_at collection ns ≡ terms_at collection (take (i + 1) ns) ++ terms_at collection (drop (i + 1) ns) =
    ap (terms_at collection) (sym (take-append-drop (i + 1) ns)) ∙ map-append (λ k. get_or (dictionary collection) k []) (take (i + 1) ns) (drop (i + 1) ns) in
    let whole : term_rows collection (terms_at collection ns) ≡ (front ++ one) ++ back =
    ap (term_rows collection) split ∙ rows-append collection (terms_at collection (take (i + 1) ns)) (terms_at collection (drop (i + 1) ns))
    ∙ ap (λ x. x ++ back) (rows-next collection ns i n within is) in
    let cut : GrewByPrefix w0 w2 (p0 ++ (front ++ one)) = pass_cut w0 w1 w2 p0 p1 front one before (subst (λ x. GrewByPrefix w1 w2 (p1 ++ x)) (row_told collection n count t named told) grew) in
    subst (λ x. GrewByPrefix w0 w2 (p0 ++ x)) (sym whole) (pass_part w0 w2 p0 (front ++ one) back cut)

pub terms_all : (collection : List ℕ) (ns : List ℕ) (i : ℕ) (w0 w1 : Option (List ℕ)) (p0 p1 : List ℕ) → i ≡ length ns →
    Passed w0 w1 p0 p1 (term_rows collection (terms_at collection (take i ns))) → Passed w0 w1 p0 p1 (term_rows collection (terms_at collection ns))
terms_all collection ns i w0 w1 p0 p1 is passed = subst (λ xs. Passed w0 w1 p0 p1 (term_rows collection (terms_at collection xs))) (ap (λ k. take k ns) is ∙ take-length ns) passed

-- ---- the rows of documents

-- what is printed for the documents up to a number
unfoldable pub rows_to : DocumentMarks → ℕ → List ℕ
rows_to marks last = flat_map (λ n. row n None) (marked_to marks last)

numbers-is : (marks : DocumentMarks) (last : ℕ) → numbers_text (marked_to marks last) ≡ rows_to marks last ++ count (length (marked_to marks last))
unfolding rows_to
numbers-is marks last = refl

rows_next : (marks : DocumentMarks) (last doc : ℕ) → IsNextBehind last marks doc → rows_to marks doc ≡ rows_to marks last ++ row doc None
unfolding rows_to
rows_next marks last doc next =
    ap (flat_map (λ n. row n None)) (marked_next marks last doc next) ∙ flat_map-append (λ n. row n None) (marked_to marks last) (doc ∷ [])
    ∙ ap (λ x. flat_map (λ n. row n None) (marked_to marks last) ++ x) (append-nil (row doc None))

pub rows_start : (marks : DocumentMarks) (w : Option (List ℕ)) (waiting : List ℕ) → Passed w w waiting waiting (rows_to marks 0)
unfolding rows_to
rows_start marks w waiting = subst (λ ns. Passed w w waiting waiting (flat_map (λ n. row n None) ns)) (sym (marked_none marks)) (pass_nothing w waiting)

pub size_start : (marks : DocumentMarks) → length (marked_to marks 0) ≡ 0
size_start marks = ap length (marked_none marks)

pub size_next : (marks : DocumentMarks) (last doc : ℕ) → IsNextBehind last marks doc → length (marked_to marks doc) ≡ length (marked_to marks last) + 1
size_next marks last doc next = ap length (marked_next marks last doc next) ∙ one_more (marked_to marks last)
  where
    one_more : (ns : List ℕ) → length (ns ++ doc ∷ []) ≡ length ns + 1
    one_more [] = refl
    one_more (n ∷ ns) = omega (arith, one_more ns)

pub rows_passed : (marks : DocumentMarks) (last doc : ℕ) (w0 w1 w2 : Option (List ℕ)) (p0 p1 p2 : List ℕ) → IsNextBehind last marks doc →
    Passed w0 w1 p0 p1 (rows_to marks last) → Passed w1 w2 p1 p2 (row doc None) → Passed w0 w2 p0 p2 (rows_to marks doc)
rows_passed marks last doc w0 w1 w2 p0 p1 p2 next before one = subst (Passed w0 w2 p0 p2) (sym (rows_next marks last doc next))
    (pass_both w0 w1 w2 p0 p1 p2 (rows_to marks last) (row doc None) before one)

marked_front : (marks : DocumentMarks) (n m : ℕ) → n ≤ m → (rest : List ℕ) × (marked_to marks m ≡ marked_to marks n ++ rest)
marked_front marks n zero le = ([], ap (marked_to marks) (omega (arith, le)) ∙ sym (append-nil (marked_to marks n)))
marked_front marks n (suc m) le =
    elim (cases_eq n (suc m)) [
      | inl same ↦ ([], ap (marked_to marks) (sym same) ∙ sym (append-nil (marked_to marks n)))
      | inr apart ↦ (
          let rest = marked_front marks n m (omega (arith, le, apart)) in
          elim (cases_Bool (has_doc marks (suc m))) [
            | inl hit ↦ (rest.0 ++ suc m ∷ [], marked_hit marks m hit ∙ ap (λ ns. ns ++ suc m ∷ []) rest.1 ∙ append_assoc (marked_to marks n) rest.0 (suc m ∷ []))
            | inr miss ↦ (rest.0, marked_miss marks m miss ∙ rest.1)
          ])
    ]

-- a row was refused
pub rows_cut : (marks : DocumentMarks) (last doc : ℕ) (w0 w1 w2 : Option (List ℕ)) (p0 p1 : List ℕ) → IsNextBehind last marks doc →
    Passed w0 w1 p0 p1 (rows_to marks last) → GrewByPrefix w1 w2 (p1 ++ row doc None) → GrewByPrefix w0 w2 (p0 ++ numbers_text (marked_to marks marks.all))
unfolding rows_to
rows_cut marks last doc w0 w1 w2 p0 p1 next before grew =
    let front = marked_front marks doc marks.all next.within in
    let rows : List ℕ → List ℕ = λ ns. flat_map (λ n. row n None) ns in
    let total = count (length (marked_to marks marks.all)) in
    let cut : GrewByPrefix w0 w2 (p0 ++ (rows_to marks last ++ row doc None)) = pass_cut w0 w1 w2 p0 p1 (rows_to marks last) (row doc None) before grew in
    let here : GrewByPrefix w0 w2 (p0 ++ rows (marked_to marks doc)) = subst (λ x. GrewByPrefix w0 w2 (p0 ++ x)) (sym (rows_next marks last doc next)) cut in
    let whole : numbers_text (marked_to marks marks.all) ≡ rows (marked_to marks doc) ++ (rows front.0 ++ total) =
    ap (λ ns. rows ns ++ total) front.1 ∙ ap (λ x. x ++ total) (flat_map-append (λ n. row n None) (marked_to marks doc) front.0) ∙ append_assoc (rows (marked_to marks doc)) (rows front.0) total in
    subst (λ x. GrewByPrefix w0 w2 (p0 ++ x)) (sym whole) (pass_part w0 w2 p0 (rows (marked_to marks doc)) (rows front.0 ++ total) here)

-- the count was passed on, or refused
pub rows_counted : {T E : Type 0} (marks : DocumentMarks) (last total : ℕ) (w0 w1 w2 : Option (List ℕ)) (p0 p1 p2 : List ℕ) (r : Result T E) →
    last ≤ marks.all → ((other : ℕ) → last < other → has_doc marks other ≡ false) → length (marked_to marks last) ≡ total →
    Passed w0 w1 p0 p1 (rows_to marks last) → AfterPass w1 w2 p1 p2 (count total) r →
    AfterPass w0 w2 p0 p2 (numbers_text (marked_to marks marks.all)) r
rows_counted marks last total w0 w1 w2 p0 p1 p2 r le none size before counted =
    let whole : rows_to marks last ++ count total ≡ numbers_text (marked_to marks marks.all) =
    ap (λ k. rows_to marks last ++ count k) (sym size) ∙ sym (numbers-is marks last) ∙ ap (λ ns. numbers_text ns) (sym (marked_end marks last le none)) in
    subst (λ x. AfterPass w0 w2 p0 p2 x r) whole (pass_more w0 w1 w2 p0 p1 p2 (rows_to marks last) (count total) r before counted)

-- ---- the documents with a matching term

with-none : (p : Pattern) (n : ℕ) → with_match p n [] ≡ []
unfolding with_match
with-none p n = refl

with-hit : (p : Pattern) (n : ℕ) (d : List ℕ) (ds : List (List ℕ)) → has_match p d ≡ true → with_match p n (d ∷ ds) ≡ n ∷ with_match p (n + 1) ds
unfolding with_match
with-hit p n d ds is = rw is refl

with-miss : (p : Pattern) (n : ℕ) (d : List ℕ) (ds : List (List ℕ)) → has_match p d ≡ false → with_match p n (d ∷ ds) ≡ with_match p (n + 1) ds
unfolding with_match
with-miss p n d ds is = rw is refl

abbrev MarksMatches : Pattern → List ℕ → DocumentMarks → Type 0
MarksMatches p collection marks = (doc : ℕ) → 1 ≤ doc → doc ≤ length (documents collection) → has_doc marks doc ≡ has_match p (document collection doc)

one_longer : (front : List (List ℕ)) (d : List ℕ) → length (front ++ d ∷ []) ≡ length front + 1
one_longer [] d = refl
one_longer (f ∷ front) d = omega (arith, one_longer front d)

length-parts : (front ds : List (List ℕ)) → length (front ++ ds) ≡ length front + length ds
length-parts [] ds = omega arith
length-parts (f ∷ front) ds = omega (arith, length-parts front ds)

marked_from : (p : Pattern) (collection : List ℕ) (marks : DocumentMarks) (front ds : List (List ℕ)) (n m : ℕ) → MarksMatches p collection marks →
    documents collection ≡ front ++ ds → n ≡ length front → m ≡ n + length ds → marked_to marks m ≡ marked_to marks n ++ with_match p (n + 1) ds
marked_from p collection marks front [] n m all is size end = ap (marked_to marks) (omega (arith, end)) ∙ sym (append-nil (marked_to marks n))
    ∙ ap (λ ns. marked_to marks n ++ ns) (sym (with-none p (n + 1)))
marked_from p collection marks front (d ∷ ds) n m all is size end =
    let here : document collection (n + 1) ≡ d = document_at collection d front ds (n + 1) is (omega (arith, size)) in
    let within : n + 1 ≤ length (documents collection) = omega (arith, ap length is, length-parts front (d ∷ ds), size) in
    let told : has_doc marks (suc n) ≡ has_match p d = ap (has_doc marks) (sym (add-one n)) ∙ all (n + 1) (omega arith) within ∙ ap (has_match p) here in
    let rest : marked_to marks m ≡ marked_to marks (suc n) ++ with_match p (n + 1 + 1) ds =
    marked_from p collection marks (front ++ d ∷ []) ds (n + 1) m all (is ∙ sym (append_assoc front (d ∷ []) ds)) (omega (arith, size, one_longer front d))
    (omega (arith, end)) ∙ ap (λ k. marked_to marks k ++ with_match p (n + 1 + 1) ds) (add-one n) in
    elim (cases_Bool (has_match p d)) [
      | inl hit ↦
          rest
          ∙ ap (λ ns. ns ++ with_match p (n + 1 + 1) ds) (marked_hit marks n (told ∙ hit))
          ∙ append_assoc (marked_to marks n) (suc n ∷ []) (with_match p (n + 1 + 1) ds)
          ∙ ap (λ k. marked_to marks n ++ (k ∷ with_match p (n + 1 + 1) ds)) (sym (add-one n))
          ∙ ap (λ ns. marked_to marks n ++ ns) (sym (with-hit p (n + 1) d ds hit))
      | inr miss ↦
          rest
          ∙ ap (λ ns. ns ++ with_match p (n + 1 + 1) ds) (marked_miss marks n (told ∙ miss))
          ∙ ap (λ ns. marked_to marks n ++ ns) (sym (with-miss p (n + 1) d ds miss))
    ]

in_them : (ds : List (List ℕ)) (k : ℕ) → k < length ds → list_any (same_term (get_or ds k [])) ds ≡ true
in_them [] k lt = absurd (omega (arith, lt))
in_them (d ∷ ds) zero lt = or_left (same_term d d) (list_any (same_term d) ds) (same-refl d)
in_them (d ∷ ds) (suc k) lt = or_right (same_term (get_or ds k []) d) (list_any (same_term (get_or ds k [])) ds) (in_them ds k (omega (arith, lt)))

marks_matches : (collection : List ℕ) (p : Pattern) (ts : List (List ℕ)) (old new : DocumentMarks) → ((doc : ℕ) → has_doc old doc ≡ false) →
    AddsLists collection ts old new → ts ≡ matching collection p → MarksMatches p collection new
marks_matches collection p ts old new none added is doc some within =
    added.each doc some within
    ∙ ap (λ b. b || list_any (has_term (document collection doc)) ts) (none doc)
    ∙ ap (list_any (has_term (document collection doc))) is
    ∙ sym (match_lists collection p (document collection doc) (ap (λ (x : List ℕ). list_any (same_term x) (documents collection)) (document_is collection doc some)
    ∙ in_them (documents collection) (doc - 1) (omega (arith, some, within))))

-- ---- the whole answer

text-is : (collection : List ℕ) (p : Pattern) → match_text collection p ≡ term_rows collection (matching collection p) ++ numbers_text (with_match p 1 (documents collection))
unfolding match_text term_rows
text-is collection p = refl

-- the terms with these numbers and the documents that were marked are what is printed
pub record Matched (collection : List ℕ) (p : Pattern) (ns : List ℕ) (marks : DocumentMarks) : Type 0 where
  pub whole : match_text collection p ≡ term_rows collection (terms_at collection ns) ++ numbers_text (marked_to marks marks.all)

pub matched : (base : List ℕ) (files : Option Files) (terms : LexTerms) (all : ℕ) (collection : List ℕ) (p : Pattern) (ns : List ℕ) (old new : DocumentMarks) →
    WildSources base files terms all collection → ns ≡ matching_numbers p 0 terms.terms → ((doc : ℕ) → has_doc old doc ≡ false) →
    AddsLists collection (terms_at collection ns) old new → new.all ≡ all → Matched collection p ns new
matched base files terms all collection p ns old new sources is none added room =
    let ts : terms_at collection ns ≡ matching collection p = matching_terms collection p terms.terms ns is sources.terms_are.terms in
    let marks : MarksMatches p collection new = marks_matches collection p (terms_at collection ns) old new none added ts in
    let numbers : marked_to new new.all ≡ with_match p 1 (documents collection) =
    marked_from p collection new [] (documents collection) 0 new.all marks refl refl (omega (arith, room, sources.all_is)) ∙ ap (λ xs. xs ++ with_match p 1 (documents collection)) (marked_none new) in
    record {
      whole = text-is collection p
          ∙ ap (λ us. term_rows collection us ++ numbers_text (with_match p 1 (documents collection))) (sym ts)
          ∙ ap (λ xs. term_rows collection (terms_at collection ns) ++ numbers_text xs) (sym numbers);
    }

-- nothing was printed
pub wild_stop : (collection : List ℕ) (p : Pattern) (w : Option (List ℕ)) (error : ShowErr) → ShowIsNotBad (Err error) → WildAnswered collection p w w (Err error)
wild_stop collection p w error sound = record { put = grew_nothing w (match_text collection p); sound = sound }

-- it was printed, or a part of it
pub wild_put : {collection : List ℕ} {p : Pattern} {ns : List ℕ} {marks : DocumentMarks} {w0 w1 : Option (List ℕ)} {result : Result (Unit {0}) ShowErr} →
    Matched collection p ns marks → AfterPut w0 w1 (term_rows collection (terms_at collection ns) ++ numbers_text (marked_to marks marks.all)) result →
    ShowIsNotBad result → WildAnswered collection p w0 w1 result
wild_put {collection} {p} {ns} {marks} {w0} {w1} {result} m put sound = record { put = subst (λ t. AfterPut w0 w1 t result) (sym m.whole) put; sound = sound }

-- ---- rows of terms and then of documents, where nothing had waited

-- a row of a term was refused
pub terms_refused : {w0 w1 : Option (List ℕ)} {p0 : List ℕ} (rows more : List ℕ) → p0 ≡ [] → GrewByPrefix w0 w1 (p0 ++ rows) → GrewByPrefix w0 w1 (rows ++ more)
terms_refused {w0} {w1} {p0} rows more none grew = grew_first w0 w1 rows more (pass_refused w0 w1 p0 rows none grew)

-- a row of a document or the count was refused
pub numbers_refused : {w0 w1 w2 : Option (List ℕ)} {p0 p1 rows : List ℕ} (more : List ℕ) → p0 ≡ [] → Passed w0 w1 p0 p1 rows → GrewByPrefix w1 w2 (p1 ++ more) →
    GrewByPrefix w0 w2 (rows ++ more)
numbers_refused {w0} {w1} {w2} {p0} {p1} {rows} more none passed grew = pass_refused w0 w2 p0 _ none (pass_cut w0 w1 w2 p0 p1 rows more passed grew)

-- what waited was put or refused
pub all_put : {T E : Type 0} {w0 w1 w2 : Option (List ℕ)} (w3 : Option (List ℕ)) {p0 p1 p2 rows more : List ℕ} (result : Result T E) → p0 ≡ [] →
    Passed w0 w1 p0 p1 rows → Passed w1 w2 p1 p2 more → AfterPut w2 w3 p2 result → AfterPut w0 w3 (rows ++ more) result
all_put {T} {E} {w0} {w1} {w2} w3 {p0} {p1} {p2} {rows} {more} result none passed numbers put =
    pass_put w0 w2 w3 p0 p2 _ result none (pass_both w0 w1 w2 p0 p1 p2 rows more passed numbers) put

-- ---- what is left of the store

pub unread_post : (p : Part) → NeverReadByPatterns p → p ≢ part.Post
unread_post part.Head never = absurd never
unread_post part.Words never = λ e. absurd cc
unread_post part.Nonwords never = λ e. absurd cc
unread_post part.Text never = λ e. absurd cc
unread_post part.Places never = λ e. absurd cc
unread_post part.Lex never = absurd never
unread_post part.LexAt never = λ e. absurd cc
unread_post part.Post never = absurd never
unread_post part.Skip never = λ e. absurd cc
unread_post part.Weights never = λ e. absurd cc
unread_post part.Run never = λ e. absurd cc
unread_post part.MergeA never = λ e. absurd cc
unread_post part.MergeB never = λ e. absurd cc
unread_post part.Plain never = λ e. absurd cc

pub nothing_read : (f : Option Files) (r : Reads) (n : ℕ) → ReadsNoOther f f r r n n
nothing_read f r n = record { files = refl; faults = omega arith; unread = λ p never. refl }

pub lists_read : (f g : Option Files) (r s : Reads) (m n : ℕ) → g ≡ f → m ≤ n → ReadsPost r s → ReadsNoOther f g r s m n
lists_read f g r s m n files later reads = record {
  files = files;
  faults = later;
  unread = reads.others;
}
