-- An answer to a phrase that is under way.
use Rattle.std.proofs.Common.{arith, ◌≡◌, ℕ, ◌+◌, ◌≤◌, inl, inr, Bool, true, false}
use Rattle.std.proofs.Common.{List, [], ◌∷◌, ◌++◌, length, drop, map, nat_lt, Some, None, Err, refl, sym, ◌∙◌, ap, subst, append_assoc, append-nil, length-append, sum_by}
use Rattle.std.specs.Prelude.{flat_map, OnOk, Ok}
use Rattle.std.specs.List.{AllByRecursion}
use Rattle.std.specs.declared.option.Option.{Option}
use Rattle.std.specs.declared.result.Result.{Result}
use Rattle.std.proofs.lemmas.Bool.{cases_Bool, false≢true, ltb-true, lt-ltb}
use Rattle.std.proofs.lemmas.Bool.Decides.{leb_tells}
use Rattle.std.proofs.lemmas.Grind.{flat_map-append}
use Rattle.std.proofs.lemmas.List.Sums.{sum_by-append}
use Rattle.std.proofs.Math.Seq.{take-length}
use Rattle.mg_dev.specs.Files.{Reads}
use Rattle.mg_dev.specs.Streams.{AfterPut, GrewByPrefix, appended}
use Rattle.mg_dev.specs.StreamLaws.{grew_first, grew_nothing}
use Rattle.mg_dev.specs.declared.part.Part.TheVariants as part
use Rattle.mg_dev.specs.declared.show_err.ShowErr.{ShowErr}
use Rattle.mg_defs.specs.CodedText.{TextCode}
use Rattle.mg_defs.specs.Phrases.{all_of, phrase_places}
use Rattle.mg_defs.specs.PhraseSession.{PhraseHit, found_text, with_places}
use Rattle.mg_defs.specs.QueryTerms.{query_terms}
use Rattle.mg_defs.specs.ShownAnswers.{Shown, found, plain, satisfying}
use Rattle.mg_defs.specs.Sat.{Query, satisfies}
use Rattle.mg_defs.specs.Split.{documents}
use Rattle.mg_defs.specs.Terms.{document}
use Rattle.mg_defs.specs.TextBounds.{doc_pages}
use Rattle.mg_defs.specs.Texts.{count, row}
use Rattle.mg_defs.proofs.ReplyLaws.{document_at}
use Rattle.mg_laws.proofs.PhraseLaws.{candidates_are_enough}
use Rattle.mg_bool.specs.Calls.{SkipsWithin}
use Rattle.mg_bool.specs.Matches.{GoesOn, Matching, MatchesOver, left_of}
use Rattle.mg_query.specs.AllOf.{IsAllOf}
use Rattle.mg_query.specs.QueryOf.{query_of}
use Rattle.mg_query.specs.declared.query.Query as declared
use Rattle.mg_reply.specs.Pending.{AfterPass, Passed}
use Rattle.mg_reply.proofs.CallerLemmas.{pass_nothing, pass_both, pass_cut}
use Rattle.mg_text.specs.Reading.{ShowIsNotBad}
use Rattle.mg_session.specs.PhraseAnswers.{DocumentSearched, PhraseAnswered, PhraseWalked, candidate_pages, found_among, found_at, found_if, found_in, rows_of}
use Rattle.mg_session.specs.PagesAllowed.{ReadsAllowed, query_allows}
use Rattle.mg_session.specs.PhrasesAllowed.{phrase_allows}
use Rattle.mg_session.specs.declared.rows.Rows.{Rows}
use Rattle.mg_session.proofs.AllowedLaws.{KeepsParts, allowed_then}
use Rattle.mg_session.proofs.StepLaws.{lists_text}
use Rattle.mg_session.proofs.TotalLaws.{put_rest}
use Rattle.mg_session.proofs.WalkLaws.{NextRead, SkipsTold, lists_allowed, lists_next}

-- ---- the query of all terms

pub joined-terms : (t : List ℕ) (us : List (List ℕ)) → query_terms (all_of t us) ≡ t ∷ us
joined-terms t [] = refl
joined-terms t (u ∷ us) = ap (λ (ts : List (List ℕ)). t ∷ ts) (joined-terms u us)

pub terms_joined : (phrase : List (List ℕ)) (q : declared.Query) → IsAllOf phrase (Some q) → query_terms (query_of q) ≡ phrase
terms_joined [] q is = absurd is
terms_joined (t ∷ us) q is = ap query_terms is ∙ joined-terms t us

-- ---- where a phrase has places

none_lt : (n : ℕ) → nat_lt 0 n ≡ false → n ≡ 0
none_lt n h = grind (arith, leb_tells)

missed : (t : List ℕ) (us : List (List ℕ)) (doc : List ℕ) → satisfies (all_of t us) doc ≡ false → nat_lt 0 (phrase_places (t ∷ us) doc) ≡ false
missed t us doc none = elim (cases_Bool (nat_lt 0 (phrase_places (t ∷ us) doc))) [
  | inl some ↦ absurd (false≢true (sym none ∙ candidates_are_enough t us doc (ltb-true 0 (phrase_places (t ∷ us) doc) some)))
  | inr zero_is ↦ zero_is
]

among-cons : (collection : List ℕ) (phrase : List (List ℕ)) (s : Shown) (ss : List Shown) →
    found_among collection phrase (s ∷ ss) ≡ found_at s.number (phrase_places phrase (document collection s.number)) ++ found_among collection phrase ss
unfolding found_among
among-cons collection phrase s ss = refl

found-hit : (q : Query) (n : ℕ) (d : List ℕ) (ds : List (List ℕ)) → satisfies q d ≡ true → found q n (d ∷ ds) ≡ plain n ∷ found q (n + 1) ds
unfolding found
found-hit q n d ds is = rw is refl

found-miss : (q : Query) (n : ℕ) (d : List ℕ) (ds : List (List ℕ)) → satisfies q d ≡ false → found q n (d ∷ ds) ≡ found q (n + 1) ds
unfolding found
found-miss q n d ds is = rw is refl

places-cons : (phrase : List (List ℕ)) (n : ℕ) (d : List ℕ) (ds : List (List ℕ)) → with_places phrase n (d ∷ ds) ≡ found_at n (phrase_places phrase d) ++ with_places phrase (n + 1) ds
unfolding with_places
places-cons phrase n d ds = elim (cases_Bool (nat_lt 0 (phrase_places phrase d))) [
  | inl some ↦ rw some refl
  | inr none ↦ rw none refl
]

none_from : (collection t : List ℕ) (us : List (List ℕ)) (n : ℕ) → with_places (t ∷ us) n [] ≡ found_among collection (t ∷ us) (found (all_of t us) n [])
unfolding with_places found_among found
none_from collection t us n = refl

found_from : (collection t : List ℕ) (us front ds : List (List ℕ)) (n : ℕ) → documents collection ≡ front ++ ds → n ≡ length front + 1 →
    with_places (t ∷ us) n ds ≡ found_among collection (t ∷ us) (found (all_of t us) n ds)
found_from collection t us front [] n e at = none_from collection t us n
found_from collection t us front (d ∷ ds) n e at =
    let here : document collection n ≡ d = document_at collection d front ds n e at in
    let behind : length (front ++ d ∷ []) ≡ length front + 1 = length-append front (d ∷ []) in
    let more = found_from collection t us (front ++ d ∷ []) ds (n + 1) (e ∙ sym (append_assoc front (d ∷ []) ds)) (omega (arith, at, behind)) in
    let now = places-cons (t ∷ us) n d ds ∙ ap (λ fs. found_at n (phrase_places (t ∷ us) d) ++ fs) more in
    elim (cases_Bool (satisfies (all_of t us) d)) [
      | inl is ↦ now
          ∙ ap (λ doc. found_at n (phrase_places (t ∷ us) doc) ++ found_among collection (t ∷ us) (found (all_of t us) (n + 1) ds)) (sym here)
          ∙ sym (among-cons collection (t ∷ us) (plain n) (found (all_of t us) (n + 1) ds))
          ∙ ap (found_among collection (t ∷ us)) (sym (found-hit (all_of t us) n d ds is))
      | inr none ↦ now
          ∙ ap (λ (b : Bool). found_if b n (phrase_places (t ∷ us) d) ++ found_among collection (t ∷ us) (found (all_of t us) (n + 1) ds)) (missed t us d none)
          ∙ ap (found_among collection (t ∷ us)) (sym (found-miss (all_of t us) n d ds none))
    ]

pub record Joined (code : TextCode) (collection : List ℕ) (phrase : List (List ℕ)) (q : Query) : Type 0 where
  pub found_is : with_places phrase 1 (documents collection) ≡ found_among collection phrase (satisfying collection q)
  pub pages_are : candidate_pages code collection phrase ≡ sum_by (doc_pages code collection) (satisfying collection q)
  pub allows_are : phrase_allows collection phrase ≡ query_allows collection q

pub joined : (code : TextCode) (collection : List ℕ) (phrase : List (List ℕ)) (q : declared.Query) → IsAllOf phrase (Some q) → Joined code collection phrase (query_of q)
unfolding candidate_pages
joined code collection [] q is = absurd is
joined code collection (t ∷ us) q is = record {
  found_is = found_from collection t us [] (documents collection) 1 refl refl ∙ ap (λ a. found_among collection (t ∷ us) (satisfying collection a)) (sym is);
  pages_are = ap (λ a. sum_by (doc_pages code collection) (satisfying collection a)) (sym is);
  allows_are = ap (query_allows collection) (sym is);
}

-- what the query allows, the phrase does
allowed_as_joined : {code : TextCode} {collection : List ℕ} {phrase : List (List ℕ)} {q : Query} {r s : Reads} → Joined code collection phrase q →
    ReadsAllowed (query_allows collection q) r s → ReadsAllowed (phrase_allows collection phrase) r s
allowed_as_joined {r = r} {s = s} j allowed = subst (λ most. ReadsAllowed most r s) (sym j.allows_are) allowed

-- ---- the documents that are found have no score

found_plain : (ds : List (ℕ × List ℕ)) → AllByRecursion (λ (s : Shown). s.score ≡ None) (map (λ (d : ℕ × List ℕ). plain d.0) ds)
found_plain [] = tt
found_plain (d ∷ ds) = (refl, found_plain ds)

left_plain : (collection : List ℕ) (m : Matching) → AllByRecursion (λ (s : Shown). s.score ≡ None) (left_of collection m)
unfolding found
left_plain collection m = found_plain _

goes_some : (left now : List Shown) (number : ℕ) → AllByRecursion (λ (s : Shown). s.score ≡ None) left → GoesOn left now (Some number) → left ≡ plain number ∷ now
goes_some [] now number all goes = absurd goes
goes_some (s ∷ more) now number all goes = λ i. record { number = sym goes.0 i; score = all.0 i } ∷ sym goes.1 i

goes_none : (left now : List Shown) → GoesOn left now None → left ≡ []
goes_none [] now goes = refl
goes_none (s ∷ more) now goes = absurd goes

-- ---- texts

among-append : (collection : List ℕ) (phrase : List (List ℕ)) (xs ys : List Shown) → found_among collection phrase (xs ++ ys) ≡ found_among collection phrase xs ++ found_among collection phrase ys
unfolding found_among
among-append collection phrase xs ys = flat_map-append (λ (s : Shown). found_at s.number (phrase_places phrase (document collection s.number))) xs ys

among-one : (collection : List ℕ) (phrase : List (List ℕ)) (number : ℕ) → found_among collection phrase (plain number ∷ []) ≡ found_in collection phrase number
unfolding found_among
among-one collection phrase number = append-nil _

among-none : (collection : List ℕ) (phrase : List (List ℕ)) → found_among collection phrase [] ≡ []
unfolding found_among
among-none collection phrase = refl

among-push : (collection : List ℕ) (phrase : List (List ℕ)) (xs : List Shown) (number : ℕ) →
    found_among collection phrase (xs ++ plain number ∷ []) ≡ found_among collection phrase xs ++ found_in collection phrase number
among-push collection phrase xs number = among-append collection phrase xs (plain number ∷ [])
    ∙ ap (λ fs. found_among collection phrase xs ++ fs) (among-one collection phrase number)

rows-append : (xs ys : List PhraseHit) → rows_of (xs ++ ys) ≡ rows_of xs ++ rows_of ys
unfolding rows_of
rows-append xs ys = flat_map-append (λ (f : PhraseHit). row f.number (Some f.places)) xs ys

rows-none : rows_of [] ≡ []
unfolding rows_of
rows-none = refl

text-is : (fs : List PhraseHit) → found_text fs ≡ rows_of fs ++ count (length fs)
unfolding found_text rows_of
text-is fs = refl

text_front : (xs ys : List PhraseHit) → (rest : List ℕ) × (found_text (xs ++ ys) ≡ rows_of xs ++ rest)
text_front xs ys = (
  rows_of ys ++ count (length (xs ++ ys)),
  text-is (xs ++ ys) ∙ ap (λ t. t ++ count (length (xs ++ ys))) (rows-append xs ys)
      ∙ append_assoc (rows_of xs) (rows_of ys) (count (length (xs ++ ys))),
)

-- a row is counted where there is one
pub count_some : (number places : ℕ) → (places ≡ 0 → ⊥) → length (found_at number places) ≡ 1
count_some number places some = ap (λ (b : Bool). length (found_if b number places)) (lt-ltb 0 places (omega (arith, some)))

pub count_none : (number places : ℕ) → places ≡ 0 → length (found_at number places) ≡ 0
count_none number places none = ap (λ n. length (found_at number n)) none

-- what is so holds at `Ok` too
pub at_ok : {T E P : Type 0} (r : Result T E) → P → OnOk r P
at_ok (Ok value) is = is
at_ok (Err error) is = tt

pub nothing_found : (w : Option (List ℕ)) (waiting : List ℕ) (number places : ℕ) → places ≡ 0 → Passed w w waiting waiting (rows_of (found_at number places))
nothing_found w waiting number places none = subst (Passed w w waiting waiting) (sym (ap (λ n. rows_of (found_at number n)) none ∙ rows-none)) (pass_nothing w waiting)

-- ---- one document after another

pub walked_start : {base : List ℕ} {code : TextCode} {collection : List ℕ} (phrase : List (List ℕ)) {w : Option (List ℕ)} {waiting : List ℕ} {total : ℕ}
    {m : Matching} {r : Reads} → waiting ≡ [] → total ≡ 0 → m.decided ≡ 0 → SkipsWithin m.places → MatchesOver base collection m →
    PhraseWalked base code collection phrase (query_of m.asks) w w waiting total m r r
walked_start {base} {code} {collection} phrase {w} {waiting} {total} {m} none zero_is before within over = record {
  so_far = [];
  split = ap (λ n. found (query_of m.asks) (n + 1) (drop n (documents collection))) (sym before);
  total_is = ap length (among-none collection phrase) ∙ sym zero_is;
  passed = subst (Passed w w [] waiting) (sym (ap rows_of (among-none collection phrase) ∙ rows-none)) (subst (λ p. Passed w w [] p []) (sym none) (pass_nothing w []));
  lists = record { over = over; post = omega arith; skip = omega arith; skips_within = within; weights = refl };
  text = omega arith;
}

-- a document that was searched
pub walked_searched : {base : List ℕ} {code : TextCode} {collection : List ℕ} {phrase : List (List ℕ)} {q : Query} {w0 w1 w2 : Option (List ℕ)}
    {rows rows_now : Rows} {number : ℕ} {done : Unit {0}} (m n : Matching) {r0 : Reads} (r1 r2 : Reads) {r3 : Reads} →
    PhraseWalked base code collection phrase q w0 w1 rows.pending rows.total m r0 r1 → GoesOn (left_of collection m) (left_of collection n) (Some number) →
    MatchesOver base collection n → NextRead collection q m n r1 r2 → KeepsParts r2 r3 → DocumentSearched code collection phrase number w1 w2 rows rows_now r2 r3 (Ok done) →
    PhraseWalked base code collection phrase q w0 w2 rows_now.pending rows_now.total n r0 r3
walked_searched {base} {code} {collection} {phrase} {q} {w0} {w1} {w2} {rows} {rows_now} {number} m n r1 r2 w goes over next kept one =
    let pushed = among-push collection phrase w.so_far number in
    let before = found_among collection phrase w.so_far in
    let here = found_in collection phrase number in
    record {
      so_far = w.so_far ++ plain number ∷ [];
      split = w.split ∙ ap (λ l. w.so_far ++ l) (goes_some (left_of collection m) (left_of collection n) number (left_plain collection m) goes)
          ∙ sym (append_assoc w.so_far (plain number ∷ []) (left_of collection n));
      total_is = omega (arith, ap length pushed, length-append before here, w.total_is, one.counted);
      passed = subst (Passed w0 w2 [] rows_now.pending) (sym (ap rows_of pushed ∙ rows-append before here))
          (pass_both w0 w1 w2 [] rows.pending rows_now.pending (rows_of before) (rows_of here) w.passed one.passed);
      lists = lists_next w.lists over next kept;
      text = omega (arith, w.text, lists_text r1 r2 next.reads, one.text, sum_by-append (doc_pages code collection) w.so_far (plain number ∷ []));
    }

-- ---- the end, and stops before it

-- what was printed, and then a front of what comes next, is a prefix of the reply
front_grew : (code : TextCode) (collection : List ℕ) (phrase : List (List ℕ)) (q : Query) (w0 w1 : Option (List ℕ)) (xs ys : List Shown) →
    Joined code collection phrase q → satisfying collection q ≡ xs ++ ys → GrewByPrefix w0 w1 (rows_of (found_among collection phrase xs)) →
    GrewByPrefix w0 w1 (found_text (with_places phrase 1 (documents collection)))
front_grew code collection phrase q w0 w1 xs ys j split grew =
    let front = text_front (found_among collection phrase xs) (found_among collection phrase ys) in
    let whole : found_text (with_places phrase 1 (documents collection)) ≡ rows_of (found_among collection phrase xs) ++ front.0 =
    ap found_text (j.found_is ∙ ap (found_among collection phrase) split ∙ among-append collection phrase xs ys) ∙ front.1 in
    subst (GrewByPrefix w0 w1) (sym whole) (grew_first w0 w1 _ front.0 grew)

so_far_prefix : (base : List ℕ) (code : TextCode) (collection : List ℕ) (phrase : List (List ℕ)) (q : Query) (w0 w1 : Option (List ℕ)) (waiting : List ℕ)
    (total : ℕ) (m : Matching) (r0 r1 : Reads) → Joined code collection phrase q → PhraseWalked base code collection phrase q w0 w1 waiting total m r0 r1 →
    GrewByPrefix w0 w1 (found_text (with_places phrase 1 (documents collection)))
so_far_prefix base code collection phrase q w0 w1 waiting total m r0 r1 j w =
    let part : GrewByPrefix w0 w1 (w.passed.sent ++ waiting) = grew_first w0 w1 w.passed.sent waiting
    (record { count = length w.passed.sent; within = omega arith; is = w.passed.given ∙ ap (appended w0) (sym (take-length w.passed.sent)) }) in
    front_grew code collection phrase q w0 w1 w.so_far (left_of collection m) j w.split (subst (GrewByPrefix w0 w1) w.passed.whole part)

pages_so_far : (base : List ℕ) (code : TextCode) (collection : List ℕ) (phrase : List (List ℕ)) (q : Query) (w0 w1 : Option (List ℕ)) (waiting : List ℕ)
    (total : ℕ) (m : Matching) (r0 r1 : Reads) → Joined code collection phrase q → PhraseWalked base code collection phrase q w0 w1 waiting total m r0 r1 →
    r1 part.Text ≤ r0 part.Text + candidate_pages code collection phrase
pages_so_far base code collection phrase q w0 w1 waiting total m r0 r1 j w =
    omega (arith, w.text, j.pages_are, ap (sum_by (doc_pages code collection)) w.split, sum_by-append (doc_pages code collection) w.so_far (left_of collection m))

-- with those of one more document
pages_too : (base : List ℕ) (code : TextCode) (collection : List ℕ) (phrase : List (List ℕ)) (q : Query) (w0 w1 : Option (List ℕ)) (waiting : List ℕ)
    (total number : ℕ) (m n : Matching) (r0 r1 r2 : Reads) → Joined code collection phrase q →
    PhraseWalked base code collection phrase q w0 w1 waiting total m r0 r1 → GoesOn (left_of collection m) (left_of collection n) (Some number) →
    r2 part.Text ≤ r1 part.Text + doc_pages code collection (plain number) → r2 part.Text ≤ r0 part.Text + candidate_pages code collection phrase
pages_too base code collection phrase q w0 w1 waiting total number m n r0 r1 r2 j w goes more =
    let split : satisfying collection q ≡ w.so_far ++ (plain number ∷ left_of collection n) = w.split
    ∙ ap (λ l. w.so_far ++ l) (goes_some (left_of collection m) (left_of collection n) number (left_plain collection m) goes) in
    omega (
      arith,
      w.text,
      more,
      j.pages_are,
      ap (sum_by (doc_pages code collection)) split,
      sum_by-append (doc_pages code collection) w.so_far (plain number ∷ left_of collection n),
      sum_by-append (doc_pages code collection) (plain number ∷ []) (left_of collection n),
    )

-- the lists could not be read
pub walked_stop : {base : List ℕ} {code : TextCode} {collection : List ℕ} {phrase : List (List ℕ)} {q : Query} {w0 w1 : Option (List ℕ)} {waiting : List ℕ}
    {total : ℕ} (m n : Matching) {r0 : Reads} (r1 : Reads) {r2 : Reads} {error : ShowErr} → SkipsTold →
    Joined code collection phrase q → PhraseWalked base code collection phrase q w0 w1 waiting total m r0 r1 →
    NextRead collection q m n r1 r2 → ShowIsNotBad (Err error) →
    PhraseAnswered code collection phrase w0 w1 r0 r2 (Err error)
walked_stop {base} {code} {collection} {phrase} {q} {w0} {w1} {waiting} {total} m n {r0} r1 {r2} law j w next sound = record {
  put = so_far_prefix base code collection phrase q w0 w1 waiting total m r0 r1 j w;
  sound = sound;
  allowed = allowed_as_joined j (lists_allowed law w.lists next);
  text = omega (arith, pages_so_far base code collection phrase q w0 w1 waiting total m r0 r1 j w, lists_text r1 r2 next.reads);
}

-- a document could not be searched, or its row not be passed on
pub walked_cut : {base : List ℕ} {code : TextCode} {collection : List ℕ} {phrase : List (List ℕ)} {q : Query} {w0 w1 w2 : Option (List ℕ)}
    {rows rows_now : Rows} {number : ℕ} (m n : Matching) {r0 : Reads} (r1 r2 : Reads) {r3 : Reads} {error : ShowErr} → SkipsTold →
    Joined code collection phrase q → PhraseWalked base code collection phrase q w0 w1 rows.pending rows.total m r0 r1 →
    GoesOn (left_of collection m) (left_of collection n) (Some number) →
    NextRead collection q m n r1 r2 → KeepsParts r2 r3 → DocumentSearched code collection phrase number w1 w2 rows rows_now r2 r3 (Err error) →
    PhraseAnswered code collection phrase w0 w2 r0 r3 (Err error)
walked_cut {base} {code} {collection} {phrase} {q} {w0} {w1} {w2} {rows} {rows_now} {number} m n {r0} r1 r2 {r3} law j w goes next kept one =
    let split : satisfying collection q ≡ (w.so_far ++ plain number ∷ []) ++ left_of collection n =
    w.split ∙ ap (λ l. w.so_far ++ l) (goes_some (left_of collection m) (left_of collection n) number (left_plain collection m) goes)
    ∙ sym (append_assoc w.so_far (plain number ∷ []) (left_of collection n)) in
    let before = found_among collection phrase w.so_far in
    let here = found_in collection phrase number in
    let pushed : rows_of (found_among collection phrase (w.so_far ++ plain number ∷ [])) ≡ rows_of before ++ rows_of here =
    ap rows_of (among-push collection phrase w.so_far number) ∙ rows-append before here in
    let part : GrewByPrefix w0 w2 (rows_of before ++ rows_of here) = pass_cut w0 w1 w2 [] rows.pending (rows_of before) (rows_of here) w.passed one.passed in
    record {
      put = front_grew code collection phrase q w0 w2 (w.so_far ++ plain number ∷ []) (left_of collection n) j split (subst (GrewByPrefix w0 w2) (sym pushed) part);
      sound = one.sound;
      allowed = allowed_then (allowed_as_joined j (lists_allowed law w.lists next)) kept;
      text = pages_too base code collection phrase q w0 w1 rows.pending rows.total number m n r0 r1 r3 j w goes (omega (arith, one.text, lists_text r1 r2 next.reads));
    }

-- all were searched
ended : (base : List ℕ) (code : TextCode) (collection : List ℕ) (phrase : List (List ℕ)) (q : Query) (w0 w1 : Option (List ℕ)) (waiting : List ℕ) (total : ℕ)
    (m n : Matching) (r0 r1 : Reads) → Joined code collection phrase q → (w : PhraseWalked base code collection phrase q w0 w1 waiting total m r0 r1) →
    GoesOn (left_of collection m) (left_of collection n) None →
    found_text (with_places phrase 1 (documents collection)) ≡ rows_of (found_among collection phrase w.so_far) ++ count total
ended base code collection phrase q w0 w1 waiting total m n r0 r1 j w goes =
    let all : satisfying collection q ≡ w.so_far = w.split ∙ ap (λ l. w.so_far ++ l) (goes_none (left_of collection m) (left_of collection n) goes) ∙ append-nil w.so_far in
    ap found_text (j.found_is ∙ ap (found_among collection phrase) all) ∙ text-is (found_among collection phrase w.so_far)
    ∙ ap (λ k. rows_of (found_among collection phrase w.so_far) ++ count k) w.total_is

-- the count was put behind all that waited, or refused
pub walked_end : {base : List ℕ} {code : TextCode} {collection : List ℕ} {phrase : List (List ℕ)} {q : Query} {w0 w1 w2 : Option (List ℕ)} {waiting : List ℕ}
    {total : ℕ} (m n : Matching) {r0 : Reads} (r1 : Reads) {r2 : Reads} {result : Result (Unit {0}) ShowErr} → SkipsTold →
    Joined code collection phrase q → PhraseWalked base code collection phrase q w0 w1 waiting total m r0 r1 →
    GoesOn (left_of collection m) (left_of collection n) None → NextRead collection q m n r1 r2 →
    AfterPut w1 w2 (waiting ++ count total) result → ShowIsNotBad result →
    PhraseAnswered code collection phrase w0 w2 r0 r2 result
walked_end {base} {code} {collection} {phrase} {q} {w0} {w1} {w2} {waiting} {total} m n {r0} r1 {r2} {result} law j w goes next put sound =
    let rows = rows_of (found_among collection phrase w.so_far) in
    record {
      put = subst (λ x. AfterPut w0 w2 x result) (sym (ended base code collection phrase q w0 w1 waiting total m n r0 r1 j w goes)) (put_rest w0 w1 w2 waiting rows (count total) result w.passed put);
      sound = sound;
      allowed = allowed_as_joined j (lists_allowed law w.lists next);
      text = omega (arith, pages_so_far base code collection phrase q w0 w1 waiting total m r0 r1 j w, lists_text r1 r2 next.reads);
    }

-- ---- a document that is searched

module _ {code : TextCode} {collection : List ℕ} {phrase : List (List ℕ)} {number : ℕ} {w0 : Option (List ℕ)} {rows : Rows} {r0 r1 : Reads} where
  -- it could not be decoded
  pub one_unread : {error : ShowErr} → ShowIsNotBad (Err error) → r1 part.Text ≤ r0 part.Text + doc_pages code collection (plain number) →
      DocumentSearched code collection phrase number w0 w0 rows rows r0 r1 (Err error)
  one_unread sound text = record { passed = grew_nothing w0 _; counted = tt; sound = sound; text = text }

  -- its row was passed on, or cut
  pub one_searched : {rows_now : Rows} {w1 : Option (List ℕ)} (places : ℕ) {result : Result (Unit {0}) ShowErr} →
      places ≡ phrase_places phrase (document collection number) → AfterPass w0 w1 rows.pending rows_now.pending (rows_of (found_at number places)) result →
      OnOk result (rows_now.total ≡ rows.total + length (found_at number places)) → ShowIsNotBad result →
      r1 part.Text ≤ r0 part.Text + doc_pages code collection (plain number) →
      DocumentSearched code collection phrase number w0 w1 rows rows_now r0 r1 result
  one_searched {rows_now} {w1} places {result} is passed counted sound text = record {
    passed = subst (λ p. AfterPass w0 w1 rows.pending rows_now.pending (rows_of (found_at number p)) result) is passed;
    counted = subst (λ p. OnOk result (rows_now.total ≡ rows.total + length (found_at number p))) is counted;
    sound = sound;
    text = text;
  }

-- ---- a row

one-row : (number places : ℕ) → (places ≡ 0 → ⊥) → rows_of (found_at number places) ≡ row number (Some places)
unfolding rows_of
one-row number places some =
    let found_one = ap (λ (b : Bool). flat_map (λ (f : PhraseHit). row f.number (Some f.places)) (found_if b number places)) (lt-ltb 0 places (omega (arith, some))) in
    found_one ∙ append-nil (row number (Some places))

pub row_found : {T E : Type 0} (w0 w1 : Option (List ℕ)) (p0 p1 : List ℕ) (number places : ℕ) (r : Result T E) → (places ≡ 0 → ⊥) →
    AfterPass w0 w1 p0 p1 (row number (Some places)) r → AfterPass w0 w1 p0 p1 (rows_of (found_at number places)) r
row_found w0 w1 p0 p1 number places r some passed = subst (λ t. AfterPass w0 w1 p0 p1 t r) (sym (one-row number places some)) passed
