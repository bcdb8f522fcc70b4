-- A Boolean answer that is under way.
use Rattle.std.proofs.Common.{arith, ◌≡◌, ℕ, ◌+◌, ◌≤◌, inl, inr, if◌then◌else◌, Bool, true, false}
use Rattle.std.proofs.Common.{List, [], ◌∷◌, ◌++◌, length, drop, map, Some, None, Err, refl, sym, ◌∙◌, ap, subst, append_assoc, append-nil, length-append, sum_by}
use Rattle.std.specs.Prelude.{flat_map}
use Rattle.std.specs.List.{AllByRecursion}
use Rattle.std.specs.declared.option.Option.{Option}
use Rattle.std.specs.declared.result.Result.{Result}
use Rattle.std.proofs.lemmas.Bool.{cond-true, cond-false, cases_Bool}
use Rattle.std.proofs.lemmas.List.Sums.{sum_by-append}
use Rattle.mg_dev.specs.Files.{Files, Reads}
use Rattle.std.proofs.Math.Seq.{take-length}
use Rattle.mg_dev.specs.Streams.{AfterPut, GrewByPrefix, appended}
use Rattle.mg_dev.specs.StreamLaws.{grew_first}
use Rattle.mg_dev.specs.declared.part.Part.TheVariants as part
use Rattle.mg_dev.specs.declared.show_err.ShowErr.{ShowErr}
use Rattle.mg_defs.specs.CodedText.{TextCode}
use Rattle.mg_defs.specs.Replies.{hit_text, shows}
use Rattle.mg_defs.specs.ShownAnswers.{Shown, answer_text, found, plain, satisfying, shown}
use Rattle.mg_defs.specs.Sat.{Query}
use Rattle.mg_defs.specs.Split.{documents}
use Rattle.mg_defs.specs.Terms.{document}
use Rattle.mg_defs.specs.TextBounds.{doc_pages, texts_in}
use Rattle.mg_defs.specs.Texts.{count}
use Rattle.mg_defs.specs.Weights.{limited_to}
use Rattle.mg_defs.specs.declared.session.Mode.{Mode}
use Rattle.mg_defs.specs.declared.session.Mode.TheVariants.{Docnums, Text, Count}
use Rattle.mg_defs.specs.declared.session.Settings.{Settings}
use Rattle.mg_defs.proofs.ReplyLaws.{first-full, first-front, first-more, hit_adds, none_first, reply-front}
use Rattle.mg_defs.specs.PageBounds.{boolean_bound}
use Rattle.mg_defs.specs.QueryTerms.{query_terms}
use Rattle.mg_bool.specs.Calls.{PlacesSkip, SkipsWithin, skips_read}
use Rattle.mg_bool.specs.Matches.{GoesOn, Matching, MatchesFit, MatchesOver, left_of, query_bound}
use Rattle.mg_bool.specs.Places.{pages_read, term_entries}
use Rattle.mg_bool.specs.Shown.{SameLists}
use Rattle.mg_query.specs.QueryOf.{query_of}
use Rattle.mg_post.specs.TermLists.{PagesWithin, ReadsLists}
use Rattle.mg_reply.specs.Pending.{Passed}
use Rattle.mg_reply.proofs.CallerLemmas.{pass_nothing, pass_both, pass_cut}
use Rattle.mg_text.specs.Reading.{ShowIsNotBad}
use Rattle.mg_reply.specs.Printed.{at_score}
use Rattle.mg_session.specs.Answering.{Answered, ListsWalked, Walked, answer_pages, hit_pages, mode_pages}
use Rattle.mg_session.specs.PagesAllowed.{ReadsAllowed, query_allows}
use Rattle.mg_session.proofs.AllowedLaws.{KeepsParts, allowed_then}
use Rattle.mg_session.proofs.StepLaws.{lists_text, lists_weights}
use Rattle.mg_session.proofs.TotalLaws.{put_rest}

-- ---- the documents that are found have no score

found_plain : (ds : List (ℕ × List ℕ)) → AllByRecursion (λ (s : Shown). s.score ≡ None) (map (λ (d : ℕ × List ℕ). plain d.0) ds)
found_plain [] = tt
found_plain (d ∷ ds) = (refl, found_plain ds)

left_plain : (collection : List ℕ) (m : Matching) → AllByRecursion (λ (s : Shown). s.score ≡ None) (left_of collection m)
unfolding found
left_plain collection m = found_plain _

-- the next one, and those after it
goes_some : (left now : List Shown) (number : ℕ) → AllByRecursion (λ (s : Shown). s.score ≡ None) left → GoesOn left now (Some number) → left ≡ at_score number None ∷ now
goes_some [] now number all goes = absurd goes
goes_some (s ∷ more) now number all goes = λ i. record { number = sym goes.0 i; score = all.0 i } ∷ sym goes.1 i

goes_none : (left now : List Shown) → GoesOn left now None → left ≡ []
goes_none [] now goes = refl
goes_none (s ∷ more) now goes = absurd goes

-- ---- the pages of the text

texts_more : (f : Shown → ℕ) (most : Option ℕ) (so_far : List Shown) (hit : Shown) (total : ℕ) → length so_far ≡ total →
    sum_by f (limited_to most (so_far ++ hit ∷ [])) ≡ sum_by f (limited_to most so_far) + (if shows most total then f hit else 0)
texts_more f most so_far hit total size =
    elim (cases_Bool (shows most total)) [
      | inl more ↦ omega (
        arith,
        ap (sum_by f) (first-more most so_far hit (ap (shows most) size ∙ more)),
        sum_by-append f (limited_to most so_far) (hit ∷ []),
        cond-true (shows most total) (f hit) 0 more,
      )
      | inr full ↦ omega (arith, ap (sum_by f) (first-full most so_far hit (ap (shows most) size ∙ full)), cond-false (shows most total) (f hit) 0 full)
    ]

none_more : (b : Bool) → ◌≡◌ {A = ℕ} (if b then 0 else 0) 0
none_more true = refl
none_more false = refl

pages_adds : (code : TextCode) (collection : List ℕ) (mode : Mode) (most : Option ℕ) (so_far : List Shown) (hit : Shown) (total : ℕ) → length so_far ≡ total →
    sum_by (doc_pages code collection) (texts_in mode most (so_far ++ hit ∷ [])) ≡ sum_by (doc_pages code collection) (texts_in mode most so_far)
    + (if shows most total then mode_pages code collection mode hit else 0)
pages_adds code collection Docnums most so_far hit total size = omega (arith, none_more (shows most total))
pages_adds code collection Text most so_far hit total size = texts_more (doc_pages code collection) most so_far hit total size
pages_adds code collection Count most so_far hit total size = omega (arith, none_more (shows most total))

texts_front : (f : Shown → ℕ) (most : Option ℕ) (xs ys : List Shown) → sum_by f (limited_to most xs) ≤ sum_by f (limited_to most (xs ++ ys))
texts_front f most xs ys =
    let front = first-front most xs ys in
    omega (arith, ap (sum_by f) front.1, sum_by-append f (limited_to most xs) front.0)

pages_front : (code : TextCode) (collection : List ℕ) (mode : Mode) (most : Option ℕ) (xs ys : List Shown) →
    sum_by (doc_pages code collection) (texts_in mode most xs) ≤ sum_by (doc_pages code collection) (texts_in mode most (xs ++ ys))
pages_front code collection Docnums most xs ys = omega arith
pages_front code collection Text most xs ys = texts_front (doc_pages code collection) most xs ys
pages_front code collection Count most xs ys = omega arith

no_pages : (code : TextCode) (collection : List ℕ) (mode : Mode) (most : Option ℕ) → sum_by (doc_pages code collection) (texts_in mode most []) ≡ 0
no_pages code collection Docnums most = refl
no_pages code collection Text most = ap (sum_by (doc_pages code collection)) (none_first most)
no_pages code collection Count most = refl

-- ---- what a call for the next document reads

-- The lists of a query were asked for the next document, whatever was answered.
pub record NextRead (collection : List ℕ) (q : Query) (m n : Matching) (before now : Reads) : Type 0 where
  pub asks : query_of m.asks ≡ q
  pub least : pages_read n.places ≤ query_bound collection q
  pub post : now part.Post + pages_read m.places ≤ before part.Post + pages_read n.places
  pub lists : SameLists m n
  pub skips : PlacesSkip m.places n.places before now
  pub reads : ReadsLists before now

pub next_read : {collection : List ℕ} (start : Matching) {m n : Matching} {before now : Reads} → m.asks ≡ start.asks → pages_read n.places ≤ query_bound collection (query_of m.asks) →
    PagesWithin (boolean_bound collection (query_of m.asks)) (pages_read m.places) (pages_read n.places) before now → SameLists m n →
    PlacesSkip m.places n.places before now → ReadsLists before now → NextRead collection (query_of start.asks) m n before now
next_read {collection} start asks least pages lists skips reads = record {
  asks = ap query_of asks;
  least = omega (arith, least, ap (λ a. query_bound collection (query_of a)) asks);
  post = pages.post;
  lists = lists;
  skips = skips;
  reads = reads;
}

-- what mg_bool says of the pages of Skip that the lists' cursors have read
abbrev pub SkipsTold : Type 0
SkipsTold = (base collection : List ℕ) (m now : Matching) → MatchesOver base collection m → SameLists m now → SkipsWithin now.places →
    skips_read now.places ≤ sum_by (term_entries collection) (query_terms (query_of m.asks))

-- so no more is read than the query allows
pub lists_allowed : {base collection : List ℕ} {q : Query} {m n : Matching} {r0 r1 r2 : Reads} → SkipsTold → ListsWalked base collection m r0 r1 →
    NextRead collection q m n r1 r2 → ReadsAllowed (query_allows collection q) r0 r2
lists_allowed {base} {collection} {q} {m} {n} {r0} {r1} {r2} law w next = record {
  post = omega (arith, w.post, next.post, next.least);
  skip = omega (
    arith,
    w.skip,
    next.skips.skip,
    law base collection m n w.over next.lists (next.skips.within w.skips_within),
    ap (λ p. sum_by (term_entries collection) (query_terms p)) next.asks,
  );
  weights = omega (arith, w.weights, lists_weights r1 r2 next.reads);
}

-- and so it goes on, over what reads other parts
pub lists_next : {base collection : List ℕ} {q : Query} {m n : Matching} {r0 r1 r2 r3 : Reads} → ListsWalked base collection m r0 r1 → MatchesOver base collection n →
    NextRead collection q m n r1 r2 → KeepsParts r2 r3 → ListsWalked base collection n r0 r3
lists_next {r1 = r1} {r2 = r2} w over next kept = record {
  over = over;
  post = omega (arith, w.post, next.post, kept.post);
  skip = omega (arith, w.skip, next.skips.skip, kept.skip);
  skips_within = next.skips.within w.skips_within;
  weights = kept.weights ∙ lists_weights r1 r2 next.reads ∙ w.weights;
}

lists_walked : {base : List ℕ} {code : TextCode} {collection : List ℕ} {q : Query} {now : Settings} {w0 w1 : Option (List ℕ)} {waiting : List ℕ} {total : ℕ}
    {m : Matching} {r0 r1 : Reads} → Walked base code collection q now w0 w1 waiting total m r0 r1 → ListsWalked base collection m r0 r1
lists_walked w = record { over = w.over; post = w.post; skip = w.skip; skips_within = w.skips_within; weights = w.weights }

next_allowed : {base : List ℕ} {code : TextCode} {collection : List ℕ} {q : Query} {now : Settings} {w0 w1 : Option (List ℕ)} {waiting : List ℕ} {total : ℕ}
    {m n : Matching} {r0 r1 r2 : Reads} → SkipsTold → Walked base code collection q now w0 w1 waiting total m r0 r1 → NextRead collection q m n r1 r2 →
    ReadsAllowed (query_allows collection q) r0 r2
next_allowed law w next = lists_allowed law (lists_walked w) next

-- ---- one document after another

pub walked_start : {base : List ℕ} {code : TextCode} {collection : List ℕ} {q : Query} {now : Settings} {w : Option (List ℕ)} {waiting : List ℕ} {total : ℕ} {m : Matching} {r : Reads} →
    waiting ≡ [] → total ≡ 0 → query_of m.asks ≡ q → m.decided ≡ 0 → SkipsWithin m.places → MatchesOver base collection m → Walked base code collection q now w w waiting total m r r
walked_start {base} {code} {collection} {q} {now} {w} {waiting} {total} {m} {r} none zero_is asks before within over = record {
  so_far = [];
  split = ap (λ p. satisfying collection p) (sym asks) ∙ ap (λ n. found (query_of m.asks) (n + 1) (drop n (documents collection))) (sym before);
  total_is = sym zero_is;
  passed = subst (λ xs. Passed w w [] waiting (flat_map (shown collection now.mode) xs)) (sym (none_first now.most)) (subst (λ p. Passed w w [] p []) (sym none) (pass_nothing w []));
  over = over;
  post = omega arith;
  skip = omega arith;
  skips_within = within;
  weights = refl;
  text = omega arith;
}

-- a document that was found
pub walked_hit : {base : List ℕ} {code : TextCode} {collection : List ℕ} {q : Query} {now : Settings} {w0 w1 w2 : Option (List ℕ)} {waiting waiting2 : List ℕ} (total number : ℕ)
    (m n : Matching) {r0 : Reads} (r1 r2 : Reads) {r3 : Reads} →
    Walked base code collection q now w0 w1 waiting total m r0 r1 → GoesOn (left_of collection m) (left_of collection n) (Some number) →
    MatchesOver base collection n → NextRead collection q m n r1 r2 →
    Passed w1 w2 waiting waiting2 (hit_text (document collection number) now.mode now.most total (at_score number None)) → KeepsParts r2 r3 →
    r3 part.Text ≤ r2 part.Text + hit_pages code collection now total (at_score number None) →
    Walked base code collection q now w0 w2 waiting2 (total + 1) n r0 r3
walked_hit {base} {code} {collection} {q} {now} {w0} {w1} {w2} {waiting} {waiting2} total number m n {r0} r1 r2 {r3} w goes over next passed kept shown_text =
    let hit = at_score number None in
    let whole : Passed w0 w2 [] waiting2 (flat_map (shown collection now.mode) (limited_to now.most w.so_far) ++ hit_text (document collection number) now.mode now.most total hit) =
    pass_both w0 w1 w2 [] waiting waiting2 (flat_map (shown collection now.mode) (limited_to now.most w.so_far)) (hit_text (document collection number)
    now.mode now.most total hit) w.passed passed in
    let lists = lists_next (lists_walked w) over next kept in
    record {
      so_far = w.so_far ++ hit ∷ [];
      split = w.split ∙ ap (λ l. w.so_far ++ l) (goes_some (left_of collection m) (left_of collection n) number (left_plain collection m) goes)
          ∙ sym (append_assoc w.so_far (hit ∷ []) (left_of collection n));
      total_is = omega (arith, length-append w.so_far (hit ∷ []), w.total_is);
      passed = subst (Passed w0 w2 [] waiting2) (sym (hit_adds collection now (document collection number) w.so_far hit total refl w.total_is)) whole;
      over = over;
      post = lists.post;
      skip = lists.skip;
      skips_within = lists.skips_within;
      weights = lists.weights;
      text = omega (arith, w.text, lists_text r1 r2 next.reads, shown_text, pages_adds code collection now.mode now.most w.so_far hit total w.total_is);
    }

-- ---- the end, and stops before it

-- what was printed so far is a prefix of the reply
so_far_prefix : (base : List ℕ) (code : TextCode) (collection : List ℕ) (q : Query) (now : Settings) (w0 w1 : Option (List ℕ)) (waiting : List ℕ) (total : ℕ)
    (m : Matching) (r0 r1 : Reads) → Walked base code collection q now w0 w1 waiting total m r0 r1 →
    GrewByPrefix w0 w1 (answer_text collection now (satisfying collection q))
so_far_prefix base code collection q now w0 w1 waiting total m r0 r1 w =
    let front = reply-front collection now w.so_far (left_of collection m) in
    let part : GrewByPrefix w0 w1 (w.passed.sent ++ waiting) = grew_first w0 w1 w.passed.sent waiting
    (record { count = length w.passed.sent; within = omega arith; is = w.passed.given ∙ ap (appended w0) (sym (take-length w.passed.sent)) }) in
    let shown_part : GrewByPrefix w0 w1 (flat_map (shown collection now.mode) (limited_to now.most w.so_far)) = subst (GrewByPrefix w0 w1) w.passed.whole part in
    subst (GrewByPrefix w0 w1) (sym (ap (answer_text collection now) w.split ∙ front.1)) (grew_first w0 w1 _ front.0 shown_part)

pages_so_far : (base : List ℕ) (code : TextCode) (collection : List ℕ) (q : Query) (now : Settings) (w0 w1 : Option (List ℕ)) (waiting : List ℕ) (total : ℕ)
    (m : Matching) (r0 r1 : Reads) → Walked base code collection q now w0 w1 waiting total m r0 r1 →
    r1 part.Text ≤ r0 part.Text + answer_pages code collection now (satisfying collection q)
pages_so_far base code collection q now w0 w1 waiting total m r0 r1 w =
    omega (arith, w.text, pages_front code collection now.mode now.most w.so_far (left_of collection m), ap (answer_pages code collection now) w.split)

-- the lists could not be read
pub walked_stop : {base : List ℕ} {code : TextCode} {collection : List ℕ} {q : Query} {now : Settings} {w0 w1 : Option (List ℕ)} {waiting : List ℕ} {total : ℕ}
    (m n : Matching) {r0 : Reads} (r1 : Reads) {r2 : Reads} {error : ShowErr} → SkipsTold →
    Walked base code collection q now w0 w1 waiting total m r0 r1 → NextRead collection q m n r1 r2 → ShowIsNotBad (Err error) →
    Answered code collection now (satisfying collection q) (query_allows collection q) w0 w1 r0 r2 (Err error)
walked_stop {base} {code} {collection} {q} {now} {w0} {w1} {waiting} {total} m n {r0} r1 {r2} {error} law w next sound = record {
  put = so_far_prefix base code collection q now w0 w1 waiting total m r0 r1 w;
  sound = sound;
  allowed = next_allowed law w next;
  text = omega (arith, pages_so_far base code collection q now w0 w1 waiting total m r0 r1 w, lists_text r1 r2 next.reads);
}

-- a document could not be shown
pub walked_cut : {base : List ℕ} {code : TextCode} {collection : List ℕ} {q : Query} {now : Settings} {w0 w1 w2 : Option (List ℕ)} {waiting : List ℕ} (total number : ℕ)
    (m n : Matching) {r0 : Reads} (r1 r2 : Reads) {r3 : Reads} {error : ShowErr} → SkipsTold →
    Walked base code collection q now w0 w1 waiting total m r0 r1 → GoesOn (left_of collection m) (left_of collection n) (Some number) →
    NextRead collection q m n r1 r2 →
    GrewByPrefix w1 w2 (waiting ++ hit_text (document collection number) now.mode now.most total (at_score number None)) → KeepsParts r2 r3 →
    r3 part.Text ≤ r2 part.Text + hit_pages code collection now total (at_score number None) → ShowIsNotBad (Err error) →
    Answered code collection now (satisfying collection q) (query_allows collection q) w0 w2 r0 r3 (Err error)
walked_cut {base} {code} {collection} {q} {now} {w0} {w1} {w2} {waiting} total number m n {r0} r1 r2 {r3} {error} law w goes next grew kept shown_text sound =
    let hit = at_score number None in
    let g = shown collection now.mode in
    let one = hit_text (document collection number) now.mode now.most total hit in
    let split : satisfying collection q ≡ (w.so_far ++ hit ∷ []) ++ left_of collection n =
    w.split ∙ ap (λ l. w.so_far ++ l) (goes_some (left_of collection m) (left_of collection n) number (left_plain collection m) goes) ∙ sym (append_assoc w.so_far (hit ∷ [])
    (left_of collection n)) in
    let front = reply-front collection now (w.so_far ++ hit ∷ []) (left_of collection n) in
    let adds = hit_adds collection now (document collection number) w.so_far hit total refl w.total_is in
    let is_text : answer_text collection now (satisfying collection q) ≡ (flat_map g (limited_to now.most w.so_far) ++ one) ++ front.0 =
    ap (answer_text collection now) split ∙ front.1 ∙ ap (λ t. t ++ front.0) adds in
    let part : GrewByPrefix w0 w2 (flat_map g (limited_to now.most w.so_far) ++ one) = pass_cut w0 w1 w2 [] waiting (flat_map g (limited_to now.most w.so_far)) one w.passed grew in
    record {
      put = subst (GrewByPrefix w0 w2) (sym is_text) (grew_first w0 w2 (flat_map g (limited_to now.most w.so_far) ++ one) front.0 part);
      sound = sound;
      allowed = allowed_then (next_allowed law w next) kept;
      text = omega (
        arith,
        w.text,
        lists_text r1 r2 next.reads,
        shown_text,
        pages_adds code collection now.mode now.most w.so_far hit total w.total_is,
        pages_front code collection now.mode now.most (w.so_far ++ hit ∷ []) (left_of collection n),
        ap (answer_pages code collection now) split,
      );
    }

-- all were found
ended : (base : List ℕ) (code : TextCode) (collection : List ℕ) (q : Query) (now : Settings) (w0 w1 : Option (List ℕ)) (waiting : List ℕ) (total : ℕ)
    (m n : Matching) (r0 r1 : Reads) → Walked base code collection q now w0 w1 waiting total m r0 r1 →
    GoesOn (left_of collection m) (left_of collection n) None →
    (shown_part : List ℕ) × Passed w0 w1 [] waiting shown_part × (answer_text collection now (satisfying collection q) ≡ shown_part ++ count total)
unfolding answer_text
ended base code collection q now w0 w1 waiting total m n r0 r1 w goes =
    let all : satisfying collection q ≡ w.so_far = w.split ∙ ap (λ l. w.so_far ++ l) (goes_none (left_of collection m) (left_of collection n) goes) ∙ append-nil w.so_far in (
      flat_map (shown collection now.mode) (limited_to now.most w.so_far),
      w.passed,
      ap (λ xs. flat_map (shown collection now.mode) (limited_to now.most xs) ++ count (length xs)) all
          ∙ ap (λ k. flat_map (shown collection now.mode) (limited_to now.most w.so_far) ++ count k) w.total_is,
    )

-- the count was put behind all that waited, or refused
pub walked_end : {base : List ℕ} {code : TextCode} {collection : List ℕ} {q : Query} {now : Settings} {w0 w1 w2 : Option (List ℕ)} {waiting : List ℕ} (total : ℕ)
    (m n : Matching) {r0 : Reads} (r1 : Reads) {r2 : Reads} {result : Result (Unit {0}) ShowErr} → SkipsTold →
    Walked base code collection q now w0 w1 waiting total m r0 r1 → GoesOn (left_of collection m) (left_of collection n) None →
    NextRead collection q m n r1 r2 →
    AfterPut w1 w2 (waiting ++ count total) result → ShowIsNotBad result →
    Answered code collection now (satisfying collection q) (query_allows collection q) w0 w2 r0 r2 result
walked_end {base} {code} {collection} {q} {now} {w0} {w1} {w2} {waiting} total m n {r0} r1 {r2} {result} law w goes next put sound =
    let t = ended base code collection q now w0 w1 waiting total m n r0 r1 w goes in
    record {
      put = subst (λ x. AfterPut w0 w2 x result) (sym t.2) (put_rest w0 w1 w2 waiting t.0 (count total) result t.1 put);
      sound = sound;
      allowed = next_allowed law w next;
      text = omega (arith, pages_so_far base code collection q now w0 w1 waiting total m r0 r1 w, lists_text r1 r2 next.reads);
    }

-- ---- what is kept agrees with the same files

pub fit_later : (base : List ℕ) (f g : Option Files) (m : Matching) → g ≡ f → MatchesFit base f m → MatchesFit base g m
fit_later base f g m same fit = subst (λ h. MatchesFit base h m) (sym same) fit
