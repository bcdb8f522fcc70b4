-- The steps of the parser.
use Rattle.std.proofs.Common.{◌≡◌, ◌≢◌, ℕ, suc, ◌+◌, ◌-◌, ◌<◌, ◌≤◌, Bool, true, false, List, [], ◌∷◌, ◌++◌, length, Option, Some, None, refl, sym, ◌∙◌, ap, subst, append_assoc, append-nil, add-one, arith, ◌==◌, inl, inr, length-append, nat_le, nat_lt, IfSome}
use Rattle.std.proofs.lemmas.Bool.{cases_Bool}
use Rattle.std.proofs.lemmas.Bool.Decides.{leb_tells}
use Rattle.std.proofs.lemmas.List.{length-map}
use Rattle.std.proofs.lemmas.Option.{IfSome_then}
use Rattle.mg_defs.specs.Terms.{folded}
use Rattle.mg_defs.specs.Sat.{Query, term, both, either, without}
use Rattle.mg_defs.specs.Tokens.{Token, word, bar, amp, bang, opening, closing, PlacedToken, placed, onto_word_at, onto_word, onto_sign, sign_of, tokens_from, tokens, bare}
use Rattle.mg_defs.specs.Grammar.{Level, or_level, and_level, not_level, Derives, either_of, only_and, both_of, both_with, only_not, not_of, inside, one_word}
use Rattle.mg_defs.specs.Walk.{start_spot}
use Rattle.mg_defs.specs.Read.{refusal_from, negated, boolean, boolean_or, query_of}
use Rattle.mg_defs.specs.Refusals.{Refusal, syntax, reads, refused}
use Rattle.mg_defs.specs.Parse.{is_word_byte}
use Rattle.mg_defs.proofs.ReadLaws.{query_is}
use Rattle.mg_query.specs.RefusalOf.{refusal_of}
use Rattle.mg_query.specs.Ahead.{StopsAnd, StopsOr, IsNotAhead, JoinsTo, JoinsBy}
use Rattle.mg_query.specs.Parsed.{at_depth, Reads, IsStopped}
use Rattle.mg_query.specs.declared.query_err.QueryErr.{QueryErr}

-- ---- one token

short-word : (n : ℕ) → n ≤ 255 → nat_lt 255 n ≡ false
short-word n h = grind (arith, leb_tells)

shallow : (d : ℕ) → d < 32 → nat_le 32 d ≡ false
shallow d h = grind (arith, leb_tells)

word-goes : (w : Bool) (d size at : ℕ) (v : List ℕ) (ts : List PlacedToken) → length v ≤ 255 → refusal_from (at_depth w d) size (placed at (word v) ∷ ts) ≡ refusal_from (at_depth false d) size ts
word-goes w d size at v ts h = rw (short-word (length v) h) refl

opening-goes : (w : Bool) (d size at : ℕ) (ts : List PlacedToken) → d < 32 → refusal_from (at_depth w d) size (placed at opening ∷ ts) ≡ refusal_from (at_depth true (suc d)) size ts
opening-goes w d size at ts h = rw (shallow d h) refl

-- ---- operands

reads-word-at : (d size at : ℕ) (v : List ℕ) (before after : List PlacedToken) → before ≡ placed at (word v) ∷ after → length v ≤ 255 → Reads not_level d size before after (term (folded v))
reads-word-at d size at v before after e h = record {
  read = word v ∷ [];
  whole = ap bare e;
  derives = one_word;
  goes_on = λ w. ap (refusal_from (at_depth w d) size) e ∙ word-goes w d size at v after h;
}

-- the first token, where its kind is known
first-is : (t : PlacedToken) (k : Token) (before after : List PlacedToken) → before ≡ t ∷ after → t.token ≡ k → before ≡ placed t.at k ∷ after
first-is t k before after e is = e ∙ ap (λ (u : Token). placed t.at u ∷ after) is

pub reads-word : (d size : ℕ) (t : PlacedToken) (v r : List ℕ) (before after : List PlacedToken) → before ≡ t ∷ after → t.token ≡ word v → length v ≤ 255 →
    r ≡ folded v → Reads not_level d size before after (term r)
reads-word d size t v r before after e is h same = subst (λ (f : List ℕ). Reads not_level d size before after (term f)) (sym same)
    (reads-word-at d size t.at v before after (first-is t (word v) before after e is) h)

reads-inside-at : (d size at place : ℕ) (before mid rest after : List PlacedToken) (q : Query) → before ≡ placed at opening ∷ mid → d < 32 →
    Reads or_level (suc d) size mid rest q → rest ≡ placed place closing ∷ after → Reads not_level d size before after q
reads-inside-at d size at place before mid rest after q e h r k = record {
  read = opening ∷ (r.read ++ closing ∷ []);
  whole = ap bare e ∙ (ap (λ (xs : List Token). opening ∷ xs) (r.whole ∙ (ap (λ (xs : List PlacedToken). r.read ++ bare xs) k ∙ sym (append_assoc r.read (closing ∷ []) (bare after)))));
  derives = inside r.derives refl;
  goes_on = λ w. ap (refusal_from (at_depth w d) size) e ∙ (opening-goes w d size at mid h ∙ (r.goes_on true ∙ ap (refusal_from (at_depth false (suc d)) size) k));
}

pub reads-inside : {d size inner place : ℕ} {t : PlacedToken} {before mid rest after : List PlacedToken} {q : Query} → before ≡ t ∷ mid →
    t.token ≡ opening → d < 32 → inner ≡ size → Reads or_level (d + 1) inner mid rest q → rest ≡ placed place closing ∷ after →
    Reads not_level d size before after q
reads-inside {d} {size} {place} {t} {before} {mid} {rest} {after} {q} e is h same r k =
    let here = subst (λ (n : ℕ). Reads or_level (d + 1) n mid rest q) same r in
    let there = subst (λ (n : ℕ). Reads or_level n size mid rest q) (add-one d) here in
    reads-inside-at d size t.at place before mid rest after q (first-is t opening before mid e is) h there k

amped : (d size at : ℕ) (before ts next after : List PlacedToken) (p q : Query) → Reads and_level d size before (placed at amp ∷ ts) p → next ≡ ts →
    Reads not_level d size next after q → Reads and_level d size before after (both p q)
amped d size at before ts next after p q r e k = record {
  read = r.read ++ (amp ∷ k.read);
  whole = r.whole ∙ (ap (λ (xs : List Token). r.read ++ (amp ∷ xs)) (ap bare (sym e) ∙ k.whole) ∙ sym (append_assoc r.read (amp ∷ k.read) (bare after)));
  derives = both_with r.derives k.derives refl;
  goes_on = λ w. r.goes_on w ∙ (ap (refusal_from (at_depth true d) size) (sym e) ∙ k.goes_on true);
}

beside : (d size : ℕ) (before mid next after : List PlacedToken) (p q : Query) → Reads and_level d size before mid p → next ≡ mid →
    Reads not_level d size next after q → Reads and_level d size before after (both p q)
beside d size before mid next after p q r e k = record {
  read = r.read ++ k.read;
  whole = r.whole ∙ (ap (λ (xs : List Token). r.read ++ xs) (ap bare (sym e) ∙ k.whole) ∙ sym (append_assoc r.read k.read (bare after)));
  derives = both_of r.derives k.derives refl;
  goes_on = λ w. r.goes_on w ∙ (ap (refusal_from (at_depth false d) size) (sym e) ∙ k.goes_on false);
}

joined-at : (d size at : ℕ) (t : Token) (before ts next after : List PlacedToken) (p q : Query) → Reads and_level d size before (placed at t ∷ ts) p →
    JoinsBy t (placed at t) ts next → Reads not_level d size next after q → Reads and_level d size before after (both p q)
joined-at d size at amp before ts next after p q r j k = amped d size at before ts next after p q r j k
joined-at d size at (word v) before ts next after p q r j k = beside d size before (placed at (word v) ∷ ts) next after p q r j k
joined-at d size at bang before ts next after p q r j k = beside d size before (placed at bang ∷ ts) next after p q r j k
joined-at d size at opening before ts next after p q r j k = beside d size before (placed at opening ∷ ts) next after p q r j k
joined-at d size at bar before ts next after p q r j k = absurd j
joined-at d size at closing before ts next after p q r j k = absurd j

joined : (d size : ℕ) (before mid next after : List PlacedToken) (p q : Query) → Reads and_level d size before mid p → JoinsTo mid next →
    Reads not_level d size next after q → Reads and_level d size before after (both p q)
joined d size before [] next after p q r j k = absurd j
joined d size before (t ∷ ts) next after p q r j k = joined-at d size t.at t.token before ts next after p q r j k

pub reads-and : {d size inner : ℕ} {before mid next after : List PlacedToken} {p q whole : Query} → Reads and_level d size before mid p → JoinsTo mid next →
    inner ≡ size → Reads not_level d inner next after q → whole ≡ both p q → Reads and_level d size before after whole
reads-and {d} {size} {before} {mid} {next} {after} {p} {q} r j same k is =
    let here = subst (λ (n : ℕ). Reads not_level d n next after q) same k in
    subst (Reads and_level d size before after) (sym is) (joined d size before mid next after p q r j here)

chosen : (d size at : ℕ) (before mid next after : List PlacedToken) (p q : Query) → Reads or_level d size before mid p → mid ≡ placed at bar ∷ next →
    Reads and_level d size next after q → Reads or_level d size before after (either p q)
chosen d size at before mid next after p q r e k = record {
  read = r.read ++ (bar ∷ k.read);
  whole = r.whole ∙ (ap (λ (xs : List PlacedToken). r.read ++ bare xs) e ∙ (ap (λ (xs : List Token). r.read ++ (bar ∷ xs)) k.whole ∙ sym (append_assoc r.read (bar ∷ k.read) (bare after))));
  derives = either_of r.derives k.derives refl;
  goes_on = λ w. r.goes_on w ∙ (ap (refusal_from (at_depth false d) size) e ∙ k.goes_on true);
}

pub reads-or : {d size inner at : ℕ} {before mid next after : List PlacedToken} {p q whole : Query} → Reads or_level d size before mid p →
    mid ≡ placed at bar ∷ next → inner ≡ size → Reads and_level d inner next after q → whole ≡ either p q → Reads or_level d size before after whole
reads-or {d} {size} {at} {before} {mid} {next} {after} {p} {q} r e same k is =
    let here = subst (λ (n : ℕ). Reads and_level d n next after q) same k in
    subst (Reads or_level d size before after) (sym is) (chosen d size at before mid next after p q r e here)

pub reads-only-not : (d size : ℕ) (before after : List PlacedToken) (q : Query) → Reads not_level d size before after q → Reads and_level d size before after q
reads-only-not d size before after q r = record { read = r.read; whole = r.whole; derives = only_not r.derives; goes_on = r.goes_on }

pub reads-only-and : (d size : ℕ) (before after : List PlacedToken) (q : Query) → Reads and_level d size before after q → Reads or_level d size before after q
reads-only-and d size before after q r = record { read = r.read; whole = r.whole; derives = only_and r.derives; goes_on = r.goes_on }

-- ---- what may stand behind a list

pub stops-or : (ts : List PlacedToken) → StopsAnd ts → IsNotAhead bar ts → StopsOr ts
stops-or [] stops not = stops
stops-or (t ∷ ts) stops not = at-first t.token stops not
  where
    at-first : (k : Token) → StopsAnd (placed t.at k ∷ ts) → k ≢ bar → StopsOr (placed t.at k ∷ ts)
    at-first bar stops not = absurd (not refl)
    at-first closing stops not = stops
    at-first (word w) stops not = absurd stops
    at-first amp stops not = absurd stops
    at-first bang stops not = absurd stops
    at-first opening stops not = absurd stops

pub nothing-left : (ts : List PlacedToken) → StopsOr ts → IsNotAhead closing ts → ts ≡ []
nothing-left [] stops not = refl
nothing-left (t ∷ ts) stops not = at-first t.token stops not
  where
    at-first : (k : Token) → StopsOr (placed t.at k ∷ ts) → k ≢ closing → t ∷ ts ≡ []
    at-first closing stops not = absurd (not refl)
    at-first bar stops not = absurd stops
    at-first (word w) stops not = absurd stops
    at-first amp stops not = absurd stops
    at-first bang stops not = absurd stops
    at-first opening stops not = absurd stops

-- ---- signs !

-- Before the tokens after stood so many signs !: what reads from those reads, negated, from these.
pub record Banged (d size : ℕ) (before after : List PlacedToken) (signs : ℕ) : Type 0 where
  pub reads : (last : List PlacedToken) (q : Query) → Reads not_level d size after last q → Reads not_level d size before last (negated signs q)
  pub same : refusal_from (at_depth true d) size before ≡ refusal_from (at_depth true d) size after
  pub count : signs + length after ≤ length before

under-bang : (d size at : ℕ) (mid after last : List PlacedToken) (q : Query) → mid ≡ placed at bang ∷ after → Reads not_level d size after last q → Reads not_level d size mid last (without q)
under-bang d size at mid after last q e r = record {
  read = bang ∷ r.read;
  whole = ap bare e ∙ ap (λ (xs : List Token). bang ∷ xs) r.whole;
  derives = not_of r.derives;
  goes_on = λ w. ap (refusal_from (at_depth w d) size) e ∙ r.goes_on true;
}

pub banged-more : (d size at : ℕ) (before mid after : List PlacedToken) (signs : ℕ) → Banged d size before mid signs → mid ≡ placed at bang ∷ after → Banged d size before after (signs + 1)
banged-more d size at before mid after signs b e = rw (add-one signs) (record {
  reads = λ last q r. b.reads last (without q) (under-bang d size at mid after last q e r);
  same = b.same ∙ ap (refusal_from (at_depth true d) size) e;
  count = let shorter : length mid ≡ suc (length after) = ap length e in omega (arith, b.count, shorter);
})

pub negated-step : (n i : ℕ) (q : Query) → i < n → negated (n - (i + 1)) (without q) ≡ negated (n - i) q
negated-step n i q h = let more : n - i ≡ suc (n - (i + 1)) = omega arith in sym (ap (λ (m : ℕ). negated m q) more)

-- ---- lengths

derives-some : {level : Level} {ts : List Token} {q : Query} → Derives level ts q → 0 < length ts
derives-some (either_of {a = a} {b = b} h k e) = let l : length _ ≡ length a + suc (length b) = ap length e ∙ length-append a (bar ∷ b) in omega (arith, l)
derives-some (only_and h) = derives-some h
derives-some (both_of {a = a} {b = b} h k e) = let l : length _ ≡ length a + length b = ap length e ∙ length-append a b in omega (arith, l, derives-some h)
derives-some (both_with {a = a} {b = b} h k e) = let l : length _ ≡ length a + suc (length b) = ap length e ∙ length-append a (amp ∷ b) in omega (arith, l)
derives-some (only_not h) = derives-some h
derives-some (not_of h) = omega arith
derives-some (inside {a = a} h e) = let l : length _ ≡ suc (length (a ++ closing ∷ [])) = ap length e in omega (arith, l)
derives-some one_word = omega arith

pub reads-shorter : (level : Level) (d size : ℕ) (before after : List PlacedToken) (q : Query) → Reads level d size before after q → length after < length before
reads-shorter level d size before after q r =
    let some = derives-some r.derives in
    let sum : length (bare before) ≡ length r.read + length (bare after) = ap length r.whole ∙ length-append r.read (bare after) in
    omega (arith, some, sum, length-map before (λ (t : PlacedToken). t.token), length-map after (λ (t : PlacedToken). t.token))

joins-by-shorter : (at : ℕ) (t : Token) (ts next : List PlacedToken) → JoinsBy t (placed at t) ts next → length next ≤ suc (length ts)
joins-by-shorter at amp ts next j = let l : length next ≡ length ts = ap length j in omega (arith, l)
joins-by-shorter at (word v) ts next j = let l : length next ≡ suc (length ts) = ap length j in omega (arith, l)
joins-by-shorter at bang ts next j = let l : length next ≡ suc (length ts) = ap length j in omega (arith, l)
joins-by-shorter at opening ts next j = let l : length next ≡ suc (length ts) = ap length j in omega (arith, l)
joins-by-shorter at bar ts next j = absurd j
joins-by-shorter at closing ts next j = absurd j

joins-shorter : (before next : List PlacedToken) → JoinsTo before next → length next ≤ length before
joins-shorter [] next j = absurd j
joins-shorter (t ∷ ts) next j = joins-by-shorter t.at t.token ts next j

pub and-shorter : (d size : ℕ) (before next after : List PlacedToken) (q : Query) → JoinsTo before next → Reads not_level d size next after q → length after < length before
and-shorter d size before next after q j r = omega (arith, joins-shorter before next j, reads-shorter not_level d size next after q r)

pub or-shorter : (d size at : ℕ) (before next after : List PlacedToken) (q : Query) → before ≡ placed at bar ∷ next → Reads and_level d size next after q → length after < length before
or-shorter d size at before next after q e r = let l : length before ≡ suc (length next) = ap length e in omega (arith, l, reads-shorter and_level d size next after q r)

onto-word-few : (at b : ℕ) (t : Token) (from : ℕ) (ts : List PlacedToken) → length (onto_word_at at b t from ts) ≤ suc (suc (length ts))
onto-word-few at b (word w) from ts =
    elim (cases_Bool (from == at + 1)) [
      | inl is ↦ rw is (omega arith)
      | inr isnt ↦ rw isnt (omega arith)
    ]
onto-word-few at b bar from ts = omega arith
onto-word-few at b amp from ts = omega arith
onto-word-few at b bang from ts = omega arith
onto-word-few at b opening from ts = omega arith
onto-word-few at b closing from ts = omega arith

word-few : (at b : ℕ) (ts : List PlacedToken) → length (onto_word at b ts) ≤ suc (length ts)
word-few at b [] = omega arith
word-few at b (t ∷ ts) = onto-word-few at b t.token t.at ts

sign-few : (at : ℕ) (o : Option Token) (ts : List PlacedToken) → length (onto_sign at o ts) ≤ suc (length ts)
sign-few at None ts = omega arith
sign-few at (Some t) ts = omega arith

-- a line has at most as many tokens as bytes
pub tokens-few : (at : ℕ) (bytes : List ℕ) → length (tokens_from at bytes) ≤ length bytes
tokens-few at [] = omega arith
tokens-few at (b ∷ bytes) =
    let more = tokens-few (at + 1) bytes in
    elim (cases_Bool (is_word_byte b)) [
      | inl is ↦ rw is (omega (arith, more, word-few at b (tokens_from (at + 1) bytes)))
      | inr isnt ↦ rw isnt (omega (arith, more, sign-few at (sign_of b) (tokens_from (at + 1) bytes)))
    ]

-- ---- whole lines

-- nothing is left
pub whole-line : (line : List ℕ) (size : ℕ) (before after : List PlacedToken) (q : Query) → before ≡ tokens line → size ≡ length line →
    Reads or_level 0 size before after q → after ≡ [] → boolean line ≡ reads q
unfolding boolean
whole-line line size before after q is long r nothing =
    let all : bare (tokens line) ≡ r.read = ap bare (sym is) ∙ (r.whole ∙ (ap (λ (ts : List PlacedToken). r.read ++ bare ts) nothing ∙ append-nil r.read)) in
    let derives : Derives or_level (bare (tokens line)) q = subst (λ (ts : List Token). Derives or_level ts q) (sym all) r.derives in
    let free : refusal_from start_spot (length line) (tokens line) ≡ None = ap (λ (ts : List PlacedToken). refusal_from start_spot (length line) ts) (sym is)
    ∙ (ap (λ (n : ℕ). refusal_from start_spot n before) (sym long) ∙ (r.goes_on true ∙ ap (refusal_from (at_depth false 0) size) nothing)) in
    ap (λ o. boolean_or o (query_of (bare (tokens line))) (length line)) free ∙ ap (λ o. boolean_or None o (length line)) (query_is (bare (tokens line)) q derives)

closing-refused : (size : ℕ) (t : PlacedToken) (ts : List PlacedToken) → StopsOr (t ∷ ts) → refusal_from (at_depth false 0) size (t ∷ ts) ≡ Some (syntax t.at)
closing-refused size t ts stops = closing-at size t.at t.token ts stops
  where
    closing-at : (size at : ℕ) (t : Token) (ts : List PlacedToken) → StopsOr (placed at t ∷ ts) → refusal_from (at_depth false 0) size (placed at t ∷ ts) ≡ Some (syntax at)
    closing-at size at closing ts stops = refl
    closing-at size at (word w) ts stops = absurd stops
    closing-at size at bar ts stops = absurd stops
    closing-at size at amp ts stops = absurd stops
    closing-at size at bang ts stops = absurd stops
    closing-at size at opening ts stops = absurd stops

-- a closing parenthesis is left
pub line-goes-on : (line : List ℕ) (size : ℕ) (before after ts : List PlacedToken) (t : PlacedToken) (q : Query) → before ≡ tokens line → size ≡ length line →
    Reads or_level 0 size before after q → StopsOr after → after ≡ t ∷ ts → boolean line ≡ refused (syntax t.at)
unfolding boolean
line-goes-on line size before after ts t q is long r stops left =
    let closed = closing-refused size t ts (subst StopsOr left stops) in
    let stopped : refusal_from start_spot (length line) (tokens line) ≡ Some (syntax t.at) =
    ap (λ (ts : List PlacedToken). refusal_from start_spot (length line) ts) (sym is)
    ∙ (ap (λ (n : ℕ). refusal_from start_spot n before) (sym long) ∙ (r.goes_on true ∙ (ap (refusal_from (at_depth false 0) size) left ∙ closed))) in
    ap (λ o. boolean_or o (query_of (bare (tokens line))) (length line)) stopped

line-stops : (line : List ℕ) (size : ℕ) (before : List PlacedToken) (why : Refusal) → before ≡ tokens line → size ≡ length line →
    refusal_from (at_depth true 0) size before ≡ Some why → boolean line ≡ refused why
unfolding boolean
line-stops line size before why is long h =
    let stopped : refusal_from start_spot (length line) (tokens line) ≡ Some why = ap (λ (ts : List PlacedToken). refusal_from start_spot (length line) ts)
    (sym is) ∙ (ap (λ (n : ℕ). refusal_from start_spot n before) (sym long) ∙ h) in
    ap (λ o. boolean_or o (query_of (bare (tokens line))) (length line)) stopped

pub line-refused : (e : QueryErr) (line : List ℕ) (size : ℕ) (before : List PlacedToken) → before ≡ tokens line → size ≡ length line →
    IsStopped e 0 size before → IfSome (refusal_of e) (λ why. boolean line ≡ refused why)
line-refused e line size before is long h = IfSome_then (refusal_of e) h (λ why stopped. line-stops line size before why is long stopped)
