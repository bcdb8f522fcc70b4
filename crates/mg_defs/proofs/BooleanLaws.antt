-- The query or the refusal of a Boolean line that is computed is the one that the grammar gives.
use Rattle.std.proofs.Common.{◌≡◌, ℕ, zero, suc, ◌+◌, ◌≤◌, Bool, true, false, cond, not, List, [], ◌∷◌, ◌++◌, length, Option, Some, None, refl, sym, ◌∙◌, ap, subst, inl, inr, append_assoc, append-nil, arith, ◌⊎◌, if◌then◌else◌}
use Rattle.std.specs.List.{count_by}
use Rattle.std.proofs.lemmas.Bool.{ltb-true, lt-ltb, leb-true, le-leb}
use Rattle.std.proofs.lemmas.List.{map-append}
use Rattle.std.proofs.lemmas.List.Sums.{sum_by-append}
use Rattle.mg_defs.specs.Sat.{Query}
use Rattle.mg_defs.specs.Tokens.{Token, word, bar, amp, bang, opening, closing, PlacedToken, placed, tokens, bare}
use Rattle.mg_defs.specs.Grammar.{ReadsAs, BeginsQuery}
use Rattle.mg_defs.specs.Walk.{Spot, spot, step, and_then, walk, start_spot}
use Rattle.mg_defs.specs.Read.{is_too_long, opens_too_deep, may_come, spot_after, first_of, refusal_at, at_end, refusal_from, boolean_or, boolean, query_of}
use Rattle.mg_defs.specs.Refusals.{Refusal, syntax, too_deep, too_long, too_many, Reading, reads, refused}
use Rattle.mg_defs.specs.FirstRefusal.{NoneRefused, IsFirstRefusal}
use Rattle.mg_defs.specs.BooleanLines.{is_opening, is_closing, open_count, IsLongWord, IsRefusedAfter, IsAccepted, IsRefusal, at_a_token, at_the_end}
use Rattle.mg_defs.proofs.WalkLaws.{walk-append, begins-walk, walk-begins, reads-walk, walk-reads}
use Rattle.mg_defs.proofs.ReadLaws.{query_is}
use Rattle.mg_defs.proofs.OneReading.{one-reading}

none-some : {B : Type 0} (y : B) → None ≡ Some y → ⊥
none-some y e = cc

-- ---- the depth of the walk is the number of open parentheses

walk-depth : (w : Bool) (d : ℕ) (ts : List Token) (e : Spot) → walk (record { wants = w; depth = d }) ts ≡ Some e → d + count_by is_opening ts ≡ e.depth + count_by is_closing ts
walk-depth w d [] e h =
    let same : record { wants = w; depth = d } ≡ e = cc in
    let deep : d ≡ e.depth = ap (λ (s : Spot). s.depth) same in
    omega (arith, deep)
walk-depth w d (word v ∷ ts) e h = walk-depth false d ts e h
walk-depth w d (bang ∷ ts) e h = walk-depth true d ts e h
walk-depth w d (opening ∷ ts) e h =
    let more : count_by is_opening (opening ∷ ts) ≡ 1 + count_by is_opening ts = sum_by-append (λ x. cond (is_opening x) 1 0) (opening ∷ []) ts in
    let same : count_by is_closing (opening ∷ ts) ≡ count_by is_closing ts = refl in
    omega (arith, walk-depth true (suc d) ts e h)
walk-depth true d (bar ∷ ts) e h = absurd (none-some e h)
walk-depth false d (bar ∷ ts) e h = walk-depth true d ts e h
walk-depth true d (amp ∷ ts) e h = absurd (none-some e h)
walk-depth false d (amp ∷ ts) e h = walk-depth true d ts e h
walk-depth true d (closing ∷ ts) e h = absurd (none-some e h)
walk-depth false zero (closing ∷ ts) e h = absurd (none-some e h)
walk-depth false (suc d) (closing ∷ ts) e h =
    let same : count_by is_opening (closing ∷ ts) ≡ count_by is_opening ts = refl in
    let more : count_by is_closing (closing ∷ ts) ≡ 1 + count_by is_closing ts = sum_by-append (λ x. cond (is_closing x) 1 0) (closing ∷ []) ts in
    omega (arith, walk-depth false d ts e h)

depth-is : (ts : List Token) (e : Spot) → walk start_spot ts ≡ Some e → open_count ts ≡ e.depth
depth-is ts e h = omega (arith, walk-depth true 0 ts e h)

-- ---- one token

-- the walk over the tokens ends at the spot
abbrev Stands : List PlacedToken → Spot → Type 0
Stands used s = walk start_spot (bare used) ≡ Some s

one-more : (used : List PlacedToken) (t : PlacedToken) (s : Spot) → Stands used s → walk start_spot (bare used ++ t.token ∷ []) ≡ and_then (step s.wants s.depth t.token) (λ next. Some next)
one-more used t s h = rw (walk-append start_spot (bare used) (t.token ∷ []), h) refl

next-stands : (used : List PlacedToken) (t : PlacedToken) (s n : Spot) → Stands used s → step s.wants s.depth t.token ≡ Some n → Stands (used ++ t ∷ []) n
next-stands used t s n h e = ap (walk start_spot) (map-append (λ (p : PlacedToken). p.token) used (t ∷ [])) ∙ one-more used t s h ∙ ap (λ o. and_then o (λ next. Some next)) e

begins-more : (used : List PlacedToken) (t : PlacedToken) (s n : Spot) → Stands used s → step s.wants s.depth t.token ≡ Some n → BeginsQuery (bare used ++ t.token ∷ [])
begins-more used t s n h e = walk-begins _ n (one-more used t s h ∙ ap (λ o. and_then o (λ next. Some next)) e)

stuck : (used : List PlacedToken) (t : PlacedToken) (s : Spot) → Stands used s → step s.wants s.depth t.token ≡ None → BeginsQuery (bare used ++ t.token ∷ []) → ⊥
stuck used t s h e begins =
    let found = begins-walk _ begins in
    none-some found.0 (sym (one-more used t s h ∙ ap (λ o. and_then o (λ next. Some next)) e) ∙ found.1)

deep-is : (d : ℕ) (t : Token) → opens_too_deep d t ≡ true → (t ≡ opening) × (32 ≤ d)
deep-is d opening h = (refl, leb-true 32 d h)
deep-is d (word w) h = absurd (cc)
deep-is d bar h = absurd (cc)
deep-is d amp h = absurd (cc)
deep-is d bang h = absurd (cc)
deep-is d closing h = absurd (cc)

long-is : (t : Token) → is_too_long t ≡ true → IsLongWord t
long-is (word w) h = ltb-true 255 (length w) h
long-is bar h = cc
long-is amp h = cc
long-is bang h = cc
long-is opening h = cc
long-is closing h = cc

abbrev limited : PlacedToken → Bool → Bool → Option Refusal
limited t deep long = if deep then Some (too_deep t.at) else (if long then Some (too_long t.at) else None)

limit-means : (used : List PlacedToken) (t : PlacedToken) (s : Spot) (deep long : Bool) (why : Refusal) → Stands used s →
    opens_too_deep s.depth t.token ≡ deep → is_too_long t.token ≡ long → limited t deep long ≡ Some why → IsRefusedAfter used t why
limit-means used t s true long why h d l e =
    let is : too_deep t.at ≡ why = cc in
    let found = deep-is s.depth t.token d in
    subst (IsRefusedAfter used t) is (refl, found.0, omega (arith, depth-is (bare used) s h, found.1))
limit-means used t s false true why h d l e =
    let is : too_long t.at ≡ why = cc in
    subst (IsRefusedAfter used t) is (refl, long-is t.token l)
limit-means used t s false false why h d l e = absurd (none-some why e)

refusal-means-at : (used : List PlacedToken) (t : PlacedToken) (s : Spot) (o : Option Spot) (why : Refusal) → Stands used s → step s.wants s.depth t.token ≡ o →
    (if not (may_come o) then Some (syntax t.at) else limited t (opens_too_deep s.depth t.token) (is_too_long t.token)) ≡ Some why → IsRefusedAfter used t why
refusal-means-at used t s None why h o e =
    let is : syntax t.at ≡ why = cc in
    subst (IsRefusedAfter used t) is (refl, stuck used t s h o)
refusal-means-at used t s (Some n) why h o e = limit-means used t s _ _ why h refl refl e

-- a token that is refused is refused for what it is
refusal-means : (used : List PlacedToken) (t : PlacedToken) (s : Spot) (why : Refusal) → Stands used s → refusal_at s t ≡ Some why → IsRefusedAfter used t why
refusal-means used t s why h e = refusal-means-at used t s _ why h refl e

deep-found : (s : Spot) (at : ℕ) (t : Token) → t ≡ opening → 32 ≤ s.depth → refusal_at s (placed at t) ≡ Some (too_deep at)
deep-found s at opening is deep = rw (le-leb 32 s.depth deep) refl
deep-found s at (word w) is deep = cc
deep-found s at bar is deep = cc
deep-found s at amp is deep = cc
deep-found s at bang is deep = cc
deep-found s at closing is deep = cc

long-found : (s : Spot) (at : ℕ) (t : Token) → IsLongWord t → refusal_at s (placed at t) ≡ Some (too_long at)
long-found s at (word w) long = rw (lt-ltb 255 (length w) long) refl
long-found s at bar long = absurd long
long-found s at amp long = absurd long
long-found s at bang long = absurd long
long-found s at opening long = absurd long
long-found s at closing long = absurd long

syntax-found : (used : List PlacedToken) (t : PlacedToken) (s : Spot) (o : Option Spot) → Stands used s → step s.wants s.depth t.token ≡ o →
    (BeginsQuery (bare used ++ t.token ∷ []) → ⊥) → (if not (may_come o) then Some (syntax t.at)
    else limited t (opens_too_deep s.depth t.token) (is_too_long t.token)) ≡ Some (syntax t.at)
syntax-found used t s None h o none = refl
syntax-found used t s (Some n) h o none = absurd (none (begins-more used t s n h o))

refusal-found : (used : List PlacedToken) (t : PlacedToken) (s : Spot) (why : Refusal) → Stands used s → IsRefusedAfter used t why → refusal_at s t ≡ Some why
refusal-found used t s (syntax at) h r = syntax-found used t s _ h refl r.1 ∙ ap (λ n. Some (syntax n)) (sym r.0)
refusal-found used t s (too_deep at) h r = deep-found s t.at t.token r.1 (omega (arith, depth-is (bare used) s h, r.2)) ∙ ap (λ n. Some (too_deep n)) (sym r.0)
refusal-found used t s (too_long at) h r = long-found s t.at t.token r.1 ∙ ap (λ n. Some (too_long n)) (sym r.0)
refusal-found used t s (too_many at) h r = absurd r

-- ---- tokens that aren't refused

allowed-at : (t : PlacedToken) (o : Option Spot) (rest : Option Refusal) → (if not (may_come o) then Some (syntax t.at) else rest) ≡ None → (n : Spot) × (o ≡ Some n)
allowed-at t None rest e = absurd (none-some (syntax t.at) (sym e))
allowed-at t (Some n) rest e = (n, refl)

-- where a token isn't refused, the walk goes on
allowed : (s : Spot) (t : PlacedToken) → refusal_at s t ≡ None → (n : Spot) × (step s.wants s.depth t.token ≡ Some n)
allowed s t e = allowed-at t _ _ e

not-refused : (used : List PlacedToken) (t : PlacedToken) (s : Spot) (o : Option Refusal) → Stands used s → refusal_at s t ≡ o →
    ((why : Refusal) → IsRefusedAfter used t why → ⊥) → refusal_at s t ≡ None
not-refused used t s None h e none = e
not-refused used t s (Some why) h e none = absurd (none why (refusal-means used t s why h e))

-- the spot after tokens of which none is refused, and what is left to find
record Passed (size : ℕ) (used mid : List PlacedToken) (s : Spot) : Type 0 where
  last : Spot
  stands : Stands (used ++ mid) last
  same : (rest : List PlacedToken) → refusal_from s size (mid ++ rest) ≡ refusal_from last size rest

passed : (size : ℕ) (used mid : List PlacedToken) (s : Spot) → Stands used s → NoneRefused IsRefusedAfter used mid → Passed size used mid s
passed size used [] s h none = record { last = s; stands = rw (append-nil used) h; same = λ rest. refl }
passed size used (t ∷ mid) s h none =
    let free = not-refused used t s _ h refl none.0 in
    let n = allowed s t free in
    let more = passed size (used ++ t ∷ []) mid n.0 (next-stands used t s n.0 h n.1) none.1 in
    record {
      last = more.last;
      stands = subst (λ (us : List PlacedToken). Stands us more.last) (append_assoc used (t ∷ []) mid) more.stands;
      same = λ rest. ap (λ o. first_of o (refusal_from (spot_after s (step s.wants s.depth t.token)) size (mid ++ rest))) free
          ∙ (ap (λ o. refusal_from (spot_after s o) size (mid ++ rest)) n.1 ∙ more.same rest);
    }

-- ---- where none is found

record AllPass (used ts : List PlacedToken) (s : Spot) : Type 0 where
  none : NoneRefused IsRefusedAfter used ts
  ends : walk s (bare ts) ≡ spot false 0

ended : (w : Bool) (d size : ℕ) → at_end (record { wants = w; depth = d }) size ≡ None → spot w d ≡ spot false 0
ended true d size e = absurd (none-some (syntax size) (sym e))
ended false zero size e = refl
ended false (suc d) size e = absurd (none-some (syntax size) (sym (rw (lt-ltb 0 (suc d) (omega arith)) at e)))

first-none : (a b : Option Refusal) → first_of a b ≡ None → (a ≡ None) × (b ≡ None)
first-none None b e = (refl, e)
first-none (Some r) b e = absurd (none-some r (sym e))

all-pass : (size : ℕ) (used ts : List PlacedToken) (s : Spot) → Stands used s → refusal_from s size ts ≡ None → AllPass used ts s
all-pass size used [] s h e = record { none = tt; ends = ended s.wants s.depth size e }
all-pass size used (t ∷ ts) s h e =
    let both = first-none (refusal_at s t) _ e in
    let n = allowed s t both.0 in
    let later = ap (λ o. refusal_from (spot_after s o) size ts) (sym n.1) ∙ both.1 in
    let more = all-pass size (used ++ t ∷ []) ts n.0 (next-stands used t s n.0 h n.1) later in
    record {
      none = (λ why r. none-some why (sym both.0 ∙ refusal-found used t s why h r), more.none);
      ends = ap (λ o. and_then o (λ next. walk next (bare ts))) n.1 ∙ more.ends;
    }

-- ---- where one is found

record FoundAt (used ts : List PlacedToken) (why : Refusal) : Type 0 where
  mid : List PlacedToken
  token : PlacedToken
  after : List PlacedToken
  whole : ts ≡ mid ++ token ∷ after
  none : NoneRefused IsRefusedAfter used mid
  refused : IsRefusedAfter (used ++ mid) token why

record FoundEnd (size : ℕ) (used ts : List PlacedToken) (s : Spot) (why : Refusal) : Type 0 where
  none : NoneRefused IsRefusedAfter used ts
  ends : walk s (bare ts) ≡ spot false 0 → ⊥
  is : why ≡ syntax size

wants-of : Option Spot → Bool
wants-of None = false
wants-of (Some s) = s.wants

depth-of : Option Spot → ℕ
depth-of None = 0
depth-of (Some s) = s.depth

wanting-goes-on : (d : ℕ) → spot true d ≡ spot false 0 → ⊥
unfolding wants-of
wanting-goes-on d same = let no : true ≡ false = ap wants-of same in cc

open-goes-on : (d : ℕ) → spot false (suc d) ≡ spot false 0 → ⊥
unfolding depth-of
open-goes-on d same = let no : suc d ≡ 0 = ap depth-of same in omega arith

end-found : (w : Bool) (d size : ℕ) (why : Refusal) → at_end (record { wants = w; depth = d }) size ≡ Some why → (spot w d ≡ spot false 0 → ⊥) × (why ≡ syntax size)
end-found true d size why e = (wanting-goes-on d, cc)
end-found false zero size why e = absurd (none-some why e)
end-found false (suc d) size why e =
    let found : Some (syntax size) ≡ Some why = rw (lt-ltb 0 (suc d) (omega arith)) at e in
    (open-goes-on d, cc)

Found : ℕ → List PlacedToken → List PlacedToken → Spot → Refusal → Type 0
Found size used ts s why = FoundAt used ts why ⊎ FoundEnd size used ts s why

first-some : (a b : Option Refusal) (why : Refusal) → first_of a b ≡ Some why → (a ≡ Some why) ⊎ ((a ≡ None) × (b ≡ Some why))
first-some None b why e = inr (refl, e)
first-some (Some r) b why e = inl e

found-later : (size : ℕ) (used : List PlacedToken) (t : PlacedToken) (ts : List PlacedToken) (s n : Spot) (why : Refusal) →
    ((why : Refusal) → IsRefusedAfter used t why → ⊥) → step s.wants s.depth t.token ≡ Some n → Found size (used ++ t ∷ []) ts n why →
    Found size used (t ∷ ts) s why
unfolding Found
found-later size used t ts s n why none e (inl here) = inl (record {
  mid = t ∷ here.mid;
  token = here.token;
  after = here.after;
  whole = ap (λ (xs : List PlacedToken). t ∷ xs) here.whole;
  none = (none, here.none);
  refused = subst (λ (us : List PlacedToken). IsRefusedAfter us here.token why) (append_assoc used (t ∷ []) here.mid) here.refused;
})
found-later size used t ts s n why none e (inr end) = inr (record {
  none = (none, end.none);
  ends = λ stops. end.ends (sym (ap (λ o. and_then o (λ next. walk next (bare ts))) e) ∙ stops);
  is = end.is;
})

found : (size : ℕ) (used ts : List PlacedToken) (s : Spot) (why : Refusal) → Stands used s → refusal_from s size ts ≡ Some why → Found size used ts s why
unfolding Found
found size used [] s why h e = let end = end-found s.wants s.depth size why e in inr (record { none = tt; ends = end.0; is = end.1 })
found size used (t ∷ ts) s why h e =
    elim (first-some (refusal_at s t) _ why e) [
      | inl here ↦ inl (record {
        mid = [];
        token = t;
        after = ts;
        whole = refl;
        none = tt;
        refused = subst (λ (us : List PlacedToken). IsRefusedAfter us t why) (sym (append-nil used)) (refusal-means used t s why h here);
      })
      | inr later ↦
          let n = allowed s t later.0 in
          let rest = ap (λ o. refusal_from (spot_after s o) size ts) (sym n.1) ∙ later.1 in
          let none = λ (other : Refusal) (r : IsRefusedAfter used t other). none-some other (sym later.0 ∙ refusal-found used t s other h r) in
          found-later size used t ts s n.0 why none n.1 (found size (used ++ t ∷ []) ts n.0 why (next-stands used t s n.0 h n.1) rest)
    ]

-- ---- the laws

-- no token meets two causes
pub one-cause : (before : List PlacedToken) (t : PlacedToken) (why other : Refusal) → NoneRefused IsRefusedAfter [] before → IsRefusedAfter before t why → IsRefusedAfter before t other → why ≡ other
one-cause before t why other none r q =
    let here = passed 0 [] before start_spot refl none in
    let same : Some why ≡ Some other = sym (refusal-found before t here.last why here.stands r) ∙ refusal-found before t here.last other here.stands q in
    cc

ends-well : (w : Bool) (d size : ℕ) → spot w d ≡ spot false 0 → at_end (record { wants = w; depth = d }) size ≡ None
ends-well true d size same = absurd (wanting-goes-on d same)
ends-well false zero size same = refl
ends-well false (suc d) size same = absurd (open-goes-on d same)

ends-badly : (w : Bool) (d size : ℕ) → (spot w d ≡ spot false 0 → ⊥) → at_end (record { wants = w; depth = d }) size ≡ Some (syntax size)
ends-badly true d size other = refl
ends-badly false zero size other = absurd (other refl)
ends-badly false (suc d) size other = rw (lt-ltb 0 (suc d) (omega arith)) refl

whole-passed : (size : ℕ) (ts : List PlacedToken) → NoneRefused IsRefusedAfter [] ts → (last : Spot) × Stands ts last × (refusal_from start_spot size ts ≡ at_end last size)
whole-passed size ts none =
    let here = passed size [] ts start_spot refl none in
    (here.last, here.stands, ap (refusal_from start_spot size) (sym (append-nil ts)) ∙ here.same [])

pub accepted-computes : (line : List ℕ) (q : Query) → IsAccepted line q → boolean line ≡ reads q
unfolding boolean
accepted-computes line q h =
    let end = whole-passed (length line) (tokens line) h.allowed in
    let well = ends-well end.0.wants end.0.depth (length line) (sym end.1 ∙ reads-walk (bare (tokens line)) q h.reads) in
    ap (λ r. boolean_or r (query_of (bare (tokens line))) (length line)) (end.2 ∙ well) ∙ ap (λ o. boolean_or None o (length line)) (query_is (bare (tokens line)) q h.reads)

token-computes : (line : List ℕ) (why : Refusal) (first : IsFirstRefusal IsRefusedAfter (tokens line) why) → refusal_from start_spot (length line) (tokens line) ≡ Some why
token-computes line why first =
    let here = passed (length line) [] first.before start_spot refl first.none in
    ap (refusal_from start_spot (length line)) first.whole
    ∙ (here.same (first.token ∷ first.after) ∙ ap (λ o.
    first_of o (refusal_from (spot_after here.last (step here.last.wants here.last.depth first.token.token)) (length line) first.after))
    (refusal-found first.before first.token here.last why here.stands first.refused))

end-computes : (line : List ℕ) → NoneRefused IsRefusedAfter [] (tokens line) → ((q : Query) → ReadsAs (bare (tokens line)) q → ⊥) →
    refusal_from start_spot (length line) (tokens line) ≡ Some (syntax (length line))
end-computes line none nothing =
    let end = whole-passed (length line) (tokens line) none in
    let bad = ends-badly end.0.wants end.0.depth (length line) (λ same. let q = walk-reads (bare (tokens line)) (end.1 ∙ same) in nothing q.0 q.1) in
    end.2 ∙ bad

refusal-found-first : (line : List ℕ) (why : Refusal) → IsRefusal line why → refusal_from start_spot (length line) (tokens line) ≡ Some why
refusal-found-first line why (at_a_token first) = token-computes line why first
refusal-found-first line why (at_the_end none nothing is) = end-computes line none nothing ∙ ap Some (sym is)

pub refusal-computes : (line : List ℕ) (why : Refusal) → IsRefusal line why → boolean line ≡ refused why
unfolding boolean
refusal-computes line why h = ap (λ r. boolean_or r (query_of (bare (tokens line))) (length line)) (refusal-found-first line why h)

refused-by : (line : List ℕ) (why : Refusal) → Found (length line) [] (tokens line) start_spot why → IsRefusal line why
unfolding Found
refused-by line why (inl here) = at_a_token (record { before = here.mid; token = here.token; after = here.after; whole = here.whole; none = here.none; refused = here.refused })
refused-by line why (inr end) = at_the_end end.none (λ q h. end.ends (reads-walk (bare (tokens line)) q h)) end.is

record Query-of (line : List ℕ) : Type 0 where
  query : Query
  accepted : IsAccepted line query
  is : query_of (bare (tokens line)) ≡ Some query

passes : (line : List ℕ) → refusal_from start_spot (length line) (tokens line) ≡ None → Query-of line
passes line e =
    let all = all-pass (length line) [] (tokens line) start_spot refl e in
    let q = walk-reads (bare (tokens line)) all.ends in
    record { query = q.0; accepted = record { reads = q.1; allowed = all.none }; is = query_is (bare (tokens line)) q.0 q.1 }

-- what is computed, from the first refusal
data Outcome (line : List ℕ) : Reading Query → Type 0 where
  read : (q : Query) → IsAccepted line q → Outcome line (reads q)
  stopped : (why : Refusal) → IsRefusal line why → Outcome line (refused why)

outcome-at : (line : List ℕ) (r : Option Refusal) → refusal_from start_spot (length line) (tokens line) ≡ r → Outcome line (boolean_or r (query_of (bare (tokens line))) (length line))
outcome-at line None e =
    let q = passes line e in
    subst (λ o. Outcome line (boolean_or None o (length line))) (sym q.is) (read q.query q.accepted)
outcome-at line (Some why) e = stopped why (refused-by line why (found (length line) [] (tokens line) start_spot why refl e))

outcome : (line : List ℕ) → Outcome line (boolean line)
unfolding boolean
outcome line = outcome-at line _ refl

read-accepted : (line : List ℕ) (r : Reading Query) (q : Query) → Outcome line r → r ≡ reads q → IsAccepted line q
read-accepted line r q (read p h) e = let same : p ≡ q = cc in subst (IsAccepted line) same h
read-accepted line r q (stopped why h) e = absurd (cc)

stopped-refused : (line : List ℕ) (r : Reading Query) (why : Refusal) → Outcome line r → r ≡ refused why → IsRefusal line why
stopped-refused line r why (read p h) e = absurd (cc)
stopped-refused line r why (stopped other h) e = let same : other ≡ why = cc in subst (IsRefusal line) same h

pub reads-accepted : (line : List ℕ) (q : Query) → boolean line ≡ reads q → IsAccepted line q
reads-accepted line q e = read-accepted line (boolean line) q (outcome line) e

pub refused-refusal : (line : List ℕ) (why : Refusal) → boolean line ≡ refused why → IsRefusal line why
refused-refusal line why e = stopped-refused line (boolean line) why (outcome line) e

either-one : (line : List ℕ) (r : Reading Query) → Outcome line r → ((q : Query) × IsAccepted line q) ⊎ ((why : Refusal) × IsRefusal line why)
either-one line r (read q h) = inl (q, h)
either-one line r (stopped why h) = inr (why, h)

-- a line has a query or a refusal
pub some-answer : (line : List ℕ) → ((q : Query) × IsAccepted line q) ⊎ ((why : Refusal) × IsRefusal line why)
some-answer line = either-one line (boolean line) (outcome line)

-- and not both
pub not-both : (line : List ℕ) (q : Query) (why : Refusal) → IsAccepted line q → IsRefusal line why → ⊥
not-both line q why a r = let clash : reads q ≡ refused why = sym (accepted-computes line q a) ∙ refusal-computes line why r in cc

pub one-refusal : (line : List ℕ) (why other : Refusal) → IsRefusal line why → IsRefusal line other → why ≡ other
one-refusal line why other h k =
    let first = refusal-computes line why h in
    let second = refusal-computes line other k in
    cc

pub one-accepted : (line : List ℕ) (p q : Query) → IsAccepted line p → IsAccepted line q → p ≡ q
one-accepted line p q h k = one-reading (bare (tokens line)) p q h.reads k.reads
