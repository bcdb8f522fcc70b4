-- The terms or the refusal of a ranked line that are computed are those of its tokens.
use Rattle.std.proofs.Common.{◌≡◌, ℕ, zero, suc, ◌<◌, ◌≤◌, Bool, true, false, not, List, [], ◌∷◌, ◌++◌, length, refl, sym, ◌∙◌, ap, subst, inl, inr, append_assoc, append-nil, arith, ◌⊎◌, nat_le, nat_lt, if◌then◌else◌, Contains, filter, ◌==◌}
use Rattle.std.specs.List.{list_any, IsDistinct}
use Rattle.std.specs.Str.{bytes_eq}
use Rattle.std.proofs.lemmas.Bool.{cases_Bool, ltb-true, leb-true, and_parts, and_from, eqb-true, eq-eqb, false≢true, or_left, or_right}
use Rattle.std.proofs.lemmas.Grind.{flat_map-append}
use Rattle.std.proofs.lemmas.Map.Views.{Contains-from_any, any-filter_same}
use Rattle.std.proofs.lemmas.List.Elements.{filter-append}
use Rattle.std.proofs.lemmas.Bool.Decides.{leb_tells}
use Rattle.mg_defs.specs.Terms.{folded, same_term}
use Rattle.mg_defs.specs.Tokens.{Token, word, bar, amp, bang, opening, closing, PlacedToken, placed, tokens}
use Rattle.mg_defs.specs.Read.{ranked_with, ranked_token, ranked_from, ranked}
use Rattle.mg_defs.specs.Refusals.{Refusal, syntax, too_deep, too_long, too_many, Reading, reads, refused}
use Rattle.mg_defs.specs.FirstAppearances.{first_appearances}
use Rattle.mg_defs.specs.FirstRefusal.{NoneRefused}
use Rattle.mg_defs.specs.BooleanLines.{IsLongWord}
use Rattle.mg_defs.specs.RankedLines.{term_of, folded_words, distinct_terms, IsNewTerm, IsTermRefusedAfter, IsTermList, IsTermRefusal}
use Rattle.mg_defs.proofs.VocabularyLaws.{distinct-first}

-- ---- the test of two terms

same-is : (a b : List ℕ) → same_term a b ≡ true → a ≡ b
same-is [] [] h = refl
same-is [] (c ∷ b) h = absurd (false≢true h)
same-is (c ∷ a) [] h = absurd (false≢true h)
same-is (c ∷ a) (d ∷ b) h =
    let parts = and_parts (c == d) (same_term a b) h in
    let head = eqb-true c d parts.0 in
    let tail = same-is a b parts.1 in
    λ i. head i ∷ tail i

same-itself : (a : List ℕ) → same_term a a ≡ true
same-itself [] = refl
same-itself (c ∷ a) = and_from (c == c) (same_term a a) (eq-eqb c c refl) (same-itself a)

any-contains : (t : List ℕ) (ts : List (List ℕ)) → list_any (same_term t) ts ≡ true → Contains ts t
any-contains t ts h = Contains-from_any same-is t ts h

contains-any : (t : List ℕ) (ts : List (List ℕ)) → Contains ts t → list_any (same_term t) ts ≡ true
contains-any t [] c = elim c.1 [ ]
contains-any t (u ∷ ts) (zero, l, e) = or_left (same_term t u) _ (ap (same_term t) e ∙ same-itself t)
contains-any t (u ∷ ts) (suc k, l, e) = or_right (same_term t u) _ (contains-any t ts (k, omega (arith, l), e))

-- ---- a word more

abbrev other_than : List ℕ → List ℕ → Bool
other_than x w = not (same_term x w)

any-filtered : (x w : List ℕ) (ts : List (List ℕ)) → same_term x w ≡ false → list_any (same_term w) (filter (other_than x) ts) ≡ list_any (same_term w) ts
any-filtered x w ts h = any-filter_same (same_term w) (other_than x) true (λ k is. ap (λ (t : List ℕ). other_than x t) (sym (same-is w k is)) ∙ ap not h) ts

-- where the new word is the first one
filter-same : (x w : List ℕ) (ts : List (List ℕ)) → same_term x w ≡ true → filter (other_than x) (ts ++ w ∷ []) ≡ filter (other_than x) ts
filter-same x w ts h = filter-append (other_than x) ts (w ∷ []) ∙ (rw h (append-nil (filter (other_than x) ts)))

filter-other : (x w : List ℕ) (ts : List (List ℕ)) → same_term x w ≡ false → filter (other_than x) (ts ++ w ∷ []) ≡ filter (other_than x) ts ++ w ∷ []
filter-other x w ts h = filter-append (other_than x) ts (w ∷ []) ∙ (rw h refl)

abbrev with_word : List (List ℕ) → List ℕ → Bool → List (List ℕ)
with_word ts w known = if known then ts else ts ++ w ∷ []

with-first : (x w : List ℕ) (ts : List (List ℕ)) (known : Bool) → same_term x w ≡ true → filter (other_than x) (with_word ts w known) ≡ filter (other_than x) ts
with-first x w ts true h = refl
with-first x w ts false h = filter-same x w ts h

with-other : (x w : List ℕ) (ts : List (List ℕ)) (known : Bool) → same_term x w ≡ false → filter (other_than x) (with_word ts w known) ≡ with_word (filter (other_than x) ts) w known
with-other x w ts true h = refl
with-other x w ts false h = filter-other x w ts h

cons-with : (x w : List ℕ) (ts : List (List ℕ)) (known : Bool) → x ∷ with_word ts w known ≡ with_word (x ∷ ts) w known
cons-with x w ts true = refl
cons-with x w ts false = refl

same-other : (x w : List ℕ) → same_term x w ≡ false → same_term w x ≡ false
same-other x w h =
    elim (cases_Bool (same_term w x)) [
      | inl is ↦ absurd (false≢true (sym h ∙ (ap (λ (t : List ℕ). same_term x t) (same-is w x is) ∙ same-itself x)))
      | inr isnt ↦ isnt
    ]

distinct-more : (ws : List (List ℕ)) (w : List ℕ) → first_appearances (ws ++ w ∷ []) ≡ with_word (first_appearances ws) w (list_any (same_term w) (first_appearances ws))
distinct-more [] w = refl
distinct-more (x ∷ ws) w =
    let d = first_appearances ws in
    let more = ap (λ (ts : List (List ℕ)). x ∷ filter (other_than x) ts) (distinct-more ws w) in
    elim (cases_Bool (same_term x w)) [
      | inl is ↦
          let itself : same_term w x ≡ true = ap (same_term w) (same-is x w is) ∙ same-itself w in
          more ∙ (ap (λ (ts : List (List ℕ)). x ∷ ts) (with-first x w d _ is) ∙ rw itself refl)
      | inr isnt ↦
          let other = same-other x w isnt in
          more ∙ (ap (λ (ts : List (List ℕ)). x ∷ ts) (with-other x w d _ isnt) ∙ (cons-with x w (filter (other_than x) d) _ ∙ rw (other, any-filtered x w d isnt) refl))
    ]

-- ---- a token more

words-more : (used : List PlacedToken) (t : PlacedToken) → folded_words (used ++ t ∷ []) ≡ folded_words used ++ (term_of t.token ++ [])
words-more used t = flat_map-append (λ (p : PlacedToken). term_of p.token) used (t ∷ [])

terms-more : (used : List PlacedToken) (at : ℕ) (w : List ℕ) → distinct_terms (used ++ placed at (word w) ∷ [])
    ≡ with_word (distinct_terms used) (folded w) (list_any (same_term (folded w)) (distinct_terms used))
terms-more used at w = ap first_appearances (words-more used (placed at (word w))) ∙ distinct-more (folded_words used) (folded w)

terms-sign : (used : List PlacedToken) (t : PlacedToken) → term_of t.token ≡ [] → distinct_terms (used ++ t ∷ []) ≡ distinct_terms used
terms-sign used t sign = ap first_appearances (words-more used t ∙ (rw sign (append-nil (folded_words used))))

data Turn (used : List PlacedToken) (t : PlacedToken) : Reading (List (List ℕ)) → Type 0 where
  goes : ((why : Refusal) → IsTermRefusedAfter used t why → ⊥) → Turn used t (reads (distinct_terms (used ++ t ∷ [])))
  stops : (why : Refusal) → IsTermRefusedAfter used t why → Turn used t (refused why)

sign-free : (used : List PlacedToken) (t : PlacedToken) → (IsLongWord t.token → ⊥) → (IsNewTerm (distinct_terms used) t.token → ⊥) → (why : Refusal) → IsTermRefusedAfter used t why → ⊥
sign-free used t long new (syntax at) r = r
sign-free used t long new (too_deep at) r = r
sign-free used t long new (too_long at) r = long r.1
sign-free used t long new (too_many at) r = new r.1

sign-goes : (used : List PlacedToken) (t : PlacedToken) → term_of t.token ≡ [] → (IsLongWord t.token → ⊥) → (IsNewTerm (distinct_terms used) t.token → ⊥) → Turn used t (reads (distinct_terms used))
sign-goes used t sign long new = subst (λ (ts : List (List ℕ)). Turn used t (reads ts)) (terms-sign used t sign) (goes (sign-free used t long new))

-- a word of at most 255 bytes
known-goes : (used : List PlacedToken) (at : ℕ) (w : List ℕ) → length w ≤ 255 → list_any (same_term (folded w)) (distinct_terms used) ≡ true →
    Turn used (placed at (word w)) (reads (distinct_terms used))
known-goes used at w short known =
    let same : distinct_terms (used ++ placed at (word w) ∷ []) ≡ distinct_terms used = terms-more used at w ∙ rw known refl in
    let free = sign-free used (placed at (word w)) (λ (long : 255 < length w). omega arith)
    (λ (new : IsNewTerm (distinct_terms used) (word w)). new.1 (any-contains (folded w) (distinct_terms used) known)) in
    subst (λ (ts : List (List ℕ)). Turn used (placed at (word w)) (reads ts)) same (goes free)

no-contains : (used : List PlacedToken) (w : List ℕ) → list_any (same_term (folded w)) (distinct_terms used) ≡ false → Contains (distinct_terms used) (folded w) → ⊥
no-contains used w unknown c = false≢true (sym unknown ∙ contains-any (folded w) (distinct_terms used) c)

new-free : (used : List PlacedToken) (at : ℕ) (w : List ℕ) → length w ≤ 255 → length (distinct_terms used) < 64 → (why : Refusal) → IsTermRefusedAfter used (placed at (word w)) why → ⊥
new-free used at w short few (syntax place) r = r
new-free used at w short few (too_deep place) r = r
new-free used at w short few (too_long place) r = omega (arith, r.1)
new-free used at w short few (too_many place) r = omega (arith, r.2)

new-goes : (used : List PlacedToken) (at : ℕ) (w : List ℕ) → length w ≤ 255 → length (distinct_terms used) < 64 →
    list_any (same_term (folded w)) (distinct_terms used) ≡ false → Turn used (placed at (word w)) (reads (distinct_terms used ++ folded w ∷ []))
new-goes used at w short few unknown =
    let same : distinct_terms (used ++ placed at (word w) ∷ []) ≡ distinct_terms used ++ folded w ∷ [] = terms-more used at w ∙ rw unknown refl in
    subst (λ (ts : List (List ℕ)). Turn used (placed at (word w)) (reads ts)) same (goes (new-free used at w short few))

leb-other : (a b : ℕ) → nat_le a b ≡ false → b < a
leb-other a b h = grind (arith, leb_tells)

ltb-other : (a b : ℕ) → nat_lt a b ≡ false → b ≤ a
ltb-other a b h = grind (arith, leb_tells)

word-turn : (used : List PlacedToken) (at : ℕ) (w : List ℕ) → Turn used (placed at (word w)) (ranked_with (distinct_terms used) at w)
word-turn used at w =
    elim (cases_Bool (nat_lt 255 (length w))) [
      | inl long ↦ rw long (stops (too_long at) (refl, ltb-true 255 (length w) long))
      | inr short ↦ elim (cases_Bool (list_any (same_term (folded w)) (distinct_terms used))) [
        | inl known ↦ rw (short, known) (known-goes used at w (ltb-other 255 (length w) short) known)
        | inr unknown ↦ elim (cases_Bool (nat_le 64 (length (distinct_terms used)))) [
          | inl many ↦ rw (short, unknown, many) (stops (too_many at) (refl, (ltb-other 255 (length w) short, no-contains used w unknown), leb-true 64 (length (distinct_terms used)) many))
          | inr few ↦ rw (short, unknown, few) (new-goes used at w (ltb-other 255 (length w) short) (leb-other 64 (length (distinct_terms used)) few) unknown)
        ]
      ]
    ]

turn-at : (used : List PlacedToken) (at : ℕ) (t : Token) → Turn used (placed at t) (ranked_token (distinct_terms used) at t)
turn-at used at (word w) = word-turn used at w
turn-at used at bar = sign-goes used (placed at bar) refl (λ r. r) (λ r. r)
turn-at used at amp = sign-goes used (placed at amp) refl (λ r. r) (λ r. r)
turn-at used at bang = sign-goes used (placed at bang) refl (λ r. r) (λ r. r)
turn-at used at opening = sign-goes used (placed at opening) refl (λ r. r) (λ r. r)
turn-at used at closing = sign-goes used (placed at closing) refl (λ r. r) (λ r. r)

turn : (used : List PlacedToken) (t : PlacedToken) → Turn used t (ranked_token (distinct_terms used) t.at t.token)
turn used t = turn-at used t.at t.token

-- ---- all tokens

pub refused-stays : (why : Refusal) (ts : List PlacedToken) → ranked_from (refused why) ts ≡ refused why
refused-stays why [] = refl
refused-stays why (t ∷ ts) = refused-stays why ts

record FoundAt (used ts : List PlacedToken) (why : Refusal) : Type 0 where
  mid : List PlacedToken
  token : PlacedToken
  after : List PlacedToken
  whole : ts ≡ mid ++ token ∷ after
  none : NoneRefused IsTermRefusedAfter used mid
  refused : IsTermRefusedAfter (used ++ mid) token why

data Outcome (used ts : List PlacedToken) : Reading (List (List ℕ)) → Type 0 where
  read : NoneRefused IsTermRefusedAfter used ts → Outcome used ts (reads (distinct_terms (used ++ ts)))
  stopped : (why : Refusal) → FoundAt used ts why → Outcome used ts (refused why)

later : (used : List PlacedToken) (t : PlacedToken) (ts : List PlacedToken) (r : Reading (List (List ℕ))) →
    ((why : Refusal) → IsTermRefusedAfter used t why → ⊥) → Outcome (used ++ t ∷ []) ts r → Outcome used (t ∷ ts) r
later used t ts r free (read none) = subst (λ (us : List PlacedToken). Outcome used (t ∷ ts) (reads (distinct_terms us))) (sym (append_assoc used (t ∷ []) ts)) (read (free, none))
later used t ts r free (stopped why here) = stopped why (record {
  mid = t ∷ here.mid;
  token = here.token;
  after = here.after;
  whole = ap (λ (xs : List PlacedToken). t ∷ xs) here.whole;
  none = (free, here.none);
  refused = subst (λ (us : List PlacedToken). IsTermRefusedAfter us here.token why) (append_assoc used (t ∷ []) here.mid) here.refused;
})

after-turn : (used : List PlacedToken) (t : PlacedToken) (ts : List PlacedToken) (r : Reading (List (List ℕ))) → Turn used t r →
    Outcome (used ++ t ∷ []) ts (ranked_from (reads (distinct_terms (used ++ t ∷ []))) ts) → Outcome used (t ∷ ts) (ranked_from r ts)
after-turn used t ts r (goes free) more = later used t ts _ free more
after-turn used t ts r (stops why here) more = subst (Outcome used (t ∷ ts)) (sym (refused-stays why ts))
    (stopped why (record {
      mid = [];
      token = t;
      after = ts;
      whole = refl;
      none = tt;
      refused =
          subst (λ (us : List PlacedToken). IsTermRefusedAfter us t why) (sym (append-nil used)) here;
    }))

outcome : (used ts : List PlacedToken) → Outcome used ts (ranked_from (reads (distinct_terms used)) ts)
outcome used [] = subst (λ (us : List PlacedToken). Outcome used [] (reads (distinct_terms us))) (append-nil used) (read tt)
outcome used (t ∷ ts) = after-turn used t ts _ (turn used t) (outcome (used ++ t ∷ []) ts)

-- ---- and back

turn-free : (used : List PlacedToken) (t : PlacedToken) (r : Reading (List (List ℕ))) → Turn used t r → ((why : Refusal) → IsTermRefusedAfter used t why → ⊥) →
    r ≡ reads (distinct_terms (used ++ t ∷ []))
turn-free used t r (goes free) none = refl
turn-free used t r (stops why here) none = absurd (none why here)

passed : (used mid rest : List PlacedToken) → NoneRefused IsTermRefusedAfter used mid → ranked_from (reads (distinct_terms used)) (mid ++ rest)
    ≡ ranked_from (reads (distinct_terms (used ++ mid))) rest
passed used [] rest none = ap (λ (us : List PlacedToken). ranked_from (reads (distinct_terms us)) rest) (sym (append-nil used))
passed used (t ∷ mid) rest none =
    ap (λ r. ranked_from r (mid ++ rest)) (turn-free used t _ (turn used t) none.0)
    ∙ (passed (used ++ t ∷ []) mid rest none.1 ∙ ap (λ (us : List PlacedToken). ranked_from (reads (distinct_terms us)) rest)
    (append_assoc used (t ∷ []) mid))

long-not-new : (terms : List (List ℕ)) (t : Token) → IsLongWord t → IsNewTerm terms t → ⊥
long-not-new terms (word w) long new = omega (arith, new.0)
long-not-new terms bar long new = long
long-not-new terms amp long new = long
long-not-new terms bang long new = long
long-not-new terms opening long new = long
long-not-new terms closing long new = long

-- no token meets two causes
pub one-term-cause : (before : List PlacedToken) (t : PlacedToken) (why other : Refusal) → IsTermRefusedAfter before t why → IsTermRefusedAfter before t other → why ≡ other
one-term-cause before t (syntax a) other r q = absurd r
one-term-cause before t (too_deep a) other r q = absurd r
one-term-cause before t (too_long a) (syntax b) r q = absurd q
one-term-cause before t (too_long a) (too_deep b) r q = absurd q
one-term-cause before t (too_long a) (too_long b) r q = ap too_long (r.0 ∙ sym q.0)
one-term-cause before t (too_long a) (too_many b) r q = absurd (long-not-new (distinct_terms before) t.token r.1 q.1)
one-term-cause before t (too_many a) (syntax b) r q = absurd q
one-term-cause before t (too_many a) (too_deep b) r q = absurd q
one-term-cause before t (too_many a) (too_long b) r q = absurd (long-not-new (distinct_terms before) t.token q.1 r.1)
one-term-cause before t (too_many a) (too_many b) r q = ap too_many (r.0 ∙ sym q.0)

turn-stops : (used : List PlacedToken) (t : PlacedToken) (r : Reading (List (List ℕ))) (why : Refusal) → Turn used t r → IsTermRefusedAfter used t why → r ≡ refused why
turn-stops used t r why (goes free) here = absurd (free why here)
turn-stops used t r why (stops other there) here = ap refused (one-term-cause used t other why there here)

pub list-computes : (line : List ℕ) (terms : List (List ℕ)) → IsTermList line terms → ranked line ≡ reads terms
unfolding ranked
list-computes line terms h = ap (ranked_from (reads [])) (sym (append-nil (tokens line))) ∙ (passed [] (tokens line) [] h.allowed ∙ ap reads (sym h.is))

pub term-refusal-computes : (line : List ℕ) (why : Refusal) → IsTermRefusal line why → ranked line ≡ refused why
unfolding ranked
term-refusal-computes line why h =
    ap (ranked_from (reads [])) h.whole ∙ (passed [] h.before (h.token ∷ h.after) h.none ∙
    (ap (λ r. ranked_from r h.after) (turn-stops h.before h.token _ why (turn h.before h.token) h.refused) ∙ refused-stays why h.after))

read-list : (line : List ℕ) (r : Reading (List (List ℕ))) (terms : List (List ℕ)) → Outcome [] (tokens line) r → r ≡ reads terms → IsTermList line terms
read-list line r terms (read none) e = record { is = cc; allowed = none }
read-list line r terms (stopped why here) e = absurd (cc)

read-refusal : (line : List ℕ) (r : Reading (List (List ℕ))) (why : Refusal) → Outcome [] (tokens line) r → r ≡ refused why → IsTermRefusal line why
read-refusal line r why (read none) e = absurd (cc)
read-refusal line r why (stopped other here) e =
    let same : other ≡ why = cc in
    subst (IsTermRefusal line) same (record { before = here.mid; token = here.token; after = here.after; whole = here.whole; none = here.none; refused = here.refused })

pub reads-list : (line : List ℕ) (terms : List (List ℕ)) → ranked line ≡ reads terms → IsTermList line terms
unfolding ranked
reads-list line terms e = read-list line _ terms (outcome [] (tokens line)) e

pub refused-term-refusal : (line : List ℕ) (why : Refusal) → ranked line ≡ refused why → IsTermRefusal line why
unfolding ranked
refused-term-refusal line why e = read-refusal line _ why (outcome [] (tokens line)) e

either-one : (line : List ℕ) (r : Reading (List (List ℕ))) → Outcome [] (tokens line) r → ((terms : List (List ℕ)) × IsTermList line terms) ⊎ ((why : Refusal) × IsTermRefusal line why)
either-one line r (read none) = inl (distinct_terms (tokens line), record { is = refl; allowed = none })
either-one line r (stopped why here) = inr (why, record { before = here.mid; token = here.token; after = here.after; whole = here.whole; none = here.none; refused = here.refused })

-- a line has terms or a refusal
pub some-terms : (line : List ℕ) → ((terms : List (List ℕ)) × IsTermList line terms) ⊎ ((why : Refusal) × IsTermRefusal line why)
some-terms line = either-one line _ (outcome [] (tokens line))

-- and not both
pub terms-not-both : (line : List ℕ) (terms : List (List ℕ)) (why : Refusal) → IsTermList line terms → IsTermRefusal line why → ⊥
terms-not-both line terms why a r =
    let first = list-computes line terms a in
    let second = term-refusal-computes line why r in
    let clash : reads terms ≡ refused why = sym first ∙ second in
    cc

pub one-term-list : (line : List ℕ) (terms other : List (List ℕ)) → IsTermList line terms → IsTermList line other → terms ≡ other
one-term-list line terms other h k = h.is ∙ sym k.is

pub one-term-refusal : (line : List ℕ) (why other : Refusal) → IsTermRefusal line why → IsTermRefusal line other → why ≡ other
one-term-refusal line why other h k =
    let first = term-refusal-computes line why h in
    let second = term-refusal-computes line other k in
    cc

-- ---- no term stands twice

pub terms-apart : (line : List ℕ) (terms : List (List ℕ)) → IsTermList line terms → IsDistinct bytes_eq terms
terms-apart line terms is = subst (IsDistinct bytes_eq) (sym is.is) (distinct-first (folded_words (tokens line)))
