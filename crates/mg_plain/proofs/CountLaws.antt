-- Laws of counting terms.
use Rattle.std.proofs.Common.{◌≡◌, ℕ, ◌+◌, ◌<◌, ◌≤◌, Bool, true, false, not, cond, ◌&&◌, ◌||◌, ◌==◌, List, [], ◌∷◌, length, map, get_or, refl, sym, ◌∙◌, ap, arith, zero-add, inl, inr}
use Rattle.std.specs.Prelude.{count_by, nat_lt, filter}
use Rattle.std.specs.List.{list_any}
use Rattle.std.proofs.lemmas.Bool.{cases_Bool, ne_eqb, lt-ltb}
use Rattle.std.proofs.lemmas.List.Sums.{sum_by-cons, count_by-le-length}
use Rattle.mg_defs.specs.Parse.{Pair, parse}
use Rattle.mg_defs.specs.Terms.{folded, same_term, is_empty, terms, freq_in}
use Rattle.mg_defs.proofs.ParseLaws.{parse_short}
use Rattle.mg_query.specs.Holds.{AreThere}
use Rattle.mg_plain.specs.Counts.{is_hit, hits_in, AreCounts}

-- ---- the pairs of a document

count-cons : {X : Type 0} (p : X → Bool) (x : X) (xs : List X) → count_by p (x ∷ xs) ≡ cond (p x) 1 0 + count_by p xs
count-cons p x xs = sum_by-cons (λ y. cond (p y) 1 0) x xs

words-hits : (t : List ℕ) (pairs : List Pair) → count_by (same_term t) (map folded (filter (λ w. not (is_empty w)) (map (λ (p : Pair). p.word) pairs))) ≡ count_by (is_hit t) pairs
words-hits t [] = refl
words-hits t (p ∷ pairs) =
    let later = map folded (filter (λ w. not (is_empty w)) (map (λ (q : Pair). q.word) pairs)) in
    elim (cases_Bool (not (is_empty p.word))) [
      | inl some ↦
          let first : map folded (filter (λ w. not (is_empty w)) (map (λ (q : Pair). q.word) (p ∷ pairs))) ≡ folded p.word ∷ later = rw some in
          let hit : is_hit t p ≡ same_term t (folded p.word) = ap (λ b. b && same_term t (folded p.word)) some in
          ap (count_by (same_term t)) first ∙ count-cons (same_term t) (folded p.word) later ∙ ap (λ n. cond (same_term t (folded p.word)) 1 0 + n) (words-hits t pairs)
          ∙ ap (λ b. cond b 1 0 + count_by (is_hit t) pairs) (sym hit) ∙ sym (count-cons (is_hit t) p pairs)
      | inr none ↦
          let first : map folded (filter (λ w. not (is_empty w)) (map (λ (q : Pair). q.word) (p ∷ pairs))) ≡ later = rw none in
          let hit : is_hit t p ≡ false = ap (λ b. b && same_term t (folded p.word)) none in
          ap (count_by (same_term t)) first ∙ words-hits t pairs ∙ sym (zero-add (count_by (is_hit t) pairs))
          ∙ ap (λ b. cond b 1 0 + count_by (is_hit t) pairs) (sym hit) ∙ sym (count-cons (is_hit t) p pairs)
    ]

pub freq-hits : (doc t : List ℕ) → freq_in doc t ≡ hits_in t (parse doc)
unfolding hits_in
freq-hits doc t = words-hits t (parse doc)

pub hits-none : (t : List ℕ) → hits_in t [] ≡ 0
unfolding hits_in
hits-none t = refl

pub hits-word : (t : List ℕ) (p : Pair) (pairs : List Pair) → is_empty p.word ≡ false → hits_in t (p ∷ pairs) ≡ cond (same_term t (folded p.word)) 1 0 + hits_in t pairs
unfolding hits_in
hits-word t p pairs some = count-cons (is_hit t) p pairs ∙ ap (λ b. cond (not b && same_term t (folded p.word)) 1 0 + count_by (is_hit t) pairs) some

pub hits-empty : (t : List ℕ) (p : Pair) (pairs : List Pair) → is_empty p.word ≡ true → hits_in t (p ∷ pairs) ≡ hits_in t pairs
unfolding hits_in
hits-empty t p pairs none = count-cons (is_hit t) p pairs ∙ ap (λ b. cond (not b && same_term t (folded p.word)) 1 0 + count_by (is_hit t) pairs) none ∙ zero-add (count_by (is_hit t) pairs)

pub freq-few : (doc t : List ℕ) → freq_in doc t ≤ length doc
unfolding hits_in
freq-few doc t = omega (arith, freq-hits doc t, count_by-le-length (is_hit t) (parse doc), parse_short doc)

-- ---- whether a query holds

pub some-freq : (doc t : List ℕ) → nat_lt 0 (freq_in doc t) ≡ list_any (same_term t) (terms doc)
some-freq doc t = any (terms doc)
  where
    any : (ts : List (List ℕ)) → nat_lt 0 (count_by (same_term t) ts) ≡ list_any (same_term t) ts
    any [] = refl
    any (u ∷ ts) =
        elim (cases_Bool (same_term t u)) [
          | inl same ↦ lt-ltb 0 (count_by (same_term t) (u ∷ ts)) (omega (arith, count-cons (same_term t) u ts, ap {B = ℕ} (λ b. cond b 1 0) same))
              ∙ sym (ap (λ b. b || list_any (same_term t) ts) same)
          | inr other ↦ ap (nat_lt 0) (count-cons (same_term t) u ts ∙ ap (λ b. cond b 1 0 + count_by (same_term t) ts) other
              ∙ zero-add (count_by (same_term t) ts)) ∙ any ts ∙ sym (ap (λ b. b || list_any (same_term t) ts) other)
        ]

-- the terms are there that are counted at all
pub counted_there : (doc : List ℕ) (ts : List (List ℕ)) (counts : List ℕ) (there : List Bool) → AreCounts (freq_in doc) ts counts →
    length there ≡ length counts → ((k : ℕ) → k < length counts → get_or there k true ≡ nat_lt 0 (get_or counts k 0)) → AreThere doc ts there
counted_there doc ts counts there c size each = record {
  size = size ∙ c.size;
  each = λ k lt. each k (omega (arith, lt, c.size)) ∙ ap (nat_lt 0) (c.each k lt) ∙ some-freq doc (get_or ts k []);
}

-- ---- one pair after another

empty_test : (w : List ℕ) → is_empty w ≡ (length w == 0)
empty_test [] = refl
empty_test (b ∷ w) = sym (ne_eqb (length (b ∷ w)) 0 (λ e. omega (arith, e)))

-- a word that is not empty was counted
pub word_counted : (t : List ℕ) {p : Pair} {pairs rest : List Pair} (n : ℕ) {n2 total : ℕ} {none : Bool} → pairs ≡ p ∷ rest → none ≡ (length p.word == 0) →
    none ≡ false → n2 ≡ n + cond (same_term t (folded p.word)) 1 0 → n + hits_in t pairs ≡ total → n2 + hits_in t rest ≡ total
word_counted t {p} {pairs} {rest} n e test some counted sum =
    let step : hits_in t pairs ≡ cond (same_term t (folded p.word)) 1 0 + hits_in t rest = ap (hits_in t) e ∙ hits-word t p rest (empty_test p.word ∙ sym test ∙ some) in
    omega (arith, step, counted, sum)

pub word_passed : (t : List ℕ) (p : Pair) (pairs rest : List Pair) (n total : ℕ) (none : Bool) → pairs ≡ p ∷ rest → none ≡ (length p.word == 0) → none ≡ true →
    n + hits_in t pairs ≡ total → n + hits_in t rest ≡ total
word_passed t p pairs rest n total none e test is_none sum =
    let step : hits_in t pairs ≡ hits_in t rest = ap (hits_in t) e ∙ hits-empty t p rest (empty_test p.word ∙ sym test ∙ is_none) in
    omega (arith, step, sum)

pub none_counted : (doc t : List ℕ) (pairs : List Pair) (n : ℕ) → pairs ≡ parse doc → n ≡ 0 → n + hits_in t pairs ≡ freq_in doc t
none_counted doc t pairs n e zero_is = omega (arith, ap (hits_in t) e, freq-hits doc t, zero_is)

pub all_counted : (doc t : List ℕ) (pairs : List Pair) (n : ℕ) → pairs ≡ [] → n + hits_in t pairs ≡ freq_in doc t → n ≡ freq_in doc t
all_counted doc t pairs n e sum = omega (arith, ap (hits_in t) e, hits-none t, sum)
