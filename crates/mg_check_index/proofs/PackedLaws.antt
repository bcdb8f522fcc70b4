-- Postings of four bytes each: what a number stands for, and what changes where a posting more is kept beside.
use Rattle.std.proofs.Common.{arith, ◌≡◌, ◌≢◌, ◌<◌, ◌≤◌, ◌+◌, ◌-◌, ◌*◌, ◌/◌, ◌%◌, ◌++◌, ◌∷◌, ◌∙◌, ◌==◌, ◌⊎◌, ◌^◌}
use Rattle.std.proofs.Common.{Bool, true, false, cond, ℕ, zero, suc, List, [], inl, inr, length, map, take, drop, get_or, set, min, refl, sym, ap}
use Rattle.std.specs.List.{All}
use Rattle.std.proofs.Math.Nat.{le-min, min-le_left, min-le_right}
use Rattle.std.proofs.lemmas.Bool.{cases_lt}
use Rattle.std.proofs.lemmas.Bool.Decides.{nat_tests}
use Rattle.std.proofs.lemmas.List.{drop-map, get_or_append_left, map-set, take-map}
use Rattle.std.proofs.Math.Seq.{get_or-append_seam}
use Rattle.std.proofs.lemmas.List.Elements.{All-head, All-tail}
use Rattle.mg_defs.specs.declared.Posting.{Posting}
use Rattle.mg_check_index.specs.Packing.{IsKnown, beside_of, is_small, nothing, unpacked}

-- a number that tells a place among those that are kept beside
pub there : (beside : List Posting) (word : ℕ) → word % 256 ≡ 0 → unpacked beside word ≡ get_or beside (word / 256) nothing
unfolding unpacked
there beside word none =
    let low : (word % 256 == 0) ≡ true = grind (arith, nat_tests, none) in
    ap (λ b. cond b (get_or beside (word / 256) nothing) (record { doc = word / 256 + 1; freq = word % 256 })) low

-- a number that tells a document and how often it has the term
pub here : (beside : List Posting) (word : ℕ) → word % 256 ≢ 0 → unpacked beside word ≡ record { doc = word / 256 + 1; freq = word % 256 }
unfolding unpacked
here beside word some =
    let low : (word % 256 == 0) ≡ false = grind (arith, nat_tests, some) in
    ap (λ b. cond b (get_or beside (word / 256) nothing) (record { doc = word / 256 + 1; freq = word % 256 })) low

-- a posting that has room in four bytes
pub own_word : (beside : List Posting) (p : Posting) (word : ℕ) → word ≡ (p.doc - 1) * 256 + p.freq → 1 ≤ p.doc → 1 ≤ p.freq → p.freq < 256 → unpacked beside word ≡ p
own_word beside p word is some often few =
    let low : word % 256 ≡ p.freq = omega (arith, is, few) in
    let high : word / 256 + 1 ≡ p.doc = omega (arith, is, few, some) in
    here beside word (λ e. omega (arith, e, low, often))
    ∙ ap (λ n. record { doc = n; freq = word % 256 }) high ∙ ap (λ n. record { doc = p.doc; freq = n }) low

-- one that is kept beside
pub own_place : (beside : List Posting) (p : Posting) (word : ℕ) → word ≡ length beside * 256 → unpacked (beside ++ p ∷ []) word ≡ p
own_place beside p word is =
    let low : word % 256 ≡ 0 = omega (arith, is) in
    let high : word / 256 ≡ length beside = omega (arith, is) in
    there (beside ++ p ∷ []) word low ∙ ap (λ n. get_or (beside ++ p ∷ []) n nothing) high ∙ get_or-append_seam beside p [] nothing

-- the others stay
stays : (beside : List Posting) (p : Posting) (word : ℕ) → IsKnown (length beside) word → unpacked (beside ++ p ∷ []) word ≡ unpacked beside word
stays beside p word known = by_low (word % 256) refl
  where
    by_low : (n : ℕ) → word % 256 ≡ n → unpacked (beside ++ p ∷ []) word ≡ unpacked beside word
    by_low zero none =
        there (beside ++ p ∷ []) word none ∙ get_or_append_left beside (p ∷ []) nothing (word / 256) (known none) ∙ sym (there beside word none)
    by_low (suc n) some =
        let other : word % 256 ≢ 0 = λ e. omega (arith, e, some) in
        here (beside ++ p ∷ []) word other ∙ sym (here beside word other)

pub all_stay : (beside : List Posting) (p : Posting) (words : List ℕ) → All (IsKnown (length beside)) words → map (unpacked (beside ++ p ∷ [])) words ≡ map (unpacked beside) words
all_stay beside p [] known = refl
all_stay beside p (word ∷ words) known =
    ap (λ (x : Posting). x ∷ map (unpacked (beside ++ p ∷ [])) words) (stays beside p word (All-head (IsKnown (length beside)) word words known))
    ∙ ap (λ (xs : List Posting). unpacked beside word ∷ xs) (all_stay beside p words (All-tail (IsKnown (length beside)) word words known))

-- a place behind them tells none
pub behind : (beside : List Posting) (word : ℕ) → word % 256 ≡ 0 → length beside ≤ word / 256 → unpacked beside word ≡ nothing
behind beside word none past = there beside word none ∙ beyond beside (word / 256) past
  where
    beyond : (ps : List Posting) (i : ℕ) → length ps ≤ i → get_or ps i nothing ≡ nothing
    beyond [] i le = refl
    beyond (p ∷ ps) zero le = absurd (omega (arith, le))
    beyond (p ∷ ps) (suc i) le = beyond ps i (omega (arith, le))

-- ---- which postings are kept beside

pub none_beside : (p : Posting) → 1 ≤ p.doc → p.doc ≤ 2 ^ 24 → 1 ≤ p.freq → p.freq < 256 → beside_of p ≡ 0
unfolding beside_of
none_beside p first last some few =
    let small : is_small p ≡ true = grind (arith, nat_tests, first, last, some, few) in
    ap (λ b. cond b 0 1) small

pub doc_beside : (p : Posting) → (p.doc ≡ 0) ⊎ ((p.doc ≡ 0 → ⊥) × (2 ^ 24 < p.doc)) → beside_of p ≡ 1
unfolding beside_of
doc_beside p (inl none) = let wide : is_small p ≡ false = grind (arith, nat_tests, none) in ap (λ b. cond b 0 1) wide
doc_beside p (inr past) = let more = past.1 in let wide : is_small p ≡ false = grind (arith, nat_tests, more) in ap (λ b. cond b 0 1) wide

pub freq_beside : (p : Posting) → (p.freq ≡ 0) ⊎ ((p.freq ≡ 0 → ⊥) × (256 ≤ p.freq)) → beside_of p ≡ 1
unfolding beside_of
freq_beside p (inl none) = let wide : is_small p ≡ false = grind (arith, nat_tests, none) in ap (λ b. cond b 0 1) wide
freq_beside p (inr often) = let more = often.1 in let wide : is_small p ≡ false = grind (arith, nat_tests, more) in ap (λ b. cond b 0 1) wide

one_at_most : (p : Posting) → beside_of p ≤ 1
unfolding beside_of
one_at_most p = by (is_small p)
  where
    by : (b : Bool) → cond b 0 1 ≤ 1
    by true = omega arith
    by false = omega arith

-- a posting that is kept beside counts at least so many occurrences
pub often_beside : (p : Posting) → 1 ≤ p.doc → p.doc ≤ 2 ^ 24 → 1 ≤ p.freq → 256 * beside_of p ≤ p.freq
often_beside p first last some = by_freq (cases_lt p.freq 256)
  where
    by_freq : (p.freq < 256) ⊎ (256 ≤ p.freq) → 256 * beside_of p ≤ p.freq
    by_freq (inl few) = omega (arith, none_beside p first last some few)
    by_freq (inr often) = omega (arith, one_at_most p, often)

-- ---- some of the postings

pub between_is : (b c : List Posting) (ws xs : List ℕ) (from n : ℕ) (all : List Posting) → b ≡ c → ws ≡ xs → map (unpacked c) xs ≡ all →
    map (unpacked b) (take n (drop from ws)) ≡ take n (drop from all)
between_is b c ws xs from n all b_is ws_is all_is =
    ap (λ (d : List Posting). map (unpacked d) (take n (drop from ws))) b_is
    ∙ ap (λ (w : List ℕ). map (unpacked c) (take n (drop from w))) ws_is
    ∙ sym (take-map (unpacked c) n (drop from xs))
    ∙ ap (λ (l : List Posting). take n l) (sym (drop-map (unpacked c) from xs))
    ∙ ap (λ (l : List Posting). take n (drop from l)) all_is

-- ---- one posting that is put

pub put_is : (beside more : List Posting) (words : List ℕ) (place word : ℕ) (p : Posting) (old : List Posting) → map (unpacked beside) words ≡ old →
    map (unpacked more) words ≡ map (unpacked beside) words → unpacked more word ≡ p → map (unpacked more) (set words place word) ≡ set old place p
put_is beside more words place word p old old_is same p_is =
    map-set (unpacked more) words place word ∙ ap (λ xs. set xs place (unpacked more word)) (same ∙ old_is) ∙ ap (λ x. set old place x) p_is

-- one that is kept behind the others
pub put_behind : (beside more : List Posting) (words : List ℕ) (place word : ℕ) (p : Posting) (old : List Posting) → map (unpacked beside) words ≡ old →
    more ≡ beside ++ p ∷ [] → All (IsKnown (length beside)) words → word ≡ length beside * 256 → map (unpacked more) (set words place word) ≡ set old place p
put_behind beside more words place word p old old_is is known word_is =
    put_is beside more words place word p old old_is (ap (λ (b : List Posting). map (unpacked b) words) is ∙ all_stay beside p words known)
    (ap (λ (b : List Posting). unpacked b word) is ∙ own_place beside p word word_is)

-- ---- room beside

-- where a place is told by four bytes, the room that is left is not less by more than one, though it may have grown
pub room_grown : (before now kept : ℕ) → before ≤ now → kept < now → kept < 2 ^ 24 →
    min before (2 ^ 24) - kept ≤ min now (2 ^ 24) - (kept + 1) + 1
room_grown before now kept more there few =
    omega (arith, min-le_left before (2 ^ 24), min-le_right before (2 ^ 24), by_size (cases_lt now (2 ^ 24)))
  where
    by_size : (now < 2 ^ 24) ⊎ (2 ^ 24 ≤ now) → (now ≤ min now (2 ^ 24)) ⊎ (2 ^ 24 ≤ min now (2 ^ 24))
    by_size (inl lt) = inl (le-min (omega arith) (omega (arith, lt)))
    by_size (inr le) = inr (le-min (omega (arith, le)) (omega arith))

-- where room is left, fewer are kept than there is capacity for, and than four bytes tell places
pub room_left : (capacity kept : ℕ) → 1 ≤ min capacity (2 ^ 24) - kept → (kept + 1 ≤ capacity) × (kept < 2 ^ 24)
room_left capacity kept some =
    (omega (arith, some, min-le_left capacity (2 ^ 24)), omega (arith, some, min-le_right capacity (2 ^ 24)))
