-- A head is read back, bytes with no damage are a head, and a head has no damage.
use Rattle.std.proofs.Common.{arith, suc, zero, ◌≡◌, ◌+◌, ◌-◌, ◌*◌, ◌/◌, ◌^◌, ◌==◌, ◌≤◌, ◌<◌, ◌++◌, ℕ, Bool, true, false, List, [], ◌∷◌, length, take, drop, Some, None, refl, sym, ◌∙◌, ap, subst, cond, nat_lt, slice_index, find, length-take}
use Rattle.std.specs.declared.option.Option.{Option}
use Rattle.std.specs.Int.{from_be_bytes, to_be_bytes, w32}
use Rattle.std.proofs.lemmas.Nat.{from_be_bytes-to_be_bytes_4, from_be_bytes-to_be_bytes_8}
use Rattle.std.proofs.lemmas.Bool.Decides.{nat_tests}
use Rattle.std.proofs.lemmas.List.{take_all}
use Rattle.std.proofs.Math.Nat.{mul-le-mul_left, div-mul-le_self}
use Rattle.std.proofs.Math.Seq.{take-add}
use Rattle.mg_defs.specs.Numbers.{four, eight, four_at, eight_at}
use Rattle.mg_defs.specs.Heads.{Head, IsWithin, IsHead, Check, is_wrong, exactly, within, magic, as_number, narrow_bytes, wide_bytes, head_bytes, run_count, magic_checks, first_checks, narrow_checks, wide_checks, rest_checks, first_damage, narrow_head, wide_head, read_head}
use Rattle.mg_defs.specs.Limits.{limits}
use Rattle.mg_defs.proofs.NumberLaws.{four_read, eight_read, four_small, eight_small, slice_index-take}

-- ---- a head is read back

open_back : (b : Bool) → (from_be_bytes w32 (to_be_bytes w32 (as_number b)) == 1) ≡ b
open_back true = refl
open_back false = refl

-- each field fits in its bytes
record Fits (h : Head) : Type 0 where
  documents : h.documents < 2 ^ 32
  words : h.words < 2 ^ 32
  others : h.others < 2 ^ 32
  terms : h.terms < 2 ^ 32
  cap : h.cap < 2 ^ 32
  collection : h.collection < 2 ^ 32
  occurrences : h.occurrences < 2 ^ 32
  runs : h.runs < 2 ^ 32
  skip_count : h.skip_count < 2 ^ 64

few_runs : (n cap : ℕ) → n < 2 ^ 32 → 341 ≤ cap → run_count n cap < 2 ^ 32
few_runs n cap small some =
    let times : n / cap * 341 ≤ n / cap * cap = mul-le-mul_left (n / cap) some in
    let whole : n / cap * cap ≤ n = div-mul-le_self n cap in
    let few : 341 * (n / cap) ≤ n = omega (arith, times, whole) in
    omega (arith, few)

fits_of : (h : Head) → IsWithin h → Fits h
fits_of h is = record {
  documents = omega (arith, most.0);
  words = omega (arith, most.1);
  others = omega (arith, most.2);
  terms = omega (arith, most.1, is.terms);
  cap = omega (arith, is.cap_high);
  collection = omega (arith, most.3);
  occurrences = omega (arith, most.3, is.occurrences);
  runs = subst (λ n. n < 2 ^ 32) (sym is.runs) (few_runs h.occurrences h.cap (omega (arith, most.3, is.occurrences)) is.cap_low);
  skip_count = omega (arith, most.3, is.occurrences, is.skip_count);
}
  where
    by_case : (c : Bool) → (h.documents ≤ (cond c (limits 1) (limits 2)).documents) → (h.words ≤ (cond c (limits 1) (limits 2)).pieces) →
        (h.others ≤ (cond c (limits 1) (limits 2)).pieces) → (h.collection ≤ (cond c (limits 1) (limits 2)).collection) →
        (h.documents < 2 ^ 32) × (h.words < 2 ^ 32) × (h.others < 2 ^ 32) × (h.collection < 2 ^ 32)
    by_case true p q r s = (omega arith, omega arith, omega arith, omega arith)
    by_case false p q r s = (omega arith, omega arith, omega arith, omega arith)

    most : (h.documents < 2 ^ 32) × (h.words < 2 ^ 32) × (h.others < 2 ^ 32) × (h.collection < 2 ^ 32)
    most = by_case (h.version == 1) is.documents is.words is.others is.collection

narrow_back : (h : Head) → h.version ≡ 1 → Fits h → h.text_bytes < 2 ^ 32 → h.post_bytes < 2 ^ 64 → narrow_head (narrow_bytes h) ≡ h
unfolding four eight four_at eight_at
narrow_back h one fits text post = λ i. record {
  version = sym one i;
  documents = from_be_bytes-to_be_bytes_4 h.documents fits.documents i;
  words = from_be_bytes-to_be_bytes_4 h.words fits.words i;
  others = from_be_bytes-to_be_bytes_4 h.others fits.others i;
  terms = from_be_bytes-to_be_bytes_4 h.terms fits.terms i;
  cap = from_be_bytes-to_be_bytes_4 h.cap fits.cap i;
  open_end = open_back h.open_end i;
  collection = from_be_bytes-to_be_bytes_4 h.collection fits.collection i;
  occurrences = from_be_bytes-to_be_bytes_4 h.occurrences fits.occurrences i;
  runs = from_be_bytes-to_be_bytes_4 h.runs fits.runs i;
  text_bytes = from_be_bytes-to_be_bytes_4 h.text_bytes text i;
  post_bytes = from_be_bytes-to_be_bytes_8 h.post_bytes post i;
  skip_count = from_be_bytes-to_be_bytes_8 h.skip_count fits.skip_count i;
}

digit_back : (v : ℕ) → 48 + v - 48 ≡ v
digit_back v = omega arith

wide_back : (h : Head) → Fits h → h.text_bytes < 2 ^ 64 → h.post_bytes < 2 ^ 64 → wide_head (wide_bytes h) ≡ h
unfolding four eight four_at eight_at
wide_back h fits text post = λ i. record {
  version = digit_back h.version i;
  documents = from_be_bytes-to_be_bytes_4 h.documents fits.documents i;
  words = from_be_bytes-to_be_bytes_4 h.words fits.words i;
  others = from_be_bytes-to_be_bytes_4 h.others fits.others i;
  terms = from_be_bytes-to_be_bytes_4 h.terms fits.terms i;
  cap = from_be_bytes-to_be_bytes_4 h.cap fits.cap i;
  open_end = open_back h.open_end i;
  collection = from_be_bytes-to_be_bytes_8 h.collection (omega (arith, fits.collection)) i;
  occurrences = from_be_bytes-to_be_bytes_8 h.occurrences (omega (arith, fits.occurrences)) i;
  runs = from_be_bytes-to_be_bytes_4 h.runs fits.runs i;
  text_bytes = from_be_bytes-to_be_bytes_8 h.text_bytes text i;
  post_bytes = from_be_bytes-to_be_bytes_8 h.post_bytes post i;
  skip_count = from_be_bytes-to_be_bytes_8 h.skip_count fits.skip_count i;
}

is_one : (v : ℕ) → (v == 1) ≡ true → v ≡ 1
is_one v e = grind (arith, nat_tests)

not_one : (v : ℕ) → (v == 1) ≡ false → (48 + v == 49) ≡ false
not_one v e = grind (arith, nat_tests)

pub read_back : (h : Head) → IsWithin h → read_head (head_bytes h) ≡ h
unfolding read_head head_bytes
read_back h is = by_version (h.version == 1) refl
  where
    by_version : (b : Bool) → (h.version == 1) ≡ b → read_head (cond b (narrow_bytes h) (wide_bytes h)) ≡ h
    by_version true e =
        let text : h.text_bytes < 2 ^ 32 = subst (λ b. h.text_bytes < cond b (2 ^ 32) (2 ^ 64)) e is.text_bytes in
        ap (λ v. cond (48 + v == 49) (narrow_head (narrow_bytes h)) (wide_head (narrow_bytes h))) (is_one h.version e) ∙ narrow_back h (is_one h.version e) (fits_of h is) text is.post_bytes
    by_version false e =
        let text : h.text_bytes < 2 ^ 64 = subst (λ b. h.text_bytes < cond b (2 ^ 32) (2 ^ 64)) e is.text_bytes in
        ap (λ b. cond b (narrow_head (wide_bytes h)) (wide_head (wide_bytes h))) (not_one h.version e) ∙ wide_back h (fits_of h is) text is.post_bytes

-- bytes are those of one head
pub one_head : (a b : Head) → IsWithin a → IsWithin b → head_bytes a ≡ head_bytes b → a ≡ b
one_head a b is other e = sym (read_back a is) ∙ ap read_head e ∙ read_back b other

-- ---- a head has no damage

pub AllPass : List Check → Type 0
AllPass [] = Unit {0}
AllPass (c ∷ cs) = (is_wrong c ≡ false) × AllPass cs

pub none_found : (cs : List Check) → AllPass cs → find is_wrong cs ≡ None
unfolding AllPass
none_found [] pass = refl
none_found (c ∷ cs) pass = ap (λ b. cond b (Some c) (find is_wrong cs)) pass.0 ∙ none_found cs pass.1

pub all_pass : (cs : List Check) → find is_wrong cs ≡ None → AllPass cs
unfolding AllPass
all_pass [] none = tt
all_pass (c ∷ cs) none = let p = by_test (is_wrong c) none in (p.0, all_pass cs p.1)
  where
    by_test : (b : Bool) → cond b (Some c) (find is_wrong cs) ≡ None → (b ≡ false) × (find is_wrong cs ≡ None)
    by_test true e = absurd cc
    by_test false e = (refl, e)

right : (at low high found : ℕ) → low ≤ found → found ≤ high → is_wrong (within at low high found) ≡ false
right at low high found above below = grind (arith, nat_tests)

pub low_of : (at low high found : ℕ) → is_wrong (within at low high found) ≡ false → low ≤ found
low_of at low high found pass = grind (arith, nat_tests)

pub high_of : (at low high found : ℕ) → is_wrong (within at low high found) ≡ false → found ≤ high
high_of at low high found pass = grind (arith, nat_tests)

open_within : (b : Bool) → as_number b ≤ 1
open_within true = omega arith
open_within false = omega arith

narrow_long : (h : Head) → length (narrow_bytes h) ≡ 64
unfolding four eight
narrow_long h = refl

wide_long : (h : Head) → length (wide_bytes h) ≡ 80
unfolding four eight
wide_long h = refl

open_back_at : (bytes : List ℕ) (b : Bool) → four_at bytes 28 ≡ as_number b → four_at bytes 28 ≤ 1
open_back_at bytes b e = omega (arith, e, open_within b)

record NarrowFields (bytes : List ℕ) (h : Head) : Type 0 where
  documents : four_at bytes 8 ≡ h.documents
  words : four_at bytes 12 ≡ h.words
  others : four_at bytes 16 ≡ h.others
  terms : four_at bytes 20 ≡ h.terms
  cap : four_at bytes 24 ≡ h.cap
  open_end : four_at bytes 28 ≡ as_number h.open_end
  collection : four_at bytes 32 ≡ h.collection
  occurrences : four_at bytes 36 ≡ h.occurrences
  runs : four_at bytes 40 ≡ h.runs
  skip_count : eight_at bytes 56 ≡ h.skip_count

record WideFields (bytes : List ℕ) (h : Head) : Type 0 where
  documents : four_at bytes 8 ≡ h.documents
  words : four_at bytes 12 ≡ h.words
  others : four_at bytes 16 ≡ h.others
  terms : four_at bytes 20 ≡ h.terms
  cap : four_at bytes 24 ≡ h.cap
  open_end : four_at bytes 28 ≡ as_number h.open_end
  collection : eight_at bytes 32 ≡ h.collection
  occurrences : eight_at bytes 40 ≡ h.occurrences
  runs : four_at bytes 48 ≡ h.runs
  zero_is : four_at bytes 52 ≡ 0
  skip_count : eight_at bytes 72 ≡ h.skip_count

bit_back : (b : Bool) → from_be_bytes w32 (to_be_bytes w32 (as_number b)) ≡ as_number b
bit_back true = refl
bit_back false = refl

narrow_fields : (h : Head) → Fits h → NarrowFields (narrow_bytes h) h
unfolding four eight four_at eight_at
narrow_fields h fits = record {
  documents = from_be_bytes-to_be_bytes_4 h.documents fits.documents;
  words = from_be_bytes-to_be_bytes_4 h.words fits.words;
  others = from_be_bytes-to_be_bytes_4 h.others fits.others;
  terms = from_be_bytes-to_be_bytes_4 h.terms fits.terms;
  cap = from_be_bytes-to_be_bytes_4 h.cap fits.cap;
  open_end = bit_back h.open_end;
  collection = from_be_bytes-to_be_bytes_4 h.collection fits.collection;
  occurrences = from_be_bytes-to_be_bytes_4 h.occurrences fits.occurrences;
  runs = from_be_bytes-to_be_bytes_4 h.runs fits.runs;
  skip_count = from_be_bytes-to_be_bytes_8 h.skip_count fits.skip_count;
}

wide_fields : (h : Head) → Fits h → WideFields (wide_bytes h) h
unfolding four eight four_at eight_at
wide_fields h fits = record {
  documents = from_be_bytes-to_be_bytes_4 h.documents fits.documents;
  words = from_be_bytes-to_be_bytes_4 h.words fits.words;
  others = from_be_bytes-to_be_bytes_4 h.others fits.others;
  terms = from_be_bytes-to_be_bytes_4 h.terms fits.terms;
  cap = from_be_bytes-to_be_bytes_4 h.cap fits.cap;
  open_end = bit_back h.open_end;
  collection = from_be_bytes-to_be_bytes_8 h.collection (omega (arith, fits.collection));
  occurrences = from_be_bytes-to_be_bytes_8 h.occurrences (omega (arith, fits.occurrences));
  runs = from_be_bytes-to_be_bytes_4 h.runs fits.runs;
  zero_is = refl;
  skip_count = from_be_bytes-to_be_bytes_8 h.skip_count fits.skip_count;
}

runs_same : (a b c n cap r : ℕ) → a ≡ n → b ≡ cap → c ≡ r → r ≡ run_count n cap → (run_count a b ≤ c) × (c ≤ run_count a b)
runs_same a b c n cap r p q s e = let f : c ≡ run_count a b = s ∙ e ∙ ap (λ m. run_count m cap) (sym p) ∙ ap (run_count a) (sym q) in (omega (arith, f), omega (arith, f))

narrow_pass : (bytes : List ℕ) (h : Head) → NarrowFields bytes h → h.version ≡ 1 → IsWithin h → AllPass (first_checks (limits 1) bytes ++ narrow_checks bytes)
unfolding AllPass
narrow_pass bytes h f one is =
    let documents : h.documents ≤ 2 ^ 20 = subst (λ v. h.documents ≤ (limits v).documents) one is.documents in
    let words : h.words ≤ 2 ^ 20 = subst (λ v. h.words ≤ (limits v).pieces) one is.words in
    let others : h.others ≤ 2 ^ 20 = subst (λ v. h.others ≤ (limits v).pieces) one is.others in
    let collection : h.collection ≤ 2 ^ 28 = subst (λ v. h.collection ≤ (limits v).collection) one is.collection in
    let runs = runs_same (four_at bytes 36) (four_at bytes 24) (four_at bytes 40) h.occurrences h.cap h.runs f.occurrences f.cap f.runs is.runs in (
      right 8 0 (2 ^ 20) (four_at bytes 8) (omega arith) (omega (arith, f.documents, documents)),
      (
        right 12 0 (2 ^ 20) (four_at bytes 12) (omega arith) (omega (arith, f.words, words)),
        (
          right 16 0 (2 ^ 20) (four_at bytes 16) (omega arith) (omega (arith, f.others, others)),
          (
            right 20 0 (four_at bytes 12) (four_at bytes 20) (omega arith) (omega (arith, f.terms, f.words, is.terms)),
            (
              right 24 341 89478485 (four_at bytes 24) (omega (arith, f.cap, is.cap_low)) (omega (arith, f.cap, is.cap_high)),
              (
                right 28 0 1 (four_at bytes 28) (omega arith) (open_back_at bytes h.open_end f.open_end),
                (
                  right 32 0 (2 ^ 28) (four_at bytes 32) (omega arith) (omega (arith, f.collection, collection)),
                  (
                    right 36 0 (four_at bytes 32) (four_at bytes 36) (omega arith) (omega (arith, f.occurrences, f.collection, is.occurrences)),
                    (
                      right 40 (run_count (four_at bytes 36) (four_at bytes 24)) (run_count (four_at bytes 36) (four_at bytes 24)) (four_at bytes 40) runs.0 runs.1,
                      (right 56 0 (four_at bytes 36) (eight_at bytes 56) (omega arith) (omega (arith, f.skip_count, f.occurrences, is.skip_count)), tt),
                    ),
                  ),
                ),
              ),
            ),
          ),
        ),
      ),
    )

wide_pass : (bytes : List ℕ) (h : Head) → WideFields bytes h → (h.version == 1) ≡ false → IsWithin h → AllPass (first_checks (limits 2) bytes ++ wide_checks bytes)
unfolding AllPass
wide_pass bytes h f other is =
    let documents : h.documents ≤ 2 ^ 24 = subst (λ b. h.documents ≤ (cond b (limits 1) (limits 2)).documents) other is.documents in
    let words : h.words ≤ 2 ^ 22 = subst (λ b. h.words ≤ (cond b (limits 1) (limits 2)).pieces) other is.words in
    let others : h.others ≤ 2 ^ 22 = subst (λ b. h.others ≤ (cond b (limits 1) (limits 2)).pieces) other is.others in
    let collection : h.collection ≤ 2 ^ 32 - 1 = subst (λ b. h.collection ≤ (cond b (limits 1) (limits 2)).collection) other is.collection in
    let runs = runs_same (eight_at bytes 40) (four_at bytes 24) (four_at bytes 48) h.occurrences h.cap h.runs f.occurrences f.cap f.runs is.runs in (
      right 8 0 (2 ^ 24) (four_at bytes 8) (omega arith) (omega (arith, f.documents, documents)),
      (
        right 12 0 (2 ^ 22) (four_at bytes 12) (omega arith) (omega (arith, f.words, words)),
        (
          right 16 0 (2 ^ 22) (four_at bytes 16) (omega arith) (omega (arith, f.others, others)),
          (
            right 20 0 (four_at bytes 12) (four_at bytes 20) (omega arith) (omega (arith, f.terms, f.words, is.terms)),
            (
              right 24 341 89478485 (four_at bytes 24) (omega (arith, f.cap, is.cap_low)) (omega (arith, f.cap, is.cap_high)),
              (
                right 28 0 1 (four_at bytes 28) (omega arith) (open_back_at bytes h.open_end f.open_end),
                (
                  right 32 0 (2 ^ 32 - 1) (eight_at bytes 32) (omega arith) (omega (arith, f.collection, collection)),
                  (
                    right 40 0 (eight_at bytes 32) (eight_at bytes 40) (omega arith) (omega (arith, f.occurrences, f.collection, is.occurrences)),
                    (
                      right 48 (run_count (eight_at bytes 40) (four_at bytes 24)) (run_count (eight_at bytes 40) (four_at bytes 24)) (four_at bytes 48) runs.0 runs.1,
                      (
                        right 52 0 0 (four_at bytes 52) (omega arith) (omega (arith, f.zero_is)),
                        (right 72 0 (eight_at bytes 40) (eight_at bytes 72) (omega arith) (omega (arith, f.skip_count, f.occurrences, is.skip_count)), tt),
                      ),
                    ),
                  ),
                ),
              ),
            ),
          ),
        ),
      ),
    )

narrow_none : (low high : ℕ) (h : Head) → h.version ≡ 1 → low ≤ h.version → h.version ≤ high → IsWithin h → first_damage low high (narrow_bytes h) ≡ None
unfolding first_damage AllPass
narrow_none low high h one from to is =
    let digit : (48 + h.version == 49) ≡ true = ap (λ v. 48 + v == 49) one in
    let long : length (narrow_bytes h) ≡ 64 = narrow_long h in
    let size : is_wrong (exactly 0 64 (length (narrow_bytes h))) ≡ false = right 0 64 64 (length (narrow_bytes h)) (omega (arith, long)) (omega (arith, long)) in
    ap (λ n. cond (nat_lt n 64) (Some (exactly 0 64 (length (narrow_bytes h)))) (find is_wrong (magic_checks low high (narrow_bytes h) ++ rest_checks (narrow_bytes h)))) long
    ∙ none_found (within 6 (48 + low) (48 + high) (48 + h.version) ∷ rest_checks (narrow_bytes h)) (
      right 6 (48 + low) (48 + high) (48 + h.version) (omega arith) (omega arith),
      subst (λ b. AllPass (cond b (exactly 0 64 (length (narrow_bytes h)) ∷ (first_checks (limits 1) (narrow_bytes h) ++ narrow_checks (narrow_bytes h)))
          (exactly 0 80 (length (narrow_bytes h)) ∷ (first_checks (limits 2) (narrow_bytes h) ++ wide_checks (narrow_bytes h))))) (sym digit)
          (size, narrow_pass (narrow_bytes h) h (narrow_fields h (fits_of h is)) one is),
    )

wide_none : (low high : ℕ) (h : Head) → (h.version == 1) ≡ false → low ≤ h.version → h.version ≤ high → IsWithin h → first_damage low high (wide_bytes h) ≡ None
unfolding first_damage AllPass
wide_none low high h other from to is =
    let digit : (48 + h.version == 49) ≡ false = not_one h.version other in
    let long : length (wide_bytes h) ≡ 80 = wide_long h in
    let size : is_wrong (exactly 0 80 (length (wide_bytes h))) ≡ false = right 0 80 80 (length (wide_bytes h)) (omega (arith, long)) (omega (arith, long)) in
    ap (λ n. cond (nat_lt n 64) (Some (exactly 0 64 (length (wide_bytes h)))) (find is_wrong (magic_checks low high (wide_bytes h) ++ rest_checks (wide_bytes h)))) long
    ∙ none_found (within 6 (48 + low) (48 + high) (48 + h.version) ∷ rest_checks (wide_bytes h)) (
      right 6 (48 + low) (48 + high) (48 + h.version) (omega arith) (omega arith),
      subst (λ b. AllPass (cond b (exactly 0 64 (length (wide_bytes h)) ∷ (first_checks (limits 1) (wide_bytes h) ++ narrow_checks (wide_bytes h)))
          (exactly 0 80 (length (wide_bytes h)) ∷ (first_checks (limits 2) (wide_bytes h) ++ wide_checks (wide_bytes h))))) (sym digit)
          (size, wide_pass (wide_bytes h) h (wide_fields h (fits_of h is)) other is),
    )

pub no_damage : (low high : ℕ) (bytes : List ℕ) (h : Head) → IsHead low high bytes h → first_damage low high bytes ≡ None
unfolding head_bytes
no_damage low high bytes h is = ap (first_damage low high) is.bytes_are ∙ by_version (h.version == 1) refl
  where
    by_version : (b : Bool) → (h.version == 1) ≡ b → first_damage low high (cond b (narrow_bytes h) (wide_bytes h)) ≡ None
    by_version true e = narrow_none low high h (is_one h.version e) is.from is.to is.within
    by_version false e = wide_none low high h e is.from is.to is.within

-- ---- bytes with no damage are a head

-- a piece behind those that stand before it
piece_on : (a b : ℕ) (xs before piece : List ℕ) → before ≡ take a xs → piece ≡ take b (drop a xs) → before ++ piece ≡ take (a + b) xs
piece_on a b xs before piece e f = ap (λ t. t ++ piece) e ∙ ap (λ t. take a xs ++ t) f ∙ sym (take-add a b xs)

eight_of : (xs : List ℕ) → length xs ≡ 8 → xs ≡ slice_index xs 0 ∷ slice_index xs 1 ∷ slice_index xs 2 ∷ slice_index xs 3 ∷ slice_index xs 4 ∷
    slice_index xs 5 ∷ slice_index xs 6 ∷ slice_index xs 7 ∷ []
eight_of [] e = absurd (omega arith)
eight_of (a ∷ []) e = absurd (omega arith)
eight_of (a ∷ b ∷ []) e = absurd (omega arith)
eight_of (a ∷ b ∷ c ∷ []) e = absurd (omega arith)
eight_of (a ∷ b ∷ c ∷ d ∷ []) e = absurd (omega arith)
eight_of (a ∷ b ∷ c ∷ d ∷ f ∷ []) e = absurd (omega arith)
eight_of (a ∷ b ∷ c ∷ d ∷ f ∷ g ∷ []) e = absurd (omega arith)
eight_of (a ∷ b ∷ c ∷ d ∷ f ∷ g ∷ h ∷ []) e = absurd (omega arith)
eight_of (a ∷ b ∷ c ∷ d ∷ f ∷ g ∷ h ∷ i ∷ []) e = refl
eight_of (a ∷ b ∷ c ∷ d ∷ f ∷ g ∷ h ∷ i ∷ j ∷ xs) e = absurd (omega arith)

same_eight : {a b c d f g h a2 b2 c2 d2 f2 g2 h2 v v2 : ℕ} → a ≡ a2 → b ≡ b2 → c ≡ c2 → d ≡ d2 → f ≡ f2 → g ≡ g2 → v ≡ v2 → h ≡ h2 →
    ◌≡◌ {A = List ℕ} (a ∷ b ∷ c ∷ d ∷ f ∷ g ∷ v ∷ h ∷ []) (a2 ∷ b2 ∷ c2 ∷ d2 ∷ f2 ∷ g2 ∷ v2 ∷ h2 ∷ [])
same_eight p q r s t u w x = λ i. p i ∷ q i ∷ r i ∷ s i ∷ t i ∷ u i ∷ w i ∷ x i ∷ []

pub is_exactly : (at wanted found : ℕ) → is_wrong (exactly at wanted found) ≡ false → found ≡ wanted
is_exactly at wanted found pass = grind (arith, nat_tests)

open_number : (n : ℕ) → n ≤ 1 → as_number (n == 1) ≡ n
open_number zero h = refl
open_number (suc zero) h = refl
open_number (suc (suc n)) h = absurd (omega arith)

-- the first eight bytes
magic_read : (low high version : ℕ) (bytes : List ℕ) → 8 ≤ length bytes → version + 48 ≡ slice_index bytes 6 → AllPass (magic_checks low high bytes) → magic version ≡ take 8 bytes
unfolding AllPass
magic_read low high version bytes long digit pass =
    same_eight
    (sym (is_exactly 0 77 _ pass.0)) (sym (is_exactly 1 71 _ pass.1.0)) (sym (is_exactly 2 82 _ pass.1.1.0)) (sym (is_exactly 3 79 _ pass.1.1.1.0))
    (sym (is_exactly 4 87 _ pass.1.1.1.1.0)) (sym (is_exactly 5 118 _ pass.1.1.1.1.1.0)) (omega (arith, digit))
    (sym (is_exactly 7 10 _ pass.1.1.1.1.1.1.1.0))
    ∙ same_eight
    (at 0 (omega arith)) (at 1 (omega arith)) (at 2 (omega arith)) (at 3 (omega arith)) (at 4 (omega arith)) (at 5 (omega arith)) (at 6 (omega arith)) (at 7 (omega arith))
    ∙ sym (eight_of (take 8 bytes) (omega (arith, length-take 8 bytes)))
  where
    at : (i : ℕ) → i < 8 → slice_index bytes i ≡ slice_index (take 8 bytes) i
    at i within = sym (slice_index-take 8 i bytes within)

narrow_whole : (low high : ℕ) (bytes : List ℕ) → ((i : ℕ) → slice_index bytes i < 256) → length bytes ≡ 64 → slice_index bytes 6 ≡ 49 →
    AllPass (magic_checks low high bytes) → four_at bytes 28 ≤ 1 → narrow_bytes (narrow_head bytes) ≡ bytes
narrow_whole low high bytes small long digit pass open_end =
    piece_on 56 8 bytes _ _
    (piece_on 48 8 bytes _ _ (piece_on 44 4 bytes _ _
    (piece_on 40 4 bytes _ _ (piece_on 36 4 bytes _ _
    (piece_on 32 4 bytes _ _ (piece_on 28 4 bytes _ _
    (piece_on 24 4 bytes _ _ (piece_on 20 4 bytes _ _ (piece_on 16 4 bytes _ _ (piece_on 12 4 bytes _ _ (piece_on 8 4 bytes _ _
    (magic_read low high 1 bytes (omega arith) (omega (arith, digit)) pass)
    (four_read bytes 8 small (omega arith))) (four_read bytes 12 small (omega arith))) (four_read bytes 16 small (omega arith)))
    (four_read bytes 20 small (omega arith))) (four_read bytes 24 small (omega arith)))
    (ap four (open_number (four_at bytes 28) open_end) ∙ four_read bytes 28 small (omega arith))) (four_read bytes 32 small (omega arith)))
    (four_read bytes 36 small (omega arith))) (four_read bytes 40 small (omega arith))) (four_read bytes 44 small (omega arith)))
    (eight_read bytes 48 small (omega arith))) (eight_read bytes 56 small (omega arith))
    ∙ take_all 64 bytes (omega arith)

wide_whole : (low high : ℕ) (bytes : List ℕ) → ((i : ℕ) → slice_index bytes i < 256) → length bytes ≡ 80 → 48 ≤ slice_index bytes 6 →
    AllPass (magic_checks low high bytes) → four_at bytes 28 ≤ 1 → four_at bytes 52 ≡ 0 → wide_bytes (wide_head bytes) ≡ bytes
wide_whole low high bytes small long digit pass open_end zero_is =
    piece_on 72 8 bytes _ _
    (piece_on 64 8 bytes _ _ (piece_on 56 8 bytes _ _
    (piece_on 52 4 bytes _ _ (piece_on 48 4 bytes _ _
    (piece_on 40 8 bytes _ _ (piece_on 32 8 bytes _ _
    (piece_on 28 4 bytes _ _ (piece_on 24 4 bytes _ _ (piece_on 20 4 bytes _ _ (piece_on 16 4 bytes _ _ (piece_on 12 4 bytes _ _ (piece_on 8 4 bytes _ _
    (magic_read low high (slice_index bytes 6 - 48) bytes (omega arith) (omega (arith, digit)) pass)
    (four_read bytes 8 small (omega arith))) (four_read bytes 12 small (omega arith))) (four_read bytes 16 small (omega arith)))
    (four_read bytes 20 small (omega arith))) (four_read bytes 24 small (omega arith)))
    (ap four (open_number (four_at bytes 28) open_end) ∙ four_read bytes 28 small (omega arith))) (eight_read bytes 32 small (omega arith)))
    (eight_read bytes 40 small (omega arith))) (four_read bytes 48 small (omega arith))) (ap four (sym zero_is) ∙ four_read bytes 52 small (omega arith)))
    (eight_read bytes 56 small (omega arith))) (eight_read bytes 64 small (omega arith))) (eight_read bytes 72 small (omega arith))
    ∙ take_all 80 bytes (omega arith)

narrow_within : (bytes : List ℕ) → ((i : ℕ) → slice_index bytes i < 256) → AllPass (first_checks (limits 1) bytes ++ narrow_checks bytes) → IsWithin (narrow_head bytes)
unfolding AllPass
narrow_within bytes small pass =
    let p = pass.1.1.1 in
    let q = p.1.1.1 in record {
      version_low = omega arith;
      version_high = omega arith;
      documents = high_of 8 0 _ _ pass.0;
      words = high_of 12 0 _ _ pass.1.0;
      others = high_of 16 0 _ _ pass.1.1.0;
      terms = high_of 20 0 _ _ p.0;
      cap_low = low_of 24 341 89478485 _ p.1.0;
      cap_high = high_of 24 341 89478485 _ p.1.0;
      collection = high_of 32 0 _ _ q.0;
      occurrences = high_of 36 0 _ _ q.1.0;
      runs = is_exactly 40 _ _ q.1.1.0;
      text_bytes = four_small bytes 44 small;
      post_bytes = eight_small bytes 48 small;
      skip_count = high_of 56 0 _ _ q.1.1.1.0;
    }

wide_within : (version : ℕ) (bytes : List ℕ) → version ≡ slice_index bytes 6 - 48 → 1 ≤ version → version ≤ 2 → (version == 1) ≡ false →
    ((i : ℕ) → slice_index bytes i < 256) → AllPass (first_checks (limits 2) bytes ++ wide_checks bytes) → IsWithin (wide_head bytes)
unfolding AllPass
wide_within version bytes is least most other small pass =
    let p = pass.1.1.1 in
    let q = p.1.1.1 in
    let same : (slice_index bytes 6 - 48 == 1) ≡ false = ap (λ v. v == 1) (sym is) ∙ other in
    record {
      version_low = omega (arith, is);
      version_high = omega (arith, is);
      documents = subst (λ b. four_at bytes 8 ≤ (cond b (limits 1) (limits 2)).documents) (sym same) (high_of 8 0 _ _ pass.0);
      words = subst (λ b. four_at bytes 12 ≤ (cond b (limits 1) (limits 2)).pieces) (sym same) (high_of 8 0 _ _ pass.1.0);
      others = subst (λ b. four_at bytes 16 ≤ (cond b (limits 1) (limits 2)).pieces) (sym same) (high_of 8 0 _ _ pass.1.1.0);
      terms = high_of 8 0 _ _ p.0;
      cap_low = low_of 24 341 89478485 _ p.1.0;
      cap_high = high_of 24 341 89478485 _ p.1.0;
      collection = subst (λ b. eight_at bytes 32 ≤ (cond b (limits 1) (limits 2)).collection) (sym same) (high_of 8 0 _ _ q.0);
      occurrences = high_of 8 0 _ _ q.1.0;
      runs = is_exactly 48 _ _ q.1.1.0;
      text_bytes = subst (λ b. eight_at bytes 56 < cond b (2 ^ 32) (2 ^ 64)) (sym same) (eight_small bytes 56 small);
      post_bytes = eight_small bytes 64 small;
      skip_count = high_of 8 0 _ _ q.1.1.1.1.0;
    }

split_pass : (cs ds : List Check) → AllPass (cs ++ ds) → AllPass cs × AllPass ds
unfolding AllPass
split_pass [] ds pass = (tt, pass)
split_pass (c ∷ cs) ds pass = let p = split_pass cs ds pass.1 in ((pass.0, p.0), p.1)

not_short : (n : ℕ) (p : Option Check) → cond (nat_lt n 64) (Some (exactly 0 64 n)) p ≡ None → (64 ≤ n) × (p ≡ None)
not_short n p none = by_test (nat_lt n 64) refl none
  where
    by_test : (b : Bool) → nat_lt n 64 ≡ b → cond b (Some (exactly 0 64 n)) p ≡ None → (64 ≤ n) × (p ≡ None)
    by_test true e h = absurd cc
    by_test false e h = (grind (arith, nat_tests), h)

other_version : (d : ℕ) → (d == 49) ≡ false → (d - 48 == 1) ≡ false
other_version d e = grind (arith, nat_tests)

is_same : (d e : ℕ) → (d == e) ≡ true → d ≡ e
is_same d e h = grind (arith, nat_tests)

-- bytes with no damage are the head that is read from them
pub undamaged : (low high : ℕ) (bytes : List ℕ) → 1 ≤ low → high ≤ 2 → ((i : ℕ) → slice_index bytes i < 256) → first_damage low high bytes ≡ None → IsHead low high bytes (read_head bytes)
unfolding first_damage read_head head_bytes AllPass
undamaged low high bytes some few small none = by_version (slice_index bytes 6 == 49) refl
  where
    long : (64 ≤ length bytes) × (find is_wrong (magic_checks low high bytes ++ rest_checks bytes) ≡ None)
    long = not_short (length bytes) (find is_wrong (magic_checks low high bytes ++ rest_checks bytes)) none

    both : AllPass (magic_checks low high bytes) × AllPass (rest_checks bytes)
    both = split_pass (magic_checks low high bytes) (rest_checks bytes) (all_pass (magic_checks low high bytes ++ rest_checks bytes) long.1)

    digit : (48 + low ≤ slice_index bytes 6) × (slice_index bytes 6 ≤ 48 + high)
    digit = let p = both.0.1.1.1.1.1.1.0 in (low_of 6 (48 + low) (48 + high) (slice_index bytes 6) p, high_of 6 (48 + low) (48 + high) (slice_index bytes 6) p)

    by_version : (b : Bool) → (slice_index bytes 6 == 49) ≡ b → IsHead low high bytes (cond b (narrow_head bytes) (wide_head bytes))
    by_version true e =
        let is : slice_index bytes 6 ≡ 49 = is_same (slice_index bytes 6) 49 e in
        let pass : AllPass (exactly 0 64 (length bytes) ∷ (first_checks (limits 1) bytes ++ narrow_checks bytes)) =
        subst (λ b. AllPass (cond b (exactly 0 64 (length bytes) ∷ (first_checks (limits 1) bytes ++ narrow_checks bytes))
        (exactly 0 80 (length bytes) ∷ (first_checks (limits 2) bytes ++ wide_checks bytes)))) e both.1 in
        record {
          bytes_are = sym (narrow_whole low high bytes small (is_exactly 0 64 (length bytes) pass.0) is both.0 (high_of 28 0 1 (four_at bytes 28) pass.1.1.1.1.1.1.0));
          within = narrow_within bytes small pass.1;
          from = omega (arith, digit.0, is);
          to = omega (arith, digit.1, is);
        }
    by_version false e =
        let pass : AllPass (exactly 0 80 (length bytes) ∷ (first_checks (limits 2) bytes ++ wide_checks bytes)) =
        subst (λ b. AllPass (cond b (exactly 0 64 (length bytes) ∷ (first_checks (limits 1) bytes ++ narrow_checks bytes))
        (exactly 0 80 (length bytes) ∷ (first_checks (limits 2) bytes ++ wide_checks bytes)))) e both.1 in
        let other : (slice_index bytes 6 - 48 == 1) ≡ false = other_version (slice_index bytes 6) e in
        record {
          bytes_are = sym (ap (λ b. cond b (narrow_bytes (wide_head bytes)) (wide_bytes (wide_head bytes))) other
              ∙ wide_whole low high bytes small (is_exactly 0 80 (length bytes) pass.0) (omega (arith, digit.0)) both.0
              (high_of 28 0 1 (four_at bytes 28) pass.1.1.1.1.1.1.0) (is_exactly 52 0 (four_at bytes 52) pass.1.1.1.1.1.1.1.1.1.1.0));
          within = wide_within (slice_index bytes 6 - 48) bytes refl (omega (arith, digit.0, some)) (omega (arith, digit.1, few)) other small pass.1;
          from = omega (arith, digit.0);
          to = omega (arith, digit.1);
        }
