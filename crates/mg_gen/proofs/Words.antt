-- Words by their syllables.
use Rattle.std.proofs.Common.{◌≡◌, ℕ, suc, ◌/◌, ◌%◌, ◌<◌, ◌≤◌, List, [], ◌∷◌, ◌++◌, ◌-◌, length, take, drop, get_or, refl, ◌∙◌, ap, arith, append_assoc, append-nil, length-drop}
use Rattle.std.proofs.lemmas.List.{take_all}
use Rattle.std.specs.Prelude.{flat_map, nat_lt}
use Rattle.std.specs.Char.{to_ascii_uppercase}
use Rattle.std.proofs.lemmas.Bool.{cond-true, cond-false, lt-ltb, le-ltb}
use Rattle.std.proofs.lemmas.List.Concat.{flat_map-cons}
use Rattle.mg_defs.specs.Generator.{base16, syllable, made_word, capital}

base_short : (more i : ℕ) → i < 256 → base16 (suc more) i ≡ i / 16 ∷ i % 16 ∷ []
base_short more i lt = cond-true (nat_lt i 256) (i / 16 ∷ i % 16 ∷ []) (base16 more (i / 16) ++ i % 16 ∷ []) (lt-ltb i 256 lt)

base_long : (more i : ℕ) → 256 ≤ i → i < 4096 → base16 (suc (suc more)) i ≡ i / 16 / 16 ∷ i / 16 % 16 ∷ i % 16 ∷ []
base_long more i ge lt =
    cond-false (nat_lt i 256) (i / 16 ∷ i % 16 ∷ []) (base16 (suc more) (i / 16) ++ i % 16 ∷ []) (le-ltb i 256 ge)
    ∙ ap (λ l. l ++ i % 16 ∷ []) (base_short more (i / 16) (omega (arith, lt)))

two : (a b : ℕ) → flat_map syllable (a ∷ b ∷ []) ≡ syllable a ++ syllable b
two a b = flat_map-cons syllable a (b ∷ []) ∙ ap (λ l. syllable a ++ l) (flat_map-cons syllable b [] ∙ append-nil (syllable b))

three : (a b c : ℕ) → flat_map syllable (a ∷ b ∷ c ∷ []) ≡ syllable a ++ (syllable b ++ syllable c)
three a b c = flat_map-cons syllable a (b ∷ c ∷ []) ∙ ap (λ l. syllable a ++ l) (two b c)

pub word_short : (i : ℕ) → i < 256 → made_word i ≡ syllable (i / 16 % 16) ++ syllable (i % 16)
unfolding made_word
word_short i lt =
    let e : i / 16 ≡ i / 16 % 16 = omega (arith, lt) in
    ap (flat_map syllable) (base_short 13 i lt) ∙ two (i / 16) (i % 16) ∙ ap (λ k. syllable k ++ syllable (i % 16)) e

pub word_long : (i : ℕ) → 256 ≤ i → i < 4096 → made_word i ≡ syllable (i / 256) ++ (syllable (i / 16 % 16) ++ syllable (i % 16))
unfolding made_word
word_long i ge lt =
    let e : i / 16 / 16 ≡ i / 256 = omega arith in
    ap (flat_map syllable) (base_long 12 i ge lt) ∙ three (i / 16 / 16) (i / 16 % 16) (i % 16) ∙ ap (λ k. syllable k ++ (syllable (i / 16 % 16) ++ syllable (i % 16))) e

pub two_added : (w0 w1 w2 a b : List ℕ) → w0 ≡ [] → w1 ≡ w0 ++ a → w2 ≡ w1 ++ b → w2 ≡ a ++ b
two_added w0 w1 w2 a b e0 e1 e2 = e2 ∙ ap (λ l. l ++ b) (e1 ∙ ap (λ l. l ++ a) e0)

pub three_added : (w0 w1 w2 w3 a b c : List ℕ) → w0 ≡ [] → w1 ≡ w0 ++ a → w2 ≡ w1 ++ b → w3 ≡ w2 ++ c → w3 ≡ a ++ (b ++ c)
three_added w0 w1 w2 w3 a b c e0 e1 e2 e3 = e3 ∙ ap (λ l. l ++ c) (two_added w0 w1 w2 a b e0 e1 e2) ∙ append_assoc a b c

pub capital-is : (word : List ℕ) → 1 ≤ length word → capital word ≡ to_ascii_uppercase (get_or word 0 0) ∷ drop 1 word
capital-is [] some = absurd (omega arith)
capital-is (b ∷ bytes) some = refl

pub capital-none : (word : List ℕ) → length word < 1 → capital word ≡ []
capital-none [] none = refl
capital-none (b ∷ bytes) none = absurd (omega arith)

pub rest-is : (word : List ℕ) → take (length word - 1) (drop 1 word) ≡ drop 1 word
rest-is word = take_all (length word - 1) (drop 1 word) (omega (arith, length-drop 1 word))
