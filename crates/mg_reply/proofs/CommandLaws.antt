-- Laws of reading commands.
use Rattle.std.proofs.Common.{◌≡◌, ◌≢◌, ℕ, ◌+◌, ◌-◌, ◌*◌, ◌^◌, ◌<◌, ◌≤◌, true, false, List, [], ◌∷◌, length, get_or, drop, take, subst, refl, sym, ◌∙◌, ap, arith, lit<, add-one, ◌==◌, ◌&&◌}
use Rattle.std.specs.List.{list_all, prefix_len}
use Rattle.std.proofs.Math.Seq.{drop-cons}
use Rattle.std.proofs.lemmas.List.{drop_all}
use Rattle.std.proofs.Math.Nat.{pow-suc, pow-le-pow_right}
use Rattle.std.proofs.lemmas.Bool.{and_right, and_left, and_from, le-leb, lt-leb}
use Rattle.mg_defs.specs.Terms.{same_term}
use Rattle.mg_defs.specs.Commands.{value, is_digit, is_most, is_blank, is_word, begins_with_stop, begins_blank, words}
use Rattle.mg_defs.proofs.WordLaws.{words-skip, words-run, skipped-begins}
use Rattle.mg_reply.proofs.ReadingLaws.{empty}

pub same_step : (a b : List ℕ) (i : ℕ) → i < length a → i < length b → same_term (drop i a) (drop i b) ≡ (get_or a i 0 == get_or b i 0 && same_term (drop (i + 1) a) (drop (i + 1) b))
same_step a b i p q = rw (add-one, drop-cons a i 0, drop-cons b i 0)

pub prefix_step : (line : List ℕ) (i : ℕ) → i < length line → is_blank (get_or line i 0) ≡ false → prefix_len is_word (drop i line) ≡ 1 + prefix_len is_word (drop (i + 1) line)
prefix_step line i p h = rw (add-one, drop-cons line i 0, h)

pub prefix_stop : (line : List ℕ) (i : ℕ) → i < length line → is_blank (get_or line i 0) ≡ true → prefix_len is_word (drop i line) ≡ 0
prefix_stop line i p h = rw (drop-cons line i 0, h)

pub value_step : (word : List ℕ) (i so_far : ℕ) → i < length word → value so_far (drop i word) ≡ value (10 * so_far + (get_or word i 0 - 48)) (drop (i + 1) word)
unfolding value
value_step word i so_far p = rw (add-one, drop-cons word i 0)

pub digits_step : (word : List ℕ) (i : ℕ) → i < length word → list_all is_digit (drop i word) ≡ (is_digit (get_or word i 0) && list_all is_digit (drop (i + 1) word))
digits_step word i p = rw (add-one, drop-cons word i 0)

pub most_long : (word : List ℕ) → 7 < length word → is_most word ≡ false
unfolding is_most
most_long word h = and_left _ _ (and_left _ _ (and_right _ _ (lt-leb (length word) 7 h)))

pub most_other : (word : List ℕ) → list_all is_digit word ≡ false → is_most word ≡ false
unfolding is_most
most_other word h = and_left _ _ (and_left _ _ (and_left _ _ h))

pub most_low : (word : List ℕ) → value 0 word ≡ 0 → is_most word ≡ false
unfolding is_most
most_low word h = and_left _ _ (and_right _ _ (lt-leb 1 (value 0 word) (omega (arith, h))))

pub most_high : (word : List ℕ) → 1048576 < value 0 word → is_most word ≡ false
unfolding is_most
most_high word h = and_right _ _ (lt-leb (value 0 word) 1048576 h)

pub most_is : (word : List ℕ) → list_all is_digit word ≡ true → length word ≤ 7 → value 0 word ≢ 0 → value 0 word ≤ 1048576 → is_most word ≡ true
unfolding is_most
most_is word d l some top = and_from _ _ (and_from _ _ (and_from _ _ d (le-leb (length word) 7 l)) (le-leb 1 (value 0 word) (omega (arith, some)))) (le-leb (value 0 word) 1048576 top)

pub power_more : (i n d : ℕ) → n < 10 ^ i → d ≤ 9 → 10 * n + d < 10 ^ (i + 1)
power_more i n d lt le = rw add-one (omega (arith, pow-suc 10 i))

pub power_within : (i : ℕ) → i ≤ 7 → 10 ^ i ≤ 10 ^ 7
power_within i le = pow-le-pow_right (lit< tt) le

pub all_read : (word : List ℕ) (i so_far : ℕ) → length word ≤ i → value so_far (drop i word) ≡ value 0 word → so_far ≡ value 0 word
unfolding value
all_read word i so_far le h = let e : drop i word ≡ [] = drop_all i word le in ap (value so_far) (sym e) ∙ h

pub all_digits : (word : List ℕ) (i : ℕ) → length word ≤ i → list_all is_digit (drop i word) ≡ list_all is_digit word → list_all is_digit word ≡ true
all_digits word i le h = let e : drop i word ≡ [] = drop_all i word le in sym h ∙ ap (list_all is_digit) e

pub begins_is : (line : List ℕ) → 0 < length line → (get_or line 0 0 == 46) ≡ begins_with_stop line
begins_is [] some = absurd (omega arith)
begins_is (b ∷ line) some = refl

pub begins_none : (line : List ℕ) → line ≡ [] → false ≡ begins_with_stop line
begins_none line e = rw e

pub word_at : (line rest word after : List ℕ) (n m : ℕ) → rest ≡ drop n line → n ≡ prefix_len is_blank line → 0 < length rest → m ≡ prefix_len is_word rest →
    word ≡ take m rest → after ≡ drop m rest → words line ≡ word ∷ words after
word_at line rest word after n m er en some em ew ea =
    let from : rest ≡ drop (prefix_len is_blank line) line = er ∙ ap (λ k. drop k line) en in
    let begins : begins_blank rest ≡ false = let P : List ℕ → Type 0 = λ r. 0 < length r in ap begins_blank from ∙ skipped-begins line (subst P from some) in
    let first : word ≡ take (prefix_len is_word rest) rest = ew ∙ ap (λ k. take k rest) em in
    let last : after ≡ drop (prefix_len is_word rest) rest = ea ∙ ap (λ k. drop k rest) em in
    sym (words-skip line) ∙ ap words (sym from) ∙ words-run rest begins ∙ sym (ap (λ (w : List ℕ). w ∷ words (drop (prefix_len is_word rest) rest)) first) ∙ sym (ap (λ a. word ∷ words a) last)

pub word_none : (line rest : List ℕ) (n : ℕ) → rest ≡ drop n line → n ≡ prefix_len is_blank line → length rest ≡ 0 → words line ≡ []
unfolding words
word_none line rest n er en none =
    let from : rest ≡ drop (prefix_len is_blank line) line = er ∙ ap (λ k. drop k line) en in
    sym (words-skip line) ∙ ap words (sym from ∙ empty rest none)
