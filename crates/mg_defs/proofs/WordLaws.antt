-- Laws of the words of a command line.
use Rattle.std.proofs.Common.{◌≡◌, ℕ, ◌<◌, true, false, List, [], ◌∷◌, take, drop, refl, sym, ◌∙◌, ap, inl, inr, suc, one-add, subst, arith, length}
use Rattle.std.specs.List.{prefix_len, onto_first}
use Rattle.std.proofs.lemmas.Bool.{cases_Bool}
use Rattle.mg_defs.specs.Commands.{is_blank, is_word, words, begins_blank}

pub words-blank : (b : ℕ) (line : List ℕ) → is_blank b ≡ true → words (b ∷ line) ≡ words line
unfolding words
words-blank b line h = rw h

pub words-run : (line : List ℕ) → begins_blank line ≡ false → words line ≡ take (prefix_len is_word line) line ∷ words (drop (prefix_len is_word line) line)
unfolding words
words-run [] h = cc
words-run (b ∷ []) h = rw h
words-run (b ∷ c ∷ line) h =
    elim (cases_Bool (is_blank c)) [
      | inl blank ↦ rw (h, blank, blank)
      | inr word ↦
          let p = prefix_len is_word (c ∷ line) in
          let first : words (b ∷ c ∷ line) ≡ onto_first b (words (c ∷ line)) = rw (h, word) in
          let count : prefix_len is_word (b ∷ c ∷ line) ≡ suc p = rw h (one-add p) in
          first ∙ ap (onto_first b) (words-run (c ∷ line) word) ∙ sym (ap (λ n. take n (b ∷ c ∷ line) ∷ words (drop n (b ∷ c ∷ line))) count)
    ]

pub words-skip : (line : List ℕ) → words (drop (prefix_len is_blank line) line) ≡ words line
unfolding words
words-skip [] = refl
words-skip (b ∷ line) =
    elim (cases_Bool (is_blank b)) [
      | inl blank ↦
          let count : prefix_len is_blank (b ∷ line) ≡ suc (prefix_len is_blank line) = rw blank (one-add (prefix_len is_blank line)) in
          ap (λ n. words (drop n (b ∷ line))) count ∙ words-skip line ∙ sym (words-blank b line blank)
      | inr word ↦
          let count : prefix_len is_blank (b ∷ line) ≡ 0 = rw word in
          ap (λ n. words (drop n (b ∷ line))) count
    ]

pub skipped-begins : (line : List ℕ) → 0 < length (drop (prefix_len is_blank line) line) → begins_blank (drop (prefix_len is_blank line) line) ≡ false
skipped-begins [] some = absurd (omega arith)
skipped-begins (b ∷ line) some =
    elim (cases_Bool (is_blank b)) [
      | inl blank ↦
          let count : prefix_len is_blank (b ∷ line) ≡ suc (prefix_len is_blank line) = rw blank (one-add (prefix_len is_blank line)) in
          let P : ℕ → Type 0 = λ n. 0 < length (drop n (b ∷ line)) in
          ap (λ n. begins_blank (drop n (b ∷ line))) count ∙ skipped-begins line (subst P count some)
      | inr word ↦
          let count : prefix_len is_blank (b ∷ line) ≡ 0 = rw word in
          ap (λ n. begins_blank (drop n (b ∷ line))) count ∙ word
    ]
