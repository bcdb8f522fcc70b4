-- Laws of the documents of a collection, from its front.
use Rattle.std.proofs.Common.{◌≡◌, ◌==◌, ℕ, true, false, not, cond, zero, suc, ◌+◌, ◌<◌, ◌≤◌, inl, inr, List, [], ◌∷◌, ◌++◌, length, take, drop, get_or, refl, sym, ◌∙◌, ap, arith, one-add}
use Rattle.std.specs.List.{prefix_len, onto_first}
use Rattle.std.proofs.lemmas.Bool.{cases_eq, ne_eqb, false_from_ne_true}
use Rattle.mg_defs.specs.Split.{documents}
use Rattle.mg_plain.specs.Inside.{is_inside}

pub first_document : (bytes : List ℕ) → 0 < length bytes → documents bytes ≡ take (prefix_len is_inside bytes) bytes ∷ documents (drop (suc (prefix_len is_inside bytes)) bytes)
first_document [] some = absurd (omega arith)
first_document (b ∷ []) some =
    elim (cases_eq b 2) [
      | inl is_two ↦ rw is_two
      | inr ne ↦ rw (ne_eqb b 2 ne)
    ]
first_document (b ∷ c ∷ bytes) some =
    elim (cases_eq b 2) [
      | inl is_two ↦ rw is_two
      | inr ne ↦
          let p = prefix_len is_inside (c ∷ bytes) in
          let whole : documents (b ∷ c ∷ bytes) ≡ onto_first b (documents (c ∷ bytes)) = rw (ne_eqb b 2 ne) in
          let size : prefix_len is_inside (b ∷ c ∷ bytes) ≡ suc p = rw (ne_eqb b 2 ne) (one-add p) in
          whole ∙ ap (onto_first b) (first_document (c ∷ bytes) (omega arith)) ∙ sym (ap (λ n. take n (b ∷ c ∷ bytes) ∷ documents (drop (suc n) (b ∷ c ∷ bytes))) size)
    ]

pub first_cut : (bytes doc closed : List ℕ) (n : ℕ) → 0 < length bytes → n ≡ prefix_len is_inside bytes → doc ≡ take n bytes → closed ≡ drop n bytes → documents bytes ≡ doc ∷ documents (drop 1 closed)
first_cut bytes doc closed n some en ed ec =
    let after : drop 1 closed ≡ drop (suc (prefix_len is_inside bytes)) bytes = ap (drop 1) (ec ∙ ap (λ k. drop k bytes) en) ∙ drop-drop (prefix_len is_inside bytes) bytes in
    first_document bytes some ∙ ap (λ (d : List ℕ). d ∷ documents (drop (suc (prefix_len is_inside bytes)) bytes)) (sym (ed ∙ ap (λ k. take k bytes) en)) ∙ ap (λ r. doc ∷ documents r) (sym after)
  where
    drop-drop : (m : ℕ) (xs : List ℕ) → drop 1 (drop m xs) ≡ drop (suc m) xs
    drop-drop zero [] = refl
    drop-drop zero (x ∷ xs) = refl
    drop-drop (suc m) [] = refl
    drop-drop (suc m) (x ∷ xs) = drop-drop m xs

-- the first closing byte ends the document
pub first_close : (bytes : List ℕ) (k : ℕ) → k < length bytes → ((j : ℕ) → 0 ≤ j → j < k → (get_or bytes j 0 == 2) ≡ true → ⊥) → (get_or bytes k 0 == 2) ≡ true → k ≡ prefix_len is_inside bytes
first_close [] k lt before here = absurd (omega (arith, lt))
first_close (b ∷ bytes) zero lt before here = sym (ap (λ t. cond (not t) (1 + prefix_len is_inside bytes) 0) here)
first_close (b ∷ bytes) (suc k) lt before here =
    let other : (b == 2) ≡ false = false_from_ne_true (b == 2) (before 0 (omega arith) (omega arith)) in
    let rest : k ≡ prefix_len is_inside bytes = first_close bytes k (omega (arith, lt)) (λ j low high. before (suc j) (omega arith) (omega (arith, high))) here in
    omega (arith, rest, ap {B = ℕ} (λ t. cond (not t) (1 + prefix_len is_inside bytes) 0) other)

-- no closing byte: the document is all of them
pub no_close : (bytes : List ℕ) → ((j : ℕ) → 0 ≤ j → j < length bytes → (get_or bytes j 0 == 2) ≡ true → ⊥) → length bytes ≡ prefix_len is_inside bytes
no_close [] none = refl
no_close (b ∷ bytes) none =
    let other : (b == 2) ≡ false = false_from_ne_true (b == 2) (none 0 (omega arith) (omega arith)) in
    let rest : length bytes ≡ prefix_len is_inside bytes = no_close bytes (λ j low high. none (suc j) (omega arith) (omega (arith, high))) in
    omega (arith, rest, ap {B = ℕ} (λ t. cond (not t) (1 + prefix_len is_inside bytes) 0) other)

-- ---- there are no more documents than bytes, and none is longer than all

onto_size : (b : ℕ) (docs : List (List ℕ)) → length (onto_first b docs) ≤ length docs + 1
onto_size b [] = omega arith
onto_size b (doc ∷ docs) = omega arith

pub few_documents : (bytes : List ℕ) → length (documents bytes) ≤ length bytes
few_documents [] = omega arith
few_documents (b ∷ bytes) =
    elim (cases_eq b 2) [
      | inl is_two ↦ rw is_two (omega (arith, few_documents bytes))
      | inr ne ↦ rw (ne_eqb b 2 ne) (omega (arith, onto_size b (documents bytes), few_documents bytes))
    ]

abbrev total : List (List ℕ) → ℕ
total [] = 0
total (doc ∷ docs) = length doc + total docs

onto_total : (b : ℕ) (docs : List (List ℕ)) → total (onto_first b docs) ≡ total docs + 1
onto_total b [] = refl
onto_total b (doc ∷ docs) = omega arith

total-documents : (bytes : List ℕ) → total (documents bytes) ≤ length bytes
total-documents [] = omega arith
total-documents (b ∷ bytes) =
    elim (cases_eq b 2) [
      | inl is_two ↦ rw is_two (omega (arith, total-documents bytes))
      | inr ne ↦ rw (ne_eqb b 2 ne) (omega (arith, onto_total b (documents bytes), total-documents bytes))
    ]

pub short_document : (bytes doc : List ℕ) (front rest : List (List ℕ)) → documents bytes ≡ front ++ (doc ∷ rest) → length doc ≤ length bytes
short_document bytes doc front rest e = omega (arith, total-documents bytes, ap total e, within front)
  where
    within : (front : List (List ℕ)) → length doc ≤ total (front ++ (doc ∷ rest))
    within [] = omega arith
    within (d ∷ front) = omega (arith, within front)
