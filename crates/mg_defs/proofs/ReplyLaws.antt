-- Laws of an answer that is found document by document.
use Rattle.std.proofs.Common.{◌≡◌, ℕ, zero, suc, ◌+◌, ◌-◌, true, false, inl, inr, List, [], ◌∷◌, ◌++◌, length, take, get_or, Some, None, refl, sym, ◌∙◌, ap, arith, append_assoc, append-nil, length-append}
use Rattle.std.specs.Prelude.{flat_map}
use Rattle.std.specs.declared.option.Option.{Option}
use Rattle.std.proofs.Math.Seq.{take-append-add}
use Rattle.std.proofs.lemmas.Bool.{cases_Bool, cases_lt, cond-true, cond-false, ltb-true, ltb-false}
use Rattle.std.proofs.lemmas.List.{take_all, take-append-le}
use Rattle.mg_defs.specs.Split.{documents}
use Rattle.mg_defs.specs.Terms.{document}
use Rattle.mg_defs.specs.Sat.{Query, satisfies}
use Rattle.mg_defs.specs.Weights.{limited_to}
use Rattle.mg_defs.specs.ShownAnswers.{Shown, plain, found, shown, shown_as, answer_text}
use Rattle.mg_defs.specs.Replies.{shows, hit_text}
use Rattle.mg_defs.specs.Texts.{count}
use Rattle.mg_defs.specs.declared.session.Settings.{Settings}
use Rattle.mg_defs.proofs.TermLaws.{document_behind}

pub found-hit : (q : Query) (n : ℕ) (doc : List ℕ) (docs : List (List ℕ)) → satisfies q doc ≡ true → found q n (doc ∷ docs) ≡ plain n ∷ found q (n + 1) docs
unfolding found
found-hit q n doc docs h = rw h

pub found-miss : (q : Query) (n : ℕ) (doc : List ℕ) (docs : List (List ℕ)) → satisfies q doc ≡ false → found q n (doc ∷ docs) ≡ found q (n + 1) docs
unfolding found
found-miss q n doc docs h = rw h

pub first-more : {X : Type 0} (most : Option ℕ) (xs : List X) (x : X) → shows most (length xs) ≡ true → limited_to most (xs ++ x ∷ []) ≡ limited_to most xs ++ x ∷ []
first-more None xs x h = refl
first-more (Some k) xs x h =
    let lt = ltb-true (length xs) k h in
    take_all k (xs ++ x ∷ []) (omega (arith, length-append xs (x ∷ []), lt)) ∙ sym (ap (λ ys. ys ++ x ∷ []) (take_all k xs (omega (arith, lt))))

pub first-full : {X : Type 0} (most : Option ℕ) (xs : List X) (x : X) → shows most (length xs) ≡ false → limited_to most (xs ++ x ∷ []) ≡ limited_to most xs
first-full None xs x h = cc
first-full (Some k) xs x h = take-append-le k xs (x ∷ []) (ltb-false (length xs) k h)

flat_map-push : {X : Type 0} (f : X → List ℕ) (xs : List X) (x : X) → flat_map f (xs ++ x ∷ []) ≡ flat_map f xs ++ f x
flat_map-push f [] x = simp append-nil
flat_map-push f (y ∷ xs) x = ap (λ t. f y ++ t) (flat_map-push f xs x) ∙ sym (append_assoc (f y) (flat_map f xs) (f x))

pub shown-more : (f : Shown → List ℕ) (most : Option ℕ) (xs : List Shown) (x : Shown) → shows most (length xs) ≡ true →
    flat_map f (limited_to most (xs ++ x ∷ [])) ≡ flat_map f (limited_to most xs) ++ f x
shown-more f most xs x h = ap (flat_map f) (first-more most xs x h) ∙ flat_map-push f (limited_to most xs) x

pub shown-full : (f : Shown → List ℕ) (most : Option ℕ) (xs : List Shown) (x : Shown) → shows most (length xs) ≡ false → flat_map f (limited_to most (xs ++ x ∷ [])) ≡ flat_map f (limited_to most xs)
shown-full f most xs x h = ap (flat_map f) (first-full most xs x h)

-- the document after those in front
pub document_at : (collection doc : List ℕ) (front rest : List (List ℕ)) (number : ℕ) → documents collection ≡ front ++ (doc ∷ rest) → number ≡ length front + 1 → document collection number ≡ doc
document_at collection doc front rest number e n =
    ap (document collection) n ∙ document_behind collection (length front) ∙ ap (λ ds. get_or ds (length front) []) e ∙ at front
  where
    at : (front : List (List ℕ)) → get_or (front ++ (doc ∷ rest)) (length front) [] ≡ doc
    at [] = refl
    at (d ∷ front) = at front

-- ---- the documents of an answer, shown one after another

pub none_first : (most : Option ℕ) → limited_to {X = Shown} most [] ≡ []
none_first None = refl
none_first (Some zero) = refl
none_first (Some (suc k)) = refl

-- what is printed for one more
pub hit_adds : (collection : List ℕ) (now : Settings) (doc : List ℕ) (so_far : List Shown) (hit : Shown) (total : ℕ) → document collection hit.number ≡ doc →
    length so_far ≡ total → flat_map (shown collection now.mode) (limited_to now.most (so_far ++ hit ∷ []))
    ≡ flat_map (shown collection now.mode) (limited_to now.most so_far) ++ hit_text doc now.mode now.most total hit
unfolding hit_text
hit_adds collection now doc so_far hit total is_doc size =
    elim (cases_Bool (shows now.most total)) [
      | inl shown_too ↦
          shown-more (shown collection now.mode) now.most so_far hit (ap (shows now.most) size ∙ shown_too)
          ∙ ap (λ d. flat_map (shown collection now.mode) (limited_to now.most so_far) ++ shown_as d now.mode hit) is_doc
          ∙ ap (λ t. flat_map (shown collection now.mode) (limited_to now.most so_far) ++ t) (sym (cond-true (shows now.most total) (shown_as doc now.mode hit) [] shown_too))
      | inr full ↦
          shown-full (shown collection now.mode) now.most so_far hit (ap (shows now.most) size ∙ full)
          ∙ sym (append-nil (flat_map (shown collection now.mode) (limited_to now.most so_far)))
          ∙ ap (λ t. flat_map (shown collection now.mode) (limited_to now.most so_far) ++ t) (sym (cond-false (shows now.most total) (shown_as doc now.mode hit) [] full))
    ]

pub first-front : (most : Option ℕ) (xs ys : List Shown) → (zs : List Shown) × (limited_to most (xs ++ ys) ≡ limited_to most xs ++ zs)
first-front None xs ys = (ys, refl)
first-front (Some k) xs ys =
    elim (cases_lt k (length xs)) [
      | inl lt ↦ ([], take-append-le k xs ys (omega (arith, lt)) ∙ sym (append-nil (take k xs)))
      | inr ge ↦
          let n = k - length xs in
          let e : k ≡ length xs + n = omega (arith, ge) in
          (take n ys, ap (λ j. take j (xs ++ ys)) e ∙ take-append-add xs ys n ∙ ap (λ t. t ++ take n ys) (sym (take_all k xs ge)))
    ]

flat_map-append : (f : Shown → List ℕ) (xs ys : List Shown) → flat_map f (xs ++ ys) ≡ flat_map f xs ++ flat_map f ys
flat_map-append f [] ys = refl
flat_map-append f (x ∷ xs) ys = ap (λ t. f x ++ t) (flat_map-append f xs ys) ∙ sym (append_assoc (f x) (flat_map f xs) (flat_map f ys))

-- what was printed for the first of them begins the reply
pub reply-front : (collection : List ℕ) (now : Settings) (xs ys : List Shown) → (more : List ℕ)
    × (answer_text collection now (xs ++ ys) ≡ flat_map (shown collection now.mode) (limited_to now.most xs) ++ more)
unfolding answer_text
reply-front collection now xs ys =
    let f = first-front now.most xs ys in
    let g = shown collection now.mode in (
      flat_map g f.0 ++ count (length (xs ++ ys)),
      ap (λ zs. flat_map g zs ++ count (length (xs ++ ys))) f.1 ∙ ap (λ t. t ++ count (length (xs ++ ys))) (flat_map-append g (limited_to now.most xs) f.0)
          ∙ append_assoc (flat_map g (limited_to now.most xs)) (flat_map g f.0) (count (length (xs ++ ys))),
    )
