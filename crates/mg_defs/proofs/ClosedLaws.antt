-- Laws of the closed documents and what follows them.
use Rattle.std.proofs.Common.{◌≡◌, ◌≢◌, ℕ, suc, ◌<◌, ◌↔◌, Bool, true, false, cond, ◌==◌, List, [], ◌∷◌, ◌++◌, length, get_or, refl, sym, ◌∙◌, ap, arith, inl, inr, one-add, zero-add}
use Rattle.std.specs.List.{onto_first}
use Rattle.std.proofs.lemmas.Bool.{cases_Bool, ne_eqb}
use Rattle.std.proofs.lemmas.List.Sums.{sum_by-cons}
use Rattle.std.proofs.Math.Seq.{take-append_seam}
use Rattle.mg_defs.specs.Split.{documents, has_open_end, closed_count, closed_documents, open_part}

-- the closed documents, and the bytes after them
record Parts : Type 0 where
  closed : List (List ℕ)
  open_bytes : List ℕ

abbrev onto : ℕ → List (List ℕ) → List ℕ → Parts
onto b [] o = record { closed = []; open_bytes = b ∷ o }
onto b (doc ∷ docs) o = record { closed = (b ∷ doc) ∷ docs; open_bytes = o }

abbrev parts : List ℕ → Parts
parts [] = record { closed = []; open_bytes = [] }
parts (b ∷ bytes) = cond (b == 2) (record { closed = [] ∷ (parts bytes).closed; open_bytes = (parts bytes).open_bytes }) (onto b (parts bytes).closed (parts bytes).open_bytes)

abbrev and_open : List ℕ → List (List ℕ)
and_open [] = []
and_open (b ∷ o) = (b ∷ o) ∷ []

abbrev is_open : List ℕ → Bool
is_open [] = false
is_open (b ∷ o) = true

onto-documents : (b : ℕ) (docs : List (List ℕ)) (o : List ℕ) → onto_first b (docs ++ and_open o) ≡ (onto b docs o).closed ++ and_open (onto b docs o).open_bytes
onto-documents b [] [] = refl
onto-documents b [] (c ∷ o) = refl
onto-documents b (doc ∷ docs) o = refl

documents-parts : (bytes : List ℕ) → documents bytes ≡ (parts bytes).closed ++ and_open (parts bytes).open_bytes
documents-parts [] = refl
documents-parts (b ∷ bytes) =
    elim (cases_Bool (b == 2)) [
      | inl is ↦ rw is (ap (λ (x : List (List ℕ)). [] ∷ x) (documents-parts bytes))
      | inr isnt ↦ rw isnt (ap (onto_first b) (documents-parts bytes) ∙ onto-documents b (parts bytes).closed (parts bytes).open_bytes)
    ]

onto-count : (b : ℕ) (docs : List (List ℕ)) (o : List ℕ) → length (onto b docs o).closed ≡ length docs
onto-count b [] o = refl
onto-count b (doc ∷ docs) o = refl

count-parts : (bytes : List ℕ) → closed_count bytes ≡ length (parts bytes).closed
count-parts [] = refl
count-parts (b ∷ bytes) =
    let sum = sum_by-cons (λ x. cond (x == 2) 1 0) b bytes in
    elim (cases_Bool (b == 2)) [
      | inl is ↦ sum ∙ rw (is, one-add) (ap suc (count-parts bytes))
      | inr isnt ↦ sum ∙ rw (isnt, zero-add) (count-parts bytes ∙ sym (onto-count b (parts bytes).closed (parts bytes).open_bytes))
    ]

pub closed-is : (bytes : List ℕ) → closed_documents bytes ≡ (parts bytes).closed
closed-is bytes = rw (documents-parts bytes, count-parts bytes) (take-append_seam (parts bytes).closed (and_open (parts bytes).open_bytes))

first-open : (o : List ℕ) → get_or (and_open o) 0 [] ≡ o
first-open [] = refl
first-open (b ∷ o) = refl

past : (docs rest : List (List ℕ)) → get_or (docs ++ rest) (length docs) [] ≡ get_or rest 0 []
past [] rest = refl
past (doc ∷ docs) rest = past docs rest

pub open-is : (bytes : List ℕ) → open_part bytes ≡ (parts bytes).open_bytes
open-is bytes = rw (documents-parts bytes, count-parts bytes) (past (parts bytes).closed (and_open (parts bytes).open_bytes) ∙ first-open (parts bytes).open_bytes)

-- ---- a byte more

parts-close : (bytes : List ℕ) → parts (bytes ++ 2 ∷ []) ≡ record { closed = (parts bytes).closed ++ (parts bytes).open_bytes ∷ []; open_bytes = [] }
parts-close [] = refl
parts-close (b ∷ bytes) =
    elim (cases_Bool (b == 2)) [
      | inl is ↦ rw (is, parts-close bytes) refl
      | inr isnt ↦ rw (isnt, parts-close bytes) (onto-close b (parts bytes).closed (parts bytes).open_bytes)
    ]
  where
    onto-close : (b : ℕ) (docs : List (List ℕ)) (o : List ℕ) → onto b (docs ++ o ∷ []) [] ≡ record { closed = (onto b docs o).closed ++ (onto b docs o).open_bytes ∷ []; open_bytes = [] }
    onto-close b [] o = refl
    onto-close b (doc ∷ docs) o = refl

onto-push : (c b : ℕ) (docs : List (List ℕ)) (o : List ℕ) → onto c docs (o ++ b ∷ []) ≡ record { closed = (onto c docs o).closed; open_bytes = (onto c docs o).open_bytes ++ b ∷ [] }
onto-push c b [] o = refl
onto-push c b (doc ∷ docs) o = refl

parts-byte : (bytes : List ℕ) (b : ℕ) → b ≢ 2 → parts (bytes ++ b ∷ []) ≡ record { closed = (parts bytes).closed; open_bytes = (parts bytes).open_bytes ++ b ∷ [] }
parts-byte [] b ne = rw (ne_eqb b 2 ne) refl
parts-byte (c ∷ bytes) b ne =
    elim (cases_Bool (c == 2)) [
      | inl is ↦ rw (is, parts-byte bytes b ne) refl
      | inr isnt ↦ rw (isnt, parts-byte bytes b ne) (onto-push c b (parts bytes).closed (parts bytes).open_bytes)
    ]

pub closed-close : (bytes : List ℕ) → closed_documents (bytes ++ 2 ∷ []) ≡ closed_documents bytes ++ open_part bytes ∷ []
closed-close bytes = closed-is (bytes ++ 2 ∷ []) ∙ (ap (λ (p : Parts). p.closed) (parts-close bytes) ∙ rw (closed-is bytes, open-is bytes) refl)

pub open-close : (bytes : List ℕ) → open_part (bytes ++ 2 ∷ []) ≡ []
open-close bytes = open-is (bytes ++ 2 ∷ []) ∙ ap (λ (p : Parts). p.open_bytes) (parts-close bytes)

pub closed-byte : (bytes : List ℕ) (b : ℕ) → b ≢ 2 → closed_documents (bytes ++ b ∷ []) ≡ closed_documents bytes
closed-byte bytes b ne = closed-is (bytes ++ b ∷ []) ∙ (ap (λ (p : Parts). p.closed) (parts-byte bytes b ne) ∙ sym (closed-is bytes))

pub open-byte : (bytes : List ℕ) (b : ℕ) → b ≢ 2 → open_part (bytes ++ b ∷ []) ≡ open_part bytes ++ b ∷ []
open-byte bytes b ne = open-is (bytes ++ b ∷ []) ∙ (ap (λ (p : Parts). p.open_bytes) (parts-byte bytes b ne) ∙ rw (open-is bytes) refl)

-- ---- the whole

onto-some : (c : ℕ) (docs : List (List ℕ)) (o : List ℕ) → (onto c docs o).closed ≡ [] → is_open (onto c docs o).open_bytes ≡ true
onto-some c [] o h = refl
onto-some c (doc ∷ docs) o h = absurd cc

parts-some : (c : ℕ) (bytes : List ℕ) → (parts (c ∷ bytes)).closed ≡ [] → is_open (parts (c ∷ bytes)).open_bytes ≡ true
parts-some c bytes =
    elim (cases_Bool (c == 2)) [
      | inl is ↦ rw is (λ h. absurd cc)
      | inr isnt ↦ rw isnt (onto-some c (parts bytes).closed (parts bytes).open_bytes)
    ]

onto-keeps : (b : ℕ) (docs : List (List ℕ)) (o : List ℕ) → (docs ≡ [] → is_open o ≡ true) → is_open o ≡ is_open (onto b docs o).open_bytes
onto-keeps b [] o h = h refl
onto-keeps b (doc ∷ docs) o h = refl

end-parts : (bytes : List ℕ) → has_open_end bytes ≡ is_open (parts bytes).open_bytes
end-parts [] = refl
end-parts (b ∷ []) = elim (cases_Bool (b == 2)) [ inl is ↦ rw is refl | inr isnt ↦ rw isnt refl ]
end-parts (b ∷ c ∷ bytes) =
    elim (cases_Bool (b == 2)) [
      | inl is ↦ rw is (end-parts (c ∷ bytes))
      | inr isnt ↦ rw isnt (end-parts (c ∷ bytes) ∙ onto-keeps b (parts (c ∷ bytes)).closed (parts (c ∷ bytes)).open_bytes (parts-some c bytes))
    ]

one-open : (docs : List (List ℕ)) (o : List ℕ) → docs ++ and_open o ≡ docs ++ cond (is_open o) (o ∷ []) []
one-open docs [] = refl
one-open docs (b ∷ o) = refl

pub documents-are : (bytes : List ℕ) → documents bytes ≡ closed_documents bytes ++ cond (has_open_end bytes) (open_part bytes ∷ []) []
documents-are bytes = documents-parts bytes ∙ (one-open (parts bytes).closed (parts bytes).open_bytes ∙ sym (rw (closed-is bytes, open-is bytes, end-parts bytes) refl))

open-long : (o : List ℕ) → (is_open o ≡ true) ↔ (0 < length o)
open-long [] = (λ h. absurd cc, λ h. elim h [ ])
open-long (b ∷ o) = (λ h. omega arith, λ h. refl)

pub end-is : (bytes : List ℕ) → (has_open_end bytes ≡ true) ↔ (0 < length (open_part bytes))
end-is bytes = rw (end-parts bytes, open-is bytes) (open-long (parts bytes).open_bytes)

pub closed-long : (bytes : List ℕ) → length (closed_documents bytes) ≡ closed_count bytes
closed-long bytes = ap length (closed-is bytes) ∙ sym (count-parts bytes)
