-- The first mark with which a limit is passed.
use Rattle.std.proofs.Common.{arith, ◌≡◌, ◌+◌, ◌≤◌, ◌<◌, ℕ, List, [], ◌∷◌, ◌++◌, length, refl, sym, ap, subst, ◌∙◌, ◌⊎◌, inl, inr, append-nil, append_assoc}
use Rattle.std.specs.Str.{bytes_eq}
use Rattle.std.proofs.lemmas.Bool.{cases_lt, cond_both}
use Rattle.mg_defs.specs.declared.Stream.{Stream}
use Rattle.mg_defs.specs.declared.Stream.TheVariants.{Words, Others}
use Rattle.mg_defs.specs.Limits.{Limits, limits}
use Rattle.mg_defs.specs.WithinLimits.{IsWithinLimits}
use Rattle.mg_defs.specs.Sorted.{sorted_distinct}
use Rattle.mg_defs.specs.Split.{documents}
use Rattle.mg_defs.specs.Vocabulary.{vocabulary, counted, sorted_pieces}
use Rattle.mg_defs.specs.Marks.{Mark, start, piece, stop, marks, pieces_among, starts, AreWithinLimits, PassesFirst}
use Rattle.mg_laws.proofs.MarkLaws.{starts_append, pieces_append, marks_have_documents, marks_have_pieces}
use Rattle.mg_defs.proofs.VocabularyLaws.{vocabulary-push, length-of_vocabulary}

-- ---- a front

counted_more : (p : List ℕ) (es : List (List ℕ × ℕ)) → length es ≤ length (counted p es)
counted_more p [] = omega arith
counted_more p (e ∷ es) =
    let more = counted_more p es in
    cond_both (bytes_eq p e.0) ((e.0, e.1 + 1) ∷ es) (e ∷ counted p es) (λ l. length (e ∷ es) ≤ length l) (λ _. omega arith) (λ _. omega (arith, more))

one_more : (xs : List (List ℕ)) (p : List ℕ) → length (sorted_distinct xs) ≤ length (sorted_distinct (xs ++ p ∷ []))
one_more xs p =
    omega (arith, length-of_vocabulary xs, length-of_vocabulary (xs ++ p ∷ []), ap (λ (l : List (List ℕ × ℕ)). length l) (vocabulary-push xs p), counted_more p (vocabulary xs))

pub distinct_front : (xs ys : List (List ℕ)) → length (sorted_distinct xs) ≤ length (sorted_distinct (xs ++ ys))
distinct_front xs [] = omega (arith, ap (λ l. length (sorted_distinct l)) (append-nil xs))
distinct_front xs (y ∷ ys) =
    omega (arith, one_more xs y, distinct_front (xs ++ y ∷ []) ys, ap (λ l. length (sorted_distinct l)) (append_assoc xs (y ∷ []) ys))

front_pieces : (kind : Stream) (a b : List Mark) → length (sorted_distinct (pieces_among kind a)) ≤ length (sorted_distinct (pieces_among kind (a ++ b)))
front_pieces kind a b = omega (arith, distinct_front (pieces_among kind a) (pieces_among kind b), ap (λ l. length (sorted_distinct l)) (pieces_append kind a b))

pub within_front : (most : Limits) (a b : List Mark) → AreWithinLimits most (a ++ b) → AreWithinLimits most a
within_front most a b h = record {
  documents = omega (arith, starts_append a b, h.documents);
  words = omega (arith, front_pieces Words a b, h.words);
  others = omega (arith, front_pieces Others a b, h.others);
}

-- ---- there is at most one

abbrev FrontOf : List Mark → Mark → List Mark → Type 0
FrontOf a x b = (more : List Mark) × (b ≡ (a ++ x ∷ []) ++ more)

which_first : (a b c d : List Mark) (x y : Mark) → a ++ x ∷ c ≡ b ++ y ∷ d → (x ≡ y) ⊎ FrontOf a x b ⊎ FrontOf b y a
which_first [] [] c d x y e = inl cc
which_first [] (m ∷ b) c d x y e = inr (inl (b, let same : m ≡ x = cc in ap (λ k. k ∷ b) same))
which_first (m ∷ a) [] c d x y e = inr (inr (a, let same : m ≡ y = cc in ap (λ k. k ∷ a) same))
which_first (m ∷ a) (n ∷ b) c d x y e =
    let rest : a ++ x ∷ c ≡ b ++ y ∷ d = cc in
    let same : m ≡ n = cc in
    elim (which_first a b c d x y rest) [
      | inl is ↦ inl is
      | inr (inl left) ↦ inr (inl (left.0, (λ i. sym same i ∷ left.1 i)))
      | inr (inr right) ↦ inr (inr (right.0, (λ i. same i ∷ right.1 i)))
    ]

pub one_first : (most : Limits) (collection : List ℕ) (x y : Mark) → PassesFirst most collection x → PassesFirst most collection y → x ≡ y
one_first most collection x y p q =
    elim (which_first p.before q.before p.after q.after x y (sym p.whole ∙ q.whole)) [
      | inl is ↦ is
      | inr (inl left) ↦ absurd (p.beyond (within_front most (p.before ++ x ∷ []) left.0 (subst (AreWithinLimits most) left.1 q.within)))
      | inr (inr right) ↦ absurd (q.beyond (within_front most (q.before ++ y ∷ []) right.0 (subst (AreWithinLimits most) right.1 p.within)))
    ]

-- the whole goes beyond it too
pub first_is_beyond : (most : Limits) (collection : List ℕ) (x : Mark) → PassesFirst most collection x → AreWithinLimits most (marks collection) → ⊥
first_is_beyond most collection x p h =
    p.beyond (within_front most (p.before ++ x ∷ []) p.after (subst (AreWithinLimits most) (p.whole ∙ sym (append_assoc p.before (x ∷ []) p.after)) h))

-- ---- and one where the whole goes beyond a limit

decide : (most : Limits) (met : List Mark) → AreWithinLimits most met ⊎ (AreWithinLimits most met → ⊥)
decide most met =
    elim (cases_lt most.documents (starts met)) [
      | inl past ↦ inr (λ h. omega (arith, past, h.documents))
      | inr docs ↦ elim (cases_lt most.pieces (length (sorted_distinct (pieces_among Words met)))) [
        | inl past ↦ inr (λ h. omega (arith, past, h.words))
        | inr words ↦ elim (cases_lt most.pieces (length (sorted_distinct (pieces_among Others met)))) [
          | inl past ↦ inr (λ h. omega (arith, past, h.others))
          | inr others ↦ inl (record { documents = docs; words = words; others = others })
        ]
      ]
    ]

first_from : (most : Limits) (collection : List ℕ) (before rest : List Mark) → marks collection ≡ before ++ rest → AreWithinLimits most before →
    (AreWithinLimits most (before ++ rest) → ⊥) → (mark : Mark) × PassesFirst most collection mark
first_from most collection before [] whole within beyond = absurd (beyond (subst (AreWithinLimits most) (sym (append-nil before)) within))
first_from most collection before (m ∷ rest) whole within beyond =
    elim (decide most (before ++ m ∷ [])) [
      | inl yet ↦
          let moved : before ++ m ∷ rest ≡ (before ++ m ∷ []) ++ rest = sym (append_assoc before (m ∷ []) rest) in
          first_from most collection (before ++ m ∷ []) rest (whole ∙ moved) yet (λ h. beyond (subst (AreWithinLimits most) (sym moved) h))
      | inr past ↦ (m, record { before = before; after = rest; whole = whole; within = within; beyond = past })
    ]

pub some_first : (most : Limits) (collection : List ℕ) → (AreWithinLimits most (marks collection) → ⊥) → (mark : Mark) × PassesFirst most collection mark
some_first most collection beyond = first_from most collection [] (marks collection) refl (record { documents = omega arith; words = omega arith; others = omega arith }) beyond

-- ---- which limit it passes

kept : (most : Limits) (before : List Mark) (mark : Mark) → AreWithinLimits most before → starts (before ++ mark ∷ []) ≤ most.documents →
    pieces_among Words (mark ∷ []) ≡ [] → pieces_among Others (mark ∷ []) ≡ [] → AreWithinLimits most (before ++ mark ∷ [])
kept most before mark within docs words others = record {
  documents = docs;
  words = omega (
    arith,
    within.words,
    ap (λ l. length (sorted_distinct l)) (pieces_append Words before (mark ∷ [])
        ∙ ap (λ l. pieces_among Words before ++ l) words ∙ append-nil (pieces_among Words before)),
  );
  others = omega (
    arith,
    within.others,
    ap (λ l. length (sorted_distinct l)) (pieces_append Others before (mark ∷ [])
        ∙ ap (λ l. pieces_among Others before ++ l) others ∙ append-nil (pieces_among Others before)),
  );
}

-- the end of a document passes none
pub never_stop : (most : Limits) (collection : List ℕ) → PassesFirst most collection stop → ⊥
never_stop most collection p = p.beyond (kept most p.before stop p.within (omega (arith, starts_append p.before (stop ∷ []), p.within.documents)) refl refl)

whole_starts : (collection : List ℕ) (a b : List Mark) (x : Mark) → marks collection ≡ a ++ x ∷ b → starts (a ++ x ∷ []) ≤ length (documents collection)
whole_starts collection a b x e =
    omega (arith, marks_have_documents collection, ap starts (e ∙ sym (append_assoc a (x ∷ []) b)), starts_append (a ++ x ∷ []) b)

whole_pieces : (kind : Stream) (collection : List ℕ) (a b : List Mark) (x : Mark) → marks collection ≡ a ++ x ∷ b →
    length (sorted_distinct (pieces_among kind (a ++ x ∷ []))) ≤ length (sorted_pieces kind collection)
whole_pieces kind collection a b x e =
    omega (
      arith,
      front_pieces kind (a ++ x ∷ []) b,
      ap (λ l. length (sorted_distinct (pieces_among kind l))) (sym (e ∙ sym (append_assoc a (x ∷ []) b))),
      ap (λ l. length (sorted_distinct l)) (marks_have_pieces kind collection),
    )

-- the start of a document passes the limit of documents
pub start_passes : (most : Limits) (collection : List ℕ) → PassesFirst most collection start → most.documents < length (documents collection)
start_passes most collection p =
    elim (cases_lt most.documents (starts (p.before ++ start ∷ []))) [
      | inl past ↦ omega (arith, past, whole_starts collection p.before p.after start p.whole)
      | inr le ↦ absurd (p.beyond (kept most p.before start p.within le refl refl))
    ]

same_starts : (most : Limits) (before : List Mark) (kind : Stream) (x : List ℕ) → AreWithinLimits most before → starts (before ++ piece kind x ∷ []) ≤ most.documents
same_starts most before kind x h = omega (arith, starts_append before (piece kind x ∷ []), h.documents)

same_pieces : (a b : Stream) (before : List Mark) (x : List ℕ) → pieces_among a (piece b x ∷ []) ≡ [] →
    length (sorted_distinct (pieces_among a (before ++ piece b x ∷ []))) ≡ length (sorted_distinct (pieces_among a before))
same_pieces a b before x none = ap (λ l. length (sorted_distinct l)) (pieces_append a before (piece b x ∷ []) ∙ ap (λ l. pieces_among a before ++ l) none ∙ append-nil (pieces_among a before))

-- a piece passes the limit of its stream
pub piece_passes : (most : Limits) (collection : List ℕ) (kind : Stream) (x : List ℕ) → PassesFirst most collection (piece kind x) → most.pieces < length (sorted_pieces kind collection)
piece_passes most collection Words x p =
    elim (cases_lt most.pieces (length (sorted_distinct (pieces_among Words (p.before ++ piece Words x ∷ []))))) [
      | inl past ↦ omega (arith, past, whole_pieces Words collection p.before p.after (piece Words x) p.whole)
      | inr le ↦ absurd (p.beyond (record { documents = same_starts most p.before Words x p.within; words = le; others = omega (arith, p.within.others, same_pieces Others Words p.before x refl) }))
    ]
piece_passes most collection Others x p =
    elim (cases_lt most.pieces (length (sorted_distinct (pieces_among Others (p.before ++ piece Others x ∷ []))))) [
      | inl past ↦ omega (arith, past, whole_pieces Others collection p.before p.after (piece Others x) p.whole)
      | inr le ↦ absurd (p.beyond (record { documents = same_starts most p.before Others x p.within; words = omega (arith, p.within.words, same_pieces Words Others p.before x refl); others = le }))
    ]

-- ---- all marks are within the limits exactly where the collection is

distinct_of : (kind : Stream) (collection : List ℕ) → length (sorted_distinct (pieces_among kind (marks collection))) ≡ length (sorted_pieces kind collection)
distinct_of kind collection = ap (λ l. length (sorted_distinct l)) (marks_have_pieces kind collection)

pub within_from : (version : ℕ) (collection : List ℕ) → IsWithinLimits version collection → AreWithinLimits (limits version) (marks collection)
within_from version collection h = record {
  documents = subst (λ n. n ≤ (limits version).documents) (sym (marks_have_documents collection)) h.documents;
  words = subst (λ n. n ≤ (limits version).pieces) (sym (distinct_of Words collection)) h.words;
  others = subst (λ n. n ≤ (limits version).pieces) (sym (distinct_of Others collection)) h.others;
}

pub within_to : (version : ℕ) (collection : List ℕ) → length collection ≤ (limits version).collection → AreWithinLimits (limits version) (marks collection) → IsWithinLimits version collection
within_to version collection small h = record {
  bytes = small;
  documents = subst (λ n. n ≤ (limits version).documents) (marks_have_documents collection) h.documents;
  words = subst (λ n. n ≤ (limits version).pieces) (distinct_of Words collection) h.words;
  others = subst (λ n. n ≤ (limits version).pieces) (distinct_of Others collection) h.others;
}
