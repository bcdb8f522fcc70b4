-- Bits of words as a set of documents.
use Rattle.std.proofs.Common.{arith, ◌≡◌, ℕ, zero, suc, ◌+◌, ◌-◌, ◌*◌, ◌/◌, ◌%◌, ◌^◌, ◌<◌, ◌≤◌, ◌==◌, true, false, eqb}
use Rattle.std.proofs.Common.{List, [], ◌∷◌, ◌++◌, length, get_or, set, replicate, Some, None, inl, inr, refl, sym, ◌∙◌, ap, subst, w64, eq-eqb, ne_eqb, length-set, get_or-set_same, get_or-set_other}
use Rattle.std.specs.Prelude.{◌||◌, bit_and, bit_or}
use Rattle.std.specs.Int.{bit_at, trailing_zeros}
use Rattle.std.specs.declared.option.Option.{Option}
use Rattle.std.proofs.lemmas.Bool.{cases_eq, cases_lt, cond-true, cond-false, true≢false}
use Rattle.std.proofs.lemmas.List.{get_or-replicate, get_or_past, length-replicate}
use Rattle.std.proofs.lemmas.Nat.{shr-shr, shr_le}
use Rattle.std.proofs.lemmas.Nat.Bits.{bit_at-zero, bit_at_above, bit_at_set_same, bit_at_set_other, bit_at-trailing_zeros, shr_and_one}
use Rattle.mg_session.specs.DocumentSets.{AnswersNext, AreMarksOf, DocumentMarks, IsNextBehind, has_doc, is_marked, marked_to}

-- ---- a document that is added

pub marked_more : (words : List ℕ) (doc word other : ℕ) → 1 ≤ doc → (doc - 1) / 64 < length words → word ≡ get_or words ((doc - 1) / 64) 0 → 1 ≤ other →
    is_marked (set words ((doc - 1) / 64) (bit_or word (1 * 2 ^ ((doc - 1) % 64) % 2 ^ 64))) other ≡ (other == doc || is_marked words other)
unfolding is_marked
marked_more words doc word other some within read there =
    let v : ℕ = bit_or word (1 * 2 ^ ((doc - 1) % 64) % 2 ^ 64) in
    let low : (doc - 1) % 64 < 64 = omega arith in
    elim (cases_eq other doc) [
      | inl same ↦
          ap (λ n. is_marked (set words ((doc - 1) / 64) v) n) same
          ∙ ap (λ x. eqb (bit_at x ((doc - 1) % 64)) 1) (get_or-set_same words ((doc - 1) / 64) v 0 within)
          ∙ eq-eqb _ 1 (bit_at_set_same w64 word ((doc - 1) % 64) low)
          ∙ ap (λ b. b || is_marked words other) (sym (eq-eqb other doc same))
      | inr apart ↦
          (elim (cases_eq ((other - 1) / 64) ((doc - 1) / 64)) as (λ _. is_marked (set words ((doc - 1) / 64) v) other ≡ is_marked words other) [
            | inl row ↦
                ap (λ x. eqb (bit_at (get_or (set words ((doc - 1) / 64) v) x 0) ((other - 1) % 64)) 1) row
                ∙ ap (λ x. eqb (bit_at x ((other - 1) % 64)) 1) (get_or-set_same words ((doc - 1) / 64) v 0 within)
                ∙ ap (λ x. eqb x 1) (bit_at_set_other w64 word ((doc - 1) % 64) low ((other - 1) % 64) (λ e. apart (omega (arith, e, row, some, there))))
                ∙ ap (λ x. eqb (bit_at x ((other - 1) % 64)) 1) (read ∙ ap (λ x. get_or words x 0) (sym row))
            | inr away ↦ ap (λ x. eqb (bit_at x ((other - 1) % 64)) 1) (get_or-set_other words ((doc - 1) / 64) ((other - 1) / 64) v 0 away)
          ])
          ∙ ap (λ b. b || is_marked words other) (sym (ne_eqb other doc apart))
    ]

pub marks_more : (all : ℕ) (words : List ℕ) (doc word : ℕ) → AreMarksOf all words → 1 ≤ doc → doc ≤ all → word ≡ get_or words ((doc - 1) / 64) 0 →
    AreMarksOf all (set words ((doc - 1) / 64) (bit_or word (1 * 2 ^ ((doc - 1) % 64) % 2 ^ 64)))
marks_more all words doc word are some within read = record {
  small = are.small;
  room = length-set words ((doc - 1) / 64) _ ∙ are.room;
  beyond = λ other far.
      marked_more words doc word other some (omega (arith, are.room, some, within)) read (omega (arith, far))
      ∙ ap (λ b. b || is_marked words other) (ne_eqb other doc (λ e. omega (arith, e, far, within)))
      ∙ are.beyond other far;
}

-- the test of its bit
pub marked_test : (words : List ℕ) (doc word : ℕ) → word ≡ get_or words ((doc - 1) / 64) 0 → eqb (bit_and (word / 2 ^ ((doc - 1) % 64)) 1) 1 ≡ is_marked words doc
unfolding is_marked
marked_test words doc word read = ap (λ x. eqb x 1) (shr_and_one word ((doc - 1) % 64)) ∙ ap (λ x. eqb (bit_at x ((doc - 1) % 64)) 1) read

-- ---- no documents

pub none_marked : (words : List ℕ) (n doc : ℕ) → words ≡ replicate n 0 → is_marked words doc ≡ false
unfolding is_marked
none_marked words n doc is =
    let zeros : List ℕ = replicate n 0 in
    let word : get_or zeros ((doc - 1) / 64) 0 ≡ 0 = elim (cases_lt ((doc - 1) / 64) n) [
      | inl within ↦ get_or-replicate n ((doc - 1) / 64) 0 0 within
      | inr past ↦ get_or_past zeros ((doc - 1) / 64) 0 (omega (arith, past, length-replicate {A = ℕ} n 0))
    ] in
    ap (λ ws. eqb (bit_at (get_or ws ((doc - 1) / 64) 0) ((doc - 1) % 64)) 1) is
    ∙ ap (λ x. eqb (bit_at x ((doc - 1) % 64)) 1) word
    ∙ ap (λ x. eqb x 1) (bit_at-zero ((doc - 1) % 64))

pub no_marks : (all : ℕ) (words : List ℕ) (n : ℕ) → all < 2 ^ 32 → words ≡ replicate n 0 → n ≡ (all + 63) / 64 → AreMarksOf all words
no_marks all words n small is size = record {
  small = small;
  room = ap length is ∙ length-replicate {A = ℕ} n 0 ∙ size;
  beyond = λ doc far. none_marked words n doc is;
}

-- ---- the first document behind a number

-- a document by its word and its bit
marked_at : (words : List ℕ) (index bit doc : ℕ) → bit < 64 → doc ≡ 64 * index + bit + 1 → is_marked words doc ≡ eqb (bit_at (get_or words index 0) bit) 1
unfolding is_marked
marked_at words index bit doc low is =
    let word : (doc - 1) / 64 ≡ index = omega (arith, is, low) in
    let place : (doc - 1) % 64 ≡ bit = omega (arith, is, low) in
    ap (λ k. eqb (bit_at (get_or words k 0) ((doc - 1) % 64)) 1) word ∙ ap (λ k. eqb (bit_at (get_or words index 0) k) 1) place

-- a bit of a word without its low bits
shifted : (word low bit : ℕ) → bit_at (word / 2 ^ low) bit ≡ bit_at word (low + bit)
shifted word low bit = ap (λ n. n % 2) (shr-shr word low bit)

pub word_beyond : (words : List ℕ) (last : ℕ) → length words ≤ last / 64 → (other : ℕ) → last < other → is_marked words other ≡ false
word_beyond words last past other far =
    marked_at words ((other - 1) / 64) ((other - 1) % 64) other (omega arith) (omega (arith, far))
    ∙ ap (λ x. eqb (bit_at x ((other - 1) % 64)) 1) (get_or_past words ((other - 1) / 64) 0 (omega (arith, past, far)))
    ∙ ap (λ x. eqb x 1) (bit_at-zero ((other - 1) % 64))

-- a word has no document from a place on
pub none_in_word : (words : List ℕ) (index low word : ℕ) → word ≡ get_or words index 0 → word / 2 ^ low ≡ 0 → low < 64 → (other : ℕ) →
    64 * index + low < other → other ≤ 64 * (index + 1) → is_marked words other ≡ false
none_in_word words index low word read none small other far near =
    let bit : ℕ = other - (64 * index + low + 1) in
    marked_at words index (low + bit) other (omega (arith, far, near)) (omega (arith, far))
    ∙ ap (λ x. eqb (bit_at x (low + bit)) 1) (sym read)
    ∙ ap (λ x. eqb x 1) (sym (shifted word low bit) ∙ ap (λ x. bit_at x bit) none ∙ bit_at-zero bit)

record IsLowest (words : List ℕ) (from doc : ℕ) : Type 0 where
  there : is_marked words doc ≡ true
  first : (other : ℕ) → from < other → other < doc → is_marked words other ≡ false

-- the first document of a word from a place on
lowest : (words : List ℕ) (index low word doc : ℕ) → word ≡ get_or words index 0 → word < 2 ^ 64 → low < 64 → 0 < word / 2 ^ low → word / 2 ^ low < 2 ^ 64 →
    doc ≡ 64 * index + low + trailing_zeros w64 (word / 2 ^ low) + 1 → IsLowest words (64 * index + low) doc
lowest words index low word doc read fits small some rest_fits is =
    let rest : ℕ = word / 2 ^ low in
    let zeros : ℕ = trailing_zeros w64 rest in
    let least = bit_at-trailing_zeros w64 rest some rest_fits in
    let set_in : bit_at word (low + zeros) ≡ 1 = sym (shifted word low zeros) ∙ least.1 in
    let inside : low + zeros < 64 = elim (cases_lt (low + zeros) 64) [
      | inl within ↦ within
      | inr past ↦ absurd (omega (arith, set_in, bit_at_above word 64 (low + zeros) fits past))
    ] in
    record {
      there = marked_at words index (low + zeros) doc inside (omega (arith, is)) ∙ ap (λ x. eqb (bit_at x (low + zeros)) 1) (sym read) ∙ eq-eqb _ 1 set_in;
      first = λ other far near.
          let bit : ℕ = other - (64 * index + low + 1) in
          marked_at words index (low + bit) other (omega (arith, far, near, is, inside)) (omega (arith, far))
          ∙ ap (λ x. eqb (bit_at x (low + bit)) 1) (sym read)
          ∙ ap (λ x. eqb x 1) (sym (shifted word low bit) ∙ least.2 bit (omega (arith, far, near, is)));
    }

pub next_in_word : (all : ℕ) (words : List ℕ) (index low word doc : ℕ) → AreMarksOf all words → word ≡ get_or words index 0 → word < 2 ^ 64 → low < 64 →
    0 < word / 2 ^ low → word / 2 ^ low < 2 ^ 64 → doc ≡ 64 * index + low + trailing_zeros w64 (word / 2 ^ low) + 1 →
    IsNextBehind (64 * index + low) (record { all = all; words = words }) doc
next_in_word all words index low word doc are read fits small some rest_fits is =
    let l = lowest words index low word doc read fits small some rest_fits is in
    record {
      behind = omega (arith, is);
      within = elim (cases_lt all doc) [ inl far ↦ absurd (true≢false (sym l.there ∙ are.beyond doc far)) | inr near ↦ near ];
      there = l.there;
      first = l.first;
    }

-- none stands before a later number
pub next_later : (last later : ℕ) (marks : DocumentMarks) (found : Option ℕ) → last ≤ later →
    ((other : ℕ) → last < other → other ≤ later → has_doc marks other ≡ false) → AnswersNext later marks found → AnswersNext last marks found
next_later last later marks (Some doc) le none next = record {
  behind = omega (arith, le, next.behind);
  within = next.within;
  there = next.there;
  first = λ other far near. elim (cases_lt later other) [ inl behind ↦ next.first other behind near | inr before ↦ none other far before ];
}
next_later last later marks None le none next = λ other far. elim (cases_lt later other) [ inl behind ↦ next other behind | inr before ↦ none other far before ]

-- the first document from the first bit of a word on, where none stands before
pub first_in_word : (all : ℕ) (words : List ℕ) (start index word doc : ℕ) → AreMarksOf all words → word ≡ get_or words index 0 → word < 2 ^ 64 → 0 < word →
    start ≤ index → ((other : ℕ) → 64 * start < other → other ≤ 64 * index → is_marked words other ≡ false) → doc ≡ 64 * index + trailing_zeros w64 word + 1 →
    IsNextBehind (64 * start) (record { all = all; words = words }) doc
first_in_word all words start index word doc are read fits some from none is =
    let same : word / 2 ^ 0 ≡ word = omega arith in
    let least : 64 * index + 0 ≡ 64 * index = omega arith in
    let zeros : trailing_zeros w64 (word / 2 ^ 0) ≡ trailing_zeros w64 word = ap (trailing_zeros w64) same in
    let here = next_in_word all words index 0 word doc are read fits (omega arith) (omega (arith, some, same)) (omega (arith, fits, same)) (omega (arith, is, zeros)) in
    next_later (64 * start) (64 * index) (record { all = all; words = words }) (Some doc) (omega (arith, from)) none (subst (λ n. IsNextBehind n (record { all = all; words = words }) doc) least here)

pub none_to_word : (words : List ℕ) (start index word : ℕ) → word ≡ get_or words index 0 → word ≡ 0 →
    ((other : ℕ) → 64 * start < other → other ≤ 64 * index → is_marked words other ≡ false) → (other : ℕ) → 64 * start < other → other ≤ 64 * (index + 1) →
    is_marked words other ≡ false
none_to_word words start index word read zero_is none other far near = elim (cases_lt (64 * index) other) [
  | inl behind ↦ (let same : word / 2 ^ 0 ≡ 0 = omega (arith, zero_is) in none_in_word words index 0 word read same (omega arith) other (omega (arith, behind)) near)
  | inr before ↦ none other far before
]

-- the first document of the rest of a word
pub next_in_rest : (all : ℕ) (words : List ℕ) (last word doc : ℕ) → AreMarksOf all words → word ≡ get_or words (last / 64) 0 → word < 2 ^ 64 →
    0 < word / 2 ^ (last % 64) → doc ≡ last + trailing_zeros w64 (word / 2 ^ (last % 64)) + 1 →
    IsNextBehind last (record { all = all; words = words }) doc
next_in_rest all words last word doc are read fits some is =
    let place : 64 * (last / 64) + last % 64 ≡ last = omega arith in
    let rest : word / 2 ^ (last % 64) ≤ word = shr_le word (last % 64) in
    subst (λ n. IsNextBehind n (record { all = all; words = words }) doc) place
    (next_in_word all words (last / 64) (last % 64) word doc are read fits (omega arith) some (omega (arith, rest, fits)) (omega (arith, is, place)))

-- the rest of a word has none
pub none_in_rest : (last word : ℕ) (marks : DocumentMarks) (found : Option ℕ) → word ≡ get_or marks.words (last / 64) 0 → word / 2 ^ (last % 64) ≡ 0 →
    AnswersNext (64 * (last / 64 + 1)) marks found → AnswersNext last marks found
none_in_rest last word marks found read none next =
    next_later last (64 * (last / 64 + 1)) marks found (omega arith)
    (λ other far near. none_in_word marks.words (last / 64) (last % 64) word read none (omega arith) other (omega (arith, far)) near) next

-- ---- the documents in order

pub marked_hit : (marks : DocumentMarks) (doc : ℕ) → has_doc marks (suc doc) ≡ true → marked_to marks (suc doc) ≡ marked_to marks doc ++ suc doc ∷ []
unfolding marked_to
marked_hit marks doc is = cond-true (has_doc marks (suc doc)) (marked_to marks doc ++ suc doc ∷ []) (marked_to marks doc) is

pub marked_miss : (marks : DocumentMarks) (doc : ℕ) → has_doc marks (suc doc) ≡ false → marked_to marks (suc doc) ≡ marked_to marks doc
unfolding marked_to
marked_miss marks doc is = cond-false (has_doc marks (suc doc)) (marked_to marks doc ++ suc doc ∷ []) (marked_to marks doc) is

pub marked_none : (marks : DocumentMarks) → marked_to marks 0 ≡ []
unfolding marked_to
marked_none marks = refl

-- up to the next one, or to the end
marked_same : (marks : DocumentMarks) (last doc : ℕ) → last ≤ doc → ((other : ℕ) → last < other → other ≤ doc → has_doc marks other ≡ false) → marked_to marks doc ≡ marked_to marks last
marked_same marks last zero le none = ap (marked_to marks) (omega (arith, le))
marked_same marks last (suc doc) le none =
    elim (cases_eq last (suc doc)) [
      | inl same ↦ ap (marked_to marks) (sym same)
      | inr apart ↦ marked_miss marks doc (none (suc doc) (omega (arith, le, apart)) (omega arith))
          ∙ marked_same marks last doc (omega (arith, le, apart)) (λ other far near. none other far (omega (arith, near)))
    ]

pub marked_next : (marks : DocumentMarks) (last doc : ℕ) → IsNextBehind last marks doc → marked_to marks doc ≡ marked_to marks last ++ doc ∷ []
marked_next marks last zero next = absurd (omega (arith, next.behind))
marked_next marks last (suc doc) next =
    marked_hit marks doc next.there ∙ ap (λ ds. ds ++ suc doc ∷ []) (marked_same marks last doc (omega (arith, next.behind)) (λ other far near. next.first other far (omega (arith, near))))

pub marked_end : (marks : DocumentMarks) (last : ℕ) → last ≤ marks.all → ((other : ℕ) → last < other → has_doc marks other ≡ false) → marked_to marks marks.all ≡ marked_to marks last
marked_end marks last le none = marked_same marks last marks.all le (λ other far near. none other far)
