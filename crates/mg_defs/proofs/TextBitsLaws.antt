-- The coded text of a collection has as many bits as its counts and heads say.
use Rattle.std.proofs.Common.{◌≡◌, ℕ, ◌+◌, ◌*◌, ◌/◌, ◌≤◌, Bool, true, false, cond, List, [], ◌∷◌, length, get_or, refl, sym, ◌∙◌, ap, subst, arith, inl, inr, map, sum_by, one-add, zero-add, add_comm, length-append}
use Rattle.std.specs.List.{AllByRecursion, list_any, flat_map, IsDistinct}
use Rattle.std.specs.Str.{bytes_eq}
use Rattle.std.proofs.lemmas.Bool.{or_left, or_right, false≢true, cases_Bool}
use Rattle.std.proofs.lemmas.Cmp.{nat_list_eq_equiv}
use Rattle.std.proofs.Math.Seq.{take-length}
use Rattle.std.proofs.lemmas.List.{length-map}
use Rattle.std.proofs.lemmas.List.Sums.{sum_by-cons, sum_by-append}
use Rattle.mg_defs.specs.declared.Stream.{Stream}
use Rattle.mg_defs.specs.declared.Stream.TheVariants.{Words, Others}
use Rattle.mg_defs.specs.Parse.{Pair, parse}
use Rattle.mg_defs.specs.Codes.{gamma}
use Rattle.mg_defs.specs.CodedText.{StreamCode, TextCode, codeword_of, coded_pair, coded_doc, coded_size, text_part, IsCodeOf, IsTextCode}
use Rattle.mg_defs.specs.Cost.{cost_of, huffman_cost}
use Rattle.mg_defs.specs.Canon.{AreGood, codeword}
use Rattle.mg_defs.specs.Split.{documents}
use Rattle.mg_defs.specs.TextBits.{text_bits}
use Rattle.mg_defs.specs.Sorted.{number_of}
use Rattle.mg_defs.specs.Vocabulary.{count_in, pieces_in, all_pieces, sorted_pieces, piece_counts}
use Rattle.mg_defs.proofs.SortedLaws.{same-is, same-refl, has-sorted, number-found}
use Rattle.mg_defs.proofs.VocabularyLaws.{distinct-sorted}
use Rattle.mg_defs.proofs.CanonLaws.{length-codeword}
use Rattle.mg_defs.proofs.CodedTextLaws.{length-as_bytes, text-long}

abbrev has : List (List ℕ) → List ℕ → Bool
has strings s = list_any (bytes_eq s) strings

same-costs : (c d : List ℕ → ℕ) (p : List ℕ) (sorted : List (List ℕ)) (lengths : List ℕ) → ((q : List ℕ) → bytes_eq p q ≡ false → d q ≡ c q) →
    AllByRecursion (λ y. bytes_eq p y ≡ false) sorted → cost_of (map d sorted) lengths ≡ cost_of (map c sorted) lengths
same-costs c d p [] lengths h apart = refl
same-costs c d p (t ∷ sorted) [] h apart = refl
same-costs c d p (t ∷ sorted) (l ∷ lengths) h apart = rw (h t apart.0, same-costs c d p sorted lengths h apart.1) refl

-- one more of a piece costs its length
one-more : (c d : List ℕ → ℕ) (p : List ℕ) (sorted : List (List ℕ)) (lengths : List ℕ) → length lengths ≡ length sorted → IsDistinct bytes_eq sorted →
    has sorted p ≡ true → ((q : List ℕ) → bytes_eq p q ≡ false → d q ≡ c q) → d p ≡ c p + 1 →
    cost_of (map d sorted) lengths ≡ cost_of (map c sorted) lengths + get_or lengths (number_of sorted p) 0
unfolding IsDistinct
one-more c d p [] lengths long apart h others same = absurd (false≢true h)
one-more c d p (t ∷ sorted) [] long apart h others same = absurd cc
one-more c d p (t ∷ sorted) (l ∷ lengths) long apart h others same =
    elim (cases_Bool (bytes_eq p t)) [
      | inl is ↦
          let e = same-is p t is in
          let head : d t ≡ c t + 1 = rw e at same in
          let tail = same-costs c d p sorted lengths others (subst (λ (x : List ℕ). AllByRecursion (λ y. bytes_eq x y ≡ false) sorted) (sym e) apart.0) in
          rw (is, head, tail) (omega arith)
      | inr isnt ↦
          let more = one-more c d p sorted lengths (omega (arith, long)) apart.1 (rw isnt at h) others same in
          rw (isnt, one-add, others t isnt, more) (omega arith)
    ]

-- none of any piece costs nothing
no-costs : (sorted : List (List ℕ)) (lengths : List ℕ) → cost_of (map (count_in []) sorted) lengths ≡ 0
no-costs [] lengths = refl
no-costs (t ∷ sorted) [] = refl
no-costs (t ∷ sorted) (l ∷ lengths) = omega (arith, no-costs sorted lengths)

count-more : (p : List ℕ) (pieces : List (List ℕ)) (q : List ℕ) → count_in (p ∷ pieces) q ≡ cond (bytes_eq q p) 1 0 + count_in pieces q
count-more p pieces q = sum_by-cons (λ r. cond (bytes_eq q r) 1 0) p pieces

-- the lengths of all pieces together
pub cost-of_pieces : (sorted pieces : List (List ℕ)) (lengths : List ℕ) → length lengths ≡ length sorted → IsDistinct bytes_eq sorted →
    AllByRecursion (λ p. has sorted p ≡ true) pieces → sum_by (λ p. get_or lengths (number_of sorted p) 0) pieces
    ≡ cost_of (map (count_in pieces) sorted) lengths
cost-of_pieces sorted [] lengths long apart h = sym (no-costs sorted lengths)
cost-of_pieces sorted (p ∷ pieces) lengths long apart h =
    let before : List ℕ → ℕ = count_in pieces in
    let after : List ℕ → ℕ = count_in (p ∷ pieces) in
    let others : (q : List ℕ) → bytes_eq p q ≡ false → after q ≡ before q = λ q differs. count-more p pieces q ∙ rw (nat_list_eq_equiv.symm q p, differs) (zero-add (before q)) in
    let same : after p ≡ before p + 1 = count-more p pieces p ∙ rw (same-refl p) (add_comm 1 (before p)) in
    let more = one-more before after p sorted lengths long apart h.0 others same in
    sum_by-cons (λ q. get_or lengths (number_of sorted q) 0) p pieces ∙ omega (arith, more, cost-of_pieces sorted pieces lengths long apart h.1)

-- ---- the bits of documents

abbrev bits_in : StreamCode → List ℕ → ℕ
bits_in code piece = length (codeword_of code piece)

pairs-bits : (code : TextCode) (pairs : List Pair) → length (flat_map (coded_pair code) pairs)
    ≡ sum_by (bits_in code.words) (map (λ (p : Pair). p.word) pairs) + sum_by (bits_in code.others) (map (λ (p : Pair). p.other) pairs)
pairs-bits code [] = refl
pairs-bits code (p ∷ pairs) =
    let word = sum_by-cons (bits_in code.words) p.word (map (λ (q : Pair). q.word) pairs) in
    let other = sum_by-cons (bits_in code.others) p.other (map (λ (q : Pair). q.other) pairs) in
    length-append (coded_pair code p) (flat_map (coded_pair code) pairs)
    ∙ omega (arith, length-append (codeword_of code.words p.word) (codeword_of code.others p.other), pairs-bits code pairs, word, other)

doc-bits : (code : TextCode) (doc : List ℕ) → length (coded_doc code doc) ≡ length (gamma (length (parse doc) + 1))
    + (sum_by (bits_in code.words) (pieces_in Words doc) + sum_by (bits_in code.others) (pieces_in Others doc))
doc-bits code doc = length-append (gamma (length (parse doc) + 1)) (flat_map (coded_pair code) (parse doc)) ∙ ap (λ n. length (gamma (length (parse doc) + 1)) + n) (pairs-bits code (parse doc))

abbrev head_of : List ℕ → ℕ
head_of doc = length (gamma (length (parse doc) + 1))

docs-bits : (code : TextCode) (docs : List (List ℕ)) → sum_by (λ doc. length (coded_doc code doc)) docs
    ≡ sum_by head_of docs + (sum_by (bits_in code.words) (flat_map (pieces_in Words) docs) + sum_by (bits_in code.others) (flat_map (pieces_in Others) docs))
docs-bits code [] = refl
docs-bits code (doc ∷ docs) =
    let words = sum_by-append (bits_in code.words) (pieces_in Words doc) (flat_map (pieces_in Words) docs) in
    let others = sum_by-append (bits_in code.others) (pieces_in Others doc) (flat_map (pieces_in Others) docs) in
    sum_by-cons (λ d. length (coded_doc code d)) doc docs ∙ omega (arith, doc-bits code doc, docs-bits code docs, sum_by-cons head_of doc docs, words, others)

-- ---- the bits of a stream

sum-same : (f g : List ℕ → ℕ) (pieces : List (List ℕ)) → AllByRecursion (λ p. f p ≡ g p) pieces → sum_by f pieces ≡ sum_by g pieces
sum-same f g [] h = refl
sum-same f g (p ∷ pieces) h = omega (arith, h.0, sum_by-cons f p pieces, sum_by-cons g p pieces, sum-same f g pieces h.1)

all-have : (sorted pieces : List (List ℕ)) → ((s : List ℕ) → has pieces s ≡ true → has sorted s ≡ true) → AllByRecursion (λ p. has sorted p ≡ true) pieces
all-have sorted [] h = tt
all-have sorted (p ∷ pieces) h = (h p (or_left (bytes_eq p p) (has pieces p) (same-refl p)), all-have sorted pieces (λ s i. h s (or_right (bytes_eq s p) (has pieces s) i)))

lengths-are : (code : StreamCode) (sorted pieces : List (List ℕ)) → code.pieces ≡ sorted → AreGood code.lengths → length code.lengths ≡ length sorted →
    AllByRecursion (λ p. has sorted p ≡ true) pieces → AllByRecursion (λ p. bits_in code p ≡ get_or code.lengths (number_of sorted p) 0) pieces
lengths-are code sorted [] is good long h = tt
lengths-are code sorted (p ∷ pieces) is good long h = (
  ap (λ (x : List (List ℕ)). length (codeword code.lengths (number_of x p))) is ∙ length-codeword code.lengths (number_of sorted p) good
      (omega (arith, long, (number-found sorted p h.0).0)),
  lengths-are code sorted pieces is good long h.1,
)

pub stream-bits : (kind : Stream) (collection : List ℕ) (code : StreamCode) → IsCodeOf kind collection code →
    sum_by (bits_in code) (all_pieces kind collection) ≡ huffman_cost (piece_counts kind collection)
stream-bits kind collection code h =
    let pieces = all_pieces kind collection in
    let sorted = sorted_pieces kind collection in
    let there = all-have sorted pieces (λ s i. has-sorted pieces s ∙ i) in
    let long : length code.lengths ≡ length sorted = h.lengths.each ∙ length-map sorted (count_in pieces) in
    sum-same (bits_in code) (λ p. get_or code.lengths (number_of sorted p) 0) pieces (lengths-are code sorted pieces h.pieces h.lengths.good long there)
    ∙ (cost-of_pieces sorted pieces code.lengths long (distinct-sorted pieces) there ∙ h.lengths.cost)

-- all documents have as many bits as the text
pub text-bits : (code : TextCode) (collection : List ℕ) → IsTextCode collection code → sum_by (λ doc. length (coded_doc code doc)) (documents collection) ≡ text_bits collection
text-bits code collection h =
    docs-bits code (documents collection) ∙ omega (arith, stream-bits Words collection code.words h.0, stream-bits Others collection code.others h.1)

size-within : (code : TextCode) (docs : List (List ℕ)) → 8 * sum_by (coded_size code) docs ≤ sum_by (λ doc. length (coded_doc code doc)) docs + 7 * length docs
size-within code [] = omega arith
size-within code (doc ∷ docs) =
    omega (arith, length-as_bytes (coded_doc code doc), size-within code docs, sum_by-cons (coded_size code) doc docs, sum_by-cons (λ d. length (coded_doc code d)) doc docs)

-- the text takes at most a byte a document more than its bits
pub text-within : (code : TextCode) (collection : List ℕ) → IsTextCode collection code → length (text_part code collection) ≤ text_bits collection / 8 + length (documents collection)
text-within code collection h =
    let size = text-long code collection ∙ ap (sum_by (coded_size code)) (take-length (documents collection)) in
    omega (arith, size, size-within code (documents collection), text-bits code collection h)
