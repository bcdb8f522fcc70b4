-- A term of which no occurrence is met is none of the collection's.
use Rattle.std.proofs.Common.{arith, ◌≡◌, ◌<◌, ◌+◌, ◌==◌, ◌∙◌, ℕ, true, false, cond, Contains, List, [], ◌∷◌, length, map, get_or, inl, inr, refl, sym, ap, subst}
use Rattle.std.specs.Prelude.{count_by}
use Rattle.std.specs.Cmp.Lexicographic.{slice_cmp}
use Rattle.std.specs.List.{list_any}
use Rattle.std.specs.List.Sorted.{IsStrictlySortedBy}
use Rattle.std.specs.Ordering.{nat_cmp}
use Rattle.std.specs.Str.{bytes_eq}
use Rattle.std.proofs.lemmas.Bool.{cases_Bool, false≢true, or_cases, or_left, or_right}
use Rattle.std.proofs.lemmas.Bool.Decides.{nat_tests}
use Rattle.std.proofs.lemmas.List.Elements.{Contains-get_or}
use Rattle.std.proofs.lemmas.List.Sums.{sum_by-cons}
use Rattle.mg_defs.specs.declared.Stream.TheVariants.{Others, Words}
use Rattle.mg_defs.specs.declared.TermPosting.{TermPosting}
use Rattle.mg_defs.specs.DocCounts.{docs_with}
use Rattle.mg_defs.specs.Marks.{Mark, marks, piece, pieces_among, start, stop, terms_from}
use Rattle.mg_defs.specs.Postings.{once, part_at, term_postings, times}
use Rattle.mg_defs.specs.Sorted.{number_of, sorted_distinct}
use Rattle.mg_defs.specs.Terms.{dictionary, folded, is_empty, terms_of_words}
use Rattle.mg_defs.specs.Vocabulary.{all_pieces, sorted_pieces}
use Rattle.mg_defs.proofs.Gathering.{times-gathered}
use Rattle.mg_defs.proofs.SortedLaws.{has-from, has-sorted, number-at, same-is, same-refl, sorted-rising}
use Rattle.mg_defs.proofs.TermLaws.{dictionary-of_words}
use Rattle.mg_laws.proofs.MarkLaws.{marks_have_pieces}
use Rattle.mg_model.specs.Terms.{TermNumbers}
use Rattle.mg_count.specs.DocCounting.{AreDocCounts, DocCounting}
use Rattle.mg_count.specs.Plans.{IsPlan, Plan}
use Rattle.mg_index.specs.Listing.{HasTermOfNone}
use Rattle.mg_make.specs.Changes.{LostTerm}
use Rattle.mg_make.specs.Second.{occurring_by}

-- ---- occurrences

-- where no posting is of the term, it stands in no document
times_none : (term doc : ℕ) (xs : List TermPosting) → count_by (λ (x : TermPosting). x.term == term) xs ≡ 0 → times term doc xs ≡ 0
times_none term doc [] none = refl
times_none term doc (x ∷ xs) none =
    let parts = sum_by-cons (λ (y : TermPosting). cond (y.term == term) 1 0) x xs in
    elim (cases_Bool (x.term == term)) [
      | inl is ↦
          let part : ℕ = cond (x.term == term) 1 0 in
          let one : part ≡ 1 = rw is refl in
          absurd (omega (arith, parts, one, none))
      | inr isnt ↦
          let zero : part_at term doc x ≡ 0 = rw isnt refl in
          omega (arith, zero, times_none term doc xs (omega (arith, parts, none)))
    ]

met_nowhere : (term doc : ℕ) (fed : List (ℕ × ℕ)) → docs_with term fed ≡ 0 → times term doc (map once fed) ≡ 0
met_nowhere term doc fed none = sym (times-gathered term doc (map once fed)) ∙ times_none term doc (term_postings fed) none

first_counts : (term doc other rest : ℕ) → other ≡ term → part_at term doc (record { term = other; doc = doc; count = 1 }) + rest ≡ 0 → ⊥
first_counts term doc other rest same none = grind (arith, nat_tests)

-- ---- words

-- a term is that of a word
word_of : (words : List (List ℕ)) (term : List ℕ) → list_any (bytes_eq term) (terms_of_words words) ≡ true →
    (word : List ℕ) × (is_empty word ≡ false) × (folded word ≡ term) × (list_any (bytes_eq word) words ≡ true)
word_of [] term has = absurd (false≢true has)
word_of ([] ∷ words) term has =
    let later = word_of words term has in
    (later.0, later.1, later.2, or_right (bytes_eq later.0 []) (list_any (bytes_eq later.0) words) later.3)
word_of ((b ∷ bytes) ∷ words) term has =
    elim (or_cases (bytes_eq term (folded (b ∷ bytes))) (list_any (bytes_eq term) (terms_of_words words)) has) [
      | inl here ↦ (
        b ∷ bytes,
        refl,
        sym (same-is term (folded (b ∷ bytes)) here),
        or_left (bytes_eq (b ∷ bytes) (b ∷ bytes)) (list_any (bytes_eq (b ∷ bytes)) words) (same-refl (b ∷ bytes)),
      )
      | inr there ↦
          let later = word_of words term there in
          (later.0, later.1, later.2, or_right (bytes_eq later.0 (b ∷ bytes)) (list_any (bytes_eq later.0) words) later.3)
    ]

-- a word is not met whose term has no occurrence
not_met : (terms : List (List ℕ)) (term doc : ℕ) (met : List Mark) (word : List ℕ) → is_empty word ≡ false → number_of terms (folded word) ≡ term →
    ((in_doc : ℕ) → times term in_doc (map once (terms_from terms doc met)) ≡ 0) → list_any (bytes_eq word) (pieces_among Words met) ≡ true → ⊥
not_met terms term doc [] word some number none has = false≢true has
not_met terms term doc (start ∷ met) word some number none has = not_met terms term (doc + 1) met word some number none has
not_met terms term doc (stop ∷ met) word some number none has = not_met terms term doc met word some number none has
not_met terms term doc (piece Others x ∷ met) word some number none has = not_met terms term doc met word some number none has
not_met terms term doc (piece Words [] ∷ met) word some number none has =
    elim (or_cases (bytes_eq word []) (list_any (bytes_eq word) (pieces_among Words met)) has) [
      | inl here ↦ false≢true (sym some ∙ ap is_empty (same-is word [] here))
      | inr there ↦ not_met terms term doc met word some number none there
    ]
not_met terms term doc (piece Words (b ∷ bytes) ∷ met) word some number none has =
    let first : ℕ × ℕ = (number_of terms (folded (b ∷ bytes)), doc) in
    let rest = terms_from terms doc met in
    elim (or_cases (bytes_eq word (b ∷ bytes)) (list_any (bytes_eq word) (pieces_among Words met)) has) [
      | inl here ↦
          let same : first.0 ≡ term = ap (λ w. number_of terms (folded w)) (sym (same-is word (b ∷ bytes) here)) ∙ number in
          first_counts term doc first.0 (times term doc (map once rest)) same (none doc)
      | inr there ↦ not_met terms term doc met word some number (λ in_doc. omega (arith, none in_doc)) there
    ]

-- ---- terms

met_no_more : (terms : List (List ℕ)) (collection term : List ℕ) (number : ℕ) → number_of terms term ≡ number → docs_with number (terms_from terms 0 (marks collection)) ≡ 0 →
    ¬ Contains (dictionary collection) term
met_no_more terms collection term number is none there =
    let words = sorted_pieces Words collection in
    let sorted : list_any (bytes_eq term) (dictionary collection) ≡ true = has-from (dictionary collection) term there in
    let has : list_any (bytes_eq term) (terms_of_words words) ≡ true
    = sym (has-sorted (terms_of_words words) term) ∙ ap (list_any (bytes_eq term)) (sym (dictionary-of_words collection)) ∙ sorted in
    let word = word_of words term has in
    let met : list_any (bytes_eq word.0) (pieces_among Words (marks collection)) ≡ true
    = ap (list_any (bytes_eq word.0)) (marks_have_pieces Words collection) ∙ sym (has-sorted (all_pieces Words collection) word.0) ∙ word.3 in
    not_met terms number 0 (marks collection) word.0 word.1 (ap (number_of terms) word.2 ∙ is) (λ doc. met_nowhere number doc (terms_from terms 0 (marks collection)) none) met

-- a term that no document has is lost
pub term_is_lost : (p : Plan) (counts : DocCounting) (collection : List ℕ) → IsPlan p → AreDocCounts counts (length p.terms.terms) (occurring_by p (marks collection)) →
    {first second : ℕ} → first ≡ 1 → second ≡ 0 → HasTermOfNone counts.docs → LostTerm p collection first second
term_is_lost p counts collection planned are one none lacks = record {
  term = get_or p.terms.terms lacks.number [];
  planned = Contains-get_or p.terms.terms lacks.number [] within;
  lost = met_no_more p.terms.terms collection (get_or p.terms.terms lacks.number []) lacks.number number (sym (are.docs lacks.number within) ∙ lacks.none);
  one = one;
  none = none;
}
  where
    within : lacks.number < length p.terms.terms
    within = omega (arith, lacks.within, are.doc_size)

    terms_are : p.terms.terms ≡ sorted_distinct (terms_of_words p.code.words.pieces)
    terms_are = ap (λ (t : TermNumbers). t.terms) planned.terms

    number : number_of p.terms.terms (get_or p.terms.terms lacks.number []) ≡ lacks.number
    number = number-at p.terms.terms lacks.number [] (subst (λ ts. IsStrictlySortedBy (slice_cmp nat_cmp) ts) (sym terms_are) (sorted-rising (terms_of_words p.code.words.pieces))) within
