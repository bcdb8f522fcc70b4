-- How many documents have a term, one occurrence after the other and of a whole collection; and the ranges of terms, lists and occurrences.
use Rattle.std.proofs.Common.{arith, ◌≡◌, ◌+◌, ◌≤◌, ◌<◌, ◌==◌, ℕ, zero, suc, Bool, true, false, cond, List, [], ◌∷◌, ◌++◌, length, map, get_or, refl, sym, ap, subst, ◌∙◌, inl, inr, nat_lt, zero-add, All}
use Rattle.std.specs.Prelude.{count_by, ◌||◌, sum, sum_by, Option, Some, None}
use Rattle.std.specs.List.{AllByRecursion, list_any}
use Rattle.std.proofs.lemmas.Bool.{cases_Bool, cond_both, ne_eqb, eq-eqb, eqb-true, lt-ltb, or_left, or_right, false≢true}
use Rattle.std.proofs.lemmas.List.{map-append}
use Rattle.std.proofs.lemmas.List.Elements.{All-from_recursion, Contains-get_or}
use Rattle.std.proofs.lemmas.List.Sums.{count_by-le-length, sum_by-cons, sum_by-append}
use Rattle.mg_defs.specs.declared.Posting.{Posting}
use Rattle.mg_defs.specs.declared.TermPosting.{TermPosting}
use Rattle.mg_defs.specs.declared.Stream.TheVariants.{Words, Others}
use Rattle.mg_defs.specs.DocCounts.{docs_with, last_with, NeverFall}
use Rattle.mg_defs.specs.PostingLists.{by_terms, term_list}
use Rattle.mg_defs.specs.Lists.{inverted, postings}
use Rattle.mg_defs.specs.Marks.{Mark, start, piece, stop, starts, term_in, terms_from, with_doc}
use Rattle.mg_defs.specs.Occurrences.{occurrences}
use Rattle.mg_defs.specs.Postings as runs
use Rattle.mg_defs.specs.Sorted.{number_of}
use Rattle.mg_defs.specs.Split.{documents}
use Rattle.mg_defs.specs.Terms.{dictionary, same_term, terms}
use Rattle.mg_defs.specs.Vocabulary.{sorted_pieces}
use Rattle.mg_defs.proofs.Gathering.{added-cases, AllAfter-earlier, gathered-are, gathered-only, times-gathered, times-none}
use Rattle.mg_laws.proofs.InOrderLaws.{Have, count-cons, length_postings, met_from, postings_are_lists, terms_there}
use Rattle.mg_defs.proofs.Joining.{AllCount-once, times-append}
use Rattle.mg_defs.proofs.LexiconLaws.{term_short}
use Rattle.mg_laws.proofs.SizeLaws.{few_postings}
use Rattle.mg_defs.proofs.SortedLaws.{has-from, number-found}
use Rattle.mg_defs.proofs.TermLaws.{dictionary-of_words, distinct-terms_short}

-- ---- of a whole collection

abbrev is_of : ℕ → TermPosting → Bool
is_of term x = x.term == term

count_both : (term : ℕ) (xs ys : List TermPosting) → count_by (is_of term) (xs ++ ys) ≡ count_by (is_of term) xs + count_by (is_of term) ys
count_both term xs ys = sum_by-append (λ x. cond (is_of term x) 1 0) xs ys

count_same : (k : ℕ) (ps : List Posting) → count_by (is_of k) (term_list k ps) ≡ length ps
count_same k [] = refl
count_same k (p ∷ ps) = count-cons (is_of k) (record { term = k; doc = p.doc; count = p.freq }) (term_list k ps)
    ∙ ap (λ b. cond b 1 0 + count_by (is_of k) (term_list k ps)) (eq-eqb k k refl) ∙ omega (arith, count_same k ps)

count_other : (k m : ℕ) (ps : List Posting) → (m ≡ k → ⊥) → count_by (is_of k) (term_list m ps) ≡ 0
count_other k m [] ne = refl
count_other k m (p ∷ ps) ne = count-cons (is_of k) (record { term = m; doc = p.doc; count = p.freq }) (term_list m ps)
    ∙ ap (λ b. cond b 1 0 + count_by (is_of k) (term_list m ps)) (ne_eqb m k ne) ∙ omega (arith, count_other k m ps ne)

count_below : (k m : ℕ) (lists : List (List Posting)) → k < m → count_by (is_of k) (by_terms m lists) ≡ 0
count_below k m [] lt = refl
count_below k m (ps ∷ lists) lt = omega (arith, count_both k (term_list m ps) (by_terms (m + 1) lists), count_other k m ps (λ e. omega (arith, e, lt)), count_below k (m + 1) lists (omega (arith, lt)))

count_at : (j k m : ℕ) (lists : List (List Posting)) → k ≡ m + j → count_by (is_of k) (by_terms m lists) ≡ length (get_or lists j [])
count_at j k m [] e = refl
count_at zero k m (ps ∷ lists) e =
    let same : m ≡ k = omega (arith, e) in
    omega (arith, count_both k (term_list m ps) (by_terms (m + 1) lists), ap (λ n. count_by (is_of n) (term_list m ps)) same, count_same m ps, count_below k (m + 1) lists (omega (arith, e)))
count_at (suc j) k m (ps ∷ lists) e =
    omega (arith, count_both k (term_list m ps) (by_terms (m + 1) lists), count_other k m ps (λ same. omega (arith, e, same)), count_at j k (m + 1) lists (omega (arith, e)))

-- as many as the term's list has postings
pub docs_are_counted : (collection : List ℕ) (term : ℕ) → docs_with term (occurrences collection) ≡ length (get_or (inverted collection) term [])
docs_are_counted collection term = ap (λ l. count_by (is_of term) l) (postings_are_lists collection) ∙ count_at term term 0 (inverted collection) (omega arith)

-- ---- one occurrence more

one_added : (fed : List (ℕ × ℕ)) (o : ℕ × ℕ) → runs.term_postings (fed ++ o ∷ []) ≡ runs.added (runs.once o) (runs.term_postings fed)
one_added fed o =
    let front : runs.ArePostings (map runs.once (o ∷ fed)) (runs.added (runs.once o) (runs.term_postings fed)) = gathered-are (map runs.once (o ∷ fed)) (AllCount-once (o ∷ fed)) in
    sym (gathered-only (map runs.once (fed ++ o ∷ [])) (runs.added (runs.once o) (runs.term_postings fed)) (AllCount-once (fed ++ o ∷ []))
    (record {
      rising = front.rising;
      some = front.some;
      counted = λ t d. omega (arith, front.counted t d, ap (runs.times t d) (map-append runs.once fed (o ∷ [])), times-append t d (map runs.once fed) (runs.once o ∷ []));
    }))

-- whether a document is new, as a number
abbrev fresh : Bool → Bool → ℕ
fresh of_it known = cond of_it (cond known 0 1) 0

abbrev new_at : ℕ → TermPosting → List TermPosting → ℕ
new_at term e xs = fresh (e.term == term) (nat_lt 0 (runs.times e.term e.doc xs))

abbrev one_if : Bool → ℕ
one_if b = cond b 1 0

new_one : (term : ℕ) (e : TermPosting) (n : ℕ) → n ≡ 0 → fresh (e.term == term) (nat_lt 0 n) ≡ one_if (e.term == term)
new_one term e n none = ap (λ m. fresh (e.term == term) (nat_lt 0 m)) none

old_one : (b : Bool) (n : ℕ) → 1 ≤ n → fresh b (nat_lt 0 n) ≡ zero
old_one b n some = ap (λ t. fresh b t) (lt-ltb 0 n some) ∙ none b
  where
    none : (b : Bool) → fresh b true ≡ zero
    none true = refl
    none false = refl

apart : (x e : TermPosting) → runs.IsBefore x e → runs.part_at e.term e.doc x ≡ 0
apart x e h =
    elim (cases_Bool (x.term == e.term)) [
      | inl same ↦ (
          let t : x.term ≡ e.term = eqb-true x.term e.term same in
          ap (λ b. cond b (cond (x.doc == e.doc) x.count 0) 0) same ∙ ap (λ b. cond b x.count 0) (ne_eqb x.doc e.doc (λ d. let lt = h.doc t in omega (arith, d, lt))))
      | inr other ↦ ap (λ b. cond b (cond (x.doc == e.doc) x.count 0) 0) other
    ]

count_added : (term : ℕ) (e : TermPosting) (xs : List TermPosting) → runs.RisingByTerm xs → runs.AllCount xs → count_by (is_of term) (runs.added e xs) ≡ count_by (is_of term) xs + new_at term e xs
count_added term e [] rising some = count-cons (is_of term) e [] ∙ omega (arith, new_one term e 0 refl)
count_added term e (x ∷ xs) rising some =
    added-cases e x xs (λ l. count_by (is_of term) l ≡ count_by (is_of term) (x ∷ xs) + new_at term e (x ∷ xs))
    (λ before.
    let none : runs.times e.term e.doc (x ∷ xs) ≡ 0 = times-none e (x ∷ xs) (before, AllAfter-earlier e x before xs rising.0) in
    count-cons (is_of term) e (x ∷ xs) ∙ omega (arith, new_one term e (runs.times e.term e.doc (x ∷ xs)) none))
    (λ behind.
    let more = count_added term e xs rising.1 some.1 in
    let same : runs.times e.term e.doc (x ∷ xs) ≡ runs.times e.term e.doc xs = omega (arith, apart x e behind) in
    count-cons (is_of term) x (runs.added e xs) ∙ omega (arith, more, count-cons (is_of term) x xs, ap (λ n. fresh (e.term == term) (nat_lt 0 n)) same))
    (λ t d.
    let here : runs.part_at e.term e.doc x ≡ x.count = ap (λ b. cond b (cond (x.doc == e.doc) x.count 0) 0) (eq-eqb x.term e.term (sym t)) ∙ ap (λ b. cond b x.count 0) (eq-eqb x.doc e.doc (sym d)) in
    count-cons (is_of term) (runs.with_count x (e.count + x.count)) xs
    ∙ omega (arith, count-cons (is_of term) x xs, old_one (e.term == term) (runs.times e.term e.doc (x ∷ xs)) (omega (arith, here, some.0))))

-- where documents never fall, the term was in the document exactly where its last document is that one
last_tells : (term before acc doc : ℕ) (fed : List (ℕ × ℕ)) → acc ≤ before → NeverFall before fed doc →
    (acc == doc || nat_lt 0 (runs.times term doc (map runs.once fed))) ≡ (last_with term acc fed == doc)
last_tells term before acc doc [] le h = none (acc == doc)
  where
    none : (b : Bool) → (b || false) ≡ b
    none true = refl
    none false = refl
last_tells term before acc doc (o ∷ fed) le h =
    elim (cases_Bool (o.0 == term)) [
      | inl of_it ↦ (
          let tail = last_tells term o.1 o.1 doc fed (omega arith) h.1 in
          ap (λ b. acc == doc || nat_lt 0 (cond b (cond (o.1 == doc) 1 0) 0 + rest)) of_it
          ∙ by_doc (o.1 == doc) refl tail
          ∙ sym (ap (λ b. last_with term (cond b o.1 acc) fed == doc) of_it))
      | inr isnt ↦
          ap (λ b. acc == doc || nat_lt 0 (cond b (cond (o.1 == doc) 1 0) 0 + rest)) isnt ∙ ap (λ n. acc == doc || nat_lt 0 n) (zero-add rest)
          ∙ last_tells term o.1 acc doc fed (omega (arith, le, h.0)) h.1 ∙ sym (ap (λ b. last_with term (cond b o.1 acc) fed == doc) isnt)
    ]
  where
    rest : ℕ
    rest = runs.times term doc (map runs.once fed)

    up_to : (fed : List (ℕ × ℕ)) (b : ℕ) → NeverFall b fed doc → b ≤ doc
    up_to [] b h = h
    up_to (x ∷ fed) b h = omega (arith, h.0, up_to fed x.1 h.1)

    by_doc : (b : Bool) → (o.1 == doc) ≡ b → (o.1 == doc || nat_lt 0 rest) ≡ (last_with term o.1 fed == doc) → (acc == doc || nat_lt 0 (cond b 1 0 + rest)) ≡ (last_with term o.1 fed == doc)
    by_doc true is tail = or_right (acc == doc) (nat_lt 0 (1 + rest)) (lt-ltb 0 (1 + rest) (omega arith)) ∙ sym (or_left (o.1 == doc) (nat_lt 0 rest) is) ∙ tail
    by_doc false is tail =
        let not_acc : (acc == doc) ≡ false = ne_eqb acc doc (λ e. false≢true (sym is ∙ eq-eqb o.1 doc (omega (arith, e, le, h.0, up_to fed o.1 h.1)))) in
        ap (λ b. b || nat_lt 0 (0 + rest)) not_acc ∙ ap (nat_lt 0) (zero-add rest) ∙ ap (λ b. b || nat_lt 0 rest) (sym is) ∙ tail

pub docs_more : (term : ℕ) (fed : List (ℕ × ℕ)) (o : ℕ × ℕ) → 1 ≤ o.1 → NeverFall 0 fed o.1 → docs_with term (fed ++ o ∷ []) ≡ docs_with term fed + fresh (o.0 == term) (last_with term 0 fed == o.1)
docs_more term fed o some h =
    let are = gathered-are (map runs.once fed) (AllCount-once fed) in
    ap (λ l. count_by (is_of term) l) (one_added fed o) ∙ count_added term (runs.once o) (runs.term_postings fed) are.rising are.some
    ∙ ap (λ n. docs_with term fed + n) (ap (λ n. fresh (o.0 == term) (nat_lt 0 n)) (times-gathered o.0 o.1 (map runs.once fed)) ∙ by_term (o.0 == term) refl)
  where
    tells : (t : ℕ) → nat_lt 0 (runs.times t o.1 (map runs.once fed)) ≡ (last_with t 0 fed == o.1)
    tells t = ap (λ b. b || nat_lt 0 (runs.times t o.1 (map runs.once fed))) (sym (ne_eqb 0 o.1 (λ e. omega (arith, e, some)))) ∙ last_tells t 0 0 o.1 fed (omega arith) h

    by_term : (b : Bool) → (o.0 == term) ≡ b → fresh b (nat_lt 0 (runs.times o.0 o.1 (map runs.once fed))) ≡ fresh b (last_with term 0 fed == o.1)
    by_term true is = let e : o.0 ≡ term = eqb-true o.0 term is in ap (λ b. fresh true b) (tells o.0 ∙ ap (λ t. last_with t 0 fed == o.1) e)
    by_term false is = refl

pub last_more : (term doc : ℕ) (fed : List (ℕ × ℕ)) (o : ℕ × ℕ) → last_with term doc (fed ++ o ∷ []) ≡ cond (o.0 == term) o.1 (last_with term doc fed)
last_more term doc [] o = refl
last_more term doc (x ∷ fed) o = last_more term (cond (x.0 == term) x.1 doc) fed o

-- the last document is at most the current one
last_low : (term before acc doc : ℕ) (fed : List (ℕ × ℕ)) → acc ≤ before → NeverFall before fed doc → last_with term acc fed ≤ doc
last_low term before acc doc [] le h = omega (arith, le, h)
last_low term before acc doc (o ∷ fed) le h =
    cond_both (o.0 == term) o.1 acc (λ n. last_with term n fed ≤ doc) (λ _. last_low term o.1 o.1 doc fed (omega arith) h.1) (λ _. last_low term o.1 acc doc fed (omega (arith, le, h.0)) h.1)

pub last_is_low : (term doc : ℕ) (fed : List (ℕ × ℕ)) → NeverFall 0 fed doc → last_with term 0 fed ≤ doc
last_is_low term doc fed h = last_low term 0 0 doc fed (omega arith) h

-- the terms met come in the order of their documents
later_start : (a b : ℕ) (fed : List (ℕ × ℕ)) (after : ℕ) → a ≤ b → NeverFall b fed after → NeverFall a fed after
later_start a b [] after le h = omega (arith, le, h)
later_start a b (o ∷ fed) after le h = (omega (arith, le, h.0), h.1)

one_first : (doc : ℕ) (fed : List (ℕ × ℕ)) (after : ℕ) (t : Option ℕ) → NeverFall doc fed after → NeverFall doc (with_doc doc t ++ fed) after
one_first doc fed after None h = h
one_first doc fed after (Some n) h = (omega arith, h)

pub met_in_order : (strings : List (List ℕ)) (doc : ℕ) (met : List Mark) → NeverFall doc (terms_from strings doc met) (doc + starts met)
met_in_order strings doc [] = omega arith
met_in_order strings doc (start ∷ met) =
    let e : doc + 1 + starts met ≡ doc + (1 + starts met) = omega arith in
    subst (NeverFall doc (terms_from strings (doc + 1) met)) e (later_start doc (doc + 1) (terms_from strings (doc + 1) met) (doc + 1 + starts met) (omega arith) (met_in_order strings (doc + 1) met))
met_in_order strings doc (piece Words x ∷ met) = one_first doc (terms_from strings doc met) (doc + starts met) (term_in strings x) (met_in_order strings doc met)
met_in_order strings doc (piece Others x ∷ met) = met_in_order strings doc met
met_in_order strings doc (stop ∷ met) = met_in_order strings doc met

-- ---- ranges

abbrev pub InRange : ℕ → ℕ → ℕ × ℕ → Type 0
InRange count all o = (o.0 < count) × (1 ≤ o.1) × (o.1 ≤ all)

all_both : {X : Type 0} (P : X → Type 0) (xs ys : List X) → AllByRecursion P xs → AllByRecursion P ys → AllByRecursion P (xs ++ ys)
all_both P [] ys h k = k
all_both P (x ∷ xs) ys h k = (h.0, all_both P xs ys h.1 k)

terms_range : (strings : List (List ℕ)) (all n : ℕ) (ts : List (List ℕ)) → 1 ≤ n → n ≤ all → Have strings ts → AllByRecursion (InRange (length strings) all) (map (λ t. (number_of strings t, n)) ts)
terms_range strings all n [] some le have = tt
terms_range strings all n (t ∷ ts) some le have = (((number-found strings t have.0).0, some, le), terms_range strings all n ts some le have.1)

met_range : (strings : List (List ℕ)) (all n : ℕ) (ds : List (List ℕ)) → 1 ≤ n → n + length ds ≤ all + 1 →
    AllByRecursion (λ (doc : List ℕ). Have strings (terms doc)) ds → AllByRecursion (InRange (length strings) all) (met_from (number_of strings) n ds)
met_range strings all n [] some le have = tt
met_range strings all n (doc ∷ ds) some le have =
    all_both (InRange (length strings) all) (map (λ t. (number_of strings t, n)) (terms doc)) (met_from (number_of strings) (n + 1) ds)
    (terms_range strings all n (terms doc) some (omega (arith, le)) have.0) (met_range strings all (n + 1) ds (omega arith) (omega (arith, le)) have.1)

pub occurrences_in_range : (collection : List ℕ) → AllByRecursion (λ (o : ℕ × ℕ). (o.0 < length (dictionary collection)) × (1 ≤ o.1) × (o.1 ≤ length (documents collection))) (occurrences collection)
occurrences_in_range collection = met_range (dictionary collection) (length (documents collection)) 1 (documents collection) (omega arith) (omega arith) (terms_there collection)

pub terms_are_short : (collection : List ℕ) → All (λ (t : List ℕ). length t ≤ 255) (dictionary collection)
terms_are_short collection k d lt =
    term_short collection (get_or (dictionary collection) k d) (has-from (dictionary collection) (get_or (dictionary collection) k d) (Contains-get_or (dictionary collection) k d lt))

pub terms_are_few : (collection : List ℕ) → length (dictionary collection) ≤ length (sorted_pieces Words collection)
terms_are_few collection = omega (arith, ap (λ (l : List (List ℕ)). length l) (dictionary-of_words collection), distinct-terms_short (sorted_pieces Words collection))

pub lists_are_short : (collection : List ℕ) → All (λ (n : ℕ). n ≤ length (documents collection)) (map length (inverted collection))
lists_are_short collection = All-from_recursion (λ (n : ℕ). n ≤ length (documents collection)) (map length (inverted collection)) (each (dictionary collection))
  where
    each : (ts : List (List ℕ)) → AllByRecursion (λ (n : ℕ). n ≤ length (documents collection)) (map length (map (postings collection) ts))
    each [] = tt
    each (t ∷ ts) = (omega (arith, length_postings collection t, count_by-le-length (λ doc. list_any (same_term t) (terms doc)) (documents collection)), each ts)

sum_of_lengths : (lists : List (List Posting)) → sum (map length lists) ≡ sum_by (λ (ps : List Posting). length ps) lists
sum_of_lengths [] = refl
sum_of_lengths (ps ∷ lists) = sum_by-cons (λ x. x) (length ps) (map length lists) ∙ ap (λ n. length ps + n) (sum_of_lengths lists) ∙ sym (sum_by-cons (λ (qs : List Posting). length qs) ps lists)

pub lists_together : (collection : List ℕ) → sum (map length (inverted collection)) ≤ length (occurrences collection)
lists_together collection = omega (arith, sum_of_lengths (inverted collection), few_postings collection)
