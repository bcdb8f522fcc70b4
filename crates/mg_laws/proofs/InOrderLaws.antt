-- The postings of all occurrences are the lists of the terms in a row.
use Rattle.std.proofs.Common.{arith, ◌≡◌, ◌+◌, ◌≤◌, ◌<◌, ◌==◌, ℕ, zero, suc, Bool, true, false, cond, List, [], ◌∷◌, ◌++◌, length, map, get_or, refl, sym, ap, subst, ◌∙◌, inl, inr, nat_lt, zero-add}
use Rattle.std.specs.Prelude.{filter, count_by}
use Rattle.std.specs.List.{list_any, enumerate_from, flat_map, AllByRecursion}
use Rattle.std.specs.Str.{bytes_eq}
use Rattle.std.proofs.lemmas.Bool.{cases_Bool, cases_lt, false≢true, ne_eqb, eq-eqb, lt-ltb, ltb-true, or_left, or_right}
use Rattle.std.proofs.lemmas.List.{map-append}
use Rattle.std.proofs.lemmas.List.Sums.{sum_by-cons}
use Rattle.std.proofs.lemmas.List.Folds.{list_any-append}
use Rattle.mg_defs.specs.declared.Posting.{Posting}
use Rattle.mg_defs.specs.declared.TermPosting.{TermPosting}
use Rattle.mg_defs.specs.Split.{documents}
use Rattle.mg_defs.specs.Sorted.{number_of}
use Rattle.mg_defs.specs.Terms.{terms, same_term, freq_in, docs, dictionary, all_terms}
use Rattle.mg_defs.specs.Weights.{has_term}
use Rattle.mg_defs.specs.Lists.{postings, inverted}
use Rattle.mg_defs.specs.Occurrences.{occurrences}
use Rattle.mg_defs.specs.Postings as runs
use Rattle.mg_defs.specs.PostingLists.{term_list, by_terms}
use Rattle.mg_defs.proofs.Gathering.{gathered-only}
use Rattle.mg_defs.proofs.Joining.{AllCount-once, times-append}
use Rattle.mg_defs.proofs.SortedLaws.{has-sorted, sorted-rising, number-at, number-found, same-is, same-refl}

abbrev pub has : List (List ℕ) → List ℕ → Bool
has strings s = list_any (bytes_eq s) strings

-- ---- the list of a term over documents

abbrev pub posting_in : List ℕ → ℕ × List ℕ → Posting
posting_in t d = record { doc = d.0; freq = freq_in d.1 t }

abbrev pub is_there : Posting → Bool
is_there p = nat_lt 0 p.freq

-- the first document has this number
abbrev pub list_from : List ℕ → ℕ → List (List ℕ) → List Posting
list_from t n ds = filter is_there (map (posting_in t) (enumerate_from n ds))

pub count-cons : {X : Type 0} (p : X → Bool) (x : X) (xs : List X) → count_by p (x ∷ xs) ≡ cond (p x) 1 0 + count_by p xs
count-cons p x xs = sum_by-cons (λ y. cond (p y) 1 0) x xs

-- a count of a term is not 0 exactly where the document has it
pub some_freq : (doc t : List ℕ) → nat_lt 0 (freq_in doc t) ≡ has_term doc t
some_freq doc t = any (terms doc)
  where
    any : (ts : List (List ℕ)) → nat_lt 0 (count_by (same_term t) ts) ≡ list_any (same_term t) ts
    any [] = refl
    any (u ∷ ts) =
        elim (cases_Bool (same_term t u)) [
          | inl same ↦ lt-ltb 0 (count_by (same_term t) (u ∷ ts)) (omega (arith, count-cons (same_term t) u ts, ap {B = ℕ} (λ b. cond b 1 0) same))
              ∙ sym (or_left (same_term t u) (list_any (same_term t) ts) same)
          | inr other ↦ ap (nat_lt 0) (count-cons (same_term t) u ts ∙ ap (λ b. cond b 1 0 + count_by (same_term t) ts) other ∙ zero-add (count_by (same_term t) ts)) ∙ any ts ∙ sym (rw other refl)
        ]

pub list_hit : (t : List ℕ) (n : ℕ) (doc : List ℕ) (ds : List (List ℕ)) → has_term doc t ≡ true → list_from t n (doc ∷ ds) ≡ posting_in t (n, doc) ∷ list_from t (n + 1) ds
list_hit t n doc ds h = let e : nat_lt 0 (freq_in doc t) ≡ true = some_freq doc t ∙ h in rw e refl

pub list_miss : (t : List ℕ) (n : ℕ) (doc : List ℕ) (ds : List (List ℕ)) → has_term doc t ≡ false → list_from t n (doc ∷ ds) ≡ list_from t (n + 1) ds
list_miss t n doc ds h = let e : nat_lt 0 (freq_in doc t) ≡ false = some_freq doc t ∙ h in rw e refl

-- as many documents have the term as its list has postings
length_list : (t : List ℕ) (n : ℕ) (ds : List (List ℕ)) → length (list_from t n ds) ≡ count_by (λ doc. list_any (same_term t) (terms doc)) ds
length_list t n [] = refl
length_list t n (doc ∷ ds) =
    elim (cases_Bool (has_term doc t)) [
      | inl hit ↦ omega (arith, ap length (list_hit t n doc ds hit), length_list t (n + 1) ds, count-cons (λ d. list_any (same_term t) (terms d)) doc ds, ap {B = ℕ} (λ b. cond b 1 0) hit)
      | inr miss ↦ omega (arith, ap length (list_miss t n doc ds miss), length_list t (n + 1) ds, count-cons (λ d. list_any (same_term t) (terms d)) doc ds, ap {B = ℕ} (λ b. cond b 1 0) miss)
    ]

pub length_postings : (collection t : List ℕ) → length (postings collection t) ≡ docs collection t
length_postings collection t = length_list t 1 (documents collection)

-- ---- documents rise from at least a number on, and each count is at least 1

abbrev pub Above : ℕ → List Posting → Type 0
Above n [] = Unit {0}
Above n (p ∷ ps) = (n ≤ p.doc) × (1 ≤ p.freq) × Above (p.doc + 1) ps

above_less : (m n : ℕ) (ps : List Posting) → m ≤ n → Above n ps → Above m ps
above_less m n [] le h = tt
above_less m n (p ∷ ps) le h = (omega (arith, le, h.0), h.1, h.2)

pub list_above : (t : List ℕ) (n : ℕ) (ds : List (List ℕ)) → Above n (list_from t n ds)
list_above t n [] = tt
list_above t n (doc ∷ ds) =
    elim (cases_Bool (has_term doc t)) [
      | inl hit ↦ subst (Above n) (sym (list_hit t n doc ds hit)) (omega arith, ltb-true 0 (freq_in doc t) (some_freq doc t ∙ hit), list_above t (n + 1) ds)
      | inr miss ↦ subst (Above n) (sym (list_miss t n doc ds miss)) (above_less n (n + 1) (list_from t (n + 1) ds) (omega arith) (list_above t (n + 1) ds))
    ]

-- ---- they rise

after_append : (x : TermPosting) (xs ys : List TermPosting) → runs.AllAfter x xs → runs.AllAfter x ys → runs.AllAfter x (xs ++ ys)
after_append x [] ys a b = b
after_append x (y ∷ xs) ys a b = (a.0, after_append x xs ys a.1 b)

after_other : (x : TermPosting) (m : ℕ) (ps : List Posting) → x.term < m → runs.AllAfter x (term_list m ps)
after_other x m [] lt = tt
after_other x m (p ∷ ps) lt = (record { term = omega (arith, lt); doc = λ e. absurd (omega (arith, lt, e)) }, after_other x m ps lt)

after_order : (x : TermPosting) (m : ℕ) (lists : List (List Posting)) → x.term < m → runs.AllAfter x (by_terms m lists)
after_order x m [] lt = tt
after_order x m (ps ∷ lists) lt = after_append x (term_list m ps) (by_terms (m + 1) lists) (after_other x m ps lt) (after_order x (m + 1) lists (omega (arith, lt)))

after_same : (x : TermPosting) (k n : ℕ) (ps : List Posting) → x.term ≡ k → x.doc < n → Above n ps → runs.AllAfter x (term_list k ps)
after_same x k n [] e lt h = tt
after_same x k n (p ∷ ps) e lt h = (record { term = omega (arith, e); doc = λ same. omega (arith, lt, h.0) }, after_same x k (p.doc + 1) ps e (omega (arith, lt, h.0)) h.2)

rising_onto : (k n : ℕ) (ps : List Posting) (rest : List TermPosting) → Above n ps → runs.RisingByTerm rest →
    ((x : TermPosting) → x.term ≡ k → runs.AllAfter x rest) → runs.RisingByTerm (term_list k ps ++ rest)
rising_onto k n [] rest h rises after = rises
rising_onto k n (p ∷ ps) rest h rises after =
    let x : TermPosting = record { term = k; doc = p.doc; count = p.freq } in
    (after_append x (term_list k ps) rest (after_same x k (p.doc + 1) ps refl (omega arith) h.2) (after x refl), rising_onto k (p.doc + 1) ps rest h.2 rises after)

pub rising_order : (m : ℕ) (lists : List (List Posting)) → AllByRecursion (Above 0) lists → runs.RisingByTerm (by_terms m lists)
rising_order m [] h = tt
rising_order m (ps ∷ lists) h = rising_onto m 0 ps (by_terms (m + 1) lists) h.0 (rising_order (m + 1) lists h.1) (λ x e. after_order x (m + 1) lists (omega (arith, e)))

count_onto : (k n : ℕ) (ps : List Posting) (rest : List TermPosting) → Above n ps → runs.AllCount rest → runs.AllCount (term_list k ps ++ rest)
count_onto k n [] rest h all = all
count_onto k n (p ∷ ps) rest h all = (h.1, count_onto k (p.doc + 1) ps rest h.2 all)

count_order : (m : ℕ) (lists : List (List Posting)) → AllByRecursion (Above 0) lists → runs.AllCount (by_terms m lists)
count_order m [] h = tt
count_order m (ps ∷ lists) h = count_onto m 0 ps (by_terms (m + 1) lists) h.0 (count_order (m + 1) lists h.1)

-- ---- what they count

times_other : (k d m : ℕ) (ps : List Posting) → (m ≡ k → ⊥) → runs.times k d (term_list m ps) ≡ 0
times_other k d m [] ne = refl
times_other k d m (p ∷ ps) ne = rw (ne_eqb m k ne) (omega (arith, times_other k d m ps ne))

times_below : (k d m : ℕ) (lists : List (List Posting)) → k < m → runs.times k d (by_terms m lists) ≡ 0
times_below k d m [] lt = refl
times_below k d m (ps ∷ lists) lt =
    omega (arith, times-append k d (term_list m ps) (by_terms (m + 1) lists), times_other k d m ps (λ e. omega (arith, e, lt)), times_below k d (m + 1) lists (omega (arith, lt)))

times_at : (j k d m : ℕ) (lists : List (List Posting)) → k ≡ m + j → runs.times k d (by_terms m lists) ≡ runs.times k d (term_list k (get_or lists j []))
times_at j k d m [] e = refl
times_at zero k d m (ps ∷ lists) e =
    let same : m ≡ k = omega (arith, e) in
    omega (arith, times-append k d (term_list m ps) (by_terms (m + 1) lists), ap (λ n. runs.times k d (term_list n ps)) same, times_below k d (m + 1) lists (omega (arith, e)))
times_at (suc j) k d m (ps ∷ lists) e =
    omega (arith, times-append k d (term_list m ps) (by_terms (m + 1) lists), times_other k d m ps (λ same. omega (arith, e, same)), times_at j k d (m + 1) lists (omega (arith, e)))

-- what a document counts that has a number, where the first has this number
abbrev pub in_doc : ℕ → ℕ → (List ℕ → ℕ) → List (List ℕ) → ℕ
in_doc d n f [] = 0
in_doc d n f (doc ∷ ds) = cond (n == d) (f doc) 0 + in_doc d (n + 1) f ds

pub same_in_doc : (d n : ℕ) (f g : List ℕ → ℕ) (ds : List (List ℕ)) → AllByRecursion (λ doc. f doc ≡ g doc) ds → in_doc d n f ds ≡ in_doc d n g ds
same_in_doc d n f g [] h = refl
same_in_doc d n f g (doc ∷ ds) h = rw (h.0, same_in_doc d (n + 1) f g ds h.1) refl

pub none_in_doc : (d n : ℕ) (f : List ℕ → ℕ) (doc : List ℕ) (ds : List (List ℕ)) → f doc ≡ 0 → in_doc d n f (doc ∷ ds) ≡ in_doc d (n + 1) f ds
none_in_doc d n f doc ds none = rw none (by_test (n == d))
  where
    by_test : (b : Bool) → cond b 0 0 + in_doc d (n + 1) f ds ≡ in_doc d (n + 1) f ds
    by_test true = omega arith
    by_test false = omega arith

pub no_freq : (doc t : List ℕ) → has_term doc t ≡ false → freq_in doc t ≡ 0
no_freq doc t miss =
    elim (cases_lt 0 (freq_in doc t)) [
      | inl some ↦ absurd (false≢true (sym miss ∙ sym (some_freq doc t) ∙ lt-ltb 0 (freq_in doc t) some))
      | inr none ↦ omega (arith, none)
    ]

times_list : (k d : ℕ) (t : List ℕ) (n : ℕ) (ds : List (List ℕ)) → runs.times k d (term_list k (list_from t n ds)) ≡ in_doc d n (λ doc. freq_in doc t) ds
times_list k d t n [] = refl
times_list k d t n (doc ∷ ds) =
    elim (cases_Bool (has_term doc t)) [
      | inl hit ↦ ap (λ l. runs.times k d (term_list k l)) (list_hit t n doc ds hit) ∙ rw (eq-eqb k k refl, times_list k d t (n + 1) ds) refl
      | inr miss ↦ ap (λ l. runs.times k d (term_list k l)) (list_miss t n doc ds miss) ∙ times_list k d t (n + 1) ds ∙ sym (none_in_doc d n (λ x. freq_in x t) doc ds (no_freq doc t miss))
    ]

abbrev placed : (List ℕ → ℕ) → ℕ → List (List ℕ) → List (ℕ × ℕ)
placed number n ts = map (λ t. (number t, n)) ts

abbrev counted : (List ℕ → ℕ) → ℕ → List (List ℕ) → ℕ
counted number k ts = count_by (λ u. number u == k) ts

times_placed : (k d : ℕ) (number : List ℕ → ℕ) (n : ℕ) (ts : List (List ℕ)) → runs.times k d (map runs.once (placed number n ts)) ≡ cond (n == d) (counted number k ts) 0
times_placed k d number n [] = none (n == d)
  where
    none : (b : Bool) → zero ≡ cond b 0 0
    none true = refl
    none false = refl
times_placed k d number n (t ∷ ts) =
    by_test (number t == k) (n == d) (runs.times k d (map runs.once (placed number n ts))) (counted number k ts) (counted number k (t ∷ ts))
    (count-cons (λ u. number u == k) t ts) (times_placed k d number n ts)
  where
    by_test : (b c : Bool) (x y z : ℕ) → z ≡ cond b 1 0 + y → x ≡ cond c y 0 → cond b (cond c 1 0) 0 + x ≡ cond c z 0
    by_test true true x y z e f = omega (arith, e, f)
    by_test true false x y z e f = omega (arith, e, f)
    by_test false true x y z e f = omega (arith, e, f)
    by_test false false x y z e f = omega (arith, e, f)

abbrev pub met_from : (List ℕ → ℕ) → ℕ → List (List ℕ) → List (ℕ × ℕ)
met_from number n ds = flat_map (λ (d : ℕ × List ℕ). map (λ t. (number t, d.0)) (terms d.1)) (enumerate_from n ds)

times_met : (k d : ℕ) (number : List ℕ → ℕ) (n : ℕ) (ds : List (List ℕ)) → runs.times k d (map runs.once (met_from number n ds)) ≡ in_doc d n (λ doc. counted number k (terms doc)) ds
times_met k d number n [] = refl
times_met k d number n (doc ∷ ds) =
    ap (runs.times k d) (map-append runs.once (placed number n (terms doc)) (met_from number (n + 1) ds))
    ∙ times-append k d (map runs.once (placed number n (terms doc))) (map runs.once (met_from number (n + 1) ds))
    ∙ ap (λ x. x + runs.times k d (map runs.once (met_from number (n + 1) ds))) (times_placed k d number n (terms doc))
    ∙ ap (λ x. cond (n == d) (counted number k (terms doc)) 0 + x) (times_met k d number (n + 1) ds)

-- ---- the terms of a number

abbrev pub Have : List (List ℕ) → List (List ℕ) → Type 0
Have strings ts = AllByRecursion (λ (u : List ℕ). has strings u ≡ true) ts

-- the strings that have a number are those that are the string of its place
counted_at : (strings : List (List ℕ)) (k : ℕ) (ts : List (List ℕ)) →
    ((u : List ℕ) → has strings u ≡ true → (number_of strings u == k) ≡ same_term (get_or strings k []) u) → Have strings ts →
    count_by (same_term (get_or strings k [])) ts ≡ counted (number_of strings) k ts
counted_at strings k [] tell have = refl
counted_at strings k (u ∷ ts) tell have =
    count-cons (same_term (get_or strings k [])) u ts ∙ ap (λ b. cond b 1 0 + count_by (same_term (get_or strings k [])) ts) (sym (tell u have.0))
    ∙ ap (λ x. cond (number_of strings u == k) 1 0 + x) (counted_at strings k ts tell have.1) ∙ sym (count-cons (λ v. number_of strings v == k) u ts)

counted_none : (strings : List (List ℕ)) (k : ℕ) (ts : List (List ℕ)) → length strings ≤ k → Have strings ts → counted (number_of strings) k ts ≡ 0
counted_none strings k [] le have = refl
counted_none strings k (u ∷ ts) le have =
    let lt : number_of strings u < length strings = (number-found strings u have.0).0 in
    count-cons (λ v. number_of strings v == k) u ts ∙ rw (ne_eqb (number_of strings u) k (λ e. omega (arith, e, lt, le))) (omega (arith, counted_none strings k ts le have.1))

have_all : (strings ts : List (List ℕ)) → ((u : List ℕ) → has ts u ≡ true → has strings u ≡ true) → Have strings ts
have_all strings [] h = tt
have_all strings (u ∷ ts) h = (h u (or_left (bytes_eq u u) (has ts u) (same-refl u)), have_all strings ts (λ v there. h v (or_right (bytes_eq v u) (has ts v) there)))

docs_have : (strings : List (List ℕ)) (ds : List (List ℕ)) → ((u : List ℕ) → has (flat_map terms ds) u ≡ true → has strings u ≡ true) → AllByRecursion (λ (doc : List ℕ). Have strings (terms doc)) ds
docs_have strings [] h = tt
docs_have strings (doc ∷ ds) h = (
  have_all strings (terms doc) (λ u there. h u (list_any-append (bytes_eq u) (terms doc) (flat_map terms ds) ∙ or_left (has (terms doc) u) (has (flat_map terms ds) u) there)),
  docs_have strings ds (λ u there. h u (list_any-append (bytes_eq u) (terms doc) (flat_map terms ds) ∙ or_right (has (terms doc) u) (has (flat_map terms ds) u) there)),
)

pub terms_there : (collection : List ℕ) → AllByRecursion (λ (doc : List ℕ). Have (dictionary collection) (terms doc)) (documents collection)
terms_there collection = docs_have (dictionary collection) (documents collection) (λ u there. has-sorted (all_terms collection) u ∙ there)

any_default : (strings : List (List ℕ)) (k : ℕ) (d e : List ℕ) → k < length strings → get_or strings k d ≡ get_or strings k e
any_default [] k d e lt = absurd (omega (arith, lt))
any_default (s ∷ strings) zero d e lt = refl
any_default (s ∷ strings) (suc k) d e lt = any_default strings k d e (omega (arith, lt))

pub got : (strings : List (List ℕ)) (u : List ℕ) → has strings u ≡ true → (k : ℕ) → number_of strings u ≡ k → k < length strings → get_or strings k [] ≡ u
got strings u there k e lt = any_default strings k [] u lt ∙ ap (λ n. get_or strings n u) (sym e) ∙ (number-found strings u there).1

-- which strings have a number
number_tells : (collection : List ℕ) (k : ℕ) (u : List ℕ) → k < length (dictionary collection) → has (dictionary collection) u ≡ true →
    (number_of (dictionary collection) u == k) ≡ same_term (get_or (dictionary collection) k []) u
number_tells collection k u lt there =
    let strings = dictionary collection in
    let back : number_of strings (get_or strings k []) ≡ k = number-at strings k [] (sorted-rising (all_terms collection)) lt in
    elim (cases_Bool (same_term (get_or strings k []) u)) [
      | inl is ↦ eq-eqb (number_of strings u) k (ap (number_of strings) (sym (same-is (get_or strings k []) u is)) ∙ back) ∙ sym is
      | inr isnt ↦ ne_eqb (number_of strings u) k (λ e. false≢true (sym isnt ∙ subst (λ (x : List ℕ). bytes_eq x u ≡ true) (sym (got (dictionary collection) u there k e lt)) (same-refl u))) ∙ sym isnt
    ]

-- ---- the postings are the lists

each_above : (collection : List ℕ) (ts : List (List ℕ)) → AllByRecursion (Above 0) (map (postings collection) ts)
each_above collection [] = tt
each_above collection (t ∷ ts) = (above_less 0 1 (postings collection t) (omega arith) (list_above t 1 (documents collection)), each_above collection ts)

get_map : (f : List ℕ → List Posting) (ts : List (List ℕ)) (k : ℕ) → k < length ts → get_or (map f ts) k [] ≡ f (get_or ts k [])
get_map f [] k lt = absurd (omega (arith, lt))
get_map f (t ∷ ts) zero lt = refl
get_map f (t ∷ ts) (suc k) lt = get_map f ts k (omega (arith, lt))

get_past : (f : List ℕ → List Posting) (ts : List (List ℕ)) (k : ℕ) → length ts ≤ k → get_or (map f ts) k [] ≡ []
get_past f [] k le = refl
get_past f (t ∷ ts) zero le = absurd (omega (arith, le))
get_past f (t ∷ ts) (suc k) le = get_past f ts k (omega (arith, le))

pub all_zero : (d n : ℕ) (f : List ℕ → ℕ) (ds : List (List ℕ)) → AllByRecursion (λ doc. f doc ≡ 0) ds → in_doc d n f ds ≡ 0
all_zero d n f [] h = refl
all_zero d n f (doc ∷ ds) h = none_in_doc d n f doc ds h.0 ∙ all_zero d (n + 1) f ds h.1

pub all_map : {X : Type 0} (P Q : X → Type 0) (xs : List X) → ((x : X) → P x → Q x) → AllByRecursion P xs → AllByRecursion Q xs
all_map P Q [] f h = tt
all_map P Q (x ∷ xs) f h = (f x h.0, all_map P Q xs f h.1)

counted_same : (collection : List ℕ) (k d : ℕ) → runs.times k d (by_terms 0 (inverted collection)) ≡ runs.times k d (map runs.once (occurrences collection))
counted_same collection k d =
    let strings = dictionary collection in
    let ds = documents collection in
    let right : runs.times k d (map runs.once (occurrences collection)) ≡ in_doc d 1 (λ doc. counted (number_of strings) k (terms doc)) ds = times_met k d (number_of strings) 1 ds in
    let left : runs.times k d (by_terms 0 (inverted collection)) ≡ runs.times k d (term_list k (get_or (inverted collection) k [])) = times_at k k d 0 (inverted collection) (omega arith) in
    elim (cases_lt k (length strings)) [
      | inl lt ↦
          left ∙ ap (λ l. runs.times k d (term_list k l)) (get_map (postings collection) strings k lt) ∙ times_list k d (get_or strings k []) 1 ds
          ∙ same_in_doc d 1 (λ doc. freq_in doc (get_or strings k [])) (λ doc. counted (number_of strings) k (terms doc)) ds
          (all_map (λ doc. Have strings (terms doc)) (λ doc. freq_in doc (get_or strings k []) ≡ counted (number_of strings) k (terms doc)) ds
          (λ doc have. counted_at strings k (terms doc) (λ u there. number_tells collection k u lt there) have) (terms_there collection))
          ∙ sym right
      | inr past ↦
          left ∙ ap (λ l. runs.times k d (term_list k l)) (get_past (postings collection) strings k past)
          ∙ sym (all_zero d 1 (λ doc. counted (number_of strings) k (terms doc)) ds
          (all_map (λ doc. Have strings (terms doc)) (λ doc. counted (number_of strings) k (terms doc) ≡ 0) ds (λ doc have. counted_none strings k (terms doc) past have) (terms_there collection)))
          ∙ sym right
    ]

pub lists_are_postings : (collection : List ℕ) → runs.ArePostings (map runs.once (occurrences collection)) (by_terms 0 (inverted collection))
lists_are_postings collection = record {
  rising = rising_order 0 (inverted collection) (each_above collection (dictionary collection));
  some = count_order 0 (inverted collection) (each_above collection (dictionary collection));
  counted = counted_same collection;
}

pub postings_are_lists : (collection : List ℕ) → runs.term_postings (occurrences collection) ≡ by_terms 0 (inverted collection)
postings_are_lists collection =
    sym (gathered-only (map runs.once (occurrences collection)) (by_terms 0 (inverted collection)) (AllCount-once (occurrences collection)) (lists_are_postings collection))
