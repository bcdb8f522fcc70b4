-- Laws of two collections in one.
use Rattle.std.proofs.Common.{◌≡◌, ℕ, suc, ◌+◌, ◌-◌, ◌<◌, ◌≤◌, Bool, true, false, cond, ◌==◌, List, [], ◌∷◌, ◌++◌, length, map, get_or, refl, sym, ◌∙◌, ap, arith, inl, inr, append-nil, count_by, Contains}
use Rattle.std.specs.Prelude.{flat_map, filter, nat_lt}
use Rattle.std.specs.List.{onto_first, enumerate_from, list_any}
use Rattle.std.proofs.lemmas.Bool.{cases_Bool, cases_eq, ne_eqb}
use Rattle.std.proofs.lemmas.Grind.{flat_map-append}
use Rattle.std.proofs.lemmas.List.{map-append, get_or_append_left, get_or-append_right, length-append}
use Rattle.std.proofs.lemmas.List.Elements.{filter-append}
use Rattle.std.proofs.lemmas.List.Sums.{sum_by-append}
use Rattle.mg_defs.specs.declared.Posting.{Posting}
use Rattle.mg_defs.specs.declared.Stream.{Stream}
use Rattle.mg_defs.specs.Split.{documents, has_open_end}
use Rattle.mg_defs.specs.Sorted.{sorted_distinct}
use Rattle.mg_defs.specs.Terms.{terms, docs, document, freq_in, all_terms, dictionary, same_term, term_number}
use Rattle.mg_defs.specs.Vocabulary.{all_pieces, pieces_in, sorted_pieces, count_in}
use Rattle.mg_defs.specs.Weights.{weight}
use Rattle.mg_defs.specs.Lists.{postings}
use Rattle.mg_defs.specs.Join.{join, moved, carried}
use Rattle.mg_defs.specs.Occurrences.{occurrences}
use Rattle.std.proofs.lemmas.List.Folds.{list_any-append}
use Rattle.std.proofs.lemmas.List.{get_or_default}
use Rattle.std.proofs.lemmas.List.Elements.{Contains-append_left, Contains-append_right}
use Rattle.mg_defs.proofs.SortedLaws.{has-sorted, sorted-rising, rising-unique}
use Rattle.mg_defs.proofs.TermLaws.{document_is, term-number}

-- ---- documents

some_documents : (b : ℕ) (bytes : List ℕ) → 0 < length (documents (b ∷ bytes))
some_documents b bytes = elim (cases_Bool (b == 2)) [ inl is ↦ rw is (omega arith) | inr isnt ↦ rw isnt (by (documents bytes)) ]
  where
    by : (docs : List (List ℕ)) → 0 < length (onto_first b docs)
    by [] = omega arith
    by (doc ∷ docs) = omega arith

onto_both : (b : ℕ) (xs ys : List (List ℕ)) → 0 < length xs → onto_first b (xs ++ ys) ≡ onto_first b xs ++ ys
onto_both b [] ys h = elim h [ ]
onto_both b (x ∷ xs) ys h = refl

pub documents_joined : (a b : List ℕ) → documents (join a b) ≡ documents a ++ documents b
unfolding join
documents_joined [] b = refl
documents_joined (x ∷ []) b = elim (cases_Bool (x == 2)) [ inl is ↦ rw is refl | inr isnt ↦ rw isnt refl ]
documents_joined (x ∷ c ∷ a) b =
    let more = documents_joined (c ∷ a) b in
    elim (cases_Bool (x == 2)) [
      | inl is ↦ rw is (ap (λ (docs : List (List ℕ)). [] ∷ docs) more)
      | inr isnt ↦ rw isnt (ap (onto_first x) more ∙ onto_both x (documents (c ∷ a)) (documents b) (some_documents c a))
    ]

closed_end : (b : List ℕ) → has_open_end (2 ∷ b) ≡ has_open_end b
closed_end [] = refl
closed_end (c ∷ b) = refl

pub end_joined : (a b : List ℕ) → has_open_end (join a b) ≡ has_open_end b
unfolding join
end_joined [] b = refl
end_joined (x ∷ []) b = elim (cases_eq x 2) [ inl is ↦ rw is (closed_end b) | inr ne ↦ rw (ne_eqb x 2 ne) (closed_end b) ]
end_joined (x ∷ c ∷ a) b = end_joined (c ∷ a) b

pub count_joined : (a b : List ℕ) → length (documents (join a b)) ≡ length (documents a) + length (documents b)
count_joined a b = ap length (documents_joined a b) ∙ length-append (documents a) (documents b)

pub size_joined : (a b : List ℕ) → length (join a b) ≡ length a + length b + cond (has_open_end a) 1 0
unfolding join
size_joined a b = length-append a _ ∙ by (has_open_end a)
  where
    by : (open_end : Bool) → length a + length (cond open_end (2 ∷ []) [] ++ b) ≡ length a + length b + cond open_end 1 0
    by true = omega arith
    by false = omega arith

-- ---- pieces and terms

pub pieces_joined : (kind : Stream) (a b : List ℕ) → all_pieces kind (join a b) ≡ all_pieces kind a ++ all_pieces kind b
pieces_joined kind a b = ap (flat_map (pieces_in kind)) (documents_joined a b) ∙ flat_map-append (pieces_in kind) (documents a) (documents b)

pub terms_joined : (a b : List ℕ) → all_terms (join a b) ≡ all_terms a ++ all_terms b
terms_joined a b = ap (flat_map terms) (documents_joined a b) ∙ flat_map-append terms (documents a) (documents b)

pub counts_joined : (kind : Stream) (a b piece : List ℕ) → count_in (all_pieces kind (join a b)) piece ≡ count_in (all_pieces kind a) piece + count_in (all_pieces kind b) piece
counts_joined kind a b piece = ap (λ ps. count_in ps piece) (pieces_joined kind a b) ∙ sum_by-append _ (all_pieces kind a) (all_pieces kind b)

pub docs_joined : (a b t : List ℕ) → docs (join a b) t ≡ docs a t + docs b t
docs_joined a b t = ap (count_by (λ doc. list_any (same_term t) (terms doc))) (documents_joined a b) ∙ sum_by-append _ (documents a) (documents b)

pub weights_joined : (a b : List ℕ) → map weight (documents (join a b)) ≡ map weight (documents a) ++ map weight (documents b)
weights_joined a b = ap (map weight) (documents_joined a b) ∙ map-append weight (documents a) (documents b)

-- ---- lists

term_list : {X : Type 0} → (n : ℕ) (xs ys : List X) → enumerate_from n (xs ++ ys) ≡ enumerate_from n xs ++ enumerate_from (n + length xs) ys
term_list n [] ys = let same : n + 0 ≡ n = omega arith in rw same refl
term_list n (x ∷ xs) ys = let same : n + 1 + length xs ≡ n + suc (length xs) = omega arith in ap (λ r. (n, x) ∷ r) (term_list (n + 1) xs ys ∙ rw same refl)

abbrev of_doc : List ℕ → ℕ × List ℕ → Posting
of_doc t d = record { doc = d.0; freq = freq_in d.1 t }

abbrev has_it : Posting → Bool
has_it p = nat_lt 0 p.freq

abbrev listed : List ℕ → ℕ → List (List ℕ) → List Posting
listed t n ds = filter has_it (map (of_doc t) (enumerate_from n ds))

listed_moved : (t : List ℕ) (before n : ℕ) (ds : List (List ℕ)) → listed t (before + n) ds ≡ map (moved before) (listed t n ds)
listed_moved t before n [] = refl
listed_moved t before n (d ∷ ds) =
    let same : before + n + 1 ≡ before + (n + 1) = omega arith in
    let more : listed t (before + n + 1) ds ≡ map (moved before) (listed t (n + 1) ds) = rw same (listed_moved t before (n + 1) ds) in
    elim (cases_Bool (nat_lt 0 (freq_in d t))) [
      | inl is ↦ rw is (ap (λ r. of_doc t (before + n, d) ∷ r) more)
      | inr isnt ↦ rw isnt more
    ]

pub postings_joined : (a b t : List ℕ) → postings (join a b) t ≡ postings a t ++ map (moved (length (documents a))) (postings b t)
postings_joined a b t =
    let same : 1 + length (documents a) ≡ length (documents a) + 1 = omega arith in
    ap (listed t 1) (documents_joined a b)
    ∙ (ap (λ e. filter has_it (map (of_doc t) e)) (term_list 1 (documents a) (documents b))
    ∙ (ap (filter has_it) (map-append (of_doc t) (enumerate_from 1 (documents a)) (enumerate_from (1 + length (documents a)) (documents b)))
    ∙ (filter-append has_it (map (of_doc t) (enumerate_from 1 (documents a))) (map (of_doc t) (enumerate_from (1 + length (documents a)) (documents b)))
    ∙ ap (λ r. postings a t ++ r) (rw same (listed_moved t (length (documents a)) 1 (documents b))))))

-- ---- the dictionary, and distinct pieces

abbrev has : List (List ℕ) → List ℕ → Bool
has strings s = list_any (same_term s) strings

same_sorted : (xs ys : List (List ℕ)) → ((s : List ℕ) → has xs s ≡ has ys s) → sorted_distinct xs ≡ sorted_distinct ys
same_sorted xs ys same = rising-unique (sorted_distinct xs) (sorted_distinct ys) (sorted-rising xs) (sorted-rising ys)
    (λ s h. has-sorted ys s ∙ (sym (same s) ∙ (sym (has-sorted xs s) ∙ h)))
    (λ s h. has-sorted xs s ∙ (same s ∙ (sym (has-sorted ys s) ∙ h)))

-- what two lists have in order is what their orders have
pub sorted_joined : (xs ys : List (List ℕ)) → sorted_distinct (xs ++ ys) ≡ sorted_distinct (sorted_distinct xs ++ sorted_distinct ys)
sorted_joined xs ys = same_sorted (xs ++ ys) (sorted_distinct xs ++ sorted_distinct ys) (λ s.
    list_any-append (same_term s) xs ys ∙ (rw (sym (has-sorted xs s), sym (has-sorted ys s)) refl ∙ sym (list_any-append (same_term s) (sorted_distinct xs) (sorted_distinct ys))))

pub dictionary_joined : (a b : List ℕ) → dictionary (join a b) ≡ sorted_distinct (dictionary a ++ dictionary b)
dictionary_joined a b = ap sorted_distinct (terms_joined a b) ∙ sorted_joined (all_terms a) (all_terms b)

pub sorted_pieces_joined : (kind : Stream) (a b : List ℕ) → sorted_pieces kind (join a b) ≡ sorted_distinct (sorted_pieces kind a ++ sorted_pieces kind b)
sorted_pieces_joined kind a b = ap sorted_distinct (pieces_joined kind a b) ∙ sorted_joined (all_pieces kind a) (all_pieces kind b)

-- ---- a document by its number

pub first_document : (a b : List ℕ) (d : ℕ) → 1 ≤ d → d ≤ length (documents a) → document (join a b) d ≡ document a d
first_document a b d l m =
    document_is (join a b) d l ∙ ap (λ docs. get_or docs (d - 1) []) (documents_joined a b)
    ∙ get_or_append_left (documents a) (documents b) [] (d - 1) (omega (arith, l, m)) ∙ sym (document_is a d l)

pub second_document : (a b : List ℕ) (d : ℕ) → 1 ≤ d → document (join a b) (length (documents a) + d) ≡ document b d
second_document a b d l =
    let same : length (documents a) + d - 1 - length (documents a) ≡ d - 1 = omega (arith, l) in
    document_is (join a b) (length (documents a) + d) (omega (arith, l)) ∙ ap (λ docs. get_or docs (length (documents a) + d - 1) []) (documents_joined a b)
    ∙ (get_or-append_right (documents a) (documents b) (length (documents a)) (length (documents a) + d - 1) [] refl (omega (arith, l)) ∙ rw same refl)
    ∙ sym (document_is b d l)

-- ---- occurrences

abbrev in_doc : (List ℕ → ℕ) → ℕ × List ℕ → List (ℕ × ℕ)
in_doc number d = map (λ t. (number t, d.0)) (terms d.1)

abbrev occs : (List ℕ → ℕ) → ℕ → List (List ℕ) → List (ℕ × ℕ)
occs number n ds = flat_map (in_doc number) (enumerate_from n ds)

words_carried : (number other : List ℕ → ℕ) (f : ℕ → ℕ) (before n : ℕ) (ts : List (List ℕ)) → ((t : List ℕ) → Contains ts t → other t ≡ f (number t)) →
    map {B = ℕ × ℕ} (λ t. (other t, before + n)) ts ≡ map {B = ℕ × ℕ} (λ (o : ℕ × ℕ). (f o.0, before + o.1)) (map {B = ℕ × ℕ} (λ t. (number t, n)) ts)
words_carried number other f before n [] h = refl
words_carried number other f before n (t ∷ ts) h =
    let first = h t (0, omega arith, refl) in
    let rest = words_carried number other f before n ts (λ u c. h u (suc c.0, omega (arith, c.1), c.2)) in
    λ i. (first i, before + n) ∷ rest i

occs_carried : (number other : List ℕ → ℕ) (f : ℕ → ℕ) (before n : ℕ) (ds : List (List ℕ)) →
    ((t : List ℕ) → Contains (flat_map terms ds) t → other t ≡ f (number t)) → occs other (before + n) ds
    ≡ map {B = ℕ × ℕ} (λ (o : ℕ × ℕ). (f o.0, before + o.1)) (occs number n ds)
occs_carried number other f before n [] h = refl
occs_carried number other f before n (d ∷ ds) h =
    let carry : ℕ × ℕ → ℕ × ℕ = λ o. (f o.0, before + o.1) in
    let same : before + n + 1 ≡ before + (n + 1) = omega arith in
    let whole = flat_map-append terms (d ∷ []) ds in
    let first = words_carried number other f before n (terms d) (λ t c. h t (there_left d ds t c)) in
    let rest : occs other (before + n + 1) ds ≡ map carry (occs number (n + 1) ds) = rw same (occs_carried number other f before (n + 1) ds (λ t c. h t (there_right d ds t c))) in
    flat_map-append (in_doc other) ((before + n, d) ∷ []) (enumerate_from (before + n + 1) ds)
    ∙ (rw (append-nil (in_doc other (before + n, d)), first, rest) (sym (map-append carry (in_doc number (n, d)) (occs number (n + 1) ds))
    ∙ ap (map carry) (sym (flat_map-append (in_doc number) ((n, d) ∷ []) (enumerate_from (n + 1) ds) ∙ rw (append-nil (in_doc number (n, d))) refl))))
  where
    cons_terms : (d : List ℕ) (ds : List (List ℕ)) → flat_map terms (d ∷ ds) ≡ terms d ++ flat_map terms ds
    cons_terms d ds = flat_map-append terms (d ∷ []) ds ∙ rw (append-nil (terms d)) refl

    there_left : (d : List ℕ) (ds : List (List ℕ)) (t : List ℕ) → Contains (terms d) t → Contains (flat_map terms (d ∷ ds)) t
    there_left d ds t c = rw (cons_terms d ds) (Contains-append_left (terms d) (flat_map terms ds) t c)

    there_right : (d : List ℕ) (ds : List (List ℕ)) (t : List ℕ) → Contains (flat_map terms ds) t → Contains (flat_map terms (d ∷ ds)) t
    there_right d ds t c = rw (cons_terms d ds) (Contains-append_right (terms d) (flat_map terms ds) t c)

number_back : (c t : List ℕ) → Contains (all_terms c) t → get_or (dictionary c) (term_number c t) [] ≡ t
number_back c t h = let n = term-number c t h in get_or_default (dictionary c) (term_number c t) [] t n.0 ∙ n.1

pub occurrences_joined : (a b : List ℕ) → occurrences (join a b) ≡ map (carried a (join a b) 0) (occurrences a) ++ map (carried b (join a b) (length (documents a))) (occurrences b)
occurrences_joined a b =
    let number = term_number (join a b) in
    let zero_first : 0 + 1 ≡ 1 = refl in
    let same : 1 + length (documents a) ≡ length (documents a) + 1 = omega arith in
    let first = occs_carried (term_number a) number (λ n. number (get_or (dictionary a) n [])) 0 1 (documents a) (λ t c. ap number (sym (number_back a t c))) in
    let second = occs_carried (term_number b) number (λ n. number (get_or (dictionary b) n [])) (length (documents a)) 1 (documents b) (λ t c. ap number (sym (number_back b t c))) in
    ap (occs number 1) (documents_joined a b)
    ∙ (ap (flat_map (in_doc number)) (term_list 1 (documents a) (documents b))
    ∙ (flat_map-append (in_doc number) (enumerate_from 1 (documents a)) (enumerate_from (1 + length (documents a)) (documents b))
    ∙ (rw same (ap (λ x. x ++ occs number (length (documents a) + 1) (documents b)) first ∙ ap (λ y. map (carried a (join a b) 0) (occurrences a) ++ y) second))))
