-- How large a collection's numbers are at most, and that they are within the ranges of a head.
use Rattle.std.proofs.Common.{arith, ◌≡◌, ◌+◌, ◌-◌, ◌*◌, ◌/◌, ◌%◌, ◌^◌, ◌≤◌, ◌<◌, ◌==◌, ℕ, zero, suc, Bool, true, false, cond, List, [], ◌∷◌, length, map, sum_by, get_or, drop, refl, sym, ap, ◌∙◌, nat_le, nat_lt, length-append, add-mul, one-mul, zero-mul, div-le_self}
use Rattle.std.specs.Prelude.{sum}
use Rattle.std.specs.List.{flat_map, AllByRecursion}
use Rattle.std.specs.Int.{div_ceil}
use Rattle.std.specs.Simd.{first_chunks}
use Rattle.mg_defs.specs.Runs.{runs_of}
use Rattle.std.proofs.lemmas.Bool.{cond_both, false≢true}
use Rattle.std.proofs.lemmas.Nat.{mul-le}
use Rattle.std.proofs.lemmas.List.{length-map}
use Rattle.std.proofs.lemmas.List.Sums.{sum_by-cons}
use Rattle.mg_defs.specs.declared.Posting.{Posting}
use Rattle.mg_defs.specs.declared.TermPosting.{TermPosting}
use Rattle.mg_defs.specs.Bits.{digits, filled, as_bytes}
use Rattle.mg_defs.specs.Canon.{AreGood, AreCodeLengths, codeword, codeword_value}
use Rattle.mg_defs.specs.Codes.{gamma, golomb, golomb_parameter, unary, log2, log2_below, ceil_log2}
use Rattle.mg_defs.specs.CodedText.{IsTextCode, TextCode, coded_doc, coded_pair, codeword_of, text_part}
use Rattle.mg_defs.specs.Fixed.{isqrt, root_from}
use Rattle.mg_defs.specs.Heads.{run_count}
use Rattle.mg_defs.specs.Limits.{limits}
use Rattle.mg_defs.specs.PostingLists.{by_terms, term_list}
use Rattle.mg_defs.specs.WithinLimits.{IsWithinLimits}
use Rattle.mg_defs.specs.Lists.{bits_after, bits_of_list, block_count, entries_of_list, inverted, lists_bits, lists_entries, post_bits, posting_bits, postings}
use Rattle.mg_defs.specs.Marks.{pair_counts}
use Rattle.mg_defs.specs.Occurrences.{occurrences}
use Rattle.mg_defs.specs.Parse.{Pair, parse}
use Rattle.mg_defs.specs.Postings as runs
use Rattle.mg_defs.specs.Sorted.{number_of, sorted_distinct}
use Rattle.mg_defs.specs.Split.{documents}
use Rattle.mg_defs.specs.Terms.{all_terms, dictionary, terms}
use Rattle.mg_defs.specs.Weights.{wd, weight}
use Rattle.mg_defs.proofs.BitLaws.{length_digits}
use Rattle.mg_defs.proofs.CodeLaws.{length_golomb, length_short, length_unary_after}
use Rattle.mg_defs.proofs.CodedTextLaws.{length-as_bytes}
use Rattle.mg_laws.proofs.InOrderLaws.{posting_in, is_there, list_from, met_from, postings_are_lists}
use Rattle.mg_defs.proofs.ListLaws.{length_entries_to, terms_short}
use Rattle.mg_defs.proofs.ParseLaws.{parse_short}
use Rattle.mg_defs.proofs.SortedLaws.{distinct_short}
use Rattle.mg_defs.proofs.SplitLaws.{docs_within}
use Rattle.mg_laws.proofs.WholeBytes.{length_filled}

-- ---- occurrences

met_short : (number : List ℕ → ℕ) (n : ℕ) (ds : List (List ℕ)) → length (met_from number n ds) ≤ sum_by (λ (d : List ℕ). length d) ds
met_short number n [] = omega arith
met_short number n (doc ∷ ds) =
    omega (
      arith,
      length-append (map (λ t. (number t, n)) (terms doc)) (met_from number (n + 1) ds),
      length-map {B = ℕ × ℕ} (terms doc) (λ t. (number t, n)),
      terms_short doc,
      met_short number (n + 1) ds,
      sum_by-cons (λ (d : List ℕ). length d) doc ds,
    )

pub few_occurrences : (collection : List ℕ) → length (occurrences collection) ≤ length collection
few_occurrences collection = omega (arith, met_short (number_of (dictionary collection)) 1 (documents collection), docs_within collection)

met_terms : (number : List ℕ → ℕ) (n : ℕ) (ds : List (List ℕ)) → length (met_from number n ds) ≡ length (flat_map terms ds)
met_terms number n [] = refl
met_terms number n (doc ∷ ds) =
    omega (
      arith,
      length-append (map (λ t. (number t, n)) (terms doc)) (met_from number (n + 1) ds),
      length-map {B = ℕ × ℕ} (terms doc) (λ t. (number t, n)),
      length-append (terms doc) (flat_map terms ds),
      met_terms number (n + 1) ds,
    )

-- as many as there are terms, each as often as it comes
pub occurrences_are_terms : (collection : List ℕ) → length (occurrences collection) ≡ length (all_terms collection)
occurrences_are_terms collection = met_terms (number_of (dictionary collection)) 1 (documents collection)

pub few_terms : (collection : List ℕ) → length (dictionary collection) ≤ length (occurrences collection)
few_terms collection = omega (arith, distinct_short (all_terms collection), occurrences_are_terms collection)

-- ---- pairs

pairs_short : (ds : List (List ℕ)) → sum (map (λ doc. length (parse doc)) ds) ≤ sum_by (λ (d : List ℕ). length d) ds
pairs_short [] = omega arith
pairs_short (doc ∷ ds) = omega (arith, parse_short doc, pairs_short ds, sum_by-cons (λ (d : List ℕ). length d) doc ds, sum_of_cons (length (parse doc)) (map (λ d. length (parse d)) ds))
  where
    sum_of_cons : (n : ℕ) (ns : List ℕ) → sum (n ∷ ns) ≡ n + sum ns
    sum_of_cons n ns = sum_by-cons (λ x. x) n ns

pub few_pairs : (collection : List ℕ) → sum (pair_counts collection) ≤ length collection
few_pairs collection = omega (arith, pairs_short (documents collection), docs_within collection)

-- ---- postings

added_short : (e : TermPosting) (xs : List TermPosting) → length (runs.added e xs) ≤ length xs + 1
added_short e [] = omega arith
added_short e (x ∷ xs) =
    let more = added_short e xs in
    let at_most : List TermPosting → Type 0 = λ l. length l ≤ length (x ∷ xs) + 1 in
    cond_both (nat_lt e.term x.term) _ _ at_most (λ _. omega arith)
    (λ _. cond_both (nat_lt x.term e.term) _ _ at_most (λ _. omega (arith, more))
    (λ _. cond_both (nat_lt e.doc x.doc) _ _ at_most (λ _. omega arith)
    (λ _. cond_both (nat_lt x.doc e.doc) _ _ at_most (λ _. omega (arith, more)) (λ _. omega arith))))

gathered_short : (xs : List TermPosting) → length (runs.gathered xs) ≤ length xs
gathered_short [] = omega arith
gathered_short (x ∷ xs) = omega (arith, added_short x (runs.gathered xs), gathered_short xs)

order_long : (m : ℕ) (lists : List (List Posting)) → length (by_terms m lists) ≡ sum_by (λ (ps : List Posting). length ps) lists
order_long m [] = refl
order_long m (ps ∷ lists) =
    omega (
      arith,
      length-append (term_list m ps) (by_terms (m + 1) lists),
      length-map {B = TermPosting} ps (λ (p : Posting). record { term = m; doc = p.doc; count = p.freq }),
      order_long (m + 1) lists,
      sum_by-cons (λ (qs : List Posting). length qs) ps lists,
    )

-- no more postings than occurrences
pub few_postings : (collection : List ℕ) → sum_by (λ (ps : List Posting). length ps) (inverted collection) ≤ length (occurrences collection)
few_postings collection =
    omega (
      arith,
      order_long 0 (inverted collection),
      ap length (postings_are_lists collection),
      gathered_short (map runs.once (occurrences collection)),
      length-map (occurrences collection) runs.once,
    )

-- ---- skip entries

entries_short : (all : ℕ) (lists : List (List Posting)) → length (flat_map (entries_of_list all) lists) ≤ sum_by (λ (ps : List Posting). length ps) lists
entries_short all [] = omega arith
entries_short all (ps ∷ lists) =
    omega (
      arith,
      length-append (entries_of_list all ps) (flat_map (entries_of_list all) lists),
      length_entries_to (golomb_parameter all (length ps)) (block_count (length ps)) ps,
      entries_short all lists,
      sum_by-cons (λ (qs : List Posting). length qs) ps lists,
    )

pub few_entries : (collection : List ℕ) → length (lists_entries (length (documents collection)) (inverted collection)) ≤ length (occurrences collection)
unfolding lists_entries
few_entries collection = omega (arith, entries_short (length (documents collection)) (inverted collection), few_postings collection)

-- ---- the bits of lists

log_short : (n x : ℕ) → log2_below (suc n) x ≤ n
log_short zero x = cond_both (nat_le (2 ^ 0) x) 0 (log2_below 0 x) (λ e. e ≤ 0) (λ _. omega arith) (λ _. omega arith)
log_short (suc n) x = cond_both (nat_le (2 ^ suc n) x) (suc n) (log2_below (suc n) x) (λ e. e ≤ suc n) (λ _. omega arith) (λ _. omega (arith, log_short n x))

pub gamma_short : (x : ℕ) → length (gamma x) ≤ 127
unfolding gamma
gamma_short x =
    let few : log2 x ≤ 63 = log_short 63 x in
    omega (arith, length-append (unary (1 + log2 x)) (digits (log2 x) (x - 2 ^ log2 x)), length_unary_after (log2 x), length_digits (log2 x) (x - 2 ^ log2 x), few)

ceil_short : (b : ℕ) → ceil_log2 b ≤ 64
unfolding ceil_log2
ceil_short b = cond_both (nat_le b 1) 0 (1 + log2 (b - 1)) (λ k. k ≤ 64) (λ _. omega arith) (λ _. omega (arith, log_short 63 (b - 1)))

golomb_small : (b x : ℕ) → length (golomb b x) ≤ 65 + x
golomb_small b x = omega (arith, length_golomb b x, (length_short b ((x - 1) % b)).1, ceil_short b, div-le_self (x - 1) b)

posting_small : (b before all : ℕ) (p : Posting) → p.doc ≤ all → length (posting_bits b before p) ≤ all + 192
unfolding posting_bits
posting_small b before all p le = omega (arith, length-append (golomb b (p.doc - before)) (gamma p.freq), golomb_small b (p.doc - before), gamma_short p.freq, le)

abbrev UpTo : ℕ → List Posting → Type 0
UpTo all ps = AllByRecursion (λ (p : Posting). p.doc ≤ all) ps

-- each posting takes at most so many bits
bits_small : (b before all : ℕ) (ps : List Posting) → UpTo all ps → length (bits_after b before ps) ≤ length ps * (all + 192)
unfolding bits_after
bits_small b before all [] h = omega (arith, zero-mul (all + 192))
bits_small b before all (p ∷ ps) h =
    let one : length (p ∷ ps) * (all + 192) ≡ 1 * (all + 192) + length ps * (all + 192) = ap (λ n. n * (all + 192)) (plus (length ps)) ∙ add-mul 1 (length ps) (all + 192) in
    omega (arith, length-append (posting_bits b before p) (bits_after b p.doc ps), posting_small b before all p h.0, bits_small b p.doc all ps h.1, one, one-mul (all + 192))
  where
    plus : (n : ℕ) → suc n ≡ 1 + n
    plus n = omega arith

lists_small : (all : ℕ) (lists : List (List Posting)) → AllByRecursion (UpTo all) lists →
    length (flat_map (λ ps. filled (bits_of_list all ps)) lists) ≤ sum_by (λ (ps : List Posting). length ps) lists * (all + 192) + 7 * length lists
lists_small all [] h = omega arith
lists_small all (ps ∷ lists) h =
    let n = sum_by (λ (qs : List Posting). length qs) lists in
    let sum : sum_by (λ (qs : List Posting). length qs) (ps ∷ lists) * (all + 192) ≡ length ps * (all + 192) + n * (all + 192) =
    ap (λ k. k * (all + 192)) (sum_by-cons (λ (qs : List Posting). length qs) ps lists) ∙ add-mul (length ps) n (all + 192) in
    omega (
      arith,
      length-append (filled (bits_of_list all ps)) (flat_map (λ qs. filled (bits_of_list all qs)) lists),
      length_filled (bits_of_list all ps),
      length-as_bytes (bits_of_list all ps),
      bits_small (golomb_parameter all (length ps)) 0 all ps h.0,
      lists_small all lists h.1,
      sum,
    )

list_upto : (t : List ℕ) (n all : ℕ) (ds : List (List ℕ)) → n + length ds ≤ all + 1 → UpTo all (list_from t n ds)
list_upto t n all [] le = tt
list_upto t n all (doc ∷ ds) le =
    let rest = list_from t (n + 1) ds in
    cond_both (is_there (posting_in t (n, doc))) (posting_in t (n, doc) ∷ rest) rest (UpTo all)
    (λ _. (omega (arith, le), list_upto t (n + 1) all ds (omega (arith, le)))) (λ _. list_upto t (n + 1) all ds (omega (arith, le)))

each_upto : (collection : List ℕ) (ts : List (List ℕ)) → AllByRecursion (UpTo (length (documents collection))) (map (postings collection) ts)
each_upto collection [] = tt
each_upto collection (t ∷ ts) = (list_upto t 1 (length (documents collection)) (documents collection) (omega arith), each_upto collection ts)

-- each occurrence takes at most as many bits as there are documents, and 199 more
pub few_post_bits : (collection : List ℕ) → length (post_bits collection) ≤ length (occurrences collection) * (length (documents collection) + 199)
unfolding lists_bits
few_post_bits collection =
    let all = length (documents collection) in
    let n = length (occurrences collection) in
    let k = sum_by (λ (ps : List Posting). length ps) (inverted collection) in
    let less : k * (all + 192) ≤ n * (all + 192) = mul-le k (all + 192) n (all + 192) (few_postings collection) (omega arith) in
    let split : n * (all + 199) ≡ n * (all + 192) + n * 7 = ap (λ x. n * x) (plus all) ∙ sums n (all + 192) in
    omega (arith, lists_small all (inverted collection) (each_upto collection (dictionary collection)), less, split, length-map (dictionary collection) (postings collection), few_terms collection)
  where
    plus : (x : ℕ) → x + 199 ≡ x + 192 + 7
    plus x = omega arith

    sums : (n x : ℕ) → n * (x + 7) ≡ n * x + n * 7
    sums n x = grind arith

-- ---- the bytes of the text

within_at : (lengths : List ℕ) (s : ℕ) → AreCodeLengths lengths → get_or lengths s 0 ≤ 48
within_at [] s all = omega arith
within_at (l ∷ lengths) zero all = all.0.1
within_at (l ∷ lengths) (suc s) all = within_at lengths s all.1

pub codeword_short : (lengths : List ℕ) (s : ℕ) → AreGood lengths → length (codeword lengths s) ≤ 48
codeword_short [] s good = omega arith
codeword_short (l ∷ []) s good = omega arith
codeword_short (l ∷ m ∷ lengths) s good = omega (arith, length_digits (get_or (l ∷ m ∷ lengths) s 0) (codeword_value (l ∷ m ∷ lengths) s), within_at (l ∷ m ∷ lengths) s good.0)

pairs_small : (code : TextCode) (ps : List Pair) → AreGood code.words.lengths → AreGood code.others.lengths → length (flat_map (coded_pair code) ps) ≤ 96 * length ps
pairs_small code [] words others = omega arith
pairs_small code (p ∷ ps) words others =
    omega (
      arith,
      length-append (coded_pair code p) (flat_map (coded_pair code) ps),
      length-append (codeword_of code.words p.word) (codeword_of code.others p.other),
      codeword_short code.words.lengths (number_of code.words.pieces p.word) words,
      codeword_short code.others.lengths (number_of code.others.pieces p.other) others,
      pairs_small code ps words others,
    )

docs_small : (code : TextCode) (ds : List (List ℕ)) → AreGood code.words.lengths → AreGood code.others.lengths →
    8 * length (flat_map (λ doc. as_bytes (coded_doc code doc)) ds) ≤ 96 * sum_by (λ (d : List ℕ). length d) ds + 134 * length ds
docs_small code [] words others = omega arith
docs_small code (doc ∷ ds) words others =
    omega (
      arith,
      length-append (as_bytes (coded_doc code doc)) (flat_map (λ d. as_bytes (coded_doc code d)) ds),
      length-as_bytes (coded_doc code doc),
      length-append (gamma (length (parse doc) + 1)) (flat_map (coded_pair code) (parse doc)),
      gamma_short (length (parse doc) + 1),
      pairs_small code (parse doc) words others,
      parse_short doc,
      docs_small code ds words others,
      sum_by-cons (λ (d : List ℕ). length d) doc ds,
    )

-- twelve bytes for each byte of the collection, and seventeen for each document
pub few_text_bytes : (code : TextCode) (collection : List ℕ) → IsTextCode collection code → length (text_part code collection) ≤ 12 * length collection + 17 * length (documents collection)
few_text_bytes code collection is =
    omega (arith, docs_small code (documents collection) is.0.lengths.good is.1.lengths.good, docs_within collection)

-- ---- weights

root_small : (n r s : ℕ) → root_from n r s < r + 2 ^ n
unfolding root_from
root_small zero r s = omega arith
root_small (suc n) r s =
    let two : 2 ^ suc n ≡ 2 ^ n + 2 ^ n = omega arith in
    cond_both (nat_le ((r + 2 ^ n) * (r + 2 ^ n)) s) (r + 2 ^ n) r (λ x. root_from n x s < r + 2 ^ suc n)
    (λ _. omega (arith, root_small n (r + 2 ^ n) s, two)) (λ _. omega (arith, root_small n r s, two))

pub weight_small : (doc : List ℕ) → weight doc < 2 ^ 32
unfolding weight isqrt
weight_small doc = omega (arith, root_small 32 0 (sum_by (λ t. wd doc t * wd doc t) (sorted_distinct (terms doc))))

-- ---- runs

-- both forms of the number of runs
pub runs_in_one_form : (n cap : ℕ) → 1 ≤ cap → (n + cap - 1) / cap ≡ div_ceil n cap
runs_in_one_form n cap some = grind arith

-- ---- a head

pub record Sizes (version : ℕ) (collection : List ℕ) : Type 0 where
  pub bytes : length collection ≤ 2 ^ 32 - 1
  pub few : length (documents collection) ≤ 2 ^ 24
  pub narrow : version ≡ 1 → (length collection ≤ 2 ^ 28) × (length (documents collection) ≤ 2 ^ 20)

pub sizes_of : (version : ℕ) (collection : List ℕ) → IsWithinLimits version collection → Sizes version collection
sizes_of version collection is = by_version (version == 1) refl is.bytes is.documents
  where
    by_version : (b : Bool) → (version == 1) ≡ b → length collection ≤ (cond b (limits 1) (limits 2)).collection →
        length (documents collection) ≤ (cond b (limits 1) (limits 2)).documents → Sizes version collection
    by_version true e bytes docs = record { bytes = omega (arith, bytes); few = omega (arith, docs); narrow = λ _. (bytes, docs) }
    by_version false e bytes docs = record { bytes = bytes; few = docs; narrow = λ one. absurd (false≢true (sym e ∙ ap (λ v. v == 1) one)) }

few_bits : (n docs bits : ℕ) → n ≤ 2 ^ 32 - 1 → docs ≤ 2 ^ 24 → bits ≤ n * (docs + 199) → bits < 2 ^ 57
few_bits n docs bits small few most =
    let product : n * (docs + 199) ≤ (2 ^ 32 - 1) * (2 ^ 24 + 199) = mul-le n (docs + 199) (2 ^ 32 - 1) (2 ^ 24 + 199) small (omega (arith, few)) in
    omega (arith, product, most)

-- the places in lists within the limits
pub post_places_fit : (version : ℕ) (collection : List ℕ) → IsWithinLimits version collection → length (post_bits collection) < 2 ^ 57
post_places_fit version collection is =
    let sizes = sizes_of version collection is in
    few_bits (length (occurrences collection)) (length (documents collection)) (length (post_bits collection))
    (omega (arith, few_occurrences collection, sizes.bytes)) sizes.few (few_post_bits collection)

pub text_places_fit : (version : ℕ) (code : TextCode) (collection : List ℕ) → IsWithinLimits version collection → IsTextCode collection code → 8 * length (text_part code collection) < 2 ^ 39
text_places_fit version code collection is coded =
    let sizes = sizes_of version collection is in
    omega (arith, few_text_bytes code collection coded, sizes.bytes, sizes.few)

-- so many runs
pub runs_are_counted : (cap : ℕ) (s : List (ℕ × ℕ)) → 1 ≤ cap → length (runs_of cap s) ≡ run_count (length s) cap
runs_are_counted cap s some =
    length-map (first_chunks cap ((length s + cap - 1) / cap) s) runs.term_postings ∙ chunks_long cap ((length s + cap - 1) / cap) s ∙ runs_in_one_form (length s) cap some
  where
    chunks_long : (cap n : ℕ) (s : List (ℕ × ℕ)) → length (first_chunks cap n s) ≡ n
    chunks_long cap zero s = refl
    chunks_long cap (suc n) s = omega (arith, chunks_long cap n (drop cap s))
