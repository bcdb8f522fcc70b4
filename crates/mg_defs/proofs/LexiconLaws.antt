-- Laws of the lexicon.
use Rattle.std.proofs.Common.{arith, ◌≡◌, ◌≤◌, ◌<◌, ◌+◌, ◌==◌, ◌||◌, ℕ, Bool, true, List, [], ◌∷◌, ◌++◌, length, length-append, map, get_or, refl, sym, ◌∙◌, ap, inl, inr, Some, slice_get, zero, suc}
use Rattle.std.specs.List.{AllByRecursion, enumerate_from, flat_map, list_any}
use Rattle.std.specs.List.Sorted.{IsStrictlySortedBy}
use Rattle.std.specs.Ordering.{nat_cmp, is_lt}
use Rattle.std.specs.declared.cmp.Ordering.TheVariants.{Less}
use Rattle.std.specs.Cmp.Lexicographic.{slice_cmp}
use Rattle.std.specs.Str.{bytes_eq}
use Rattle.std.proofs.lemmas.Bool.{or_cases, or_left, or_right, false≢true, cases_Bool}
use Rattle.std.proofs.lemmas.List.{length-map}
use Rattle.std.proofs.lemmas.Option.{slice_get_within, slice_get-get_or}
use Rattle.std.proofs.lemmas.List.Folds.{list_any-append}
use Rattle.std.proofs.lemmas.List.FromFn.{length-enumerate_from}
use Rattle.mg_defs.specs.Numbers.{four, eight}
use Rattle.mg_defs.specs.Split.{documents}
use Rattle.mg_defs.specs.Parse.{Pair, ArePairs, parse}
use Rattle.mg_defs.specs.Terms.{folded, is_empty, terms_of_words, terms, all_terms, dictionary}
use Rattle.mg_defs.specs.Front.{Entry, AreEntries, is_below}
use Rattle.mg_defs.specs.Lexicon.{TermInfo, info_bytes, info_of, lexicon}
use Rattle.mg_defs.proofs.SortedLaws.{same-is, same-refl, has-sorted, sorted-rising}
use Rattle.mg_defs.proofs.ParseLaws.{parse-is}
use Rattle.mg_defs.proofs.FrontParts.{four_long}

abbrev has : List (List ℕ) → List ℕ → Bool
has strings s = list_any (bytes_eq s) strings

abbrev rises_from : List ℕ → List (List ℕ) → Type 0
rises_from before strings = AllByRecursion (λ t. slice_cmp nat_cmp before t ≡ Less) strings

-- ---- a term is a folded word, and has no more than 255 bytes

terms_of_pairs_short : (pairs : List Pair) → ArePairs pairs → (t : List ℕ) → has (terms_of_words (map (λ (p : Pair). p.word) pairs)) t ≡ true → length t ≤ 255
terms_of_pairs_short [] are t h = absurd (false≢true h)
terms_of_pairs_short (p ∷ pairs) are t h =
    elim (cases_Bool (is_empty p.word)) [
      | inl none ↦ terms_of_pairs_short pairs are.3 t (rw none at h)
      | inr some ↦ elim (or_cases (bytes_eq t (folded p.word)) (has (terms_of_words (map (λ (q : Pair). q.word) pairs)) t) (rw some at h)) [
        | inl here ↦ omega (arith, are.0.short, ap (λ (x : List ℕ). length x) (same-is t (folded p.word) here), simp length-map at (ap (λ (x : List ℕ). length x) (same-is t (folded p.word) here)))
        | inr there ↦ terms_of_pairs_short pairs are.3 t there
      ]
    ]

terms_of_docs_short : (docs : List (List ℕ)) (t : List ℕ) → has (flat_map terms docs) t ≡ true → length t ≤ 255
terms_of_docs_short [] t h = absurd (false≢true h)
terms_of_docs_short (doc ∷ docs) t h =
    elim (or_cases (has (terms doc) t) (has (flat_map terms docs) t) (sym (list_any-append (bytes_eq t) (terms doc) (flat_map terms docs)) ∙ h)) [
      | inl here ↦ terms_of_pairs_short (parse doc) (parse-is doc).each t here
      | inr there ↦ terms_of_docs_short docs t there
    ]

pub term_short : (collection t : List ℕ) → has (dictionary collection) t ≡ true → length t ≤ 255
term_short collection t h = terms_of_docs_short (documents collection) t (sym (has-sorted (all_terms collection) t) ∙ h)

-- the entry of a numbered term
abbrev entry_of : List ℕ → ℕ × List ℕ → Entry
entry_of collection t = record { string = t.1; field = info_bytes (info_of collection t.0 t.1) }

-- ---- sixteen bytes of field

eight_long : (n : ℕ) → length (eight n) ≡ 8
unfolding eight
eight_long n = refl

pub info_long : (info : TermInfo) → length (info_bytes info) ≡ 16
info_long info = omega (
  arith,
  length-append (four info.docs ++ eight info.post_at) (four info.skip_at),
  length-append (four info.docs) (eight info.post_at),
  four_long info.docs,
  eight_long info.post_at,
  four_long info.skip_at,
)

-- ---- the entries rise

above_more : (i : ℕ) (before : List ℕ) (strings : List (List ℕ)) → rises_from before strings → AllByRecursion (λ t. (i == 0 || is_below before t) ≡ true) strings
above_more i before [] h = tt
above_more i before (t ∷ strings) h = (or_right (i == 0) (is_below before t) (ap is_lt h.0), above_more i before strings h.1)

above_none : (strings : List (List ℕ)) → AllByRecursion (λ t. (0 == 0 || is_below [] t) ≡ true) strings
above_none [] = tt
above_none (t ∷ strings) = (refl, above_none strings)

entries_of : (collection : List ℕ) (i : ℕ) (before : List ℕ) (strings : List (List ℕ)) → ((t : List ℕ) → has strings t ≡ true → length t ≤ 255) →
    IsStrictlySortedBy (slice_cmp nat_cmp) strings → AllByRecursion (λ t. (i == 0 || is_below before t) ≡ true) strings →
    AreEntries 16 i before (map (entry_of collection) (enumerate_from i strings))
unfolding IsStrictlySortedBy
entries_of collection i before [] short rising above = tt
entries_of collection i before (t ∷ strings) short rising above = (
  record { short = short t (first_is t strings); field = info_long (info_of collection i t); above = above.0 },
  entries_of collection (i + 1) t strings (λ u h. short u (or_right (bytes_eq u t) (has strings u) h)) rising.1 (above_more (i + 1) t strings rising.0),
)
  where
    first_is : (t : List ℕ) (strings : List (List ℕ)) → has (t ∷ strings) t ≡ true
    first_is t strings = or_left (bytes_eq t t) (has strings t) (same-refl t)

-- the lexicon is front-coded
pub lexicon_entries : (collection : List ℕ) → AreEntries 16 0 [] (lexicon collection)
unfolding lexicon
lexicon_entries collection = entries_of collection 0 [] (dictionary collection) (term_short collection) (sorted-rising (all_terms collection)) (above_none (dictionary collection))

-- it has an entry for each term
pub lexicon_long : (collection : List ℕ) → length (lexicon collection) ≡ length (dictionary collection)
unfolding lexicon
lexicon_long collection = length-map (enumerate_from 0 (dictionary collection)) (entry_of collection) ∙ length-enumerate_from 0 (dictionary collection)

-- ---- the entry of a number

entry_at : (collection : List ℕ) (from i : ℕ) (strings : List (List ℕ)) (t : List ℕ) → slice_get strings i ≡ Some t →
    slice_get (map (entry_of collection) (enumerate_from from strings)) i ≡ Some (entry_of collection (from + i, t))
entry_at collection from i [] t is = absurd cc
entry_at collection from zero (s ∷ strings) t is = let same : s ≡ t = cc in ap (λ (x : List ℕ). Some (entry_of collection (from, x))) same ∙ ap (λ n. Some (entry_of collection (n, t))) (omega arith)
entry_at collection from (suc i) (s ∷ strings) t is = entry_at collection (from + 1) i strings t is ∙ ap (λ n. Some (entry_of collection (n, t))) (omega arith)

pub lexicon_at : (collection : List ℕ) (i : ℕ) (t : List ℕ) → slice_get (dictionary collection) i ≡ Some t →
    slice_get (lexicon collection) i ≡ Some (record { string = t; field = info_bytes (info_of collection i t) })
unfolding lexicon
lexicon_at collection i t is = entry_at collection 0 i (dictionary collection) t is ∙ ap (λ n. Some (entry_of collection (n, t))) (omega arith)

-- an entry of the lexicon is that of the term with its number
pub lexicon_of : (collection : List ℕ) (i : ℕ) (e : Entry) → slice_get (lexicon collection) i ≡ Some e →
    (slice_get (dictionary collection) i ≡ Some e.string) × (e.field ≡ info_bytes (info_of collection i e.string))
lexicon_of collection i e is =
    let there : i < length (dictionary collection) = omega (arith, slice_get_within (lexicon collection) i e is, lexicon_long collection) in
    let term = slice_get-get_or (dictionary collection) i [] there in
    let known = lexicon_at collection i (get_or (dictionary collection) i []) term in
    let same : e ≡ record { string = get_or (dictionary collection) i []; field = info_bytes (info_of collection i (get_or (dictionary collection) i [])) } = cc in
    (term ∙ ap (λ (x : Entry). Some x.string) (sym same), ap (λ (x : Entry). x.field) same ∙ ap (λ (x : List ℕ). info_bytes (info_of collection i x)) (ap (λ (x : Entry). x.string) (sym same)))
