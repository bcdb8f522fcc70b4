-- What stands of the terms of a collection within the limits: it fits in its fields, so their bytes tell it, and a string of no entry is in no document.
use Rattle.std.proofs.Common.{◌≡◌, ℕ, ◌^◌, ◌<◌, ◌≤◌, ◌==◌, ◌||◌, inl, inr, Bool, true, false, cond, List, [], ◌∷◌, ◌++◌, length, take, drop}
use Rattle.std.proofs.Common.{count_by, refl, sym, ◌∙◌, ap, arith, Some, Err, slice_get, length-append}
use Rattle.std.specs.List.{flat_map, list_any}
use Rattle.std.specs.Str.{bytes_eq}
use Rattle.std.proofs.lemmas.Bool.{cases_Bool}
use Rattle.std.proofs.lemmas.List.{take-append-drop}
use Rattle.std.proofs.lemmas.List.Folds.{list_any-append}
use Rattle.std.proofs.lemmas.List.Sums.{count_by-le-length, sum_by-cons}
use Rattle.std.proofs.lemmas.Grind.{flat_map-append}
use Rattle.std.proofs.lemmas.Option.{slice_get-get_or}
use Rattle.mg_defs.specs.declared.Posting.{Posting}
use Rattle.mg_defs.specs.Bits.{filled}
use Rattle.mg_defs.specs.Lexicon as defs
use Rattle.mg_defs.specs.WithinLimits.{IsWithinLimits}
use Rattle.mg_defs.specs.Limits.{limits}
use Rattle.mg_defs.specs.Lists.{bits_of_list, entries_of_list, inverted, lists_bits, lists_entries}
use Rattle.mg_defs.specs.Sorted.{number_of}
use Rattle.mg_defs.specs.Split.{documents}
use Rattle.mg_defs.specs.Terms.{all_terms, dictionary, docs, same_term, terms}
use Rattle.mg_defs.proofs.SortedLaws.{has-sorted, number-found}
use Rattle.mg_laws.proofs.SizeLaws.{few_entries, few_occurrences, post_places_fit}
use Rattle.mg_dev.specs.declared.part_err.PartErr.{PartErr}
use Rattle.mg_dev.specs.declared.part_err.PartErr.TheVariants.{Device, Memory, Bad}
use Rattle.mg_layout.specs.Infos.{IsInfoOf, info_of}
use Rattle.mg_layout.specs.declared.term_info.TermInfo.{TermInfo}
use Rattle.mg_lex.specs.Reading.{AnswersInfo, AnswersTerm, IsInfo, IsNoTerm}
use Rattle.mg_lex.specs.Terms.{FitsField}
use Rattle.mg_lex.proofs.LexLaws.{same_info}

-- ---- fields

-- the first lists have no more bits and entries than all
bits_grow : (all n : ℕ) (lists : List (List Posting)) → length (lists_bits all (take n lists)) ≤ length (lists_bits all lists)
unfolding lists_bits
bits_grow all n lists =
    let f = λ (ps : List Posting). filled (bits_of_list all ps) in
    let whole : flat_map f lists ≡ flat_map f (take n lists) ++ flat_map f (drop n lists) = ap (flat_map f) (sym (take-append-drop n lists)) ∙ flat_map-append f (take n lists) (drop n lists) in
    omega (arith, ap length whole, length-append (flat_map f (take n lists)) (flat_map f (drop n lists)))

entries_grow : (all n : ℕ) (lists : List (List Posting)) → length (lists_entries all (take n lists)) ≤ length (lists_entries all lists)
unfolding lists_entries
entries_grow all n lists =
    let f = entries_of_list all in
    let whole : flat_map f lists ≡ flat_map f (take n lists) ++ flat_map f (drop n lists) = ap (flat_map f) (sym (take-append-drop n lists)) ∙ flat_map-append f (take n lists) (drop n lists) in
    omega (arith, ap length whole, length-append (flat_map f (take n lists)) (flat_map f (drop n lists)))

few_docs : (collection t : List ℕ) → docs collection t ≤ length (documents collection)
few_docs collection t = count_by-le-length (λ doc. list_any (same_term t) (terms doc)) (documents collection)

short : (version : ℕ) → (limits version).collection < 2 ^ 32
short version = by_test (version == 1)
  where
    by_test : (b : Bool) → (cond b (limits 1) (limits 2)).collection < 2 ^ 32
    by_test true = omega arith
    by_test false = omega arith

few : (version : ℕ) → (limits version).documents < 2 ^ 32
few version = by_test (version == 1)
  where
    by_test : (b : Bool) → (cond b (limits 1) (limits 2)).documents < 2 ^ 32
    by_test true = omega arith
    by_test false = omega arith

pub fields_fit : (version : ℕ) (collection : List ℕ) (i : ℕ) (t : List ℕ) → IsWithinLimits version collection → slice_get (dictionary collection) i ≡ Some t → FitsField (defs.info_of collection i t)
fields_fit version collection i t within at = record {
  docs = omega (arith, few_docs collection t, within.documents, few version);
  post_at = omega (arith, bits_grow (length (documents collection)) i (inverted collection), post_places_fit version collection within);
  skip_at = omega (arith, entries_grow (length (documents collection)) i (inverted collection), few_entries collection, few_occurrences collection, within.bytes, short version);
}

-- ---- terms of no document

abbrev has : List (List ℕ) → List ℕ → Bool
has strings s = list_any (bytes_eq s) strings

neither : (a b : Bool) → (a || b) ≡ false → (a ≡ false) × (b ≡ false)
neither true b none = absurd cc
neither false b none = (refl, none)

no_doc : (t : List ℕ) (ds : List (List ℕ)) → has (flat_map terms ds) t ≡ false → count_by (λ doc. list_any (same_term t) (terms doc)) ds ≡ 0
no_doc t [] none = refl
no_doc t (doc ∷ ds) none =
    let parts = neither (has (terms doc) t) (has (flat_map terms ds) t) (sym (list_any-append (bytes_eq t) (terms doc) (flat_map terms ds)) ∙ none) in
    omega (arith, sum_by-cons (λ d. cond (list_any (same_term t) (terms d)) 1 0) doc ds, ap {B = ℕ} (λ b. cond b 1 0) parts.0, no_doc t ds parts.1)

pub no_docs : (collection t : List ℕ) → IsNoTerm collection t → docs collection t ≡ 0
no_docs collection t none = elim (cases_Bool (has (dictionary collection) t)) [
  | inl here ↦
      let found = number-found (dictionary collection) t here in
      absurd (none (number_of (dictionary collection) t) (slice_get-get_or (dictionary collection) (number_of (dictionary collection) t) t found.0 ∙ ap Some found.1))
  | inr isnt ↦ no_doc t (documents collection) (sym (has-sorted (all_terms collection) t) ∙ isnt)
]

-- ---- what is told

pub told_info : (version : ℕ) (collection t : List ℕ) (info : TermInfo) → IsWithinLimits version collection → FitsField (info_of info) → IsInfo info collection t → IsInfoOf collection t info
told_info version collection t info within fits is = record {
  number = is.number;
  is = same_info (info_of info) (defs.info_of collection info.number t) fits (fields_fit version collection info.number t within is.number) is.field;
}

pub refused_info : (refusal : PartErr) (collection t : List ℕ) → AnswersTerm (Err refusal) collection t → AnswersInfo (Err refusal) collection t
refused_info Device collection t told = tt
refused_info Memory collection t told = absurd told
refused_info (Bad bad) collection t told = absurd told
