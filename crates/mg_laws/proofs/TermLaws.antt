-- What is true of every term of a collection: it is in some document, and there is a list of it.
use Rattle.std.proofs.Common.{arith, ◌≡◌, ◌≤◌, ◌<◌, ℕ, true, cond, List, [], ◌∷◌, length, get_or, sym, ap, ◌∙◌, inl, inr}
use Rattle.std.specs.Prelude.{count_by}
use Rattle.std.specs.List.{flat_map, list_any}
use Rattle.std.specs.Str.{bytes_eq}
use Rattle.std.proofs.lemmas.Bool.{false≢true, or_cases}
use Rattle.std.proofs.lemmas.List.{get_or-map, length-map}
use Rattle.std.proofs.lemmas.List.Elements.{Contains-get_or}
use Rattle.std.proofs.lemmas.List.Folds.{list_any-append}
use Rattle.std.proofs.lemmas.List.Sums.{sum_by-cons}
use Rattle.mg_defs.proofs.SortedLaws.{has-from, has-sorted}
use Rattle.mg_defs.specs.Lists.{inverted, postings}
use Rattle.mg_defs.specs.Split.{documents}
use Rattle.mg_defs.specs.Terms.{all_terms, dictionary, docs, same_term, terms}

count_some : (t : List ℕ) (ds : List (List ℕ)) → list_any (bytes_eq t) (flat_map terms ds) ≡ true → 1 ≤ count_by (λ doc. list_any (same_term t) (terms doc)) ds
count_some t [] h = absurd (false≢true h)
count_some t (doc ∷ ds) h =
    let step = sum_by-cons (λ d. cond (list_any (same_term t) (terms d)) 1 0) doc ds in
    elim (or_cases (list_any (bytes_eq t) (terms doc)) (list_any (bytes_eq t) (flat_map terms ds)) (sym (list_any-append (bytes_eq t) (terms doc) (flat_map terms ds)) ∙ h)) [
      | inl here ↦ omega (arith, step, ap {B = ℕ} (λ b. cond b 1 0) here)
      | inr there ↦ omega (arith, step, count_some t ds there)
    ]

-- each is in some document
pub some_docs : (collection : List ℕ) (n : ℕ) → n < length (dictionary collection) → 1 ≤ docs collection (get_or (dictionary collection) n [])
some_docs collection n lt =
    let t = get_or (dictionary collection) n [] in
    count_some t (documents collection) (sym (has-sorted (all_terms collection) t) ∙ has-from (dictionary collection) t (Contains-get_or (dictionary collection) n [] lt))

-- there are as many lists as terms
pub lists_long : (collection : List ℕ) → length (inverted collection) ≡ length (dictionary collection)
lists_long collection = length-map (dictionary collection) (postings collection)

-- the list of one
pub list_of_term : (collection : List ℕ) (n : ℕ) → n < length (dictionary collection) → get_or (inverted collection) n [] ≡ postings collection (get_or (dictionary collection) n [])
list_of_term collection n lt = get_or-map (postings collection) (dictionary collection) n [] [] lt
