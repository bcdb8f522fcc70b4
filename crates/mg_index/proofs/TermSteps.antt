-- One term more of the lexicon, with its list.
use Rattle.std.proofs.Common.{arith, ◌≡◌, ◌<◌, ◌+◌, ◌/◌, ℕ, List, [], ◌∷◌, ◌++◌, length, map, take, drop, get_or, refl, sym, ap, subst, ◌∙◌, Some}
use Rattle.std.specs.Prelude.{slice_get, slice_index, sum}
use Rattle.std.specs.declared.option.Option.{Option}
use Rattle.std.proofs.lemmas.List.{drop_more, get_or-map}
use Rattle.std.proofs.lemmas.List.Sums.{sum_by_more}
use Rattle.std.proofs.lemmas.Option.{get_or_from_slice_get}
use Rattle.mg_dev.specs.Files.{Files}
use Rattle.mg_defs.proofs.StandGrow.{docs-are}
use Rattle.mg_defs.specs.declared.Posting.{Posting}
use Rattle.mg_defs.specs.Lexicon.{TermInfo, info_of}
use Rattle.mg_defs.specs.Lists.{inverted, lists_bits, lists_entries, postings}
use Rattle.mg_defs.specs.Terms.{dictionary, docs, terms}
use Rattle.mg_laws.proofs.TermLaws.{list_of_term, lists_long, some_docs}
use Rattle.mg_lex.proofs.CallerLemmas.{terms_more}
use Rattle.mg_lex.specs.Terms.{terms_of}
use Rattle.mg_lex.specs.Writing.{LexWriting}
use Rattle.mg_post.specs.Writing.{Listing}
use Rattle.mg_runs.specs.Left.{Merging}
use Rattle.mg_index.specs.Listing.{AreOfCollection, HasIndexed, HasList, IsAtList}

-- ---- the list of a term

within_lists : (collection : List ℕ) (n : ℕ) → n < length (dictionary collection) → n < length (inverted collection)
within_lists collection n lt = omega (arith, lt, lists_long collection)

pub size_at : (docs : List ℕ) (collection : List ℕ) (n : ℕ) → docs ≡ map length (inverted collection) → n < length (dictionary collection) →
    length (get_or (inverted collection) n []) ≡ slice_index docs n
size_at docs collection n is lt =
    sym (ap (λ xs. slice_index xs n) is ∙ get_or-map (λ (ps : List Posting). length ps) (inverted collection) n [] 0 (within_lists collection n lt))

pub number_within : (terms : List (List ℕ)) (docs : List ℕ) (all n : ℕ) (collection : List ℕ) → AreOfCollection terms docs all collection → n < length terms → n < length (dictionary collection)
number_within terms docs all n collection of lt = omega (arith, lt, ap (λ (xs : List (List ℕ)). length xs) of.terms_are)

-- where a collection is indexed as far as a term, its list is next
pub list_next : (terms : List (List ℕ)) (docs : List ℕ) (collection : List ℕ) (n : ℕ) (merge : Merging) (lists : Listing) (lex : LexWriting) (sums : List ℕ) (f : Option Files) → n < length terms →
    HasIndexed terms docs collection n merge lists lex sums f →
    IsAtList n merge lists sums f (take n (inverted collection)) (get_or (inverted collection) n [] ∷ drop (n + 1) (inverted collection))
list_next terms docs collection n merge lists lex sums f lt has =
    let within = number_within terms docs lists.all n collection has.of lt in
    subst (λ xs. IsAtList n merge lists sums f (take n (inverted collection)) xs) (drop_more (inverted collection) n [] (within_lists collection n within)) has.list

pub has_list : (terms : List (List ℕ)) (docs : List ℕ) (collection : List ℕ) (n count : ℕ) (merge : Merging) (lists : Listing) (lex : LexWriting)
    (sums : List ℕ) (f : Option Files) → n < length terms →
    count ≡ slice_index docs n → HasIndexed terms docs collection n merge lists lex sums f → HasList n count merge lists sums f
has_list terms docs collection n count merge lists lex sums f lt count_is has =
    let within = number_within terms docs lists.all n collection has.of lt in
    let size = size_at docs collection n has.of.docs_are within in
    record {
      told = has.told;
      done = take n (inverted collection);
      ps = get_or (inverted collection) n [];
      more = drop (n + 1) (inverted collection);
      size = size ∙ sym count_is;
      some =
          omega (
            arith,
            size,
            count_is,
            some_docs collection n within,
            docs-are collection (get_or (dictionary collection) n []),
            ap (λ (ps : List Posting). length ps) (list_of_term collection n within),
          );
      is = list_next terms docs collection n merge lists lex sums f lt has;
    }

-- ---- what the lexicon tells of a term

pub info_is : (terms : List (List ℕ)) (docs : List ℕ) (collection : List ℕ) (n count post_at skip_at all : ℕ) (t : List ℕ) →
    AreOfCollection terms docs all collection → n < length terms → slice_get terms n ≡ Some t →
    count ≡ slice_index docs n → post_at ≡ length (lists_bits all (take n (inverted collection))) / 8 → skip_at ≡ length (lists_entries all (take n (inverted collection))) →
    take (n + 1) (terms_of collection) ≡ take n (terms_of collection) ++ record { string = t; info = record { docs = count; post_at = post_at; skip_at = skip_at } } ∷ []
info_is terms docs collection n count post_at skip_at all t of lt t_is count_is post_is skip_is =
    let within = number_within terms docs all n collection of lt in
    let string : get_or (dictionary collection) n [] ≡ t = sym (ap (λ xs. get_or xs n []) of.terms_are) ∙ get_or_from_slice_get terms n t [] t_is in
    let counted : count ≡ length (postings collection (get_or (dictionary collection) n [])) = count_is ∙ sym (size_at docs collection n of.docs_are within)
    ∙ ap (λ (ps : List Posting). length ps) (list_of_term collection n within) in
    let told : info_of collection n (get_or (dictionary collection) n []) ≡ record { docs = count; post_at = post_at; skip_at = skip_at } =
    same_info _ _ _ _ _ _ (sym (counted ∙ docs-are collection (get_or (dictionary collection) n [])))
    (sym (post_is ∙ ap (λ m. length (lists_bits m (take n (inverted collection))) / 8) of.all_are))
    (sym (skip_is ∙ ap (λ m. length (lists_entries m (take n (inverted collection)))) of.all_are)) in
    terms_more collection n within
    ∙ ap (λ s. take n (terms_of collection) ++ record { string = s; info = info_of collection n (get_or (dictionary collection) n []) } ∷ []) string
    ∙ ap (λ i. take n (terms_of collection) ++ record { string = t; info = i } ∷ []) told
  where
    same_info : (a b c d e f : ℕ) → a ≡ d → b ≡ e → c ≡ f → ◌≡◌ {A = TermInfo} (record { docs = a; post_at = b; skip_at = c }) (record { docs = d; post_at = e; skip_at = f })
    same_info a b c d e f p q r = rw (p, q, r) refl

-- ---- sums of sizes

pub sizes_more : (docs : List ℕ) (n : ℕ) → n < length docs → sum (take (n + 1) docs) ≡ sum (take n docs) + slice_index docs n
sizes_more docs n lt = sum_by_more (λ x. x) docs n 0 lt
