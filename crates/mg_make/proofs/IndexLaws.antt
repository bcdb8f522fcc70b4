-- Lists, lexicon, weights and the working parts side by side, and what was inverted of a collection.
use Rattle.std.proofs.Common.{arith, ◌≡◌, ◌<◌, ◌/◌, ℕ, List, [], length, map, get_or, sym, ap, subst, ◌∙◌, Some}
use Rattle.std.specs.Prelude.{replicate}
use Rattle.std.specs.declared.option.Option.{Option}
use Rattle.std.proofs.lemmas.List.{get_or-map, get_or_default, length-map, length-replicate, same_lists}
use Rattle.mg_dev.specs.declared.part.Part.{Part as AnyPart}
use Rattle.mg_dev.specs.declared.part.Part.TheVariants.{Head, Words, Nonwords, Text, Places, Lex, LexAt, Post, Skip, Weights, Run, MergeA, MergeB, Plain}
use Rattle.mg_dev.specs.Files.{Files, bytes_at, file_at}
use Rattle.mg_dev.specs.Laws.{same_part_of_name}
use Rattle.mg_dev.specs.Names.{full_name}
use Rattle.mg_defs.specs.Bits.{Bits, filled, as_bytes}
use Rattle.mg_defs.specs.declared.Posting.{Posting}
use Rattle.mg_defs.specs.DocCounts.{docs_with}
use Rattle.mg_defs.specs.Lists.{inverted, lists_bits, post_bits}
use Rattle.mg_defs.specs.Marks.{pair_counts}
use Rattle.mg_defs.specs.Occurrences.{occurrences}
use Rattle.mg_defs.specs.Parse.{parse}
use Rattle.mg_defs.specs.PostingLists.{by_terms}
use Rattle.mg_defs.specs.Postings.{term_postings}
use Rattle.mg_defs.specs.Split.{documents}
use Rattle.mg_defs.specs.Stands.{post_part, weights_part}
use Rattle.mg_defs.specs.Terms.{dictionary}
use Rattle.mg_runs.specs.Left.{IsMerging, Merging}
use Rattle.mg_count.specs.DocCounting.{DocCounting}
use Rattle.mg_make.specs.Index.{IndexStands, IsInverted, OfIndex}
use Rattle.mg_index.specs.Listing.{HasLists, ListsStand}
use Rattle.mg_count.specs.Plans.{Plan}
use Rattle.mg_index.specs.Written.{OfLists, OfWeights, WroteParts}
use Rattle.mg_index.proofs.CallerLemmas.{bytes_stay}
use Rattle.mg_laws.proofs.TermLaws.{lists_long}

-- ---- what was written

pub of_index : (p : AnyPart) → OfLists p → OfIndex p
of_index Head h = absurd h
of_index Words h = absurd h
of_index Nonwords h = absurd h
of_index Text h = absurd h
of_index Places h = absurd h
of_index Lex h = tt
of_index LexAt h = tt
of_index Post h = tt
of_index Skip h = tt
of_index Weights h = absurd h
of_index Run h = absurd h
of_index MergeA h = absurd h
of_index MergeB h = absurd h
of_index Plain h = absurd h

pub weights_of_index : (p : AnyPart) → OfWeights p → OfIndex p
weights_of_index Head h = absurd h
weights_of_index Words h = absurd h
weights_of_index Nonwords h = absurd h
weights_of_index Text h = absurd h
weights_of_index Places h = absurd h
weights_of_index Lex h = absurd h
weights_of_index LexAt h = absurd h
weights_of_index Post h = absurd h
weights_of_index Skip h = absurd h
weights_of_index Weights h = tt
weights_of_index Run h = absurd h
weights_of_index MergeA h = tt
weights_of_index MergeB h = tt
weights_of_index Plain h = absurd h

-- a part of another kind stays
pub part_stays : (P : AnyPart → Type 0) (base : List ℕ) (f g : Option Files) (part : AnyPart) → (P part → ⊥) → WroteParts P base f g → file_at g (full_name base part) ≡ file_at f (full_name base part)
part_stays P base f g part none wrote = wrote.others (full_name base part) (λ p of_p e. none (subst P (sym (same_part_of_name base part p e)) of_p))

-- lists and lexicon stay while weights are written
pub index_stands : (base collection : List ℕ) (f g : Option Files) → ListsStand f base collection → WroteParts OfWeights base f g → bytes_at g (full_name base Weights) ≡ weights_part collection →
    file_at g (full_name base MergeA) ≡ Some [] → file_at g (full_name base MergeB) ≡ Some [] → IndexStands g base collection
index_stands base collection f g lists wrote weights first second = record {
  post = bytes_stay f g (full_name base Post) (part_stays OfWeights base f g Post (λ h. h) wrote) ∙ lists.post;
  skip = bytes_stay f g (full_name base Skip) (part_stays OfWeights base f g Skip (λ h. h) wrote) ∙ lists.skip;
  lex = bytes_stay f g (full_name base Lex) (part_stays OfWeights base f g Lex (λ h. h) wrote) ∙ lists.lex;
  lex_at = bytes_stay f g (full_name base LexAt) (part_stays OfWeights base f g LexAt (λ h. h) wrote) ∙ lists.lex_at;
  weights = weights;
  merge_a = first;
  merge_b = second;
}

-- ---- what was inverted

pub zeros : (sums : List ℕ) (n : ℕ) → sums ≡ replicate n 0 → length sums ≡ n
zeros sums n is = ap (λ (xs : List ℕ). length xs) is ∙ length-replicate n 0

pub lists_of_inverted : {p : Plan} {counts : DocCounting} {docs collection : List ℕ} {merge : Merging} {files : Option Files} {all : ℕ} →
    ((collection : List ℕ) → term_postings (occurrences collection) ≡ by_terms 0 (inverted collection)) →
    ((collection : List ℕ) (term : ℕ) → docs_with term (occurrences collection) ≡ length (get_or (inverted collection) term [])) →
    docs ≡ counts.docs → all ≡ length p.pairs → IsInverted p counts collection merge files → HasLists p.terms.terms docs all collection merge files
lists_of_inverted {p} {counts} {docs} {collection} {merge} {files} {all} in_lists counted same all_is is = record {
  told = is.told;
  of = record { terms_are = is.plan_is.terms; docs_are = same ∙ docs_are; all_are = all_is ∙ ap (λ (xs : List ℕ). length xs) is.plan_is.pairs ∙ pairs_long; few = is.few };
  merging = subst (λ xs. IsMerging merge files xs) (in_lists collection) is.merging;
}
  where
    pairs_long : length (pair_counts collection) ≡ length (documents collection)
    pairs_long = length-map (documents collection) (λ doc. length (parse doc))

    terms_long : length counts.docs ≡ length (dictionary collection)
    terms_long = is.counts_are.doc_size ∙ ap (λ (xs : List (List ℕ)). length xs) is.plan_is.terms

    docs_are : counts.docs ≡ map length (inverted collection)
    docs_are =
        same_lists counts.docs (map length (inverted collection)) (terms_long ∙ sym (length-map (inverted collection) (λ (ps : List Posting). length ps) ∙ lists_long collection)) (λ k d lt.
        let within : k < length (inverted collection) = omega (arith, lt, terms_long, lists_long collection) in
        get_or_default counts.docs k d 0 lt ∙ is.counts_are.docs k (omega (arith, lt, is.counts_are.doc_size)) ∙ counted collection k
        ∙ sym (get_or-map (λ (ps : List Posting). length ps) (inverted collection) k [] d within))

-- the size of the bits in bytes
pub size_is :
    ((all : ℕ) (lists : List (List Posting)) → filled (lists_bits all lists) ≡ lists_bits all lists) → ((bits : Bits) → filled bits ≡ bits → length (as_bytes bits) ≡ length bits / 8) →
    (collection : List ℕ) → length (post_bits collection) / 8 ≡ length (post_part collection)
size_is whole size collection = sym (size (post_bits collection) (whole (length (documents collection)) (inverted collection)))
