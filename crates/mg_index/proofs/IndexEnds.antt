-- Lists and lexicon before the first term and after the last one.
use Rattle.std.proofs.Common.{arith, ◌≡◌, ◌≤◌, ◌<◌, ◌^◌, ℕ, List, [], ◌∷◌, length, map, take, sym, ap, subst, ◌∙◌, IsSome}
use Rattle.std.specs.Prelude.{Err, replicate}
use Rattle.std.specs.declared.option.Option.{Option}
use Rattle.std.specs.List.{AllByRecursion, flat_map}
use Rattle.std.proofs.lemmas.List.{drop_all, take_all}
use Rattle.mg_dev.specs.declared.part.Part.TheVariants.{Lex, LexAt, Post, Skip}
use Rattle.mg_dev.specs.Files.{Files, Reads, bytes_at, file_at}
use Rattle.mg_dev.specs.declared.device.PutErr.{PutErr}
use Rattle.mg_dev.specs.Names.{full_name}
use Rattle.mg_defs.proofs.ListLaws.{list_rises}
use Rattle.mg_defs.specs.declared.TermPosting.{TermPosting}
use Rattle.mg_defs.specs.Bits.{as_bytes}
use Rattle.mg_defs.specs.Front.{front, whole_at}
use Rattle.mg_defs.specs.Lexicon.{lexicon}
use Rattle.mg_defs.specs.Lists.{Rises, entry_bits, inverted, last_doc, lists_bits, lists_entries, postings}
use Rattle.mg_defs.specs.PostingLists.{by_terms}
use Rattle.mg_defs.specs.Split.{documents}
use Rattle.mg_defs.specs.Squares.{squares, squares_to}
use Rattle.mg_defs.specs.Terms.{dictionary}
use Rattle.mg_lex.specs.Terms.{entries_of, terms_of}
use Rattle.mg_lex.specs.Writing.{LexWriting, TermsStand, TookTerms}
use Rattle.mg_post.specs.Writing.{InBytes, Listing, Took}
use Rattle.mg_runs.specs.Left.{IsMerging, Merging}
use Rattle.mg_index.specs.ListEnds.{EndsWriters}
use Rattle.mg_index.specs.Listing.{AreOfCollection, AreSquares, CanIndex, HasIndexed, HasLists, ListsStand, OfPostings}
use Rattle.mg_index.specs.Steps.{PutStep}
use Rattle.mg_index.specs.Written.{OfLists, WroteParts}
use Rattle.mg_index.specs.declared.lists.IndexWriter.{IndexWriter}
use Rattle.mg_index.specs.declared.lists.Sizes.{Sizes}
use Rattle.mg_index.proofs.ListFrames.{RunsStay, lex_at_stays, lex_stays, merging_stays_all}
use Rattle.mg_index.proofs.SquareSteps.{summed_all, summed_none}
use Rattle.mg_laws.proofs.TermLaws.{lists_long}
use Rattle.mg_lex.proofs.CallerLemmas.{terms_long}

-- ---- before the first term

none_last : (lists : Listing) (f : Option Files) → Took lists f [] [] → lists.last ≡ 0
unfolding last_doc
none_last lists f took = took.last

begun_merging : RunsStay → (merge : Merging) (f g : Option Files) (base : List ℕ) (left : List TermPosting) → merge.base ≡ base → WroteParts OfLists base f g →
    IsMerging merge f left → IsMerging merge g left
begun_merging stay merge f g base left base_is wrote merging = merging_stays_all stay merge f g left (subst (λ b. WroteParts OfLists b f g) (sym base_is) wrote) merging

pub can_index_begun : RunsStay → (terms : List (List ℕ)) (docs : List ℕ) (merge : Merging) (lists : Listing) (lex : LexWriting) (sums : List ℕ)
    (f g : Option Files) (base : List ℕ) (left : List TermPosting) → IsMerging merge f left → merge.base ≡ base →
    WroteParts OfLists base f g → Took lists g [] [] → TookTerms lex g [] → lists.post.name ≡ full_name base Post → lists.skip.name ≡ full_name base Skip →
    lex.base ≡ base → length sums ≡ lists.all → lists.total ≡ 0 →
    CanIndex terms docs 0 merge lists lex sums g
can_index_begun stay terms docs merge lists lex sums f g base left merging base_is wrote took took_terms post skip lex_base each none = record {
  list = record {
    left = left;
    merging = begun_merging stay merge f g base left base_is wrote merging;
    done = [];
    begun = [];
    took = took;
    each = each;
    within = omega (arith, none_last lists g took);
    post = post ∙ ap (λ b. full_name b Post) (sym base_is);
    skip = skip ∙ ap (λ b. full_name b Skip) (sym base_is);
  };
  between = took.pushed;
  total = none;
  base = lex_base ∙ sym base_is;
  before = [];
  took = took_terms;
  count = took_terms.took.count;
  last = λ k e. absurd (omega (arith, e));
}

all_rise : (collection : List ℕ) (ts : List (List ℕ)) → length collection < 2 ^ 32 → AllByRecursion (λ ps. Rises (length (documents collection)) 0 ps) (map (postings collection) ts)
all_rise collection [] few = tt
all_rise collection (t ∷ ts) few = (list_rises collection t few, all_rise collection ts few)

-- the law that no document's sum passes 64 bits
abbrev pub SquaresMost : Type 0
SquaresMost = (collection : List ℕ) (doc : ℕ) → length collection < 2 ^ 32 → squares doc (inverted collection) ≤ 2 ^ 61

pub indexed_begun : RunsStay → SquaresMost → (terms : List (List ℕ)) (docs : List ℕ) (collection : List ℕ) (merge : Merging) (lists : Listing)
    (lex : LexWriting) (sums : List ℕ) (f g : Option Files) (base : List ℕ) (all : ℕ) →
    lists.all ≡ all → merge.base ≡ base → WroteParts OfLists base f g → Took lists g [] [] → TookTerms lex g [] → sums ≡ replicate (length sums) 0 → HasLists terms docs all collection merge f →
    HasIndexed terms docs collection 0 merge lists lex sums g
indexed_begun stay most terms docs collection merge lists lex sums f g base all all_is base_is wrote took took_terms zeros has = record {
  told = wrote.told ∙ has.told;
  of = subst (λ m. AreOfCollection terms docs m collection) (sym all_is) has.of;
  list = record {
    merging = begun_merging stay merge f g base (by_terms 0 (inverted collection)) base_is wrote has.merging;
    took = took;
    rise = subst (λ m. AllByRecursion (λ ps. Rises m 0 ps) (inverted collection)) (sym (all_is ∙ has.of.all_are)) (all_rise collection (dictionary collection) has.of.few);
    fit = λ doc. omega (arith, most collection doc has.of.few);
    summed = summed_none sums zeros;
  };
  took = took_terms;
}

-- ---- after the last term

-- what is left, and what was taken, behind the last term
pub record HasEnded (collection : List ℕ) (merge : Merging) (lists : Listing) (lex : LexWriting) (sums : List ℕ) (files : Option Files) : Type 0 where
  pub told : IsSome files
  pub all : lists.all ≡ length (documents collection)
  pub merging : IsMerging merge files []
  pub took : Took lists files (inverted collection) []
  pub terms : TookTerms lex files (terms_of collection)
  pub sums_are : length sums ≡ lists.all → sums ≡ squares_to (length (documents collection)) (inverted collection)

pub ended : (terms : List (List ℕ)) (docs : List ℕ) (collection : List ℕ) (n : ℕ) (merge : Merging) (lists : Listing) (lex : LexWriting) (summed : List ℕ) (f : Option Files) → n ≡ length terms →
    HasIndexed terms docs collection n merge lists lex summed f → HasEnded collection merge lists lex summed f
ended terms docs collection n merge lists lex summed f n_is has = record {
  told = has.told;
  all = has.of.all_are;
  merging = subst (λ xs. IsMerging merge f (by_terms n xs)) (drop_all n (inverted collection) (omega (arith, long))) has.list.merging;
  took = subst (λ xs. Took lists f xs []) whole has.list.took;
  terms = subst (λ ts. TookTerms lex f ts) (take_all n (terms_of collection) (omega (arith, terms_long collection, dictionary_long))) has.took;
  sums_are = λ each. summed_all summed (length (documents collection)) (inverted collection) (each ∙ has.of.all_are) (subst (λ xs. AreSquares summed xs) whole has.list.summed);
}
  where
    dictionary_long : length (dictionary collection) ≡ n
    dictionary_long = sym (n_is ∙ ap (λ (xs : List (List ℕ)). length xs) has.of.terms_are)

    long : length (inverted collection) ≡ n
    long = lists_long collection ∙ dictionary_long

    whole : take n (inverted collection) ≡ inverted collection
    whole = take_all n (inverted collection) (omega (arith, long))

-- the parts that both writers leave
pub lists_are_there : ((collection : List ℕ) → entries_of (terms_of collection) ≡ lexicon collection) →
    (base collection : List ℕ) (w : Listing) (f g : Option Files) → w.post.name ≡ full_name base Post → w.skip.name ≡ full_name base Skip →
    w.all ≡ length (documents collection) → TermsStand base f (terms_of collection) → WroteParts OfPostings base f g → InBytes w g (inverted collection) → ListsStand g base collection
lists_are_there entries base collection w f g post skip all terms wrote bytes = record {
  post = ap (λ n. bytes_at g n) (sym post) ∙ bytes.post ∙ ap (λ m. as_bytes (lists_bits m (inverted collection))) all;
  skip = ap (λ n. bytes_at g n) (sym skip) ∙ bytes.skip ∙ ap (λ m. as_bytes (flat_map entry_bits (lists_entries m (inverted collection)))) all;
  lex = bytes_stay f g (full_name base Lex) (lex_stays base f g wrote) ∙ terms.lex ∙ ap (λ es. front es) (entries collection);
  lex_at = bytes_stay f g (full_name base LexAt) (lex_at_stays base f g wrote) ∙ terms.lex_at ∙ ap (λ es. whole_at es) (entries collection);
}
  where
    bytes_stay : (f g : Option Files) (name : List ℕ) → file_at g name ≡ file_at f name → bytes_at g name ≡ bytes_at f name
    bytes_stay f g name same = cc

-- ---- where the end is refused

pub ends_err : {writer : IndexWriter} {e : PutErr} {f g : Option Files} {q r : Reads} {m n : ℕ} → PutStep {T = Sizes} OfLists writer.lex.base (Err e) f g q r m n →
    EndsWriters writer (Err e) f g q r m n
ends_err step = record {
  stand = λ collection told all took terms. tt;
  post_bytes = λ collection all took. tt;
  skip_count = λ collection all took. tt;
  few = tt;
  step = step;
}
