-- Lists and lexicon side by side: one term more.
use Rattle.std.proofs.Common.{arith, ◌≡◌, ◌≢◌, ◌<◌, ◌+◌, ℕ, zero, suc, true, List, [], ◌∷◌, ◌++◌, length, take, drop, get_or, refl, sym, ap, subst, ◌∙◌, Some, is_some, ◌||◌, ◌==◌}
use Rattle.std.specs.Prelude.{slice_get, slice_index}
use Rattle.std.specs.declared.option.Option.{Option}
use Rattle.std.specs.declared.cmp.Ordering.TheVariants.{Less}
use Rattle.std.specs.Cmp.Lexicographic.{slice_cmp}
use Rattle.std.specs.List.Sorted.{IsStrictlySortedBy}
use Rattle.std.specs.Ordering.{is_lt, nat_cmp}
use Rattle.std.proofs.lemmas.Bool.{or_right}
use Rattle.std.proofs.lemmas.List.{take_more}
use Rattle.mg_dev.specs.declared.part.Part.TheVariants.{Lex, LexAt, Post, Skip}
use Rattle.mg_dev.specs.Files.{Files, file_at}
use Rattle.mg_dev.specs.Names.{full_name}
use Rattle.mg_defs.specs.declared.Posting.{Posting}
use Rattle.mg_defs.specs.Front.{is_below}
use Rattle.mg_defs.specs.Lists.{inverted}
use Rattle.mg_defs.specs.PostingLists.{by_terms}
use Rattle.mg_lex.specs.Terms.{Term, terms_of}
use Rattle.mg_lex.specs.Writing.{LexWriting, TookTerms}
use Rattle.mg_post.specs.Writing.{Listing, Took}
use Rattle.mg_runs.specs.Left.{Merging}
use Rattle.mg_index.specs.Listing.{AreOfCollection, CanIndex, CanList, HasIndexed, IsAtList, ListedMore, OfPostings, SameMerge}
use Rattle.mg_index.specs.Written.{WroteParts}
use Rattle.mg_index.proofs.ListFrames.{RunsStay, lex_at_stays, lex_stays, merging_stays_all, post_stays, skip_stays, wrote_lex}
use Rattle.mg_laws.proofs.TermLaws.{lists_long}
use Rattle.mg_index.proofs.TermSteps.{number_within, sizes_more}

-- the laws of lists and of terms that stay
abbrev pub ListsStay : Type 0
ListsStay =
    (w : Listing) (f g : Option Files) (lists : List (List Posting)) (ps : List Posting) → is_some g ≡ is_some f →
    file_at g w.post.name ≡ file_at f w.post.name → file_at g w.skip.name ≡ file_at f w.skip.name → Took w f lists ps → Took w g lists ps

abbrev pub TermsStay : Type 0
TermsStay =
    (w : LexWriting) (f g : Option Files) (ts : List Term) → is_some g ≡ is_some f → file_at g (full_name w.base Lex) ≡ file_at f (full_name w.base Lex) →
    file_at g (full_name w.base LexAt) ≡ file_at f (full_name w.base LexAt) → TookTerms w f ts → TookTerms w g ts

-- nothing but the lexicon's parts of a base was written
abbrev pub BesideLex : List ℕ → Option Files → Option Files → Type 0
BesideLex base f g = (n : List ℕ) → n ≢ full_name base Lex → n ≢ full_name base LexAt → file_at g n ≡ file_at f n

pub took_beside : ListsStay → (base : List ℕ) (lists : Listing) (f g : Option Files) (done : List (List Posting)) (ps : List Posting) →
    lists.post.name ≡ full_name base Post → lists.skip.name ≡ full_name base Skip →
    is_some g ≡ is_some f → BesideLex base f g → Took lists f done ps → Took lists g done ps
took_beside stay base lists f g done ps post skip told others took =
    stay lists f g done ps told (subst (λ n. file_at g n ≡ file_at f n) (sym post) (post_stays base f g others)) (subst (λ n. file_at g n ≡ file_at f n) (sym skip) (skip_stays base f g others)) took

pub can_list_beside : RunsStay → ListsStay → (merge : Merging) (lists : Listing) (sums : List ℕ) (f g : Option Files) → CanList merge lists sums f →
    is_some g ≡ is_some f → BesideLex merge.base f g → CanList merge lists sums g
can_list_beside runs_stay lists_stay merge lists sums f g can told others = record {
  left = can.left;
  merging = merging_stays_all runs_stay merge f g can.left (wrote_lex merge.base f g told others) can.merging;
  done = can.done;
  begun = can.begun;
  took = took_beside lists_stay merge.base lists f g can.done can.begun can.post can.skip told others can.took;
  each = can.each;
  within = can.within;
  post = can.post;
  skip = can.skip;
}

pub at_list_beside : RunsStay → ListsStay → (number : ℕ) (merge : Merging) (lists : Listing) (sums : List ℕ) (f g : Option Files) (done more : List (List Posting)) →
    lists.post.name ≡ full_name merge.base Post → lists.skip.name ≡ full_name merge.base Skip → is_some g ≡ is_some f → BesideLex merge.base f g →
    IsAtList number merge lists sums f done more → IsAtList number merge lists sums g done more
at_list_beside runs_stay lists_stay number merge lists sums f g done more post skip told others is = record {
  merging = merging_stays_all runs_stay merge f g (by_terms number more) (wrote_lex merge.base f g told others) is.merging;
  took = took_beside lists_stay merge.base lists f g done [] post skip told others is.took;
  rise = is.rise;
  fit = is.fit;
  summed = is.summed;
}

pub terms_beside : TermsStay → (base : List ℕ) (lex : LexWriting) (f g : Option Files) (ts : List Term) → lex.base ≡ base → WroteParts OfPostings base f g → TookTerms lex f ts → TookTerms lex g ts
terms_beside stay base lex f g ts base_is wrote took =
    let own = subst (λ b. WroteParts OfPostings b f g) (sym base_is) wrote in
    stay lex f g ts wrote.told (lex_stays lex.base f g own) (lex_at_stays lex.base f g own) took

-- ---- one term more

pub can_index_more : {terms : List (List ℕ)} {docs : List ℕ} {n count : ℕ} {merge next : Merging} {lists now : Listing}
    {lex lexed : LexWriting} {sums summed : List ℕ} {f h g : Option Files} {t : List ℕ} {term : Term} → RunsStay → ListsStay → TermsStay →
    CanIndex terms docs n merge lists lex sums f → CanList next now summed h → ListedMore lists now count → SameMerge merge next →
    WroteParts OfPostings merge.base f h → n < length docs → count ≡ slice_index docs n →
    slice_get terms n ≡ Some t → ((ts : List Term) → TookTerms lex h ts → TookTerms lexed g (ts ++ term ∷ [])) → lexed.front.count ≡ lex.front.count + 1 →
    lexed.front.last ≡ t → lexed.base ≡ lex.base →
    is_some g ≡ is_some h → BesideLex lex.base h g → CanIndex terms docs (n + 1) next now lexed summed g
can_index_more {terms} {docs} {n} {count} {merge} {next} {lists} {now} {lex} {lexed} {sums} {summed} {f} {h} {g} {t} {term} runs_stay lists_stay terms_stay can list listed same wrote lt count_is
    t_is took counted last base told others = record {
      list = can_list_beside runs_stay lists_stay next now summed h g list told (subst (λ b. BesideLex b h g) (can.base ∙ sym same.base) others);
      between = listed.pushed;
      total = omega (arith, listed.total, can.total, count_is, sizes_more docs n lt);
      base = base ∙ can.base ∙ sym same.base;
      before = can.before ++ term ∷ [];
      took = took can.before (terms_beside terms_stay merge.base lex f h can.before can.base wrote can.took);
      count = omega (arith, counted, can.count);
      last = λ k e.
          let k_is : n ≡ k = omega (arith, e) in
          subst (λ m. slice_get terms m ≡ Some lexed.front.last) k_is (t_is ∙ ap (λ (s : List ℕ). Some s) (sym last));
    }

pub indexed_more : {terms : List (List ℕ)} {docs : List ℕ} {collection : List ℕ} {n : ℕ} {merge next : Merging}
    {lists now : Listing} {lex lexed : LexWriting} {sums summed : List ℕ} {f h g : Option Files} {term : Term} → RunsStay → ListsStay → TermsStay →
    HasIndexed terms docs collection n merge lists lex sums f → n < length terms →
    IsAtList (n + 1) next now summed h (take n (inverted collection) ++ get_or (inverted collection) n [] ∷ []) (drop (n + 1) (inverted collection)) →
    now.all ≡ lists.all → now.post.name ≡ full_name next.base Post → now.skip.name ≡ full_name next.base Skip → SameMerge merge next → WroteParts OfPostings merge.base f h → lex.base ≡ merge.base →
    ((ts : List Term) → TookTerms lex h ts → TookTerms lexed g (ts ++ term ∷ [])) → take (n + 1) (terms_of collection) ≡ take n (terms_of collection) ++ term ∷ [] →
    is_some g ≡ is_some h → BesideLex lex.base h g → HasIndexed terms docs collection (n + 1) next now lexed summed g
indexed_more {terms} {docs} {collection} {n} {merge} {next} {lists} {now} {lex} {lexed} {sums} {summed} {f} {h} {g} {term}
    runs_stay lists_stay terms_stay has lt list all post skip same wrote base took more told others =
    let within = number_within terms docs lists.all n collection has.of lt in
    let front : take n (inverted collection) ++ get_or (inverted collection) n [] ∷ [] ≡ take (n + 1) (inverted collection) =
    sym (take_more (inverted collection) n [] (omega (arith, within, lists_long collection))) in
    record {
      told = told ∙ wrote.told ∙ has.told;
      of = subst (λ m. AreOfCollection terms docs m collection) (sym all) has.of;
      list =
          at_list_beside runs_stay lists_stay (n + 1) next now summed h g (take (n + 1) (inverted collection)) (drop (n + 1) (inverted collection)) post skip
          told (subst (λ b. BesideLex b h g) (base ∙ sym same.base) others)
          (subst (λ xs. IsAtList (n + 1) next now summed h xs (drop (n + 1) (inverted collection))) front list);
      took = subst (λ ts. TookTerms lexed g ts) (sym more) (took (take n (terms_of collection)) (terms_beside terms_stay merge.base lex f h (take n (terms_of collection)) base wrote has.took));
    }

-- ---- terms rise

next_above : (terms : List (List ℕ)) (k : ℕ) (a b : List ℕ) → IsStrictlySortedBy (slice_cmp nat_cmp) terms → slice_get terms k ≡ Some a →
    slice_get terms (suc k) ≡ Some b → slice_cmp nat_cmp a b ≡ Less
unfolding IsStrictlySortedBy
next_above [] k a b rising here there = absurd cc
next_above (x ∷ []) zero a b rising here there = absurd cc
next_above (x ∷ y ∷ terms) zero a b rising here there =
    let a_is : x ≡ a = cc in
    let b_is : y ≡ b = cc in
    subst (λ z. slice_cmp nat_cmp a z ≡ Less) b_is (subst (λ z. slice_cmp nat_cmp z y ≡ Less) a_is rising.0.0)
next_above (x ∷ terms) (suc k) a b rising here there = next_above terms k a b rising.1 here there

pub above : (terms : List (List ℕ)) (n count : ℕ) (last t : List ℕ) → IsStrictlySortedBy (slice_cmp nat_cmp) terms → count ≡ n →
    ((k : ℕ) → k + 1 ≡ n → slice_get terms k ≡ Some last) → slice_get terms n ≡ Some t →
    (count == 0 || is_below last t) ≡ true
above terms n count last t rising count_is before here = subst (λ m. (m == 0 || is_below last t) ≡ true) (sym count_is) (by_number n before here)
  where
    by_number : (n : ℕ) → ((k : ℕ) → k + 1 ≡ n → slice_get terms k ≡ Some last) → slice_get terms n ≡ Some t → (n == 0 || is_below last t) ≡ true
    by_number zero before here = refl
    by_number (suc k) before here = let one : k + 1 ≡ suc k = omega arith in or_right (suc k == 0) (is_below last t) (ap is_lt (next_above terms k last t rising (before k one) here))
