-- One posting more of a list, over any store and over one that tells its files.
use Rattle.std.proofs.Common.{arith, ◌≡◌, ◌≤◌, ◌<◌, ◌+◌, ℕ, List, [], ◌∷◌, ◌++◌, length, take, drop, sym, ap, subst, ◌∙◌, append_assoc, IsSome, is_some, get_or, length-drop}
use Rattle.std.proofs.lemmas.List.{drop_all, drop_more, nil_from_length, take_all, take_more}
use Rattle.std.specs.declared.option.Option.{Option}
use Rattle.std.specs.List.{AllByRecursion}
use Rattle.mg_dev.specs.declared.part.Part.TheVariants.{Post, Skip}
use Rattle.mg_dev.specs.Files.{Files}
use Rattle.mg_dev.specs.Names.{full_name}
use Rattle.mg_defs.specs.declared.Posting.{Posting}
use Rattle.mg_defs.specs.declared.TermPosting.{TermPosting}
use Rattle.mg_defs.specs.Lists.{Follows, Rises}
use Rattle.mg_defs.specs.PostingLists.{by_terms, term_list}
use Rattle.mg_defs.specs.Squares.{squares}
use Rattle.mg_post.specs.Writing.{IsBetween, Listing, PushedMore, SameFiles, Took}
use Rattle.mg_runs.specs.Left.{IsMerging, Merging}
use Rattle.mg_index.specs.Listing.{AreSquares, CanList, HasNext, HasList, HasRest, IsAtList, IsInList, OfPostings, SameMerge, SquaresFit}
use Rattle.mg_index.specs.Written.{WroteParts}
use Rattle.mg_index.proofs.ListFrames.{RunsStay, merging_stays}
use Rattle.mg_index.proofs.SquareSteps.{squares_front, squares_first, summed_begun}

-- ---- one posting

pub can_more : {merge next : Merging} {lists now : Listing} {sums summed : List ℕ} {f h g : Option Files} (p : Posting) → RunsStay →
    CanList merge lists sums f → SameMerge merge next → h ≡ f → ((left : List TermPosting) → IsMerging merge f left → IsMerging next h (drop 1 left)) →
    WroteParts OfPostings next.base h g → ((done : List (List Posting)) (ps : List Posting) → Took lists h done ps → Took now g done (ps ++ p ∷ [])) →
    SameFiles lists now → length summed ≡ length sums → now.last ≤ lists.all → CanList next now summed g
can_more {next} {lists} {h} {g} p stay can same files merging wrote took names each within = record {
  left = drop 1 can.left;
  merging = merging_stays stay next h g (drop 1 can.left) wrote (merging can.left can.merging);
  done = can.done;
  begun = can.begun ++ p ∷ [];
  took = took can.done can.begun (subst (λ x. Took lists x can.done can.begun) (sym files) can.took);
  each = each ∙ can.each ∙ sym names.all;
  within = omega (arith, within, names.all);
  post = names.post ∙ can.post ∙ ap (λ base. full_name base Post) (sym same.base);
  skip = names.skip ∙ can.skip ∙ ap (λ base. full_name base Skip) (sym same.base);
}

first_rises : (all last : ℕ) (p : Posting) (left : List Posting) → Rises all last (p ∷ left) → Follows all last p
unfolding Rises
first_rises all last p left h = h.0

rest_rises : (all last : ℕ) (p : Posting) (left : List Posting) → Rises all last (p ∷ left) → Rises all p.doc left
unfolding Rises
rest_rises all last p left h = h.1

-- where the posting that was read is the first of those left
pub in_list_more : {number : ℕ} {merge next : Merging} {lists now : Listing} {sums summed : List ℕ} {f h g : Option Files} {p q : Posting}
    {done : List (List Posting)} {ps left : List Posting} {later : List TermPosting} → RunsStay → IsInList number merge lists sums f done ps (p ∷ left) later → h ≡ f →
    q ≡ p → ((left : List TermPosting) → IsMerging merge f left → IsMerging next h (drop 1 left)) → WroteParts OfPostings next.base h g →
    ((done : List (List Posting)) (ps : List Posting) → Took lists h done ps → Took now g done (ps ++ q ∷ [])) →
    ((done : List (List Posting)) (ps : List Posting) → SquaresFit (done ++ (ps ++ q ∷ []) ∷ []) → AreSquares sums (done ++ ps ∷ []) → AreSquares summed (done ++ (ps ++ q ∷ []) ∷ [])) →
    now.all ≡ lists.all → now.last ≡ q.doc → IsInList number next now summed g done (ps ++ p ∷ []) left later
in_list_more {number} {next} {lists} {now} {summed} {h} {g} {p} {done} {ps} {left} {later} stay in_list files is merging wrote took sum all last =
    let whole : (ps ++ p ∷ []) ++ left ≡ ps ++ (p ∷ left) = append_assoc ps (p ∷ []) left in
    let fit : SquaresFit (done ++ ((ps ++ p ∷ []) ++ left) ∷ []) = subst (λ xs. SquaresFit (done ++ xs ∷ [])) (sym whole) in_list.fit in
    let front : SquaresFit (done ++ (ps ++ p ∷ []) ∷ []) = λ doc. omega (arith, squares_front doc done (ps ++ p ∷ []) left, fit doc) in
    record {
      merging = merging_stays stay next h g (term_list number left ++ later) wrote (merging (term_list number (p ∷ left) ++ later) in_list.merging);
      took = subst (λ x. Took now g done (ps ++ x ∷ [])) is (took done ps (subst (λ x. Took lists x done ps) (sym files) in_list.took));
      rises = subst (λ x. Rises x now.last left) (sym all) (subst (λ x. Rises lists.all x left) (sym (last ∙ ap (λ (x : Posting). x.doc) is)) (rest_rises lists.all lists.last p left in_list.rises));
      fit = fit;
      summed = subst (λ x. AreSquares summed (done ++ (ps ++ x ∷ []) ∷ [])) is (sum done ps (subst (λ x. SquaresFit (done ++ (ps ++ x ∷ []) ∷ [])) (sym is) front) in_list.summed);
    }

-- the first posting of those left is the next one
pub next_of_rest : (number last : ℕ) (merge : Merging) (lists : Listing) (sums : List ℕ) (f : Option Files) (all : ℕ) → lists.last ≡ last → all ≡ lists.all →
    HasRest number 1 merge lists sums f → HasNext number all last merge f
next_of_rest number last merge lists sums f all last_is all_is rest = by_left rest.left rest.enough rest.is
  where
    by_left : (left : List Posting) → 1 ≤ length left → IsInList number merge lists sums f rest.done rest.ps left rest.later → HasNext number all last merge f
    by_left [] enough is = absurd (omega (arith, enough))
    by_left (p ∷ left) enough is = record {
      told = rest.told;
      posting = p;
      left = left;
      later = rest.later;
      merging = is.merging;
      follows = subst (λ x. Follows x last p) (sym all_is) (subst (λ x. Follows lists.all x p) last_is (first_rises lists.all lists.last p left is.rises));
    }

-- ---- several postings

pub one_more_taken : (P Q : List Posting → List Posting → Type 0) (ps left : List Posting) (n : ℕ) → n < length left →
    ((qs : List Posting) (p : Posting) (rest : List Posting) → P qs (p ∷ rest) → Q (qs ++ p ∷ []) rest) → P (ps ++ take n left) (drop n left) → Q (ps ++ take (n + 1) left) (drop (n + 1) left)
one_more_taken P Q ps left n lt step h =
    let none : Posting = record { doc = 0; freq = 0 } in
    let front : (ps ++ take n left) ++ get_or left n none ∷ [] ≡ ps ++ take (n + 1) left = append_assoc ps (take n left) (get_or left n none ∷ [])
    ∙ ap (λ xs. ps ++ xs) (sym (take_more left n none lt)) in
    subst (λ xs. Q xs (drop (n + 1) left)) front (step (ps ++ take n left) (get_or left n none) (drop (n + 1) left) (subst (λ xs. P (ps ++ take n left) xs) (drop_more left n none lt) h))

pub rest_after : (number docs n : ℕ) {merge next : Merging} {lists now : Listing} {sums summed : List ℕ} {f g : Option Files} → n < docs →
    is_some g ≡ is_some f →
    (IsSome f → (done : List (List Posting)) (ps left : List Posting) (later : List TermPosting) → docs ≤ length left →
    IsInList number merge lists sums f done ps left later → IsInList number next now summed g done (ps ++ take n left) (drop n left) later) →
    HasRest number docs merge lists sums f → HasRest number 1 next now summed g
rest_after number docs n lt told step rest = record {
  told = told ∙ rest.told;
  done = rest.done;
  ps = rest.ps ++ take n rest.left;
  left = drop n rest.left;
  later = rest.later;
  enough = omega (arith, lt, rest.enough, length-drop n rest.left);
  is = step rest.told rest.done rest.ps rest.left rest.later rest.enough rest.is;
}

-- ---- the begin and the end of a list

pub took_between : (lists : Listing) (f : Option Files) (done : List (List Posting)) (ps : List Posting) → lists.pushed ≡ 0 → Took lists f done ps → Took lists f done []
took_between lists f done ps none took = subst (λ xs. Took lists f done xs) (nil_from_length ps (sym took.pushed ∙ none)) took

pub can_begun : (docs : ℕ) (merge : Merging) (lists now : Listing) (sums : List ℕ) (f g : Option Files) → CanList merge lists sums f → lists.pushed ≡ 0 → g ≡ f →
    ((done : List (List Posting)) → Took lists f done [] → Took now g done []) → IsBetween lists now docs → SameFiles lists now → CanList merge now sums g
can_begun docs merge lists now sums f g can none files took between names = record {
  left = can.left;
  merging = subst (λ x. IsMerging merge x can.left) (sym files) can.merging;
  done = can.done;
  begun = [];
  took = took can.done (took_between lists f can.done can.begun none can.took);
  each = can.each ∙ sym names.all;
  within = omega (arith, between.last);
  post = names.post ∙ can.post;
  skip = names.skip ∙ can.skip;
}

pub at_list_begun : (number docs : ℕ) (merge : Merging) (lists now : Listing) (sums : List ℕ) (f g : Option Files) (done : List (List Posting)) (ps : List Posting) (more : List (List Posting)) →
    IsAtList number merge lists sums f done (ps ∷ more) → g ≡ f → ((done : List (List Posting)) → Took lists f done [] → Took now g done []) → IsBetween lists now docs → SameFiles lists now →
    IsInList number merge now sums g done [] ps (by_terms (number + 1) more)
at_list_begun number docs merge lists now sums f g done ps more is files took between names = record {
  merging = subst (λ x. IsMerging merge x (term_list number ps ++ by_terms (number + 1) more)) (sym files) is.merging;
  took = took done is.took;
  rises = subst (λ x. Rises x now.last ps) (sym names.all) (subst (λ x. Rises lists.all x ps) (sym between.last) is.rise.0);
  fit = λ doc. omega (arith, squares_first doc (done ++ ps ∷ []) more, ap (λ xs. squares doc xs) (append_assoc done (ps ∷ []) more), is.fit doc);
  summed = summed_begun sums done is.summed;
}

pub can_ended : RunsStay → (merge : Merging) (lists now : Listing) (sums : List ℕ) (f g : Option Files) (docs : ℕ) → CanList merge lists sums f → WroteParts OfPostings merge.base f g →
    ((done : List (List Posting)) (ps : List Posting) → Took lists f done ps → Took now g (done ++ ps ∷ []) []) → IsBetween lists now docs → SameFiles lists now → CanList merge now sums g
can_ended stay merge lists now sums f g docs can wrote took between names = record {
  left = can.left;
  merging = merging_stays stay merge f g can.left wrote can.merging;
  done = can.done ++ can.begun ∷ [];
  begun = [];
  took = took can.done can.begun can.took;
  each = can.each ∙ sym names.all;
  within = omega (arith, between.last);
  post = names.post ∙ can.post;
  skip = names.skip ∙ can.skip;
}

pub at_list_ended : RunsStay → (number : ℕ) (merge : Merging) (lists now : Listing) (sums : List ℕ) (f g : Option Files) (all : ℕ) (done : List (List Posting))
    (ps : List Posting) (more : List (List Posting)) →
    IsInList number merge lists sums f done ps [] (by_terms (number + 1) more) → all ≡ now.all → AllByRecursion (λ qs. Rises all 0 qs) more →
    SquaresFit (done ++ ps ∷ more) → WroteParts OfPostings merge.base f g →
    ((done : List (List Posting)) (ps : List Posting) → Took lists f done ps → Took now g (done ++ ps ∷ []) []) → IsAtList (number + 1) merge now sums g (done ++ ps ∷ []) more
at_list_ended stay number merge lists now sums f g all done ps more is all_is rise fit wrote took = record {
  merging = merging_stays stay merge f g (by_terms (number + 1) more) wrote is.merging;
  took = took done ps is.took;
  rise = subst (λ x. AllByRecursion (λ qs. Rises x 0 qs) more) all_is rise;
  fit = subst (λ xs. SquaresFit xs) (sym (append_assoc done (ps ∷ []) more)) fit;
  summed = is.summed;
}

-- the whole list is taken
pub whole_taken : (P : List Posting → List Posting → Type 0) (n : ℕ) (ps : List Posting) → length ps ≡ n → P (take n ps) (drop n ps) → P ps []
whole_taken P n ps size h = subst (λ xs. P ps xs) (drop_all n ps (omega (arith, size))) (subst (λ xs. P xs (drop n ps)) (take_all n ps (omega (arith, size))) h)

pub rest_of_list : (number docs : ℕ) (merge : Merging) (lists now : Listing) (sums : List ℕ) (f g : Option Files) → g ≡ f → ((done : List (List Posting)) → Took lists f done [] → Took now g done []) →
    IsBetween lists now docs → SameFiles lists now → HasList number docs merge lists sums f → HasRest number docs merge now sums g
rest_of_list number docs merge lists now sums f g files took between names has = record {
  told = ap is_some files ∙ has.told;
  done = has.done;
  ps = [];
  left = has.ps;
  later = by_terms (number + 1) has.more;
  enough = omega (arith, has.size);
  is = at_list_begun number docs merge lists now sums f g has.done has.ps has.more has.is files took between names;
}

-- ---- what was pushed, and where

pub pushed_more : (a b c : Listing) (n : ℕ) → PushedMore a b n → PushedMore b c 1 → PushedMore a c (n + 1)
pushed_more a b c n first second = record { docs = second.docs ∙ first.docs; pushed = omega (arith, first.pushed, second.pushed); total = omega (arith, first.total, second.total) }

pub names_more : (a b c : Listing) → SameFiles a b → SameFiles b c → SameFiles a c
names_more a b c first second = record { post = second.post ∙ first.post; skip = second.skip ∙ first.skip; all = second.all ∙ first.all }
