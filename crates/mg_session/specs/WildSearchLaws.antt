-- One state of a search for patterns after another.
use Rattle.std.proofs.Common.{arith, ◌≡◌, ℕ, List, [], ◌∷◌, ◌++◌, refl, sym, ◌∙◌, subst, inl, inr}
use Rattle.std.proofs.lemmas.List.Sums.{sum_by-append}
use Rattle.std.specs.declared.option.Option.{Option}
use Rattle.mg_dev.specs.Files.{Files, Reads}
use Rattle.mg_dev.specs.declared.part_err.PartErr.{PartErr}
use Rattle.mg_dev.specs.declared.part_err.PartErr.TheVariants.{Device, Memory, Bad}
use Rattle.mg_defs.specs.Session.{Question}
use Rattle.mg_defs.specs.declared.session.Settings.{Settings}
use Rattle.mg_wild.specs.Loading.{IsOfLexicon, LexToLoad}
use Rattle.mg_session.specs.SearchLaws.{lists_stay}
use Rattle.mg_session.specs.WildAnswers.{wild_pages}
use Rattle.mg_session.specs.WildSearching.{AreNoPatterns, LoadsNone, SameWild, WildAsked, WildBy, WildMayStop, WildOver, WildParts, WildPrints, WildState}
use Rattle.mg_session.specs.WildTerms.{ReadsLists, WildSet}

-- ---- reads after reads

pub lists_none : {X : Type 0} (f : Option Files) (r : Reads) (n : ℕ) → ReadsLists X f f r r n n
lists_none f r n = record { files = refl; faults = omega arith; unread = λ p post lex. refl }

pub lists_then : {X Y Z : Type 0} {f g h : Option Files} {r s t : Reads} {k m n : ℕ} → (Z → X) → (Z → Y) →
    ReadsLists X f g r s k m → ReadsLists Y g h s t m n → ReadsLists Z f h r t k n
lists_then first second a b = record {
  files = b.files ∙ a.files;
  faults = omega (arith, a.faults, b.faults);
  unread = λ p post lex. b.unread p post (λ e. second (lex e)) ∙ a.unread p post (λ e. first (lex e));
}

-- ---- lines that are no patterns

none_first : (xs ys : List Question) → AreNoPatterns (xs ++ ys) → AreNoPatterns xs
none_first [] ys none = tt
none_first (x ∷ xs) ys none = (none.0, none_first xs ys none.1)

none_rest : (xs ys : List Question) → AreNoPatterns (xs ++ ys) → AreNoPatterns ys
none_rest [] ys none = none
none_rest (x ∷ xs) ys none = none_rest xs ys none.1

loads_first : (p : WildParts) (xs ys : List Question) → LoadsNone p (AreNoPatterns (xs ++ ys)) → LoadsNone p (AreNoPatterns xs)
loads_first p xs ys (inl loaded) = inl loaded
loads_first p xs ys (inr none) = inr (none_first xs ys none)

loads_rest : (p q : WildParts) (xs ys : List Question) → SameWild p q → LoadsNone p (AreNoPatterns (xs ++ ys)) → LoadsNone q (AreNoPatterns ys)
loads_rest p q xs ys same (inl loaded) = inl (same.terms.loaded loaded)
loads_rest p q xs ys same (inr none) = inr (none_rest xs ys none)

-- ---- the same parts

pub same_wild : (p : WildParts) → SameWild p p
same_wild p = record { base = refl; terms = record { lex = refl; loaded = λ some. some }; all = refl }

same_then : {p q r : WildParts} → SameWild p q → SameWild q r → SameWild p r
same_then a b = record {
  base = b.base ∙ a.base;
  terms = record { lex = b.terms.lex ∙ a.terms.lex; loaded = λ some. b.terms.loaded (a.terms.loaded some) };
  all = b.all ∙ a.all;
}

pub set_stays : {base other : List ℕ} {files now : Option Files} {lex next : LexToLoad} {all more : ℕ} {collection : List ℕ} → other ≡ base →
    now ≡ files → next ≡ lex → more ≡ all → WildSet base files lex all collection → WildSet other now next more collection
set_stays {base} {other} {files} {now} {lex} {next} {all} {more} {collection} named same told sized is = record {
  version = is.version;
  limits = is.limits;
  lists = lists_stay base other files now collection named same is.lists;
  lexicon = subst (λ f. IsOfLexicon next f collection) (sym same) (subst (λ (l : LexToLoad). IsOfLexicon l files collection) (sym told) is.lexicon);
  all_is = sized ∙ is.all_is;
}

wild_over : (s t : WildState) (xs : List Question) (collection : List ℕ) → WildAsked s t xs → WildOver s collection →
    WildOver t collection
wild_over s t xs collection a o = set_stays a.same.base a.step.files a.same.terms.lex a.same.all o

-- ---- lines after lines

pub wild_none : (s : WildState) → WildAsked s s []
wild_none s = record {
  step = lists_none s.files s.reads s.faults;
  same = same_wild s.parts;
  post = λ collection over.
      omega arith;
}

pub wild_more : (s t u : WildState) (xs ys : List Question) → WildAsked s t xs → WildAsked t u ys →
    WildAsked s u (xs ++ ys)
wild_more s t u xs ys a b = record {
  step = lists_then (loads_first s.parts xs ys) (loads_rest s.parts t.parts xs ys a.same) a.step b.step;
  same = same_then a.same b.same;
  post = λ collection over. omega (
    arith,
    a.post collection over,
    b.post collection (wild_over s t xs collection a over),
    sum_by-append (λ (q : Question). wild_pages collection q.line) xs ys,
  );
}

pub wild_later : (s t : WildState) (xs : List Question) (by : Settings → List ℕ → List ℕ) → WildAsked s t xs →
    WildBy s by → WildBy t by
wild_later s t xs by a answers = record {
  collection = answers.collection;
  over = wild_over s t xs answers.collection a answers.over;
  by_is = answers.by_is;
}

pub wild_printed : (s t : WildState) (xs : List Question) (question : Question) (before now : Option (List ℕ)) →
    WildAsked s t xs → WildPrints t question before now → WildPrints s question before now
wild_printed s t xs question before now a printed collection over = printed collection (wild_over s t xs collection a over)

pub wild_stop : (s t u : WildState) (xs : List Question) (error : PartErr) → WildAsked s t xs → WildMayStop t u error →
    WildMayStop s u error
wild_stop s t u xs Device a stops = omega (arith, a.step.faults, stops)
wild_stop s t u xs Memory a stops = tt
wild_stop s t u xs (Bad bad) a stops = λ collection over. stops collection (wild_over s t xs collection a over)
