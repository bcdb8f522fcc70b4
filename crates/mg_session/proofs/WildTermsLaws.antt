-- A pattern is answered by terms that were loaded before, or are loaded for it.
use Rattle.std.proofs.Common.{arith, ◌≡◌, ◌≢◌, ◌≤◌, ◌+◌, ◌∙◌, ℕ, false, List, IsSome, None, Some, Err, inl, inr, refl, sym, subst}
use Rattle.std.specs.Prelude.{IfSome}
use Rattle.std.specs.declared.option.Option.{Option}
use Rattle.std.specs.declared.result.Result.{Result}
use Rattle.mg_bits.specs.Pages.{Looked}
use Rattle.mg_dev.specs.Each.{ForEach}
use Rattle.mg_dev.specs.Files.{Files, Reads, bytes_at}
use Rattle.mg_dev.specs.Moments.{SinkAt, StoreAt}
use Rattle.mg_dev.specs.Names.{full_name, same_part}
use Rattle.mg_dev.specs.declared.bad.Bad as declared
use Rattle.mg_dev.specs.declared.part.Part.{Part}
use Rattle.mg_dev.specs.declared.part.Part.TheVariants as part
use Rattle.mg_dev.specs.declared.part_err.PartErr.{PartErr}
use Rattle.mg_dev.specs.declared.part_err.PartErr.TheVariants.{Device, Memory, Bad}
use Rattle.mg_dev.specs.declared.show_err.ShowErr.{ShowErr}
use Rattle.mg_dev.specs.declared.show_err.ShowErr.TheVariants as show
use Rattle.mg_defs.specs.Patterns.{Pattern, pattern_of, sides}
use Rattle.mg_text.specs.Reading.{ShowIsNotBad}
use Rattle.mg_wild.specs.Loading.{AreWithin, IsOfLexicon, PartRead}
use Rattle.mg_wild.specs.Terms.{LexTerms}
use Rattle.mg_session.specs.SearchLaws.{lists_stay}
use Rattle.mg_session.specs.WildAnswers.{PatternStep, ReadsNoOther, WildAnswered, WildSources, pattern_pages}
use Rattle.mg_session.specs.WildSearching.{IsNoPattern, LoadsNone, SameWild, WildParts}
use Rattle.mg_session.specs.WildTerms.{AreLoaded, PatternAsked, ReadsLists, SameTerms, TermsFit, WildSet, WildTerms}
use Rattle.mg_session.proofs.CallLaws.{part_cause, part_lack}
use Rattle.mg_session.proofs.StepLaws.{cause_after}
use Rattle.mg_session.proofs.WildTextLaws.{wild_stop}

-- ---- a part but the lexicon

pub not_lex : (p : Part) → p ≢ part.Lex → same_part p part.Lex ≡ false
not_lex part.Head other = refl
not_lex part.Words other = refl
not_lex part.Nonwords other = refl
not_lex part.Text other = refl
not_lex part.Places other = refl
not_lex part.Lex other = absurd (other refl)
not_lex part.LexAt other = refl
not_lex part.Post other = refl
not_lex part.Skip other = refl
not_lex part.Weights other = refl
not_lex part.Run other = refl
not_lex part.MergeA other = refl
not_lex part.MergeB other = refl
not_lex part.Plain other = refl

none_is : {loaded : Option LexTerms} → loaded ≡ None → IsSome loaded → ⊥
none_is e some = let none : IsSome {T = LexTerms} None = subst (λ (o : Option LexTerms). IsSome o) e some in absurd cc

lex_read : {loaded : Option LexTerms} {f g : Option Files} {r s : Reads} {m n : ℕ} → loaded ≡ None → Looked part.Lex f g r s m n →
    (p : Part) → (p ≡ part.Lex → IsSome loaded) → s p ≡ r p
lex_read none looked p lex = looked.others p (not_lex p (λ e. none_is none (lex e)))

-- ---- terms at hand

-- Between two moments these terms came to hand: they were loaded before, or are loaded now.
pub record AtHand (t : WildTerms) (before now : StoreAt) (terms : LexTerms) : Type 0 where
  pub files : now.files ≡ before.files
  pub faults : before.faults ≤ now.faults
  pub unread : (p : Part) → (p ≡ part.Lex → IsSome t.loaded) → now.reads p ≡ before.reads p
  pub are : AreLoaded t.lex before.files terms

pub held_before : {t : WildTerms} (s : StoreAt) (terms : LexTerms) → TermsFit s.files t → t.loaded ≡ Some terms → AtHand t s s terms
held_before {t} s terms fit is = record {
  files = refl;
  faults = omega arith;
  unread = λ p lex. refl;
  are = subst (λ (o : Option LexTerms). IfSome o (AreLoaded t.lex s.files)) is fit.loaded;
}

pub loaded_here : {t : WildTerms} (before now : StoreAt) (terms : LexTerms) → t.loaded ≡ None →
    Looked part.Lex before.files now.files before.reads now.reads before.faults now.faults → AreLoaded t.lex before.files terms → AtHand t before now terms
loaded_here before now terms none looked are = record {
  files = looked.files;
  faults = looked.faults;
  unread = lex_read none looked;
  are = are;
}

-- ---- a pattern

sources : {base : List ℕ} {all : ℕ} {t : WildTerms} {before middle : StoreAt} (terms : LexTerms) → AtHand t before middle terms → (collection : List ℕ) →
    WildSet base before.files t.lex all collection → WildSources base middle.files terms all collection
sources {base} {all} {t} {before} {middle} terms hand collection is = record {
  lists = lists_stay base base before.files middle.files collection refl hand.files is.lists;
  terms_are = hand.are.terms_are collection is.lexicon;
  infos_are = hand.are.infos_are is.version collection is.limits is.lexicon;
  all_is = is.all_is;
}

module _ {base : List ℕ} {all : ℕ} {p : Pattern} {t : WildTerms} {before middle now : StoreAt} {out out_now : SinkAt}
    {result : Result (Unit {0}) ShowErr} where
  -- it is answered by terms that came to hand
  pub answered_by : {t_now : WildTerms} (terms : LexTerms) → AtHand t before middle terms → TermsFit before.files t →
      t_now ≡ record { lex = t.lex; loaded = Some terms } →
      ForEach (WildSources base middle.files terms all) (λ collection. WildAnswered collection p out.written out_now.written result) →
      ForEach (WildSources base middle.files terms all) (λ collection. now.reads part.Post ≤ middle.reads part.Post + pattern_pages collection p) →
      PatternStep ReadsNoOther middle now out out_now result → PatternAsked base all p t t_now before now out out_now result
  answered_by {t_now} terms hand fit made answer pages step =
      let held : WildTerms = record { lex = t.lex; loaded = Some terms } in
      let fits : TermsFit before.files held = record { within = fit.within; loaded = hand.are } in
      let same : SameTerms t held = record { lex = refl; loaded = λ some. refl } in
      record {
        fits = subst (λ (x : WildTerms). TermsFit now.files x) (sym made) (subst (λ (f : Option Files). TermsFit f held) (sym (step.step.files ∙ hand.files)) fits);
        same = subst (λ (x : WildTerms). SameTerms t x) (sym made) same;
        answer = λ collection is. answer collection (sources terms hand collection is);
        pages = λ collection is. omega (arith, pages collection (sources terms hand collection is), hand.unread part.Post (λ e. absurd cc));
        stepped = record {
          step = record {
            files = step.step.files ∙ hand.files;
            faults = omega (arith, step.step.faults, hand.faults);
            unread = λ q post lex. step.step.unread q post ∙ hand.unread q lex;
          };
          cause = cause_after _ _ _ _ _ _ _ hand.faults (omega arith) step.cause;
          lack = step.lack;
        };
      }

-- ---- terms that are not loaded

sound : (refusal : PartErr) → ((bad : declared.Bad) → refusal ≢ Bad bad) → ShowIsNotBad (Err (show.Part refusal))
sound Device never = tt
sound Memory never = tt
sound (Bad bad) never = absurd (never bad refl)

-- they are refused
pub not_answered : {base : List ℕ} {all : ℕ} {p : Pattern} {t : WildTerms} (before now : StoreAt) (out : SinkAt) (refusal : PartErr) →
    PartRead {T = LexTerms} part.Lex (Err refusal) before.files now.files before.reads now.reads before.faults now.faults → t.loaded ≡ None → TermsFit before.files t →
    ((collection : List ℕ) (bad : declared.Bad) → IsOfLexicon t.lex before.files collection →
    AreWithin (bytes_at before.files (full_name t.lex.base part.Lex)) t.lex.count t.lex.most → refusal ≢ Bad bad) →
    PatternAsked base all p t t before now out out (Err (show.Part refusal))
not_answered {base} {all} {p} {t} before now out refusal read none fit never = record {
  fits = subst (λ (f : Option Files). TermsFit f t) (sym read.looked.files) fit;
  same = record { lex = refl; loaded = λ some. some };
  answer = λ collection is. wild_stop collection p out.written (show.Part refusal)
      (sound refusal (λ bad. never collection bad is.lexicon (fit.within is.lexicon.told)));
  pages = λ collection is. omega (arith, read.looked.others part.Post refl);
  stepped = record {
    step = record { files = read.looked.files; faults = read.looked.faults; unread = λ q post lex. lex_read none read.looked q lex };
    cause = part_cause refusal refl read.cause;
    lack = part_lack refusal refl;
  };
}

-- ---- what was done to parts was done to the same parts by another name

pub asked_as : {base : List ℕ} {all : ℕ} {p : Pattern} {own t t_now : WildTerms} {before now : StoreAt} {out out_now : SinkAt} {result : Result (Unit {0}) ShowErr} →
    own ≡ t → PatternAsked base all p own t_now before now out out_now result → PatternAsked base all p t t_now before now out out_now result
asked_as {base} {all} {p} {own} {t} {t_now} {before} {now} {out} {out_now} {result} same a =
    subst (λ (x : WildTerms). PatternAsked base all p x t_now before now out out_now result) same a

pub kept_as : {base : List ℕ} {all : ℕ} {p : Pattern} {own t : WildTerms} {before now : StoreAt} {out out_now : SinkAt} {result : Result (Unit {0}) ShowErr} →
    own ≡ t → PatternAsked base all p own own before now out out_now result → PatternAsked base all p t t before now out out_now result
kept_as {base} {all} {p} {own} {t} {before} {now} {out} {out_now} {result} same a =
    subst (λ (x : WildTerms). PatternAsked base all p x x before now out out_now result) same a

pub same_as : {own p q : WildParts} → own ≡ p → SameWild own q → SameWild p q
same_as {own} {p} {q} same a = subst (λ (x : WildParts). SameWild x q) same a

-- ---- a line

-- it is a pattern, so the terms were loaded before if none is loaded for it
pub pattern_step : {own p : WildParts} (line : List ℕ) {pattern : Pattern} {before now : StoreAt} {out out_now : SinkAt} {result : Result (Unit {0}) ShowErr} →
    own ≡ p → pattern_of line ≡ sides pattern → PatternStep (ReadsLists (IsSome own.terms.loaded)) before now out out_now result →
    PatternStep (ReadsLists (LoadsNone p (IsNoPattern line))) before now out out_now result
pattern_step {own} {p} line {pattern} {before} {now} {out} {out_now} {result} same is a =
    subst (λ (x : WildParts). PatternStep (ReadsLists (LoadsNone x (IsNoPattern line))) before now out out_now result) same
    (record {
      step = record { files = a.step.files; faults = a.step.faults; unread = λ q post lex. a.step.unread q post (λ e. loads (lex e)) };
      cause = a.cause;
      lack = a.lack;
    })
  where
    loads : LoadsNone own (IsNoPattern line) → IsSome own.terms.loaded
    loads (inl some) = some
    loads (inr none) = let both = sym is ∙ none.1 in absurd cc

-- a line alone
pub one_line : (p : WildParts) {X : Type 0} {f g : Option Files} {r s : Reads} {m n : ℕ} → ReadsLists (LoadsNone p X) f g r s m n →
    ReadsLists (LoadsNone p (X × Unit {0})) f g r s m n
one_line p {X} a = record { files = a.files; faults = a.faults; unread = λ q post lex. a.unread q post (λ e. alone (lex e)) }
  where
    alone : LoadsNone p (X × Unit {0}) → LoadsNone p X
    alone (inl some) = inl some
    alone (inr none) = inr none.0
