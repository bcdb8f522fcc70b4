-- What the lexicon tells of a term, and refusals.
use Rattle.std.proofs.Common.{arith, ◌≡◌, ◌≤◌, ℕ, List, length, refl, sym, ap, ◌∙◌, false, subst, ◌≢◌}
use Rattle.mg_defs.specs.Split.{documents}
use Rattle.mg_dev.specs.Files.{Files, Reads}
use Rattle.mg_dev.specs.Names.{same_part}
use Rattle.mg_dev.specs.declared.part.Part.{Part}
use Rattle.mg_dev.specs.declared.part.Part.TheVariants as dev
use Rattle.mg_bits.specs.Pages.{Looked}
use Rattle.std.specs.declared.option.Option.{Option}
use Rattle.std.specs.Prelude.{Result, Ok, Err}
use Rattle.std.specs.List.{list_any}
use Rattle.std.proofs.lemmas.List.Sums.{count_by-le-length}
use Rattle.mg_defs.specs.Terms.{docs, terms, same_term}
use Rattle.mg_defs.specs.Weights.{weight_of_term, wt}
use Rattle.mg_defs.specs.Lexicon as defs
use Rattle.mg_layout.specs.Infos.{IsInfoOf}
use Rattle.mg_layout.specs.declared.term_info.TermInfo.{TermInfo}
use Rattle.mg_dev.specs.declared.part_err.PartErr.{PartErr}
use Rattle.mg_dev.specs.declared.part_err.PartErr.TheVariants as part
use Rattle.mg_post.specs.Answers.{AnswersList}
use Rattle.mg_laws.proofs.MetBlocks.{term_some}
use Rattle.mg_rank.specs.Ranked.{AnswersOr, ReadsWeights}

-- ---- what the lexicon tells

pub record Told (collection t : List ℕ) (all count : ℕ) : Type 0 where
  pub is : count ≡ docs collection t
  pub some : 1 ≤ count
  pub within : count ≤ all
  pub weight : weight_of_term count all ≡ wt collection t

pub told : (collection t : List ℕ) (info : TermInfo) (all : ℕ) → IsInfoOf collection t info → all ≡ length (documents collection) → Told collection t all info.docs
told collection t info all i all_is =
    let same : info.docs ≡ docs collection t = ap (λ (x : defs.TermInfo). x.docs) i.is in
    record {
      is = same;
      some = omega (arith, same, term_some collection info.number t i.number);
      within = omega (arith, same, all_is, count_by-le-length (λ doc. list_any (same_term t) (terms doc)) (documents collection));
      weight = ap (λ n. weight_of_term n all) same ∙ ap (weight_of_term (docs collection t)) all_is;
    }

-- ---- refusals

pub or_list : {A B : Type 0} (e : PartErr) (f : A → Type 0) (h : B → Type 0) → AnswersList {T = A} (Err e) f → AnswersOr {T = B} (Err e) h
or_list part.Device f h got = tt
or_list part.Memory f h got = tt
or_list (part.Bad bad) f h got = absurd got

pub or_or : {A B : Type 0} (e : PartErr) (f : A → Type 0) (h : B → Type 0) → AnswersOr {T = A} (Err e) f → AnswersOr {T = B} (Err e) h
or_or part.Device f h got = tt
or_or part.Memory f h got = tt
or_or (part.Bad bad) f h got = absurd got

abbrev Got : Type 0
Got = Result ℕ PartErr

pub weight_of : {w v : ℕ} → (λ (r : Got). r) (Ok w) ≡ Ok v → w ≡ v
weight_of e = cc

-- ---- reads of Weights

other_part : (p : Part) → p ≢ dev.Weights → same_part p dev.Weights ≡ false
other_part p other = parts p other
  where
    parts : (q : Part) → q ≢ dev.Weights → same_part q dev.Weights ≡ false
    parts dev.Head o = refl
    parts dev.Words o = refl
    parts dev.Nonwords o = refl
    parts dev.Text o = refl
    parts dev.Places o = refl
    parts dev.Lex o = refl
    parts dev.LexAt o = refl
    parts dev.Post o = refl
    parts dev.Skip o = refl
    parts dev.Weights o = absurd (o refl)
    parts dev.Run o = refl
    parts dev.MergeA o = refl
    parts dev.MergeB o = refl
    parts dev.Plain o = refl

pub reads_on : {own : Part} {a b c : Reads} {f h : Option Files} {m n : ℕ} → own ≡ dev.Weights → ReadsWeights a b → Looked own f h b c m n → ReadsWeights a c
reads_on {own} {a} {b} {c} own_is first then = record {
  later = λ p. omega (arith, first.later p, then.later p);
  others = λ p other. then.others p (subst (λ q. same_part p q ≡ false) (sym own_is) (other_part p other)) ∙ first.others p other;
}
