-- Which damage is told of the lexicon.
use Rattle.std.proofs.Common.{arith, ◌≡◌, ◌≢◌, ◌<◌, ◌∙◌, ℕ, zero, suc, List, length, slice_index_or, inl, inr, sym, subst}
use Rattle.std.proofs.lemmas.Bool.{cases_lt}
use Rattle.std.proofs.lemmas.List.{get_or_default}
use Rattle.mg_dev.specs.declared.bad as declared
use Rattle.mg_dev.specs.declared.part.Part.{Part}
use Rattle.mg_dev.specs.declared.part.Part.TheVariants as part
use Rattle.mg_dev.specs.declared.part_err.PartErr.{PartErr}
use Rattle.mg_dev.specs.declared.part_err.PartErr.TheVariants as err
use Rattle.mg_layout.specs.declared.term_info.TermInfo.{TermInfo}
use Rattle.mg_post.specs.Cursor.{NamesItsPart}
use Rattle.mg_rank.specs.Added.{AddedTo}
use Rattle.mg_rank.specs.Damages.{HasSome, IfOfLex, IsNotOfLex, IsTermDamage, RefusesTerm, TellsFirstOf, TellsTerm}

pub refused_calm : (all : ℕ) (info : TermInfo) (e : PartErr) → RefusesTerm all info e → e ≢ err.Device
refused_calm all info err.Device h = absurd h
refused_calm all info err.Memory h = absurd h
refused_calm all info (err.Bad bad) h = λ is. cc

pub refused_tells : (all : ℕ) (info : TermInfo) (e : PartErr) → RefusesTerm all info e → TellsTerm all info e
refused_tells all info err.Device h = tt
refused_tells all info err.Memory h = tt
refused_tells all info (err.Bad bad) h = λ is. h

-- a damage of another part is none of the lexicon
pub not_lex : {own : Part} (bad : declared.Bad.Bad) → bad.part ≡ own → own ≢ part.Lex → IsNotOfLex (err.Bad bad)
not_lex bad own_is other = λ is. other (sym own_is ∙ is)

pub lists_not_lex : (e : PartErr) → NamesItsPart e → IsNotOfLex e
lists_not_lex err.Device h = tt
lists_not_lex err.Memory h = tt
lists_not_lex (err.Bad bad) h =
    elim h.0 [
      | inl post ↦ not_lex bad post (λ is. cc)
      | inr skip ↦ not_lex bad skip (λ is. cc)
    ]

pub other_tells : (fact : declared.Bad.Bad → Type 0) (e : PartErr) → IsNotOfLex e → IfOfLex e fact
other_tells fact err.Device h = tt
other_tells fact err.Memory h = tt
other_tells fact (err.Bad bad) h = λ is. absurd (h is)

-- whole lists are of terms that some documents have
pub added_some : (all : ℕ) (terms : List TermInfo) (n : ℕ) (sums : List (ℕ × ℕ)) (k : ℕ) (info : TermInfo) → AddedTo all terms n sums → k < n →
    slice_index_or terms k info ≡ info → HasSome all info
added_some all terms zero sums k info added lt is = absurd (omega (arith, lt))
added_some all terms (suc n) sums k info added lt is =
    elim (cases_lt k n) [
      | inl less ↦ added_some all terms n added.0 k info added.1 less is
      | inr last ↦ (
          let same : k ≡ n = omega (arith, lt, last) in
          (added.2 info (subst (λ i. slice_index_or terms i info ≡ info) same is)).docs)
    ]

-- that of a term behind those whose lists were added whole is the first
pub first_of : (all : ℕ) (terms : List TermInfo) (k : ℕ) (sums : List (ℕ × ℕ)) (d : TermInfo) (e : PartErr) → k < length terms → AddedTo all terms k sums →
    TellsTerm all (slice_index_or terms k d) e → TellsFirstOf all terms e
first_of all terms k sums d err.Device lt added h = tt
first_of all terms k sums d err.Memory lt added h = tt
first_of all terms k sums d (err.Bad bad) lt added h = λ lex. record {
  place = k;
  there = lt;
  is = λ info is. subst (λ i. IsTermDamage all i bad) (get_or_default terms k d info lt ∙ is) (h lex);
  first = λ j info before is. added_some all terms k sums j info added before is;
}
