-- What the lexicon told of the first of some terms.
use Rattle.std.proofs.Common.{arith, ◌≡◌, ℕ, zero, suc, ◌+◌, ◌<◌, inl, inr, List, [], ◌∷◌, ◌++◌, length, get_or, take, Some, None, Ok, Err, refl, sym, ◌∙◌, ap, subst, add-one}
use Rattle.std.specs.Prelude.{slice_index_or}
use Rattle.std.proofs.lemmas.Bool.{cases_lt}
use Rattle.std.specs.declared.option.Option.{Option}
use Rattle.mg_dev.specs.Files.{Files}
use Rattle.mg_dev.specs.declared.part_err.PartErr.{PartErr}
use Rattle.mg_dev.specs.declared.part_err.PartErr.TheVariants.{Device, Memory, Bad}
use Rattle.mg_bool.specs.Places.{AreInfos, IsToldOf}
use Rattle.mg_front.specs.Reading.{Fronted}
use Rattle.mg_layout.specs.declared.term_info.TermInfo.{TermInfo}
use Rattle.mg_lex.specs.Reading.{AnswersInfo}
use Rattle.mg_lex.specs.Stood.{TermTold}
use Rattle.mg_rank.specs.Ranked.{AnswersOr}
use Rattle.mg_session.specs.Answering.{FirstInfos, known_infos}

pub told_of : (collection t : List ℕ) (o : Option TermInfo) → AnswersInfo (Ok o) collection t → IsToldOf collection t o
told_of collection t None is = is
told_of collection t (Some info) is = record { number = is.number; is = is.is }

-- a device's failure or want of memory is no damage
pub told_or : {T : Type 0} (collection t : List ℕ) (e : PartErr) (fact : T → Type 0) → AnswersInfo (Err e) collection t → AnswersOr {T = T} (Err e) fact
told_or collection t Device fact is = tt
told_or collection t Memory fact is = absurd is
told_or collection t (Bad bad) fact is = absurd is

pub infos_start : (collection : List ℕ) (ts : List (List ℕ)) (infos : List (Option TermInfo)) → FirstInfos collection ts 0 infos
infos_start collection ts infos = record { each = λ k lt. absurd (omega (arith, lt)) }

index_before : (infos : List (Option TermInfo)) (o d : Option TermInfo) (k : ℕ) → k < length infos → slice_index_or (infos ++ o ∷ []) k d ≡ slice_index_or infos k d
index_before [] o d k lt = absurd (omega (arith, lt))
index_before (x ∷ infos) o d zero lt = refl
index_before (x ∷ infos) o d (suc k) lt = index_before infos o d k (omega (arith, lt))

index_last : (infos : List (Option TermInfo)) (o d : Option TermInfo) → slice_index_or (infos ++ o ∷ []) (length infos) d ≡ o
index_last [] o d = refl
index_last (x ∷ infos) o d = index_last infos o d

pub infos_more : (collection : List ℕ) (ts : List (List ℕ)) (count : ℕ) (infos : List (Option TermInfo)) (o : Option TermInfo) →
    FirstInfos collection ts count infos → length infos ≡ count → IsToldOf collection (get_or ts count []) o →
    FirstInfos collection ts (count + 1) (infos ++ o ∷ [])
infos_more collection ts count infos o first size told = record {
  each = λ k lt. elim (cases_lt k count) [
    | inl before ↦ subst (IsToldOf collection (get_or ts k [])) (sym (index_before infos o None k (omega (arith, before, size)))) (first.each k before)
    | inr after ↦
        let here : k ≡ count = omega (arith, after, lt) in
        let is : slice_index_or (infos ++ o ∷ []) k None ≡ o = ap (λ n. slice_index_or (infos ++ o ∷ []) n None) (here ∙ sym size) ∙ index_last infos o None in
        subst (IsToldOf collection (get_or ts k [])) (sym is) (subst (λ n. IsToldOf collection (get_or ts n []) o) (sym here) told)
  ];
}

pub infos_all : (collection : List ℕ) (ts : List (List ℕ)) (count : ℕ) (infos : List (Option TermInfo)) → FirstInfos collection ts count infos →
    length infos ≡ count → count ≡ length ts → AreInfos collection ts infos
infos_all collection ts count infos first size all = record { size = size ∙ all; each = λ k lt. first.each k (omega (arith, lt, all)) }

-- what the lexicon tells of one term more
pub told_more : (lex : Fronted) (files : Option Files) (ts : List (List ℕ)) (count : ℕ) (infos : List (Option TermInfo)) (o : Option TermInfo) → length infos ≡ count →
    ((k : ℕ) → k < count → TermTold lex files (get_or ts k []) (slice_index_or infos k None)) → TermTold lex files (get_or ts count []) o →
    (k : ℕ) → k < count + 1 → TermTold lex files (get_or ts k []) (slice_index_or (infos ++ o ∷ []) k None)
told_more lex files ts count infos o size first told k lt = elim (cases_lt k count) [
  | inl before ↦ subst (TermTold lex files (get_or ts k [])) (sym (index_before infos o None k (omega (arith, before, size)))) (first k before)
  | inr after ↦
      let here : k ≡ count = omega (arith, after, lt) in
      let is : slice_index_or (infos ++ o ∷ []) k None ≡ o = ap (λ n. slice_index_or (infos ++ o ∷ []) n None) (here ∙ sym size) ∙ index_last infos o None in
      subst (TermTold lex files (get_or ts k [])) (sym is) (subst (λ n. TermTold lex files (get_or ts n []) o) (sym here) told)
]

-- ---- those that are known

next_none : (infos : List (Option TermInfo)) (i : ℕ) (d : Option TermInfo) → i < length infos → get_or infos i d ≡ None → known_infos (take (suc i) infos) ≡ known_infos (take i infos)
next_none [] i d lt is = absurd (omega (arith, lt))
next_none (None ∷ infos) zero d lt is = refl
next_none (Some x ∷ infos) zero d lt is = cc
next_none (None ∷ infos) (suc i) d lt is = next_none infos i d (omega (arith, lt)) is
next_none (Some x ∷ infos) (suc i) d lt is = ap (λ xs. x ∷ xs) (next_none infos i d (omega (arith, lt)) is)

pub known_none : (infos : List (Option TermInfo)) (i : ℕ) (d : Option TermInfo) → i < length infos → get_or infos i d ≡ None → known_infos (take (i + 1) infos) ≡ known_infos (take i infos)
known_none infos i d lt is = ap (λ n. known_infos (take n infos)) (add-one i) ∙ next_none infos i d lt is

next_some : (infos : List (Option TermInfo)) (i : ℕ) (d : Option TermInfo) (info : TermInfo) → i < length infos → get_or infos i d ≡ Some info →
    known_infos (take (suc i) infos) ≡ known_infos (take i infos) ++ info ∷ []
next_some [] i d info lt is = absurd (omega (arith, lt))
next_some (None ∷ infos) zero d info lt is = cc
next_some (Some x ∷ infos) zero d info lt is = cc
next_some (None ∷ infos) (suc i) d info lt is = next_some infos i d info (omega (arith, lt)) is
next_some (Some x ∷ infos) (suc i) d info lt is = ap (λ xs. x ∷ xs) (next_some infos i d info (omega (arith, lt)) is)

pub known_some : (infos : List (Option TermInfo)) (i : ℕ) (d : Option TermInfo) (info : TermInfo) → i < length infos → get_or infos i d ≡ Some info →
    known_infos (take (i + 1) infos) ≡ known_infos (take i infos) ++ info ∷ []
known_some infos i d info lt is = ap (λ n. known_infos (take n infos)) (add-one i) ∙ next_some infos i d info lt is
