-- A term that no document has changes no answer to ranked terms.
use Rattle.std.proofs.Common.{arith, ◌≡◌, ℕ, zero, suc, ◌+◌, ◌<◌, ◌≤◌, Bool, true, false, ◌||◌, if◌then◌else◌}
use Rattle.std.proofs.Common.{List, [], ◌∷◌, length, get_or, Some, None, map, filter, sum_by, refl, sym, ◌∙◌, ap, subst}
use Rattle.std.specs.Prelude.{count_by, slice_index_or}
use Rattle.std.specs.List.{list_any, enumerate_from, AllByRecursion, IsDistinct}
use Rattle.std.specs.Str.{bytes_eq}
use Rattle.std.specs.declared.option.Option.{Option}
use Rattle.std.proofs.lemmas.Bool.{cond-true, cond-false}
use Rattle.std.proofs.lemmas.List.Sums.{sum_by-cons}
use Rattle.mg_defs.specs.Split.{documents}
use Rattle.mg_defs.specs.Terms.{docs}
use Rattle.mg_defs.specs.Weights.{Hit, has_term, hits, score}
use Rattle.mg_defs.proofs.FirstLaws.{score_by_had}
use Rattle.mg_bool.specs.Places.{AreInfos, IsToldOf}
use Rattle.mg_layout.specs.Infos.{IsInfoOf}
use Rattle.mg_layout.specs.declared.term_info.TermInfo.{TermInfo}
use Rattle.mg_rank.specs.Ranked.{AreTold}
use Rattle.mg_session.specs.Answering.{known_infos, known_terms}

-- ---- by document

-- no document of these has a term of which nothing is told
abbrev NoneHave : List (List ℕ) → List (List ℕ) → List (Option TermInfo) → Type 0
NoneHave docs [] infos = Unit {0}
NoneHave docs (t ∷ ts) [] = ⊥
NoneHave docs (t ∷ ts) (None ∷ infos) = (count_by (λ doc. has_term doc t) docs ≡ 0) × NoneHave docs ts infos
NoneHave docs (t ∷ ts) (Some info ∷ infos) = NoneHave docs ts infos

-- this document has none of them
abbrev Misses : List ℕ → List (List ℕ) → List (Option TermInfo) → Type 0
Misses doc [] infos = Unit {0}
Misses doc (t ∷ ts) [] = ⊥
Misses doc (t ∷ ts) (None ∷ infos) = (has_term doc t ≡ false) × Misses doc ts infos
Misses doc (t ∷ ts) (Some info ∷ infos) = Misses doc ts infos

none_first : (test : List ℕ → Bool) (doc : List ℕ) (ds : List (List ℕ)) → count_by test (doc ∷ ds) ≡ 0 → (test doc ≡ false) × (count_by test ds ≡ 0)
none_first test doc ds none = by_test (test doc) refl
  where
    by_test : (b : Bool) → test doc ≡ b → (test doc ≡ false) × (count_by test ds ≡ 0)
    by_test true is = absurd (omega (arith, none, sum_by-cons (λ d. if test d then 1 else 0) doc ds, cond-true {A = ℕ} (test doc) 1 0 is))
    by_test false is = (is, omega (arith, none, sum_by-cons (λ d. if test d then 1 else 0) doc ds))

misses_first : (doc : List ℕ) (docs : List (List ℕ)) (ts : List (List ℕ)) (infos : List (Option TermInfo)) → NoneHave (doc ∷ docs) ts infos → Misses doc ts infos × NoneHave docs ts infos
misses_first doc docs [] infos none = (tt, tt)
misses_first doc docs (t ∷ ts) [] none = absurd none
misses_first doc docs (t ∷ ts) (None ∷ infos) none =
    let one = none_first (λ d. has_term d t) doc docs none.0 in
    let more = misses_first doc docs ts infos none.1 in
    ((one.0, more.0), (one.1, more.1))
misses_first doc docs (t ∷ ts) (Some info ∷ infos) none = misses_first doc docs ts infos none

same_any : (doc : List ℕ) (ts : List (List ℕ)) (infos : List (Option TermInfo)) → Misses doc ts infos → list_any (has_term doc) (known_terms ts infos) ≡ list_any (has_term doc) ts
same_any doc [] infos misses = refl
same_any doc (t ∷ ts) [] misses = absurd misses
same_any doc (t ∷ ts) (None ∷ infos) misses = same_any doc ts infos misses.1 ∙ sym (ap (λ b. b || list_any (has_term doc) ts) misses.0)
same_any doc (t ∷ ts) (Some info ∷ infos) misses = ap (λ b. has_term doc t || b) (same_any doc ts infos misses)

same_filter : (doc : List ℕ) (ts : List (List ℕ)) (infos : List (Option TermInfo)) → Misses doc ts infos → filter (has_term doc) (known_terms ts infos) ≡ filter (has_term doc) ts
same_filter doc [] infos misses = refl
same_filter doc (t ∷ ts) [] misses = absurd misses
same_filter doc (t ∷ ts) (None ∷ infos) misses = same_filter doc ts infos misses.1 ∙ sym (cond-false (has_term doc t) (t ∷ filter (has_term doc) ts) (filter (has_term doc) ts) misses.0)
same_filter doc (t ∷ ts) (Some info ∷ infos) misses = ap (λ us. if has_term doc t then t ∷ us else us) (same_filter doc ts infos misses)

-- ---- the hits

abbrev hits_in : List ℕ → List (List ℕ) → ℕ → List (List ℕ) → List Hit
hits_in collection query n docs =
    map (λ (d : ℕ × List ℕ). record { number = d.0; score = score collection query d.1 })
    (filter (λ (d : ℕ × List ℕ). list_any (has_term d.1) query) (enumerate_from n docs))

hits_cons : (collection : List ℕ) (query : List (List ℕ)) (n : ℕ) (doc : List ℕ) (docs : List (List ℕ)) →
    hits_in collection query n (doc ∷ docs) ≡ (if list_any (has_term doc) query then record { number = n; score = score collection query doc } ∷
    hits_in collection query (n + 1) docs else hits_in collection query (n + 1) docs)
hits_cons collection query n doc docs = by_test (list_any (has_term doc) query) refl
  where
    by_test : (b : Bool) → list_any (has_term doc) query ≡ b → hits_in collection query n (doc ∷ docs)
        ≡ (if list_any (has_term doc) query then record { number = n; score = score collection query doc } ∷ hits_in collection query (n + 1) docs
        else hits_in collection query (n + 1) docs)
    by_test true is = rw is refl
    by_test false is = rw is refl

same_hits_in : (collection : List ℕ) (ts : List (List ℕ)) (infos : List (Option TermInfo)) (n : ℕ) (docs : List (List ℕ)) → NoneHave docs ts infos →
    hits_in collection (known_terms ts infos) n docs ≡ hits_in collection ts n docs
same_hits_in collection ts infos n [] none = refl
same_hits_in collection ts infos n (doc ∷ docs) none =
    let first = misses_first doc docs ts infos none in
    let more = same_hits_in collection ts infos (n + 1) docs first.1 in
    let kept = known_terms ts infos in
    let scores : score collection kept doc ≡ score collection ts doc = score_by_had collection doc kept ts (same_filter doc ts infos first.0) in
    hits_cons collection kept n doc docs
    ∙ ap (λ s. if list_any (has_term doc) kept then record { number = n; score = s } ∷ hits_in collection kept (n + 1) docs else hits_in collection kept (n + 1) docs) scores
    ∙ ap (λ hs. if list_any (has_term doc) kept then record { number = n; score = score collection ts doc } ∷ hs else hs) more
    ∙ ap (λ b. if b then record { number = n; score = score collection ts doc } ∷ hits_in collection ts (n + 1) docs else hits_in collection ts (n + 1) docs) (same_any doc ts infos first.0)
    ∙ sym (hits_cons collection ts n doc docs)

-- ---- what the lexicon tells

pub shorter : {X Y : Type 0} (x : X) (y : Y) (xs : List X) (ys : List Y) → length (x ∷ xs) ≡ length (y ∷ ys) → length xs ≡ length ys
shorter x y xs ys e = omega (arith, e)

pub infos_more : (collection t : List ℕ) (ts : List (List ℕ)) (o : Option TermInfo) (infos : List (Option TermInfo)) → AreInfos collection (t ∷ ts) (o ∷ infos) →
    IsToldOf collection t o × AreInfos collection ts infos
infos_more collection t ts o infos are = (are.each 0 (omega arith), record { size = shorter o t infos ts are.size; each = λ k lt. are.each (suc k) (omega (arith, lt)) })

none_have : (collection : List ℕ) (ts : List (List ℕ)) (infos : List (Option TermInfo)) → AreInfos collection ts infos → NoneHave (documents collection) ts infos
none_have collection [] infos are = tt
none_have collection (t ∷ ts) [] are = absurd (omega (arith, are.size))
none_have collection (t ∷ ts) (None ∷ infos) are =
    let parts = infos_more collection t ts None infos are in
    (parts.0, none_have collection ts infos parts.1)
none_have collection (t ∷ ts) (Some info ∷ infos) are = none_have collection ts infos (infos_more collection t ts (Some info) infos are).1

pub known_hits : (collection : List ℕ) (ts : List (List ℕ)) (infos : List (Option TermInfo)) → AreInfos collection ts infos → hits collection (known_terms ts infos) ≡ hits collection ts
known_hits collection ts infos are = same_hits_in collection ts infos 1 (documents collection) (none_have collection ts infos are)

-- ---- the pages

pub known_sum : (f : List ℕ → ℕ) (ts : List (List ℕ)) (infos : List (Option TermInfo)) → length infos ≡ length ts → sum_by f (known_terms ts infos) ≤ sum_by f ts
known_sum f [] infos size = omega arith
known_sum f (t ∷ ts) [] size = omega arith
known_sum f (t ∷ ts) (None ∷ infos) size = omega (arith, sum_by-cons f t ts, known_sum f ts infos (shorter {X = Option TermInfo} None t infos ts size))
known_sum f (t ∷ ts) (Some info ∷ infos) size =
    omega (arith, sum_by-cons f t ts, sum_by-cons f t (known_terms ts infos), known_sum f ts infos (shorter (Some info) t infos ts size))

-- ---- the terms that are known are told of

known_sizes : (ts : List (List ℕ)) (infos : List (Option TermInfo)) → length infos ≡ length ts → length (known_infos infos) ≡ length (known_terms ts infos)
known_sizes [] [] size = refl
known_sizes [] (o ∷ infos) size = absurd (omega (arith, size))
known_sizes (t ∷ ts) [] size = absurd (omega (arith, size))
known_sizes (t ∷ ts) (None ∷ infos) size = known_sizes ts infos (shorter {X = Option TermInfo} None t infos ts size)
known_sizes (t ∷ ts) (Some info ∷ infos) size = omega (arith, known_sizes ts infos (shorter (Some info) t infos ts size))

others_known : (t : List ℕ) (ts : List (List ℕ)) (infos : List (Option TermInfo)) → AllByRecursion (λ u. bytes_eq t u ≡ false) ts → AllByRecursion (λ u. bytes_eq t u ≡ false) (known_terms ts infos)
others_known t [] infos all = tt
others_known t (u ∷ ts) [] all = tt
others_known t (u ∷ ts) (None ∷ infos) all = others_known t ts infos all.1
others_known t (u ∷ ts) (Some info ∷ infos) all = (all.0, others_known t ts infos all.1)

known_apart : (ts : List (List ℕ)) (infos : List (Option TermInfo)) → IsDistinct bytes_eq ts → IsDistinct bytes_eq (known_terms ts infos)
unfolding IsDistinct
known_apart [] infos apart = tt
known_apart (t ∷ ts) [] apart = tt
known_apart (t ∷ ts) (None ∷ infos) apart = known_apart ts infos apart.1
known_apart (t ∷ ts) (Some info ∷ infos) apart = (others_known t ts infos apart.0, known_apart ts infos apart.1)

told_each : (collection : List ℕ) (ts : List (List ℕ)) (infos : List (Option TermInfo)) → AreInfos collection ts infos → (k : ℕ) (info : TermInfo) →
    k < length (known_terms ts infos) → slice_index_or (known_infos infos) k info ≡ info → IsInfoOf collection (get_or (known_terms ts infos) k []) info
told_each collection [] infos are k info lt e = absurd (omega (arith, lt))
told_each collection (t ∷ ts) [] are k info lt e = absurd (omega (arith, are.size))
told_each collection (t ∷ ts) (None ∷ infos) are k info lt e = told_each collection ts infos (infos_more collection t ts None infos are).1 k info lt e
told_each collection (t ∷ ts) (Some one ∷ infos) are zero info lt e = subst (IsInfoOf collection t) e (infos_more collection t ts (Some one) infos are).0
told_each collection (t ∷ ts) (Some one ∷ infos) are (suc k) info lt e = told_each collection ts infos (infos_more collection t ts (Some one) infos are).1 k info (omega (arith, lt)) e

pub known_told : (collection : List ℕ) (ts : List (List ℕ)) (infos : List (Option TermInfo)) → AreInfos collection ts infos → IsDistinct bytes_eq ts →
    AreTold collection (known_terms ts infos) (known_infos infos)
known_told collection ts infos are apart = record {
  size = known_sizes ts infos are.size;
  each = told_each collection ts infos are;
  apart = known_apart ts infos apart;
}
