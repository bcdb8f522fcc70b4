-- Ascents of the documents among the sums, and the weights that are read along them.
use Rattle.std.proofs.Common.{arith, suc, zero, ◌≡◌, ◌+◌, ◌*◌, ◌-◌, ◌≤◌, ◌<◌, ◌⊎◌, inl, inr, ℕ}
use Rattle.std.proofs.Common.{List, [], ◌∷◌, ◌++◌, length, take, Option, Some, None, refl, sym, ◌∙◌, ap, subst, nat_eq, slice_index_or}
use Rattle.std.proofs.lemmas.Bool.{cases_Bool, cases_lt, cond-true, cond-false, lt-ltb, le-ltb}
use Rattle.std.proofs.lemmas.List.{take_more}
use Rattle.std.proofs.lemmas.Nat.{mul-le}
use Rattle.std.proofs.Math.Nat.{add-mul}
use Rattle.mg_bits.specs.Feed.{lacks}
use Rattle.mg_defs.proofs.PageLaws.{pages_some}
use Rattle.mg_rank.specs.Sums.{with_more}
use Rattle.mg_rank.specs.WeightReads.{begins, last_from, ascents_from, ascents_in, weight_page, weight_pages}

goes_on : (x d : ℕ) → x < d → begins (Some x) d ≡ 0
goes_on x d lt = cond-true _ _ _ (lt-ltb x d lt)

begins_anew : (x d : ℕ) → d ≤ x → begins (Some x) d ≡ 1
begins_anew x d le = cond-false _ _ _ (le-ltb x d le)

begins_few : (o : Option ℕ) (d : ℕ) → begins o d ≤ 1
begins_few None d = omega arith
begins_few (Some x) d =
    elim (cases_lt x d) [
      | inl lt ↦ omega (arith, goes_on x d lt)
      | inr ge ↦ omega (arith, begins_anew x d ge)
    ]

-- ---- the ascents, as a list is added

-- a document that has a sum leaves the ascents as they are; another one goes last
more_cases : (o : Option ℕ) (d m : ℕ) (es : List (ℕ × ℕ)) →
    ((ascents_from o (with_more d m es) ≡ ascents_from o es) × (last_from o (with_more d m es) ≡ last_from o es))
    ⊎ ((ascents_from o (with_more d m es) ≡ ascents_from o es + begins (last_from o es) d) × (last_from o (with_more d m es) ≡ Some d))
more_cases o d m [] = inr (omega arith, refl)
more_cases o d m (e ∷ es) =
    elim (cases_Bool (nat_eq d e.0)) [
      | inl is ↦ rw is (inl (refl, refl))
      | inr isnt ↦ rw isnt (elim (more_cases (Some e.0) d m es) [
        | inl same ↦ inl (omega (arith, same.0), same.1)
        | inr more ↦ inr (omega (arith, more.0), more.1)
      ])
    ]

-- while a list is added, of which no document is past one: at most one ascent more, and where it was begun, the documents behind go on with it
pub record AddsAscent (last : ℕ) (old new : List (ℕ × ℕ)) : Type 0 where
  pub few : ascents_in new ≤ ascents_in old + 1
  pub goes : ascents_in old < ascents_in new → (d : ℕ) → last < d → begins (last_from None new) d ≡ 0

pub ascent_start : (old new : List (ℕ × ℕ)) → new ≡ old → AddsAscent 0 old new
ascent_start old new is = record { few = omega (arith, ap ascents_in is); goes = λ lt. absurd (omega (arith, ap ascents_in is, lt)) }

pub ascent_next : (last d m : ℕ) (old sums new : List (ℕ × ℕ)) → last < d → new ≡ with_more d m sums → AddsAscent last old sums → AddsAscent d old new
ascent_next last d m old sums new low is a = subst (AddsAscent d old) (sym is) (by_case (more_cases None d m sums))
  where
    by_case : ((ascents_in (with_more d m sums) ≡ ascents_in sums) × (last_from None (with_more d m sums) ≡ last_from None sums))
        ⊎ ((ascents_in (with_more d m sums) ≡ ascents_in sums + begins (last_from None sums) d) × (last_from None (with_more d m sums) ≡ Some d)) →
        AddsAscent d old (with_more d m sums)
    by_case (inl same) = record {
      few = omega (arith, same.0, a.few);
      goes = λ lt e above. ap (λ o. begins o e) same.1 ∙ a.goes (omega (arith, same.0, lt)) e (omega (arith, low, above));
    }
    by_case (inr more) = record {
      few = elim (cases_lt (ascents_in old) (ascents_in sums)) [
        | inl lt ↦ omega (arith, more.0, a.goes lt d low, a.few)
        | inr le ↦ omega (arith, more.0, begins_few (last_from None sums) d, le)
      ];
      goes = λ lt e above. ap (λ o. begins o e) more.1 ∙ goes_on d e above;
    }

-- ---- the ascents of the first of the sums

ascents_append : (o : Option ℕ) (es : List (ℕ × ℕ)) (e : ℕ × ℕ) →
    (ascents_from o (es ++ e ∷ []) ≡ ascents_from o es + begins (last_from o es) e.0) × (last_from o (es ++ e ∷ []) ≡ Some e.0)
ascents_append o [] e = (omega arith, refl)
ascents_append o (x ∷ es) e = let r = ascents_append (Some x.0) es e in (omega (arith, r.0), r.1)

ascents_take : (n : ℕ) (o : Option ℕ) (es : List (ℕ × ℕ)) → ascents_from o (take n es) ≤ ascents_from o es
ascents_take zero o es = omega arith
ascents_take (suc n) o [] = omega arith
ascents_take (suc n) o (e ∷ es) = omega (arith, ascents_take n (Some e.0) es)

-- ---- the weights of these

page_within : (all d : ℕ) → 1 ≤ d → d ≤ all → weight_page d + 1 ≤ weight_pages all
page_within all d some le = omega (arith, some, le, pages_some 0 (32 * all) (omega (arith, some, le)))

page_rises : (x d : ℕ) → x ≤ d → weight_page x ≤ weight_page d
page_rises x d le = omega (arith, le)

lacks_few : (o : Option ℕ) (p : ℕ) → lacks o p ≤ 1
lacks_few None p = omega arith
lacks_few (Some h) p = grind arith

lacks_up : (h p : ℕ) → h ≤ p → lacks (Some h) p ≤ p - h
lacks_up h p le = grind (arith, le)

-- the page that is held, by the last document whose weight was read
abbrev page_held : Option ℕ → Option ℕ
page_held None = None
page_held (Some d) = Some (weight_page d)

-- so often the part was read before and now: in each ascent its pages up to that of the last document, each once
abbrev IsRead : ℕ → ℕ → ℕ → ℕ → Option ℕ → Type 0
IsRead all ascents before now None = now ≤ before
IsRead all ascents before now (Some d) = (now + weight_pages all ≤ before + ascents * weight_pages all + weight_page d + 1) × (1 ≤ d) × (d ≤ all)

is_read_next : (all ascents d before now next : ℕ) (o held : Option ℕ) → held ≡ page_held o → 1 ≤ d → d ≤ all → next ≤ now + lacks held (weight_page d) →
    IsRead all ascents before now o → IsRead all (ascents + begins o d) before next (Some d)
is_read_next all ascents d before now next None held is some le step read =
    let one : (ascents + 1) * weight_pages all ≡ ascents * weight_pages all + 1 * weight_pages all = add-mul ascents 1 (weight_pages all) in
    (omega (arith, one, read, step, lacks_few held (weight_page d)), some, le)
is_read_next all ascents d before now next (Some x) held is some le step read =
    elim (cases_lt x d) [
      | inl lt ↦ (
          let there : next ≤ now + lacks (Some (weight_page x)) (weight_page d) = subst (λ h. next ≤ now + lacks h (weight_page d)) is step in
          let up : weight_page x ≤ weight_page d = page_rises x d (omega (arith, lt)) in
          let same : (ascents + begins (Some x) d) * weight_pages all ≡ ascents * weight_pages all = ap (λ n. n * weight_pages all) (omega (arith, goes_on x d lt)) in
          (omega (arith, same, read.0, there, up, lacks_up (weight_page x) (weight_page d) up), some, le))
      | inr ge ↦ (
          let new : begins (Some x) d ≡ 1 = begins_anew x d ge in
          let one : (ascents + begins (Some x) d) * weight_pages all ≡ ascents * weight_pages all + 1 * weight_pages all =
          ap (λ n. (ascents + n) * weight_pages all) new ∙ add-mul ascents 1 (weight_pages all) in
          (omega (arith, one, read.0, step, lacks_few held (weight_page d), page_within all x read.1 read.2), some, le))
    ]

is_read_most : (all ascents before now : ℕ) (o : Option ℕ) → IsRead all ascents before now o → now ≤ before + ascents * weight_pages all
is_read_most all ascents before now None read = omega (arith, read)
is_read_most all ascents before now (Some d) read = omega (arith, read.0, page_within all d read.1 read.2)

-- the weights of the documents of these sums were read
pub record WeightsRead (all : ℕ) (seen : List (ℕ × ℕ)) (held : Option ℕ) (before now : ℕ) : Type 0 where
  pub held_is : held ≡ page_held (last_from None seen)
  pub read : IsRead all (ascents_in seen) before now (last_from None seen)

pub read_start : (all before : ℕ) (held : Option ℕ) (sums : List (ℕ × ℕ)) → held ≡ None → WeightsRead all (take 0 sums) held before before
read_start all before held sums is = record { held_is = is; read = omega arith }

-- how often, once the weight of the next one was asked for
asked : (all k before now next : ℕ) (sums : List (ℕ × ℕ)) (d e : ℕ × ℕ) (held : Option ℕ) → k < length sums → e ≡ slice_index_or sums k d → 1 ≤ e.0 → e.0 ≤ all →
    next ≤ now + lacks held (weight_page e.0) → WeightsRead all (take k sums) held before now →
    IsRead all (ascents_in (take (k + 1) sums)) before next (Some e.0) × (last_from None (take (k + 1) sums) ≡ Some e.0)
asked all k before now next sums d e held lt is some le step w =
    let more : take (k + 1) sums ≡ take k sums ++ e ∷ [] = take_more sums k d lt ∙ ap (λ x. take k sums ++ x ∷ []) (sym is) in
    let r = ascents_append None (take k sums) e in
    let read = is_read_next all (ascents_in (take k sums)) e.0 before now next (last_from None (take k sums)) held w.held_is some le step w.read in (
      subst (λ n. IsRead all n before next (Some e.0)) (sym (ap ascents_in more ∙ r.0)) read,
      ap (last_from None) more ∙ r.1,
    )

pub read_next : (all k before now next : ℕ) (sums : List (ℕ × ℕ)) (d e : ℕ × ℕ) (held new_held : Option ℕ) → k < length sums → e ≡ slice_index_or sums k d →
    1 ≤ e.0 → e.0 ≤ all → next ≤ now + lacks held (weight_page e.0) → new_held ≡ Some (weight_page e.0) → WeightsRead all (take k sums) held before now →
    WeightsRead all (take (k + 1) sums) new_held before next
read_next all k before now next sums d e held new_held lt is some le step held_is w =
    let a = asked all k before now next sums d e held lt is some le step w in
    record {
      held_is = held_is ∙ sym (ap page_held a.1);
      read = subst (IsRead all (ascents_in (take (k + 1) sums)) before next) (sym a.1) a.0;
    }

-- no more than all pages for each ascent
pub read_most : (all k before now : ℕ) (sums : List (ℕ × ℕ)) (held : Option ℕ) → WeightsRead all (take k sums) held before now →
    now ≤ before + ascents_in sums * weight_pages all
read_most all k before now sums held w =
    omega (
      arith,
      is_read_most all (ascents_in (take k sums)) before now (last_from None (take k sums)) w.read,
      mul-le (ascents_in (take k sums)) (weight_pages all) (ascents_in sums) (weight_pages all) (ascents_take k None sums) (omega arith),
    )

pub read_refused : (all k before now next : ℕ) (sums : List (ℕ × ℕ)) (d e : ℕ × ℕ) (held : Option ℕ) → k < length sums → e ≡ slice_index_or sums k d → 1 ≤ e.0 → e.0 ≤ all →
    next ≤ now + lacks held (weight_page e.0) → WeightsRead all (take k sums) held before now → next ≤ before + ascents_in sums * weight_pages all
read_refused all k before now next sums d e held lt is some le step w =
    let a = asked all k before now next sums d e held lt is some le step w in
    omega (
      arith,
      is_read_most all (ascents_in (take (k + 1) sums)) before next (Some e.0) a.0,
      mul-le (ascents_in (take (k + 1) sums)) (weight_pages all) (ascents_in sums) (weight_pages all) (ascents_take (k + 1) None sums) (omega arith),
    )

-- and so for each of some terms, whose lists were added
pub terms_most : (all ascents terms before now : ℕ) → ascents ≤ terms → now ≤ before + ascents * weight_pages all → now ≤ before + terms * weight_pages all
terms_most all ascents terms before now le most = omega (arith, most, mul-le ascents (weight_pages all) terms (weight_pages all) le (omega arith))
