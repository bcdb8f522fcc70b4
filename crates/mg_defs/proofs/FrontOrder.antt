-- The strings of entries rise, so each stands once.
use Rattle.std.proofs.Common.{arith, suc, zero, ◌≡◌, ◌≢◌, ◌+◌, ◌<◌, ◌==◌, ◌||◌, ℕ, Bool, true, false, List, [], ◌∷◌, Some, refl, sym, ◌∙◌, ap, subst, slice_get}
use Rattle.std.specs.declared.cmp.Ordering.{Ordering}
use Rattle.std.specs.declared.cmp.Ordering.TheVariants.{Less, Equal, Greater}
use Rattle.std.specs.Ordering.{nat_cmp, is_lt, ordering_reverse}
use Rattle.std.proofs.lemmas.Map.Lookups.{exact_bytes}
use Rattle.std.specs.Cmp.Lexicographic.{slice_cmp}
use Rattle.std.specs.Cmp.Lexicographic.{nat_list_cmp_total}
use Rattle.std.proofs.lemmas.Bool.Decides.{nat_tests}
use Rattle.mg_defs.specs.Front.{Entry, AreEntries, is_below}

is_less : (o : Ordering) → is_lt o ≡ true → o ≡ Less
is_less Less h = refl
is_less Equal h = absurd cc
is_less Greater h = absurd cc

pub below_trans : (a b c : List ℕ) → is_below a b ≡ true → is_below b c ≡ true → is_below a c ≡ true
below_trans a b c h k = ap is_lt (nat_list_cmp_total.trans a b c (is_less (slice_cmp nat_cmp a b) h) (is_less (slice_cmp nat_cmp b c) k))

above_is : (i : ℕ) (b : Bool) → 0 < i → (i == 0 || b) ≡ true → b ≡ true
above_is i b some h = grind (arith, nat_tests)

pub after : (width i : ℕ) (before : List ℕ) (es : List Entry) (k : ℕ) (e : Entry) → 0 < i → AreEntries width i before es → slice_get es k ≡ Some e → is_below before e.string ≡ true
after width i before [] k e some are h = absurd cc
after width i before (x ∷ es) zero e some are h = let same : x ≡ e = cc in subst (λ (y : Entry). is_below before y.string ≡ true) same (above_is i (is_below before x.string) some are.0.above)
after width i before (x ∷ es) (suc k) e some are h = below_trans before x.string e.string (above_is i (is_below before x.string) some are.0.above)
    (after width (i + 1) x.string es k e (omega arith) are.1 h)

pub rising : (width i : ℕ) (before : List ℕ) (es : List Entry) (j k : ℕ) (d e : Entry) → AreEntries width i before es → j < k → slice_get es j ≡ Some d →
    slice_get es k ≡ Some e → is_below d.string e.string ≡ true
rising width i before [] j k d e are less h g = absurd cc
rising width i before (x ∷ es) j zero d e are less h g = absurd (omega arith)
rising width i before (x ∷ es) zero (suc k) d e are less h g = let same : x ≡ d = cc in
    subst (λ (y : Entry). is_below y.string e.string ≡ true) same (after width (i + 1) x.string es k e (omega arith) are.1 g)
rising width i before (x ∷ es) (suc j) (suc k) d e are less h g = rising width (i + 1) x.string es j k d e are.1 (omega arith) h g

pub not_itself : (a : List ℕ) → is_below a a ≡ true → ⊥
not_itself a h = less_is_not_more (sym (is_less (slice_cmp nat_cmp a a) h) ∙ nat_list_cmp_total.antisymm a a ∙ ap ordering_reverse (is_less (slice_cmp nat_cmp a a) h))
  where
    less_is_not_more : Less ≡ Greater → ⊥
    less_is_not_more e = cc

pub other_way : (a b : List ℕ) → is_below a b ≡ false → a ≢ b → is_below b a ≡ true
other_way a b h apart = by_order (slice_cmp nat_cmp a b) refl
  where
    by_order : (o : Ordering) → slice_cmp nat_cmp a b ≡ o → is_below b a ≡ true
    by_order Less e = absurd (true_is_not_false (sym (ap is_lt e) ∙ h))
      where
        true_is_not_false : true ≡ false → ⊥
        true_is_not_false d = cc
    by_order Equal e = absurd (apart (exact_bytes a b e))
    by_order Greater e = ap is_lt (nat_list_cmp_total.antisymm b a ∙ ap ordering_reverse e)

pub same_there : (es : List Entry) (j k : ℕ) (d e : Entry) → j ≡ k → slice_get es j ≡ Some d → slice_get es k ≡ Some e → d ≡ e
same_there es j k d e same h g = let f : Some d ≡ Some e = sym h ∙ ap (slice_get es) same ∙ g in cc
