-- The terms of a ranked line are distinct, and at most 64.
use Rattle.std.proofs.Common.{arith, ◌≡◌, ℕ, ◌≤◌, Bool, true, false, ◌||◌, List, [], ◌∷◌, ◌++◌, length, refl, sym, subst, length-append}
use Rattle.std.specs.Prelude.{nat_le, nat_lt}
use Rattle.std.specs.List.{AllByRecursion, IsDistinct, list_any}
use Rattle.std.specs.Str.{bytes_eq}
use Rattle.std.proofs.lemmas.Bool.{cond_both, leb-false}
use Rattle.std.proofs.lemmas.Slice.Eq.{bytes_eq-Decides}
use Rattle.mg_defs.specs.Read.{ranked, ranked_from, ranked_next, ranked_token, ranked_with}
use Rattle.mg_defs.specs.Refusals.{Reading, reads, refused}
use Rattle.mg_defs.specs.Terms.{folded, same_term}
use Rattle.mg_defs.specs.Tokens.{PlacedToken, Token, amp, bang, bar, closing, opening, tokens, word}

or_none : (a b : Bool) → (a || b) ≡ false → (a ≡ false) × (b ≡ false)
or_none true b e = cc
or_none false b e = (refl, e)

other_way : (t u : List ℕ) → bytes_eq t u ≡ false → bytes_eq u t ≡ false
other_way t u apart = by_test (bytes_eq u t) refl
  where
    by_test : (b : Bool) → bytes_eq u t ≡ b → bytes_eq u t ≡ false
    by_test true e =
        let same : bytes_eq t u ≡ true = (bytes_eq-Decides t u).1 (sym ((bytes_eq-Decides u t).0 e)) in
        cc
    by_test false e = e

all_push : (u t : List ℕ) (ts : List (List ℕ)) → AllByRecursion (λ y. bytes_eq u y ≡ false) ts → bytes_eq u t ≡ false → AllByRecursion (λ y. bytes_eq u y ≡ false) (ts ++ t ∷ [])
all_push u t [] all apart = (apart, tt)
all_push u t (x ∷ ts) all apart = (all.0, all_push u t ts all.1 apart)

distinct_push : (ts : List (List ℕ)) (t : List ℕ) → IsDistinct bytes_eq ts → list_any (same_term t) ts ≡ false → IsDistinct bytes_eq (ts ++ t ∷ [])
unfolding IsDistinct
distinct_push [] t apart new = (tt, tt)
distinct_push (u ∷ ts) t apart new =
    let parts = or_none (same_term t u) (list_any (same_term t) ts) new in
    (all_push u t ts apart.0 (other_way t u parts.0), distinct_push ts t apart.1 parts.1)

pub record IsTermSet (terms : List (List ℕ)) : Type 0 where
  pub few : length terms ≤ 64
  pub apart : IsDistinct bytes_eq terms

abbrev AreTerms : Reading (List (List ℕ)) → Type 0
AreTerms (reads terms) = IsTermSet terms
AreTerms (refused why) = Unit {0}

terms_with : (terms : List (List ℕ)) (at : ℕ) (w : List ℕ) → IsTermSet terms → AreTerms (ranked_with terms at w)
terms_with terms at w is =
    cond_both (nat_lt 255 (length w)) _ _ AreTerms (λ _. tt)
    (λ _. cond_both (list_any (same_term (folded w)) terms) _ _ AreTerms (λ _. is)
    (λ new. cond_both (nat_le 64 (length terms)) _ _ AreTerms (λ _. tt)
    (λ f. record { few = omega (arith, length-append terms (folded w ∷ []), leb-false 64 (length terms) f); apart = distinct_push terms (folded w) is.apart new })))

terms_token : (terms : List (List ℕ)) (at : ℕ) (t : Token) → IsTermSet terms → AreTerms (ranked_token terms at t)
terms_token terms at (word w) is = terms_with terms at w is
terms_token terms at bar is = is
terms_token terms at amp is = is
terms_token terms at bang is = is
terms_token terms at opening is = is
terms_token terms at closing is = is

terms_next : (r : Reading (List (List ℕ))) (t : PlacedToken) → AreTerms r → AreTerms (ranked_next r t)
terms_next (reads terms) t is = terms_token terms t.at t.token is
terms_next (refused why) t is = tt

terms_from : (r : Reading (List (List ℕ))) (ts : List PlacedToken) → AreTerms r → AreTerms (ranked_from r ts)
terms_from r [] is = is
terms_from r (t ∷ ts) is = terms_from (ranked_next r t) ts (terms_next r t is)

no_terms : IsTermSet []
unfolding IsDistinct
no_terms = record { few = omega arith; apart = tt }

pub line_terms : (line : List ℕ) (terms : List (List ℕ)) → ranked line ≡ reads terms → IsTermSet terms
unfolding ranked
line_terms line terms e = subst AreTerms e (terms_from (reads []) (tokens line) no_terms)
