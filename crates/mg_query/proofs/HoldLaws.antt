-- A query holds where its document satisfies it.
use Rattle.std.proofs.Common.{◌≡◌, ℕ, suc, ◌&&◌, ◌||◌, Bool, false, not, List, [], ◌∷◌, ◌++◌, length, drop, get_or, arith, sym, ap, subst, ◌∙◌, append_assoc, append-nil}
use Rattle.mg_defs.specs.Sat.{Query, term, both, either, without, satisfies}
use Rattle.mg_defs.specs.QueryTerms.{query_terms}
use Rattle.mg_defs.specs.Weights.{has_term}
use Rattle.mg_query.specs.Holds.{AreThere, holds}

there_front : (doc : List ℕ) (xs ys : List (List ℕ)) (there : List Bool) → AreThere doc (xs ++ ys) there → AreThere doc ys (drop (length xs) there)
there_front doc [] ys there a = a
there_front doc (x ∷ xs) ys [] a = absurd (omega (arith, a.size))
there_front doc (x ∷ xs) ys (b ∷ there) a = there_front doc xs ys there (record { size = omega (arith, a.size); each = λ k lt. a.each (suc k) (omega (arith, lt)) })

first_there : (doc t : List ℕ) (more : List (List ℕ)) (there : List Bool) → AreThere doc (t ∷ more) there → get_or there 0 false ≡ has_term doc t
first_there doc t more [] a = absurd (omega (arith, a.size))
first_there doc t more (b ∷ there) a = a.each 0 (omega arith)

holds_front : (doc : List ℕ) (q : Query) (more : List (List ℕ)) (there : List Bool) → AreThere doc (query_terms q ++ more) there → holds q there ≡ satisfies q doc
holds_front doc (term t) more there a = first_there doc t more there a
holds_front doc (both p q) more there a =
    let whole = subst (λ ts. AreThere doc ts there) (append_assoc (query_terms p) (query_terms q) more) a in
    let left = holds_front doc p (query_terms q ++ more) there whole in
    let right = holds_front doc q more (drop (length (query_terms p)) there) (there_front doc (query_terms p) (query_terms q ++ more) there whole) in
    ap (λ b. b && holds q (drop (length (query_terms p)) there)) left ∙ ap (λ b. satisfies p doc && b) right
holds_front doc (either p q) more there a =
    let whole = subst (λ ts. AreThere doc ts there) (append_assoc (query_terms p) (query_terms q) more) a in
    let left = holds_front doc p (query_terms q ++ more) there whole in
    let right = holds_front doc q more (drop (length (query_terms p)) there) (there_front doc (query_terms p) (query_terms q ++ more) there whole) in
    ap (λ b. b || holds q (drop (length (query_terms p)) there)) left ∙ ap (λ b. satisfies p doc || b) right
holds_front doc (without q) more there a = ap not (holds_front doc q more there a)

pub holds_is : (doc : List ℕ) (q : Query) (there : List Bool) → AreThere doc (query_terms q) there → holds q there ≡ satisfies q doc
holds_is doc q there a = holds_front doc q [] there (subst (λ ts. AreThere doc ts there) (sym (append-nil (query_terms q))) a)
