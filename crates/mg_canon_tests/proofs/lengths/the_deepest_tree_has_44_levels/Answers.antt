use Rattle.std.proofs.Common.{◌≤◌, ℕ, List, [], ◌∷◌, rules}
use Rattle.std.proofs.lemmas.List.Elements.{All-from_recursion}
use Rattle.mg_canon_tests.proofs.lengths.the_deepest_tree_has_44_levels.Goals as goal

abbrev fibonacci : List ℕ
fibonacci = 1 ∷ 1 ∷ 2 ∷ 3 ∷ 5 ∷ 8 ∷ 13 ∷ 21 ∷ 34 ∷ 55 ∷ 89 ∷ 144 ∷ 233 ∷ 377 ∷ 610 ∷ 987 ∷ 1597 ∷ 2584 ∷ 4181 ∷ 6765 ∷ 10946 ∷ 17711 ∷ 28657 ∷ 46368 ∷ 75025 ∷
    121393 ∷ 196418 ∷ 317811 ∷ 514229 ∷ 832040 ∷ 1346269 ∷ 2178309 ∷ 3524578 ∷ 5702887 ∷ 9227465 ∷ 14930352 ∷ 24157817 ∷ 39088169 ∷ 63245986 ∷ 102334155 ∷
    165580141 ∷ 267914296 ∷ 433494437 ∷ 701408733 ∷ 1134903170 ∷ []

pub lengths_of-requires-clause-counted : goal.lengths_of-requires-clause-counted
lengths_of-requires-clause-counted g c = All-from_recursion (λ k. 1 ≤ k) fibonacci (search rules)
