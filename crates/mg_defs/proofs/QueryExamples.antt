-- Lines and what they are read as, computed.
use Rattle.std.proofs.Common.{◌≡◌, ℕ, ◌+◌, List, [], ◌∷◌, ◌++◌, refl, replicate}
use Rattle.std.specs.Prelude.{codes}
use Rattle.mg_defs.specs.Sat.{term, both, either, without}
use Rattle.mg_defs.specs.Tokens.{sign_of}
use Rattle.mg_defs.specs.QueryTerms.{query_terms}
use Rattle.mg_defs.specs.Read.{query_of, boolean, ranked}
use Rattle.mg_defs.specs.Refusals.{syntax, too_deep, too_long, too_many, reads, refused}

unclosed : boolean (codes "cat & (dog") ≡ refused (syntax 10)
unfolding boolean query_of sign_of
unclosed = refl

closes_nothing : boolean (codes "cat ) dog") ≡ refused (syntax 4)
unfolding boolean query_of sign_of
closes_nothing = refl

two_signs : boolean (codes "cat & | dog") ≡ refused (syntax 6)
unfolding boolean query_of sign_of
two_signs = refl

thirty_three : boolean (replicate 33 40) ≡ refused (too_deep 32)
unfolding boolean query_of sign_of
thirty_three = refl

no_words : boolean (codes ", ,") ≡ refused (syntax 3)
unfolding boolean query_of sign_of
no_words = refl

no_terms : ranked (codes ", ,") ≡ reads []
unfolding ranked sign_of
no_terms = refl

long_word : boolean (replicate 256 97) ≡ refused (too_long 0)
unfolding boolean query_of sign_of
long_word = refl

longest_word : boolean (replicate 255 97) ≡ reads (term (replicate 255 97))
unfolding boolean query_of sign_of
longest_word = refl

groups : boolean (codes "cat dog | sat") ≡ reads (either (both (term (codes "cat")) (term (codes "dog"))) (term (codes "sat")))
unfolding boolean query_of sign_of
groups = refl

from_the_left : boolean (codes "A | b | c d & e") ≡ reads (either (either (term (codes "a")) (term (codes "b"))) (both (both (term (codes "c")) (term (codes "d"))) (term (codes "e"))))
unfolding boolean query_of sign_of
from_the_left = refl

not_first : boolean (codes "!!x !(a|b)c") ≡ reads (both (both (without (without (term (codes "x")))) (without (either (term (codes "a")) (term (codes "b"))))) (term (codes "c")))
unfolding boolean query_of sign_of
not_first = refl

beside : boolean (codes "a!b") ≡ reads (both (term (codes "a")) (without (term (codes "b"))))
unfolding boolean query_of sign_of
beside = refl

empty_pair : boolean (codes "()") ≡ refused (syntax 1)
unfolding boolean query_of sign_of
empty_pair = refl

once : ranked (codes "cat CAT & (dog cat)") ≡ reads (codes "cat" ∷ codes "dog" ∷ [])
unfolding ranked sign_of
once = refl

repeated : query_terms (both (term (codes "a")) (either (without (term (codes "b"))) (term (codes "a")))) ≡ codes "a" ∷ codes "b" ∷ codes "a" ∷ []
repeated = refl

-- two letters and a blank, from `aa` on
abbrev pairs : ℕ → ℕ → List ℕ
pairs row column = row ∷ column ∷ 32 ∷ []

abbrev five : ℕ → ℕ → List ℕ
five row column = pairs row column ++ pairs row (column + 1) ++ pairs row (column + 2) ++ pairs row (column + 3) ++ pairs row (column + 4)

abbrev thirteen_rows : List ℕ
thirteen_rows = five 97 97 ++ five 98 97 ++ five 99 97 ++ five 100 97 ++ five 101 97 ++ five 102 97 ++ five 103 97 ++ five 104 97 ++ five 105 97 ++ five 106 97
    ++ five 107 97 ++ five 108 97 ++ five 109 97

-- 65 distinct words of two letters
too_many_words : ranked thirteen_rows ≡ refused (too_many 192)
unfolding ranked sign_of
too_many_words = refl
