-- A name that begins with a base, and one that does not.
use Rattle.std.proofs.Common.{arith, ap, Bor, MatchOption, ◌≡◌, ◌≢◌, ◌<◌, ◌∙◌, ◌++◌, ℕ, List, Option, None, Some, false, true, get_or, refl, sym}
use Rattle.std.proofs.lemmas.List.{append_cancel_left}
use Rattle.std.proofs.lemmas.Slice.Eq.{bytes_eq-Decides}
use Rattle.std.specs.Prelude.{IfSome}
use Rattle.std.specs.Str.{bytes_eq}
use Rattle.mg_dev.specs.Names.{ending, full_name, number}
use Rattle.mg_dev.specs.declared.part.Part.{Part}
use Rattle.mg_dev.specs.declared.part.Part.TheVariants.{Head, LexAt, Lex, MergeA, MergeB, Nonwords, Places, Plain, Post, Run, Skip, Text, Weights, Words}
use Rattle.mg_make.specs.Putting.{IsApart}
use Rattle.mg_build.specs.declared.names.TheConstants.{PARTS}

-- what a prefix that is taken away leaves
abbrev pub Splits : List ℕ → List ℕ → Option (Bor (List ℕ)) → Type 0
Splits name base found = MatchOption found ((rest : List ℕ) → name ≢ base ++ rest) (λ x. name ≡ base ++ x.now)

-- a name that does not begin with the base is no part's
pub apart_before : (name base : List ℕ) (found : Option (Bor (List ℕ))) → Splits name base found → found ≡ None → IsApart base name
unfolding full_name
apart_before name base None splits none = λ p plain is. splits (ending p) is
apart_before name base (Some x) splits none = cc

-- a name behind the base is a part's where what is left is its ending
pub part_behind : (name base : List ℕ) (found : Option (Bor (List ℕ))) (rest : Bor (List ℕ)) (part : Option Part) → Splits name base found → found ≡ Some rest →
    IfSome part (λ p. (p ≢ Plain) × (rest.now ≡ ending p)) → IfSome part (λ p. (p ≢ Plain) × (name ≡ full_name base p))
unfolding full_name
part_behind name base None rest part splits some is = cc
part_behind name base (Some x) rest None splits some is = tt
part_behind name base (Some x) rest (Some p) splits some is = (is.0, cc)

pub apart_behind : (name base : List ℕ) (found : Option (Bor (List ℕ))) (rest : Bor (List ℕ)) → Splits name base found → found ≡ Some rest →
    ((p : Part) → p ≢ Plain → rest.now ≢ ending p) → IsApart base name
unfolding full_name
apart_behind name base None rest splits some none = cc
apart_behind name base (Some x) rest splits some none = λ p plain is. none p plain (append_cancel_left base _ _ (sym left ∙ is))
  where
    left : name ≡ base ++ rest.now
    left = cc

-- no other part of the base has the name
pub one_part : (name base : List ℕ) (part : Option Part) → ((b : List ℕ) (p q : Part) → full_name b p ≡ full_name b q → p ≡ q) →
    IfSome part (λ p. (p ≢ Plain) × (name ≡ full_name base p)) → IfSome part (λ p. (q : Part) → q ≢ Plain → name ≡ full_name base q → p ≡ q)
one_part name base None apart is = tt
one_part name base (Some p) apart is = λ q plain same. apart base p q (sym is.1 ∙ same)

-- ---- the parts, by their numbers

-- each part but the plain one is among them
pub number_below : (p : Part) → p ≢ Plain → number p < 13
number_below Head plain = omega arith
number_below Words plain = omega arith
number_below Nonwords plain = omega arith
number_below Text plain = omega arith
number_below Places plain = omega arith
number_below Lex plain = omega arith
number_below LexAt plain = omega arith
number_below Post plain = omega arith
number_below Skip plain = omega arith
number_below Weights plain = omega arith
number_below Run plain = omega arith
number_below MergeA plain = omega arith
number_below MergeB plain = omega arith
number_below Plain plain = absurd (plain refl)

-- each stands at its number
part_at : (d p : Part) → p ≢ Plain → get_or PARTS (number p) d ≡ p
part_at d Head plain = refl
part_at d Words plain = refl
part_at d Nonwords plain = refl
part_at d Text plain = refl
part_at d Places plain = refl
part_at d Lex plain = refl
part_at d LexAt plain = refl
part_at d Post plain = refl
part_at d Skip plain = refl
part_at d Weights plain = refl
part_at d Run plain = refl
part_at d MergeA plain = refl
part_at d MergeB plain = refl
part_at d Plain plain = absurd (plain refl)

-- and only the name of the part of a number ends as it does
pub other_end : (name end : List ℕ) (i : ℕ) (d p : Part) → p ≢ Plain → number p ≡ i → name ≡ ending (get_or PARTS i d) → false ≡ bytes_eq name end → end ≢ ending p
other_end name end i d p plain same told differs is = never (differs ∙ (bytes_eq-Decides name end).1 (named ∙ sym is))
  where
    named : name ≡ ending p
    named = told ∙ ap ending (ap (λ n. get_or PARTS n d) (sym same) ∙ part_at d p plain)

    never : false ≡ true → ⊥
    never bad = cc
