-- The size of the weights.
use Rattle.std.proofs.Common.{arith, ◌≡◌, ◌*◌, ℕ, List, [], ◌∷◌, length, map, length-append}
use Rattle.std.specs.Prelude.{Err}
use Rattle.std.specs.List.{flat_map}
use Rattle.mg_dev.specs.declared.part.Part.TheVariants.{Weights}
use Rattle.mg_dev.specs.declared.part_err.PartErr.{PartErr}
use Rattle.mg_dev.specs.declared.part_err.PartErr.TheVariants.{Device, Memory, Bad}
use Rattle.mg_defs.specs.Numbers.{four}
use Rattle.mg_defs.specs.Split.{documents}
use Rattle.mg_defs.specs.Stands.{weights_part}
use Rattle.mg_defs.specs.Weights.{weight}
use Rattle.mg_defs.proofs.FrontParts.{four_long}
use Rattle.mg_layout.specs.Sizes.{AnswersSize}
use Rattle.mg_layout.specs.declared.term_info.TermInfo.{TermInfo}
use Rattle.mg_rank.specs.Damages.{TellsFirstOf}
use Rattle.mg_rank.specs.Ranked.{AnswersTop}
use Rattle.mg_rank.proofs.DamageLaws.{not_lex}

fours_long : (ns : List ℕ) → length (flat_map four ns) ≡ 4 * length ns
fours_long [] = omega arith
fours_long (n ∷ ns) = omega (arith, length-append (four n) (flat_map four ns), four_long n, fours_long ns)

each_four : (docs : List (List ℕ)) → length (map weight docs) ≡ length docs
each_four [] = omega arith
each_four (d ∷ docs) = omega (arith, each_four docs)

pub weights_long : (collection : List ℕ) → length (weights_part collection) ≡ 4 * length (documents collection)
weights_long collection = omega (arith, fours_long (map weight (documents collection)), each_four (documents collection))

-- weights of their size are not refused
pub not_sized : (e : PartErr) (bytes collection : List ℕ) (ts : List (List ℕ)) (wanted most : ℕ) → length bytes ≡ wanted →
    AnswersSize Weights wanted bytes (Err e) → AnswersTop (Err e) collection ts most
not_sized Device bytes collection ts wanted most same answer = tt
not_sized Memory bytes collection ts wanted most same answer = absurd answer
not_sized (Bad bad) bytes collection ts wanted most same answer = absurd (answer.0 same)

-- weights of another size are no damage of the lexicon
pub size_not_lex : (all : ℕ) (terms : List TermInfo) (e : PartErr) (bytes : List ℕ) (wanted : ℕ) → AnswersSize Weights wanted bytes (Err e) → TellsFirstOf all terms e
size_not_lex all terms Device bytes wanted answer = tt
size_not_lex all terms Memory bytes wanted answer = tt
size_not_lex all terms (Bad bad) bytes wanted answer = λ is. absurd (not_lex bad answer.1.part_is (λ same. cc) is)
