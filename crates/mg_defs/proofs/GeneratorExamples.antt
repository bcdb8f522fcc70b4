-- The worked rows of the generator, computed.
use Rattle.std.proofs.Common.{◌≡◌, [], ◌∷◌, ◌++◌, ◌/◌, ◌^◌, length, refl}
use Rattle.std.specs.Prelude.{codes}
use Rattle.mg_defs.specs.Generator.{stepped, draw, syllable, made_word, made_bytes, made_both, made_in_turn, repeated, pick, capital_pick, separator, sentence, sentences, heading, mail, made_collection, one_word, one_without, either_and, made_ranked, four_queries, made_session}

first_draw : (stepped 0 / 2 ^ 33 ≡ 167951807) × (draw 2000 0 ≡ 1807)
unfolding stepped draw
first_draw = (refl, refl)

words : (made_word 5 ≡ codes "baha") × (made_word 1807 ≡ codes "kibav" ++ 195 ∷ 169 ∷ []) × (made_word 4096 ≡ codes "cebababa")
unfolding made_word syllable
words = (refl, refl, refl)

-- with the seed 0
first_document : made_collection 0 1 ≡ codes "From: fojelo@hanagu.example\nSubject: kiki bav"
    ++ (195 ∷ 169 ∷ (codes " loje\n\nDilofo cepena hahav"
    ++ (195 ∷ 169 ∷ (codes " fomu.\nJedice hafo cepegu dipeje cecedi, pev" ++ (195 ∷ 169 ∷ (codes " cejece fokice cemupe.\n" ++ (2 ∷ [])))))))
unfolding made_collection repeated made_both made_in_turn made_bytes mail heading sentences sentence separator capital_pick pick made_word syllable draw stepped
first_document = refl

-- with the seed 7
first_queries : (four_queries 8).bytes ≡ codes "jepe\nbace & !cejeje\n(cenamu | cefoce) focefo\n.set query ranked\n.set maxdocs 10\nsope fov"
    ++ (195 ∷ 169 ∷ (codes "ri cesov" ++ (195 ∷ 169 ∷ (codes "\n.set query boolean\n.set maxdocs all\n"))))
unfolding four_queries one_word one_without either_and made_ranked made_both made_in_turn made_bytes pick made_word syllable draw stepped
first_queries = refl

forty_queries : length (made_session 7) ≡ 1334
unfolding made_session repeated four_queries one_word one_without either_and made_ranked made_both made_in_turn made_bytes pick made_word syllable draw stepped
forty_queries = refl
