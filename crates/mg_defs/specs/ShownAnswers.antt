-- The reply to a line.
use Rattle.std.specs.Prelude.{ℕ, List, [], ◌++◌, map, filter, flat_map, length, Option, Some, None}
use Rattle.std.specs.List.{enumerate_from}
use Rattle.mg_defs.specs.Split.{documents}
use Rattle.mg_defs.specs.Terms.{document}
use Rattle.mg_defs.specs.Sat.{Query, satisfies}
use Rattle.mg_defs.specs.Weights.{Hit, hits, by_score, limited_to}
use Rattle.mg_defs.specs.declared.session.Mode.{Mode}
use Rattle.mg_defs.specs.declared.session.Mode.TheVariants.{Docnums, Text, Count}
use Rattle.mg_defs.specs.declared.session.Settings.{Settings}
use Rattle.mg_defs.specs.Texts.{row, header, close, count}

-- the documents of an answer, each with its score where there is one, as they are shown
pub record Shown : Type 0 where
  pub number : ℕ
  pub score : Option ℕ

abbrev pub plain : ℕ → Shown
plain number = record { number = number; score = None }

-- those of these documents that satisfy the query; the first of them has this number
unfoldable pub found : Query → ℕ → List (List ℕ) → List Shown
found q number docs = map (λ (d : ℕ × List ℕ). plain d.0)
    (filter (λ (d : ℕ × List ℕ). satisfies q d.1) (enumerate_from number docs))

abbrev pub satisfying : List ℕ → Query → List Shown
satisfying collection q = found q 1 (documents collection)

-- hits by falling score, as they are shown
abbrev pub ranked_as : List Hit → List Shown
ranked_as hits = map (λ (h : Hit). record { number = h.number; score = Some h.score }) (by_score hits)

abbrev pub ranking : List ℕ → List (List ℕ) → List Shown
ranking collection query = ranked_as (hits collection query)

-- how a document with these bytes is shown
abbrev pub shown_as : List ℕ → Mode → Shown → List ℕ
shown_as doc Docnums s = row s.number s.score
shown_as doc Text s = header s.number s.score ++ (doc ++ close)
shown_as doc Count s = []

abbrev pub shown : List ℕ → Mode → Shown → List ℕ
shown collection mode s = shown_as (document collection s.number) mode s

unfoldable pub answer_text : List ℕ → Settings → List Shown → List ℕ
answer_text collection now answer = flat_map (shown collection now.mode) (limited_to now.most answer)
    ++ count (length answer)
