-- A Boolean answer that is under way.
use Rattle.std.specs.Prelude.{◌≡◌, ℕ, ◌+◌, List, [], ◌++◌, length, flat_map}
use Rattle.std.specs.declared.option.Option.{Option}
use Rattle.mg_defs.specs.Split.{documents}
use Rattle.mg_defs.specs.Sat.{Query}
use Rattle.mg_defs.specs.declared.session.Settings.{Settings}
use Rattle.mg_defs.specs.Weights.{limited_to}
use Rattle.mg_defs.specs.ShownAnswers.{Shown, found, shown}
use Rattle.mg_reply.specs.Pending.{Passed}

-- So many documents were read, and those of them that satisfy the query were shown.
pub record FoundSoFar (collection : List ℕ) (q : Query) (now : Settings) (before after : Option (List ℕ))
    (waiting : List ℕ) (number total : ℕ) (rest : List (List ℕ)) : Type 0 where
  pub front : List (List ℕ)
  pub docs_is : documents collection ≡ front ++ rest
  pub count : length front ≡ number
  pub so_far : List Shown
  pub split : found q 1 (documents collection) ≡ so_far ++ found q (number + 1) rest
  pub total_is : length so_far ≡ total
  pub passed : Passed before after [] waiting (flat_map (shown collection now.mode) (limited_to now.most so_far))
