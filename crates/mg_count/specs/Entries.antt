-- How many of each there are in a plan.
use Rattle.std.specs.Prelude.{◌≡◌, ◌≤◌, ◌^◌, length}
use Rattle.mg_count.specs.Plans.{Plan}
use Rattle.mg_count.specs.declared.plan.Entries.{Entries}

-- these are the numbers of a plan, each within what a head has room for
pub record AreEntries (entries : Entries) (p : Plan) : Type 0 where
  pub documents : entries.documents ≡ length p.pairs
  pub words : entries.words ≡ length p.code.words.pieces
  pub others : entries.others ≡ length p.code.others.pieces
  pub terms : entries.terms ≡ length p.terms.terms
  pub few_words : entries.words ≤ 2 ^ 22
  pub few_others : entries.others ≤ 2 ^ 22
