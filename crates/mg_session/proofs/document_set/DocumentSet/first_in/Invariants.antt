use Rattle.std.proofs.Common.{◌≡◌, ◌*◌, ◌<◌, ◌≤◌, ℕ, false}
use Rattle.mg_session.specs.DocumentSets.{is_marked}
use Rattle.mg_session.proofs.document_set.DocumentSet.first_in.Given as goal

abbrev pub invariant-loop-index : goal.invariant-loop-index
invariant-loop-index l = (other : ℕ) → 64 * l.start < other → other ≤ 64 * l.index → is_marked l.self-inside.words.items other ≡ false
