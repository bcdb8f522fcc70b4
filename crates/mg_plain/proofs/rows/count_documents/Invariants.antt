use Rattle.std.proofs.Common.{◌≡◌, ℕ, ◌<◌, length, get_or}
use Rattle.mg_plain.specs.RankingUnderWay.{Tallied}
use Rattle.mg_plain.proofs.rows.count_documents.Given as goal

abbrev pub invariant-loop-one : goal.invariant-loop-one
invariant-loop-one l = (k : ℕ) → k < l.one-index → get_or l.found k 0 ≡ 0

abbrev pub invariant-docs : goal.invariant-docs
invariant-docs l = record {
  tallied : Tallied l.bytes l.terms l.found l.number l.docs;
  size : length l.counts ≡ length l.terms;
}

abbrev pub decreases-docs : goal.decreases-docs
decreases-docs l = length l.docs
