use Rattle.std.proofs.Common.{◌≡◌, length}
use Rattle.mg_plain.specs.RankingUnderWay.{Ranked}
use Rattle.mg_plain.proofs.rows.rows_by.Given as goal

abbrev pub invariant-docs : goal.invariant-docs
invariant-docs l = record {
  ranked : Ranked l.bytes l.terms l.rows.items l.number l.place l.docs;
  size : length l.counts ≡ length l.terms;
}

abbrev pub decreases-docs : goal.decreases-docs
decreases-docs l = length l.docs
