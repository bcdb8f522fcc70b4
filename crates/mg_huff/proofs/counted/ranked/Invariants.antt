use Rattle.mg_huff.specs.Ranking.{IsListing}
use Rattle.mg_huff.proofs.counted.ranked.Given as goal

abbrev pub invariant-loop-place : goal.invariant-loop-place
invariant-loop-place l = IsListing l.counts l.order.items l.place
