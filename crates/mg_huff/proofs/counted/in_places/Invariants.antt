use Rattle.mg_huff.specs.Ranking.{Placed}
use Rattle.mg_huff.proofs.counted.in_places.Given as goal

abbrev pub invariant-loop-at : goal.invariant-loop-at
invariant-loop-at l = Placed l.counts l.order l.found l.at l.out.items
