use Rattle.std.proofs.Common.{true, Ok}
use Rattle.mg_text.specs.PieceCounts.{CountsFirst, CountsIf}
use Rattle.mg_text.proofs.piece_counter.count_pairs.Given as goal

abbrev pub invariant-loop-i : goal.invariant-loop-i
invariant-loop-i g l = CountsIf (Ok true) (CountsFirst l.model l.count l._i) g.F.Feed.feeding g.F.Feed.fits g.F.Feed.device
    l.fn.r l.r l.fn.dev l.dev l.fn.counts l.counts
