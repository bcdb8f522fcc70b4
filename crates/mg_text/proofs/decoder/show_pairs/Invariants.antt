use Rattle.std.proofs.Common.{Ok}
use Rattle.mg_canon.specs.Pairs.{standing}
use Rattle.mg_text.specs.Decoding.{Decodes, PairsCame, ShowsFirst}
use Rattle.mg_text.proofs.decoder.show_pairs.Given as goal

abbrev pub invariant-loop-i : goal.invariant-loop-i
invariant-loop-i g l = Decodes (λ result. ShowsFirst l.model l.count l._i) (PairsCame l.model l._i) (Ok tt)
    g.F.Feed.feeding g.F.Feed.fits g.F.Feed.device g.O.Sink.written g.O.Sink.faults g.O.Sink.lacks
    l.fn.r (standing l.r.feed l.place) l.fn.dev l.dev l.fn.buffer l.buffer l.fn.out l.out
