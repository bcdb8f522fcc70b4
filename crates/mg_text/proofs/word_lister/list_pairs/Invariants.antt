use Rattle.std.proofs.Common.{Ok}
use Rattle.mg_canon.specs.Pairs.{standing}
use Rattle.mg_text.specs.Listing.{ListsBy, ListsFirst, PairsListed}
use Rattle.mg_text.proofs.word_lister.list_pairs.Given as goal

abbrev pub invariant-loop-i : goal.invariant-loop-i
invariant-loop-i g l = ListsBy l.model (λ result. ListsFirst l.model l.count l._i) (PairsListed l.model l._i) (Ok tt) g.F.Feed.feeding g.F.Feed.fits g.F.Feed.device
    l.fn.r (standing l.r.feed l.place) l.fn.dev l.dev l.fn.list l.list
