use Rattle.std.proofs.Common.{arith, refl}
use Rattle.mg_canon.proofs.Pairs.{held_two}
use Rattle.mg_canon.proofs.pair.pair_at.Goals as goal

pub returns-in-Some-first_two-clause-pair : goal.returns-in-Some-first_two-clause-pair
returns-in-Some-first_two-clause-pair g c =
    let found = c.in-Some-first_two.ensures in
    rw (c.symbol_in.ensures, c.symbol_in-in-Some-first_two.ensures)
    (held_two (g.met.F.Feed.whole_pages c.args.reader.now.feed).some c.in-Some.ensures.held c.in-Some.ensures.told found.one found.two found.within refl
    (omega (arith, c.from.ensures, c.size_in.ensures.is, c.size_in-in-Some-first_two.ensures.is)))
