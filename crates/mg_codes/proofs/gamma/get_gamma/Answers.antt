use Rattle.std.proofs.Common.{arith}
use Rattle.mg_codes.proofs.ReadLaws.{held_is_read}
use Rattle.mg_codes.proofs.gamma.get_gamma.Goals as goal

pub returns-in-Some : goal.returns-in-Some
returns-in-Some g c =
    held_is_read c.in-Some.code.value c.in-Some.code.size c.requires.fits c.in-Some.ensures
    c.seek.ensures.feed (omega (arith, c.seek.ensures.place, c.place.ensures))
