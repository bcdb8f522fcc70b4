use Rattle.std.proofs.Common.{arith, refl}
use Rattle.mg_rank.proofs.DamageLaws.{refused_calm, refused_tells}
use Rattle.mg_rank.proofs.EndLaws.{calm_cause}
use Rattle.mg_rank.proofs.ListWalk.{adds_nothing, adds_of}
use Rattle.mg_rank.proofs.WalkLaws.{told}
use Rattle.mg_rank.proofs.list.add_list.Goals as goal

-- the lexicon tells of no documents, or of too many
pub returns-in-Err : goal.returns-in-Err
returns-in-Err g c =
    adds_nothing c.in-Err.refusal refl
    (λ collection t done stand i all_is s. let k = told collection t c.args.info.now c.args.all i all_is in absurd (let e = c.in-Err.ensures.is k.some k.within in cc))
    (calm_cause c.in-Err.refusal (refused_calm c.args.all c.args.info.now c.in-Err.refusal c.in-Err.ensures.lexicon) (omega arith))
    (refused_tells c.args.all c.args.info.now c.in-Err.refusal c.in-Err.ensures.lexicon)

pub returns-in-Err-make_room : goal.returns-in-Err-make_room
returns-in-Err-make_room g c = adds_nothing _ c.make_room.ensures (λ collection t done stand i all_is s. tt) (record { later = omega arith; device = tt }) tt

pub returns-in-Err-start : goal.returns-in-Err-start
returns-in-Err-start g c = adds_nothing _ c.make_room.ensures (λ collection t done stand i all_is s. tt) (record { later = omega arith; device = tt }) tt

pub add_postings-requires-clause-fits : goal.add_postings-requires-clause-fits
add_postings-requires-clause-fits g c = c.in-Ok-start.ensures.fits _

pub returns : goal.returns
returns g c =
    let e = c.in-Ok-start.ensures in
    adds_of (record { over = e.over; term = e.term; held = e.before; whole = e.whole; docs = c.in-Ok.ensures.some; post = e.nothing.0; skip = e.nothing.2 })
    c.in-Ok.ensures.told c.make_room.ensures c.add_postings.ensures
