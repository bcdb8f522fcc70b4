use Rattle.std.proofs.Common.{ap}
use Rattle.mg_bits.proofs.PutLaws.{bytes_alone, bytes_then}
use Rattle.mg_bits.proofs.Growing.{grew_within}
use Rattle.mg_bits.proofs.page_writer.PageWriter.put_all.Goals as goal

pub returns-in-Err : goal.returns-in-Err
returns-in-Err g c =
    let e = c.in-Err.ensures in
    record { bytes = tt; grew = grew_within _ _ _ _ _ e.grew; page = e.page; name = e.name; still = e.still; wrote = e.wrote; cause = e.cause }

pub returns : goal.returns
returns g c = bytes_then c.in-Ok.ensures (bytes_alone (ap (λ w. w.name) c.self-2.view_is) c.in-Ok.ensures.nothing c.append.ensures)
