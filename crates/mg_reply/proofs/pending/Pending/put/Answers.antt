use Rattle.mg_reply.proofs.PendingLaws.{passes_after, passes_kept, passes_none, passes_through}
use Rattle.mg_reply.proofs.pending.Pending.put.Goals as goal

pub returns-then-bytes-room : goal.returns-then-bytes-room
returns-then-bytes-room g c = passes_kept c.keep.ensures

pub returns-in-Err : goal.returns-in-Err
returns-in-Err g c = passes_none c.args.bytes.now c.in-Err.ensures.put

pub returns-then-bytes-gt-SIZE : goal.returns-then-bytes-gt-SIZE
returns-then-bytes-gt-SIZE g c =
    let put = c.put.ensures in
    passes_through c.in-Ok.ensures.put c.in-Ok.ensures.empty (record { content = put.content; cause = put.cause; lack = put.lack })

pub returns : goal.returns
returns g c = passes_after c.in-Ok.ensures.put c.in-Ok.ensures.empty c.keep-2.ensures
