use Rattle.std.proofs.Common.{None, codes, sym, append_assoc}
use Rattle.std.specs.Prelude.{decimal}
use Rattle.mg_defs.specs.Texts.{row}
use Rattle.mg_reply.proofs.PendingLaws.{passes_both, passes_part, puts_passed, puts_refused, puts_same}
use Rattle.mg_reply.proofs.text.put_place.Goals as goal

pub returns-in-Err : goal.returns-in-Err
unfolding row
returns-in-Err g c =
    puts_same (sym (append_assoc c.args.reason.now (decimal c.args.at) (codes "\n")))
    (puts_refused c.new-pending.ensures (passes_part (row c.args.at None) c.in-Err.ensures))

pub returns-in-Err-row : goal.returns-in-Err-row
unfolding row
returns-in-Err-row g c =
    puts_same (sym (append_assoc c.args.reason.now (decimal c.args.at) (codes "\n")))
    (puts_refused c.new-pending.ensures (passes_both c.in-Ok.ensures c.in-Err-row.ensures))

pub returns-in-Ok-row : goal.returns-in-Ok-row
unfolding row
returns-in-Ok-row g c =
    puts_same (sym (append_assoc c.args.reason.now (decimal c.args.at) (codes "\n")))
    (puts_passed c.new-pending.ensures (passes_both c.in-Ok.ensures c.in-Ok-row.ensures) c.flush.ensures.put)
