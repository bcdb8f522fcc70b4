use Rattle.std.proofs.Common.{None}
use Rattle.mg_defs.specs.Texts.{row}
use Rattle.mg_defs.specs.WildSession.{bad_pattern}
use Rattle.mg_reply.proofs.CallerLemmas.{passes_both, passes_part, puts_passed, puts_refused}
use Rattle.mg_session.proofs.wild_searcher.put_bad_pattern.Goals as goal

pub returns-in-Err : goal.returns-in-Err
unfolding bad_pattern row
returns-in-Err g c = puts_refused c.new-pending.ensures (passes_part (row c.args.at None) c.in-Err.ensures)

pub returns-in-Err-row : goal.returns-in-Err-row
unfolding bad_pattern row
returns-in-Err-row g c = puts_refused c.new-pending.ensures (passes_both c.in-Ok.ensures c.in-Err-row.ensures)

pub returns-in-Ok-row : goal.returns-in-Ok-row
unfolding bad_pattern row
returns-in-Ok-row g c = puts_passed c.new-pending.ensures (passes_both c.in-Ok.ensures c.in-Ok-row.ensures) c.flush.ensures.put
