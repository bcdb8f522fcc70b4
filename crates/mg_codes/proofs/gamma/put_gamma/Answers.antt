use Rattle.std.proofs.Common.{sym}
use Rattle.mg_codes.proofs.PutLaws.{code_is_put}
use Rattle.mg_codes.proofs.gamma.put_gamma.Goals as goal

pub returns : goal.returns
returns g c =
    code_is_put
    (record {
      holds = c.in_ok-put.ensures.holds;
      wrote_bits = c.in_ok-put.ensures.bits;
      wrote = c.in_ok-put.ensures.wrote;
      later = c.in_ok-put.ensures.cause.later;
    })
    (sym c.code_of.ensures)
