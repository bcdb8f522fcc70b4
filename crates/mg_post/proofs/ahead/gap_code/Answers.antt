use Rattle.mg_post.proofs.AheadLaws.{gap_code_is, size_holds}
use Rattle.mg_post.proofs.ahead.gap_code.Goals as goal

pub overflow_sub-result : goal.overflow_sub-result
overflow_sub-result c = rw c.power.ensures (size_holds c.args.parameter.value c.longer_size-size.result c.args.parameter.some c.args.parameter.small c.longer_size-size.ensures.size)

pub invariant_of-result : goal.invariant_of-result
invariant_of-result c = record {
  code = gap_code_is c.args.parameter.value c.longer_size-size.result c.power.result c.args.parameter.some c.args.parameter.small c.longer_size-size.ensures.size c.power.ensures;
}
