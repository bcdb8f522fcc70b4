use Rattle.std.proofs.Common.{arith}
use Rattle.mg_post.proofs.SoundLaws.{nothing_held}
use Rattle.mg_post.proofs.list_reader.ListReader.start.Goals as goal

pub invariant_of-result : goal.invariant_of-result
invariant_of-result g c = (
  omega arith,
  omega arith,
  c.in_ok-post.ensures.part,
  nothing_held c.args.all 0 c.in_ok-block.block c.in_ok-block.ensures,
)
