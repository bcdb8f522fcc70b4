use Rattle.mg_post.proofs.EnterLaws.{refused_beside}
use Rattle.mg_post.proofs.block_reader.BlockReader.enter.Goals as goal

pub returns-in-Err-clause-read : goal.returns-in-Err-clause-read
returns-in-Err-clause-read g c = refused_beside c.in-Err.ensures

pub returns-in-Ok-clause-read : goal.returns-in-Ok-clause-read
returns-in-Ok-clause-read g c = rw c.swap.ensures.x_after c.in-Ok.ensures
