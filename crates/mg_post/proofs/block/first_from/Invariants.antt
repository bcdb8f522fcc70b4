use Rattle.std.proofs.Common.{◌≡◌, take, drop}
use Rattle.mg_post.specs.Cursor.{forward_to}
use Rattle.mg_post.proofs.block.first_from.Given as goal

abbrev pub invariant-loop-i : goal.invariant-loop-i
invariant-loop-i l = forward_to l.doc (drop l.i (take l.len l.postings.items)) ≡ forward_to l.doc (drop l.from (take l.len l.postings.items))
