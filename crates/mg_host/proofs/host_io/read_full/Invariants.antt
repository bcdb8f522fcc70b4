use Rattle.std.proofs.Common.{◌≤◌, length}
use Rattle.mg_host.proofs.host_io.read_full.Given as goal

abbrev pub invariant-loop : goal.invariant-loop
invariant-loop g l = l.count ≤ length l.buf
