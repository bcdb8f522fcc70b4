use Rattle.std.proofs.Common.{◌≡◌, ◌≤◌, length, take}
use Rattle.mg_session.specs.Answering.{known_infos}
use Rattle.mg_session.proofs.lookup.known_of.Given as goal

abbrev pub invariant-loop-info : goal.invariant-loop-info
invariant-loop-info l = record {
  known : l.known.items ≡ known_infos (take l.info-index l.infos);
  few : length l.known.items ≤ l.info-index;
}
