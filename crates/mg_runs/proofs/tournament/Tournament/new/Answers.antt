use Rattle.std.proofs.Common.{arith, rules}
use Rattle.mg_runs.proofs.Tournaments.{played_all, played_down}
use Rattle.mg_runs.proofs.tournament.Tournament.new.Goals as goal

pub loop-i-init : goal.loop-i-init
loop-i-init c = record {
  some = c.requires.some;
  most = omega arith;
  played = record {
    keys_length = search rules;
    winners_length = c.loop-k.invariant.size;
    leaves = λ k h. c.loop-k.invariant.done k (omega arith);
    nodes = λ j l h above. absurd (omega arith);
  };
}

pub loop-i-preserved : goal.loop-i-preserved
loop-i-preserved c =
    let inv = c.loop-i.invariant in
    record {
      some = omega arith;
      most = omega arith;
      played = played_down inv.played (omega arith) (omega arith) (omega arith) c.play.ensures;
    }

pub invariant_of-result : goal.invariant_of-result
invariant_of-result c = record { some = c.requires.some; small = c.requires.small; played = played_all c.loop-i.i _ _ _ c.loop-i.invariant.played (omega arith) }
