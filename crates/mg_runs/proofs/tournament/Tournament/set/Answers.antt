use Rattle.std.proofs.Common.{◌∙◌, arith, refl, length-set}
use Rattle.mg_runs.proofs.Tournaments.{changed, how_many, key_set, played}
use Rattle.mg_runs.proofs.tournament.Tournament.set.Goals as goal

pub loop-i-init : goal.loop-i-init
loop-i-init c =
    let t = c.self.inside in
    let h = rw (← c.self.view_is) at c.requires in
    record {
      count = refl;
      within = omega (arith, h, how_many t.count t.keys.items t.winners.items c.self.invariant);
      played = changed t.count _ c.args.key t.keys.items t.winners.items c.self.invariant.played (omega arith);
      size = refl;
      same = λ k high. refl;
    }

pub loop-i-preserved : goal.loop-i-preserved
loop-i-preserved c =
    let inv = c.loop-i.invariant in
    let now = c.play.ensures in
    record {
      count = inv.count;
      within = omega arith;
      played = played inv.played (omega arith) (omega arith) now;
      size = now.keys_length ∙ inv.size;
      same = λ k high. now.same_keys k (λ e. omega arith) ∙ inv.same k high;
    }

pub returns : goal.returns
returns c =
    let t = c.self.inside in
    let inv = c.loop-i.invariant in
    rw (← c.self.view_is, inv.count)
    (key_set t.count c.args.contestant c.args.key t.keys.items c.loop-i.self-inside.keys.items (inv.size ∙ length-set _ _ _) (λ k h. inv.same k (omega (arith, inv.count, h))))
