use Rattle.mg_runs.proofs.Tournaments.{played_at}
use Rattle.mg_runs.proofs.tournament.play.Goals as goal

pub returns : goal.returns
returns c =
    played_at c.args.i c.lesser-child.result c.args.keys.now.items c.args.winners.now.items c.requires.node c.requires.keys c.requires.winners
    c.lesser-child.ensures _ _ c.index.ensures c.index-2.ensures
