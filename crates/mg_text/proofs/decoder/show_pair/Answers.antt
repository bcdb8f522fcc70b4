use Rattle.mg_text.proofs.StepLaws.{pair_shown, word_refused}
use Rattle.mg_text.proofs.decoder.show_pair.Goals as goal

pub returns-in-Err : goal.returns-in-Err
returns-in-Err g c = word_refused c.args.model.now c.in-Err.refusal (g.met.F.Feed.whole_pages c.args.r.now.feed).some c.in-Err.ensures

pub returns : goal.returns
returns g c = pair_shown c.args.model.now c.show_piece-2.result (g.met.F.Feed.whole_pages c.args.r.now.feed).some c.in-Ok.ensures c.show_piece-2.ensures
