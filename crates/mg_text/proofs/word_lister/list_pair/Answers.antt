use Rattle.mg_text.proofs.ListLaws.{pair_listed, word_refused}
use Rattle.mg_text.proofs.word_lister.list_pair.Goals as goal

pub returns-in-Err : goal.returns-in-Err
returns-in-Err g c = word_refused c.args.model.now c.in-Err.refusal (g.met.F.Feed.whole_pages c.args.r.now.feed).some c.in-Err.ensures

pub returns : goal.returns
returns g c = pair_listed c.args.model.now c.pass_other.result (g.met.F.Feed.whole_pages c.args.r.now.feed).some c.in-Ok.ensures c.pass_other.ensures
