use Rattle.mg_model.proofs.Standing.{standing}
use Rattle.mg_model.proofs.text_model.TextModel.load.Goals as goal

pub returns-clause-standing : goal.returns-clause-standing
returns-clause-standing g c = λ code stand. standing c.args.words c.args.others (g.S.Store.files c.args.store.now) c.args.base.now code c.load_parts.result
    stand (c.load_parts.ensures.answer stand.told)
