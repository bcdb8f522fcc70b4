use Rattle.mg_phrase.proofs.MarkLaws.{fit_kept}
use Rattle.mg_phrase.proofs.marks.Marks.learn.Goals as goal

pub returns-clause-fit : goal.returns-clause-fit
returns-clause-fit c = rw (← c.self.view_is) (λ pieces at fit. fit_kept pieces c.self.inside.phrase.now c.self.inside.known.items c.keep.new.known.items c.args.symbol c.mark_of-mark.result c.args.word.now
    c.keep.ensures c.mark_of-mark.ensures at fit)
