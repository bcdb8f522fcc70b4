use Rattle.std.specs.Prelude.{None}
use Rattle.mg_bool.proofs.AskLaws.{none_asked}
use Rattle.mg_bool.proofs.CallLaws.{none_called}
use Rattle.mg_bool.proofs.ShownLaws.{none_shown}
use Rattle.mg_bool.proofs.place.Place.ask.Goals as goal

pub returns-in_default-clause-answer : goal.returns-in_default-clause-answer
returns-in_default-clause-answer g c = λ base collection asked t a.
    let here = rw (← c.self.view_is) at a in
    none_asked base collection asked t c.args.doc _ _ c.in_default.is here

pub returns-in_default-clause-shows : goal.returns-in_default-clause-shows
returns-in_default-clause-shows g c = rw (← c.self.view_is) (none_shown _ (g.S.Store.files c.args.store.now) (g.S.Store.files c.args.store.now) c.args.doc c.in_default.is)

pub returns-in_default-clause-call : goal.returns-in_default-clause-call
returns-in_default-clause-call g c =
    let fits = rw (← c.self.view_is) at c.requires.fits in
    rw (← c.self.view_is) (none_called _ None _ _ _ fits)
