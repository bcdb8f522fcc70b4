use Rattle.mg_bool.proofs.AskLaws.{old_asks, old_on, new_answer, new_pages}
use Rattle.mg_bool.proofs.CallLaws.{one_called}
use Rattle.mg_bool.proofs.ShownLaws.{new_asked}
use Rattle.mg_bool.proofs.places.ask_at.Goals as goal

pub returns-clause-call : goal.returns-clause-call
returns-clause-call g c =
    one_called c.args.places.now.items c.args.i c.index_mut-place.result.now c.ask.new.self c.requires.there c.index_mut-place.ensures.value c.requires.fits
    c.ask.ensures.call

pub returns-clause-answer : goal.returns-clause-answer
returns-clause-answer g c = λ base collection asked t a.
    new_answer base collection asked t c.args.doc _ c.args.i _ _ c.requires.there
    (c.ask.ensures.answer base collection asked t (old_asks base collection asked t c.args.doc _ _ c.args.i _ c.requires.there
    c.index_mut-place.ensures.value a))

pub returns-clause-pages : goal.returns-clause-pages
returns-clause-pages g c = λ base collection asked t a.
    new_pages _ _ _ c.args.places.now.items c.args.i c.index_mut-place.result.now c.ask.new.self c.requires.there c.index_mut-place.ensures.value
    (c.ask.ensures.pages base collection asked t (old_asks base collection asked t c.args.doc _ _ c.args.i _ c.requires.there
    c.index_mut-place.ensures.value a))

pub returns-clause-range : goal.returns-clause-range
returns-clause-range g c = λ base all on. c.ask.ensures.range base all (old_on base all _ c.args.i _ c.requires.there c.index_mut-place.ensures.value on)

pub returns-clause-shows : goal.returns-clause-shows
returns-clause-shows g c =
    new_asked (g.S.Store.files c.args.store.now) (g.S.Store.files c.ask.new.store) c.args.doc c.args.places.now.items c.args.i
    c.index_mut-place.result.now c.ask.new.self c.requires.there c.index_mut-place.ensures.value _ c.ask.ensures.shows
