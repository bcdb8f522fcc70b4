use Rattle.std.proofs.Common.{refl}
use Rattle.mg_bool.proofs.AskLaws.{same_all}
use Rattle.mg_bool.proofs.CallLaws.{skips_none}
use Rattle.mg_bool.proofs.BoundLaws.{in_blocks}
use Rattle.mg_bool.proofs.NextLaws.{ended_goes, ended_pages}
use Rattle.mg_bool.proofs.ShownLaws.{ended_shown}
use Rattle.mg_bool.proofs.matches.Matches.next.Goals as goal

pub returns-then-self-clause-answer : goal.returns-then-self-clause-answer
returns-then-self-clause-answer g c = λ base collection stand over. ended_goes base collection c.args.self.now (rw (← c.self.view_is) c.if-self.true) over

pub returns-then-self-clause-pages : goal.returns-then-self-clause-pages
returns-then-self-clause-pages g c = λ base collection stand over.
    in_blocks collection _ c.query_bound_is_the_lesser.ensures.blocks (ended_pages base collection c.args.self.now _ c.cursors_are_within.ensures over)

pub returns-then-self-clause-least : goal.returns-then-self-clause-least
returns-then-self-clause-least g c = λ base collection stand over.
    (ended_pages base collection c.args.self.now (g.S.Store.reads c.args.store.now) c.cursors_are_within.ensures over).within

pub returns-clause-pages : goal.returns-clause-pages
returns-clause-pages g c = rw (← c.self.view_is) (λ base collection stand over.
    in_blocks collection _ c.query_bound_is_the_lesser.ensures.blocks (c.next_match.ensures.pages base collection (record { stand = stand; over = over })))

pub returns-clause-least : goal.returns-clause-least
returns-clause-least g c = rw (← c.self.view_is) (λ base collection stand over. (c.next_match.ensures.pages base collection (record { stand = stand; over = over })).within)

pub returns-then-self-clause-shows : goal.returns-then-self-clause-shows
returns-then-self-clause-shows g c = ended_shown c.args.self.now _ (rw (← c.self.view_is) c.if-self.true)

pub returns-clause-shows : goal.returns-clause-shows
returns-clause-shows g c = rw (← c.self.view_is) c.next_match.ensures.shows

pub returns-then-self-clause-lists : goal.returns-then-self-clause-lists
returns-then-self-clause-lists g c = record { places = same_all c.args.self.now.places; lead = refl }

pub returns-clause-lists : goal.returns-clause-lists
returns-clause-lists g c = rw (← c.self.view_is) record { places = c.next_match.ensures.same; lead = refl }

pub returns-then-self-clause-skips : goal.returns-then-self-clause-skips
returns-then-self-clause-skips g c = skips_none c.args.self.now.places _

pub returns-clause-skips : goal.returns-clause-skips
returns-clause-skips g c = rw (← c.self.view_is) c.next_match.ensures.skips
