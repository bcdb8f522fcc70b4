use Rattle.std.proofs.Common.{arith, ◌<◌, ◌^◌, sym, subst, ◌∙◌}
use Rattle.mg_check_index.proofs.SomeLaws.{some_list, some_long, some_room, start_next}
use Rattle.mg_check_index.proofs.some_lists.SomeLists.list.Goals as goal

pub overflow_add-place : goal.overflow_add-place
overflow_add-place c =
    let few = rw (← c.self.view_is) at c.requires.few in
    omega (arith, few)

pub number-requires : goal.number-requires
number-requires c =
    let few = rw (← c.self.view_is) at c.requires.few in
    omega (arith, few)

pub room-requires-clause-laid : goal.room-requires-clause-laid
room-requires-clause-laid c = c.self.invariant.1

pub room-requires-clause-within : goal.room-requires-clause-within
room-requires-clause-within c =
    let within = rw (← c.self.view_is) at c.requires.within in
    omega (arith, within, some_long c.self.inside.lists.now c.self.inside.first c.self.inside.count c.self.invariant.0, c.self.invariant.0)

pub list-requires-clause-laid : goal.list-requires-clause-laid
list-requires-clause-laid c = c.self.invariant.1

pub list-requires-clause-within : goal.list-requires-clause-within
list-requires-clause-within c =
    let within = rw (← c.self.view_is) at c.requires.within in
    omega (arith, within, some_long c.self.inside.lists.now c.self.inside.first c.self.inside.count c.self.invariant.0, c.self.invariant.0)

pub returns-clause-number : goal.returns-clause-number
returns-clause-number c = rw (← c.self.view_is) (omega (arith, c.number.ensures))

pub returns-clause-docs : goal.returns-clause-docs
returns-clause-docs c =
    let within = rw (← c.self.view_is) at c.requires.within in
    let lt : c.args.index < c.self.inside.count = omega (arith, within, some_long c.self.inside.lists.now c.self.inside.first c.self.inside.count c.self.invariant.0) in
    rw (← c.self.view_is) (c.room.ensures.room ∙ sym (some_room c.self.inside.lists.now c.self.inside.first c.self.inside.count c.args.index lt))

pub returns-clause-fits : goal.returns-clause-fits
returns-clause-fits c =
    let within = rw (← c.self.view_is) at c.requires.within in
    let lt : c.args.index < c.self.inside.count = omega (arith, within, some_long c.self.inside.lists.now c.self.inside.first c.self.inside.count c.self.invariant.0) in
    rw (← c.self.view_is) (subst (λ m. m < 2 ^ 32) (sym (start_next c.self.inside.lists.now c.self.inside.first c.self.inside.count c.args.index lt)) c.room.ensures.fits)

pub returns-clause-postings : goal.returns-clause-postings
returns-clause-postings c =
    let within = rw (← c.self.view_is) at c.requires.within in
    let lt : c.args.index < c.self.inside.count = omega (arith, within, some_long c.self.inside.lists.now c.self.inside.first c.self.inside.count c.self.invariant.0) in
    rw (← c.self.view_is) (c.list.ensures ∙ sym (some_list c.self.inside.lists.now c.self.inside.first c.self.inside.count c.args.index lt))
