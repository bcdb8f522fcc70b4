use Rattle.std.proofs.Common.{◌-◌}
use Rattle.mg_defs.specs.Terms.{document}
use Rattle.mg_merge.proofs.LookLaws.{looks_text}
use Rattle.mg_merge.proofs.TextLaws.{document_ahead, document_behind, held_is, held_short, short_ahead, short_behind}
use Rattle.mg_merge.proofs.texts.Texts.decode.Goals as goal

pub returns-then-number-self-clause-held : goal.returns-then-number-self-clause-held
returns-then-number-self-clause-held g c =
    let fits = rw (← c.self.view_is) at c.requires.fits in
    rw (← c.self.view_is)
    (λ collection has.
    let short = short_ahead _ (g.S.Store.files c.args.store.now) collection c.args.number c.args.most c.set_most.new.self.most fits c.requires.some c.if-number-self.true c.set_most.ensures.most has in
    let is = document_ahead _ (g.S.Store.files c.args.store.now) collection c.args.number fits c.requires.some c.if-number-self.true has.stands in
    held_is c.read.result c.read.new.self.bytes.items (document has.stands.a c.args.number) (document collection c.args.number) is (c.read.ensures.content has.stands.a short))

pub returns-then-number-self-clause-never_bad : goal.returns-then-number-self-clause-never_bad
returns-then-number-self-clause-never_bad g c =
    let fits = rw (← c.self.view_is) at c.requires.fits in
    rw (← c.self.view_is)
    (λ collection has.
    let short = short_ahead _ (g.S.Store.files c.args.store.now) collection c.args.number c.args.most c.set_most.new.self.most fits c.requires.some c.if-number-self.true c.set_most.ensures.most has in
    c.read.ensures.never_bad has.stands.a short)

pub returns-clause-held : goal.returns-clause-held
returns-clause-held g c =
    let fits = rw (← c.self.view_is) at c.requires.fits in
    rw (← c.self.view_is)
    (λ collection has.
    let short = short_behind _ (g.S.Store.files c.args.store.now) collection c.args.number c.args.most c.set_most.new.self.most fits c.if-number-self.false c.set_most.ensures.most has in
    let is = document_behind _ (g.S.Store.files c.args.store.now) collection c.args.number fits c.if-number-self.false has.stands in
    held_is c.read-2.result c.read-2.new.self.bytes.items (document has.stands.b (c.args.number - c.self.inside.ahead)) (document collection c.args.number) is
    (c.read-2.ensures.content has.stands.b short))

pub returns-clause-never_bad : goal.returns-clause-never_bad
returns-clause-never_bad g c =
    let fits = rw (← c.self.view_is) at c.requires.fits in
    rw (← c.self.view_is)
    (λ collection has.
    let short = short_behind _ (g.S.Store.files c.args.store.now) collection c.args.number c.args.most c.set_most.new.self.most fits c.if-number-self.false c.set_most.ensures.most has in
    c.read-2.ensures.never_bad has.stands.b short)

pub returns-then-number-self-clause-short : goal.returns-then-number-self-clause-short
returns-then-number-self-clause-short g c = held_short c.read.result _ _ _ c.set_most.ensures.most c.read.ensures.short

pub returns-clause-short : goal.returns-clause-short
returns-clause-short g c = held_short c.read-2.result _ _ _ c.set_most.ensures.most c.read-2.ensures.short

pub returns-then-number-self-clause-looks : goal.returns-then-number-self-clause-looks
returns-then-number-self-clause-looks g c = looks_text c.read.ensures.looked

pub returns-clause-looks : goal.returns-clause-looks
returns-clause-looks g c = looks_text c.read-2.ensures.looked
