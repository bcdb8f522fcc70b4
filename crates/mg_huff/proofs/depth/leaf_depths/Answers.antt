use Rattle.std.proofs.Common.{rules, ◌≡◌, ◌+◌, ◌<◌, length, get_or, arith, [], ◌∷◌, subst, sym, ◌∙◌}
use Rattle.mg_huff.specs.Forest.{push_leaf, push_inner, Undone, AreDepths}
use Rattle.std.proofs.lemmas.List.{get_or_default}
use Rattle.mg_huff.proofs.Undoing.{undone_start, undone_left, undone_deep, undone_more, undone_all}
use Rattle.mg_huff.proofs.depth.leaf_depths.Goals as goal

pub loop-at-init : goal.loop-at-init
loop-at-init c =
    let u = undone_start c.args.leaves.now c.args.joins.now c.requires.whole in
    let e : c.in_ok-found.found.items ≡ [] = search rules in
    let f : c.push.new.self.items ≡ 0 ∷ [] = search rules in
    subst (λ l. Undone c.args.leaves.now c.args.joins.now 0 l c.push.new.self.items) (sym e) (subst (λ i. Undone c.args.leaves.now c.args.joins.now 0 [] i) (sym f) u)

pub index-requires : goal.index-requires
index-requires c =
    let left : c.loop-at.at < length c.loop-at.inner.items = undone_left c.args.leaves.now c.args.joins.now c.latest-join.result c.loop-at.at
    c.loop-at.found.items c.loop-at.inner.items c.loop-at.invariant c.loop-at-test.true c.latest-join.ensures in
    search rules

pub overflow_add-depth : goal.overflow_add-depth
overflow_add-depth c =
    let left = undone_left c.args.leaves.now c.args.joins.now c.latest-join.result c.loop-at.at c.loop-at.found.items c.loop-at.inner.items c.loop-at.invariant
    c.loop-at-test.true c.latest-join.ensures in
    let deep = undone_deep c.args.leaves.now c.args.joins.now c.latest-join.result c.loop-at.at c.loop-at.found.items c.loop-at.inner.items c.loop-at.invariant
    c.loop-at-test.true c.latest-join.ensures c.requires.total in
    let same : c.index.result.now ≡ get_or c.loop-at.inner.items c.loop-at.at 0 = c.index.ensures ∙ get_or_default c.loop-at.inner.items c.loop-at.at c.index.result.now 0 left in
    omega arith

pub loop-at-preserved : goal.loop-at-preserved
loop-at-preserved c =
    let left = undone_left c.args.leaves.now c.args.joins.now c.latest-join.result c.loop-at.at c.loop-at.found.items c.loop-at.inner.items c.loop-at.invariant
    c.loop-at-test.true c.latest-join.ensures in
    let same : c.index.result.now ≡ get_or c.loop-at.inner.items c.loop-at.at 0 = c.index.ensures ∙ get_or_default c.loop-at.inner.items c.loop-at.at c.index.result.now 0 left in
    let more = undone_more c.args.leaves.now c.args.joins.now c.latest-join.result c.loop-at.at c.loop-at.found.items c.loop-at.inner.items c.loop-at.invariant
    c.loop-at-test.true c.latest-join.ensures c.requires.total (c.index.result.now + 1) (omega arith) in
    let e : c.place-in-loop-at.new.leaves.items ≡ push_leaf c.latest-join.result.first (c.index.result.now + 1)
    (push_leaf c.latest-join.result.second (c.index.result.now + 1) c.loop-at.found.items) = search rules in
    let f : c.place-in-loop-at.new.inner.items ≡ push_inner c.latest-join.result.first (c.index.result.now + 1)
    (push_inner c.latest-join.result.second (c.index.result.now + 1) c.loop-at.inner.items) = search rules in
    subst (λ l. Undone c.args.leaves.now c.args.joins.now (c.loop-at.at + 1) l c.place-in-loop-at.new.inner.items) (sym e)
    (subst (λ i. Undone c.args.leaves.now c.args.joins.now (c.loop-at.at + 1)
    (push_leaf c.latest-join.result.first (c.index.result.now + 1) (push_leaf c.latest-join.result.second (c.index.result.now + 1) c.loop-at.found.items))
    i) (sym f) more)

pub returns : goal.returns
returns c =
    let e : c.loop-at.at ≡ length c.args.joins.now = omega arith in
    let all = undone_all c.args.leaves.now c.args.joins.now c.loop-at.at c.loop-at.found.items c.loop-at.inner.items c.loop-at.invariant e c.requires.counted c.requires.total in
    subst (λ t. AreDepths c.args.leaves.now t) (sym c.reverse.ensures.items) all
