use Rattle.std.proofs.Common.{rules, ◌≡◌, ℕ, ◌<◌, length, get_or, arith, List, subst, sym, ◌∙◌, replicate}
use Rattle.std.proofs.lemmas.List.{get_or_default, length-map}
use Rattle.std.proofs.lemmas.List.Sorted.{length_permutation}
use Rattle.mg_huff.specs.Ranking.{counts_of, Placed, IsListed}
use Rattle.mg_huff.specs.declared.counted.Counted.{Counted}
use Rattle.mg_huff.proofs.Places.{placed_start, placed_more, placed_all}
use Rattle.mg_huff.proofs.counted.in_places.Goals as goal

listed_length : (counts : List ℕ) (order : List Counted) → IsListed counts order → length order ≡ length counts
listed_length counts order l = sym (length-map order (λ q. q.count)) ∙ length_permutation counts (counts_of order) l.same

pub loop-at-init : goal.loop-at-init
loop-at-init c =
    let e : c.in_ok-out.out.items ≡ replicate (length c.args.counts.now) 0 = search rules in
    subst (λ t. Placed c.args.counts.now c.args.order.now c.args.found.now 0 t) (sym e) (placed_start c.args.counts.now c.args.order.now c.args.found.now)

pub bounds-found-at : goal.bounds-found-at
bounds-found-at c = let e = listed_length c.args.counts.now c.args.order.now c.requires.listed in omega arith

pub loop-at-preserved : goal.loop-at-preserved
loop-at-preserved c =
    let e = listed_length c.args.counts.now c.args.order.now c.requires.listed in
    let p : Counted = get_or c.args.order.now c.loop-at.at (record { count = 0; place = 0 }) in
    let h : c.loop-at.at < length c.args.order.now = c.loop-at-test.true in
    let k : c.loop-at.at < length c.args.found.now = omega arith in
    placed_more c.args.counts.now c.args.order.now c.args.found.now c.loop-at.out.items c.loop-at.at p c.loop-at.invariant c.requires.listed h k
    (get_or_default c.args.order.now c.loop-at.at (record { count = 0; place = 0 }) p h) (c.requires.within c.loop-at.at 0 k)

pub returns : goal.returns
returns c =
    let e = listed_length c.args.counts.now c.args.order.now c.requires.listed in
    placed_all c.args.counts.now c.args.order.now c.args.found.now c.loop-at.out.items c.loop-at.at c.loop-at.invariant (omega arith)
    (length-map c.args.order.now (λ q. q.count) ∙ e) c.requires.length
