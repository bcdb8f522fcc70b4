use Rattle.std.proofs.Common.{◌≡◌, ℕ, ◌+◌, ◌≤◌, List, length, drop, reverse, arith, ◌∷◌, [], ◌++◌, subst, rules}
use Rattle.mg_defs.specs.Cost.{sorted, merge_cost}
use Rattle.mg_huff.specs.Rising.{Above}
use Rattle.mg_huff.specs.Forest.{on_inner}
use Rattle.mg_huff.proofs.Joining.{grown_more, grown_pushed, grown_whole}
use Rattle.std.proofs.lemmas.List.{length-append, length-drop}
use Rattle.mg_huff.proofs.join.grow.Goals as goal

pub loop-made-preserved : goal.loop-made-preserved
loop-made-preserved c =
    let total : ℕ = merge_cost (length c.args.leaves.now) (sorted c.args.leaves.now) in
    let one = c.take_lightest-first in
    let two = c.take_lightest-second in
    let same_one : c.deref.result.now ≡ c.loop-made.inner.items = cc in
    let same_two : c.deref-in-loop-made.result.now ≡ c.loop-made.inner.items = cc in
    let P : List ℕ → Type 0 = λ t. drop c.loop-made.front.inner t ≡ on_inner one.result.is_leaf one.result.weight (drop one.new.front.inner t) in
    let Q : List ℕ → Type 0 = λ t. drop one.new.front.inner t ≡ on_inner two.result.is_leaf two.result.weight (drop two.new.front.inner t) in
    let inner_one = subst P same_one one.ensures.inner in
    let inner_two = subst Q same_two two.ensures.inner in
    let above_one = subst (λ t. Above one.result.weight (drop one.new.front.inner t)) same_one one.ensures.inner_above in
    let above_two = subst (λ t. Above two.result.weight (drop two.new.front.inner t)) same_two two.ensures.inner_above in
    let g = grown_more total c.args.leaves.now (reverse c.loop-made.joins.items) one.result.is_leaf two.result.is_leaf one.result.weight two.result.weight _ _ _ _ _ _
    c.loop-made.invariant.forest one.ensures.leaves inner_one one.ensures.leaves_above above_one
    two.ensures.leaves inner_two two.ensures.leaves_above above_two in
    let items : c.push.new.self.items ≡ c.loop-made.inner.items ++ (one.result.weight + two.result.weight) ∷ [] = search rules in
    let range : two.new.front.inner ≤ length c.loop-made.inner.items = subst (λ t. two.new.front.inner ≤ length t) same_two two.ensures.inner_range in
    record {
      forest = grown_pushed total c.args.leaves.now c.loop-made.joins.items c.push-in-loop-made.new.self.items _ c.loop-made.inner.items c.push.new.self.items _ _ _ g (search rules) items range;
      inner_made = rw items (simp length-append (omega arith));
      taken = omega arith;
      leaf_range = two.ensures.leaf_range;
      newest_left = omega arith;
    }

pub returns : goal.returns
returns c = grown_whole c.args.leaves.now c.loop-made.joins.items _ _ c.loop-made.invariant.forest
    (simp length-drop (omega arith))
    (simp length-drop (omega arith))
