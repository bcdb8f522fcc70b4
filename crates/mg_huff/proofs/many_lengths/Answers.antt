use Rattle.std.proofs.Common.{rules, ◌≡◌, ℕ, length, sum, arith, List, subst, sym, ap, ◌∙◌}
use Rattle.std.proofs.lemmas.Result.{IfOk-weaker}
use Rattle.mg_defs.specs.Canon.{AreGood}
use Rattle.mg_defs.specs.Cost.{cost_of, huffman_cost}
use Rattle.mg_huff.specs.Rising.{Above}
use Rattle.mg_huff.specs.Forest.{AreDepths}
use Rattle.mg_huff.specs.Ranking.{counts_of, IsListed, AreInPlace}
use Rattle.mg_huff.proofs.Whole.{listed_above, listed_sum, listed_length, whole_good, whole_cost}
use Rattle.mg_huff.proofs.many_lengths.Goals as goal

pub grow-requires-clause-some : goal.grow-requires-clause-some
grow-requires-clause-some c =
    let e : c.deref-2.result.now ≡ counts_of c.in_ok-order.order.items = search rules in
    let l : IsListed c.args.counts.now c.in_ok-order.order.items = search rules in
    rw e (omega (arith, listed_length c.args.counts.now c.in_ok-order.order.items l))

pub grow-requires-clause-counted : goal.grow-requires-clause-counted
grow-requires-clause-counted c =
    let e : c.deref-2.result.now ≡ counts_of c.in_ok-order.order.items = search rules in
    let l : IsListed c.args.counts.now c.in_ok-order.order.items = search rules in
    subst (λ t. Above 1 t) (sym e) (listed_above c.args.counts.now c.in_ok-order.order.items l c.requires.counted)

pub grow-requires-clause-total : goal.grow-requires-clause-total
grow-requires-clause-total c =
    let e : c.deref-2.result.now ≡ counts_of c.in_ok-order.order.items = search rules in
    let l : IsListed c.args.counts.now c.in_ok-order.order.items = search rules in
    omega (arith, ap sum e, listed_sum c.args.counts.now c.in_ok-order.order.items l)

pub leaf_depths-requires-clause-counted : goal.leaf_depths-requires-clause-counted
leaf_depths-requires-clause-counted c =
    let e : c.deref-3.result.now ≡ counts_of c.in_ok-order.order.items = search rules in
    let l : IsListed c.args.counts.now c.in_ok-order.order.items = search rules in
    subst (λ t. Above 1 t) (sym e) (listed_above c.args.counts.now c.in_ok-order.order.items l c.requires.counted)

pub leaf_depths-requires-clause-total : goal.leaf_depths-requires-clause-total
leaf_depths-requires-clause-total c =
    let e : c.deref-3.result.now ≡ counts_of c.in_ok-order.order.items = search rules in
    let l : IsListed c.args.counts.now c.in_ok-order.order.items = search rules in
    omega (arith, ap sum e, listed_sum c.args.counts.now c.in_ok-order.order.items l)

pub in_places-requires-clause-length : goal.in_places-requires-clause-length
in_places-requires-clause-length c =
    let e : c.deref-3.result.now ≡ counts_of c.in_ok-order.order.items = search rules in
    let l : IsListed c.args.counts.now c.in_ok-order.order.items = search rules in
    let d : AreDepths c.deref-3.result.now c.in_ok-found.found.items = search rules in
    let f : c.deref-6.result.now ≡ c.in_ok-found.found.items = search rules in
    ap length f ∙ d.same_length ∙ ap length e ∙ listed_length c.args.counts.now c.in_ok-order.order.items l

depths_found : (counts leaves found : List ℕ) → leaves ≡ counts → AreDepths leaves found → AreDepths counts found
depths_found counts leaves found e d = subst (λ t. AreDepths t found) e d

pub returns-clause-good : goal.returns-clause-good
returns-clause-good c =
    let e : c.deref-3.result.now ≡ counts_of c.in_ok-order.order.items = search rules in
    let l : IsListed c.args.counts.now c.in_ok-order.order.items = search rules in
    let d : AreDepths c.deref-3.result.now c.in_ok-found.found.items = search rules in
    let f : c.deref-6.result.now ≡ c.in_ok-found.found.items = search rules in
    let o : c.deref-5.result.now ≡ c.in_ok-order.order.items = search rules in
    let k = depths_found (counts_of c.in_ok-order.order.items) c.deref-3.result.now c.in_ok-found.found.items e d in
    IfOk-weaker c.in_places.result (λ out. AreInPlace c.args.counts.now c.deref-5.result.now c.deref-6.result.now out.items) (λ out. AreGood out.items)
    (λ out p. whole_good c.args.counts.now c.in_ok-order.order.items c.in_ok-found.found.items out.items l k
    (subst (λ t. AreInPlace c.args.counts.now c.in_ok-order.order.items t out.items) f
    (subst (λ t. AreInPlace c.args.counts.now t c.deref-6.result.now out.items) o p)) c.requires.many)
    c.in_places.ensures

pub returns-clause-cost : goal.returns-clause-cost
returns-clause-cost c =
    let e : c.deref-3.result.now ≡ counts_of c.in_ok-order.order.items = search rules in
    let l : IsListed c.args.counts.now c.in_ok-order.order.items = search rules in
    let d : AreDepths c.deref-3.result.now c.in_ok-found.found.items = search rules in
    let f : c.deref-6.result.now ≡ c.in_ok-found.found.items = search rules in
    let o : c.deref-5.result.now ≡ c.in_ok-order.order.items = search rules in
    let k = depths_found (counts_of c.in_ok-order.order.items) c.deref-3.result.now c.in_ok-found.found.items e d in
    IfOk-weaker c.in_places.result (λ out. AreInPlace c.args.counts.now c.deref-5.result.now c.deref-6.result.now out.items)
    (λ out. cost_of c.args.counts.now out.items ≡ huffman_cost c.args.counts.now)
    (λ out p. whole_cost c.args.counts.now c.in_ok-order.order.items c.in_ok-found.found.items out.items l k
    (subst (λ t. AreInPlace c.args.counts.now c.in_ok-order.order.items t out.items) f
    (subst (λ t. AreInPlace c.args.counts.now t c.deref-6.result.now out.items) o p)) c.requires.many)
    c.in_places.ensures
