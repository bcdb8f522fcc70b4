use Rattle.std.proofs.Common.{arith, ◌≡◌, ◌+◌, ◌<◌, ◌≤◌, ℕ, List, [], ◌∷◌, length, take, drop, sym, ◌∙◌, ap, get_or, add-one, suc, drop-cons}
use Rattle.std.proofs.lemmas.List.{get_or-take, length-take-le, drop_all}
use Rattle.mg_defs.specs.declared.Posting.{Posting}
use Rattle.mg_post.specs.Cursor.{forward_to}
use Rattle.mg_post.proofs.ForwardLaws.{forward_here, forward_next, forward_nothing}
use Rattle.mg_post.proofs.block.first_from.Goals as goal

split_at : (items : List Posting) (len i : ℕ) (p : Posting) → i < len → len ≤ length items → p ≡ get_or items i p → drop i (take len items) ≡ p ∷ drop (i + 1) (take len items)
split_at items len i p lt le is =
    let l : i < length (take len items) = rw (length-take-le len items le) lt in
    let e : get_or (take len items) i p ≡ p = get_or-take len items i p lt ∙ sym is in
    rw add-one (drop-cons (take len items) i p l ∙ ap (λ q. q ∷ drop (suc i) (take len items)) e)

pub returns-then-doc-index-clause-left : goal.returns-then-doc-index-clause-left
returns-then-doc-index-clause-left c =
    let s = split_at c.args.postings.now.items c.args.len c.loop-i.i c.index.result.now c.loop-i-test.true c.requires.len c.index.ensures in
    s ∙ sym (forward_here c.args.doc c.index.result.now _ c.if-doc-index.true) ∙ ap (forward_to c.args.doc) (sym s) ∙ c.loop-i.invariant

pub loop-i-preserved : goal.loop-i-preserved
loop-i-preserved c =
    let s = split_at c.args.postings.now.items c.args.len c.loop-i.i c.index.result.now c.loop-i-test.true c.requires.len c.index.ensures in
    sym (ap (forward_to c.args.doc) s ∙ forward_next c.args.doc c.index.result.now _ c.if-doc-index.false) ∙ c.loop-i.invariant

pub returns-clause-left : goal.returns-clause-left
returns-clause-left c =
    let e : c.loop-i.i ≡ c.args.len = (let l : c.loop-i.i ≤ c.args.len = c.loop-i.auto.i-end c.requires.from in omega arith) in
    let n : drop c.args.len (take c.args.len c.args.postings.now.items) ≡ [] = drop_all c.args.len (take c.args.len c.args.postings.now.items)
    (omega (arith, length-take-le c.args.len c.args.postings.now.items c.requires.len)) in
    n ∙ sym (forward_nothing c.args.doc) ∙ ap (forward_to c.args.doc) (sym (ap (λ i. drop i (take c.args.len c.args.postings.now.items)) e ∙ n)) ∙ c.loop-i.invariant
