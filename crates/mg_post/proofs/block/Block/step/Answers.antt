use Rattle.std.proofs.Common.{arith, ◌≡◌, ◌+◌, ◌<◌, ◌≤◌, ℕ, List, ◌∷◌, length, take, drop, sym, ◌∙◌, ap, get_or, add-one, suc, drop-cons, Some}
use Rattle.std.proofs.lemmas.List.{get_or-take, length-take-le, length-drop, drop-drop}
use Rattle.mg_defs.specs.declared.Posting.{Posting}
use Rattle.mg_post.specs.Cursor.{head_of}
use Rattle.mg_post.proofs.block.Block.step.Goals as goal

split_at : (items : List Posting) (len i : ℕ) (p : Posting) → i < len → len ≤ length items → p ≡ get_or items i p → drop i (take len items) ≡ p ∷ drop (i + 1) (take len items)
split_at items len i p lt le is =
    let l : i < length (take len items) = rw (length-take-le len items le) lt in
    let e : get_or (take len items) i p ≡ p = get_or-take len items i p lt ∙ sym is in
    rw add-one (drop-cons (take len items) i p l ∙ ap (λ q. q ∷ drop (suc i) (take len items)) e)

next_of : (items : List Posting) (len i : ℕ) (p : Posting) → i + 1 < len → len ≤ length items → p ≡ get_or items (i + 1) p →
    (1 < length (drop i (take len items))) × (drop (i + 1) (take len items) ≡ drop 1 (drop i (take len items))) × (head_of (drop (i + 1) (take len items)) ≡ Some p)
next_of items len i p lt le is = (
  omega (arith, length-drop i (take len items), length-take-le len items le),
  sym (drop-drop 1 i (take len items)),
  ap head_of (split_at items len (i + 1) p lt le is),
)

pub returns-then-self : goal.returns-then-self
returns-then-self c =
    let size = c.self.invariant in
    rw (← c.self.view_is) (next_of c.self.inside.postings.items c.self.inside.len c.self.inside.index c.index.result.now c.if-self.true (omega (arith, c.self.invariant)) c.index.ensures)
