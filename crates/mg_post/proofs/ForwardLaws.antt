-- Going on within a block leaves the postings from a document on, where the documents rise.
use Rattle.std.proofs.Common.{arith, ◌≡◌, ◌+◌, ◌<◌, ◌≤◌, ℕ, true, false, List, [], ◌∷◌, length, refl, sym, ◌∙◌, ap, inl, inr, nat_lt, drop, one-add}
use Rattle.std.specs.List.{prefix_len}
use Rattle.std.proofs.lemmas.Bool.{cases_lt}
use Rattle.mg_defs.specs.declared.Posting.{Posting}
use Rattle.mg_defs.specs.Lists.{Rises, from_doc, last_doc}
use Rattle.mg_defs.proofs.ListLaws.{from_above, from_here, from_next, from_some}
use Rattle.mg_post.specs.Cursor.{forward_to}

pub forward_nothing : (doc : ℕ) → forward_to doc [] ≡ []
unfolding forward_to
forward_nothing doc = refl

pub from_nothing : (doc : ℕ) → from_doc doc [] ≡ []
unfolding from_doc
from_nothing doc = refl

pub forward_here : (doc : ℕ) (p : Posting) (ps : List Posting) → doc ≤ p.doc → forward_to doc (p ∷ ps) ≡ p ∷ ps
unfolding forward_to
forward_here doc p ps le =
    let t : nat_lt p.doc doc ≡ false = grind arith in
    rw t refl

pub forward_next : (doc : ℕ) (p : Posting) (ps : List Posting) → p.doc < doc → forward_to doc (p ∷ ps) ≡ forward_to doc ps
unfolding forward_to
forward_next doc p ps lt =
    let t : nat_lt p.doc doc ≡ true = grind arith in
    rw t (ap (λ n. drop n (p ∷ ps)) (one-add (prefix_len (λ (q : Posting). nat_lt q.doc doc) ps)))

-- all of a list lies behind the document before it
pub forward_all : (all d : ℕ) (ps : List Posting) → Rises all d ps → forward_to (d + 1) ps ≡ ps
unfolding Rises
forward_all all d [] h = forward_nothing (d + 1)
forward_all all d (p ∷ ps) h = forward_here (d + 1) p ps (omega (arith, h.0.after))

-- where postings are left from a document on, the last one is
pub forward_last : (d e doc : ℕ) (ps : List Posting) → 0 < length (forward_to doc ps) → last_doc d (forward_to doc ps) ≡ last_doc e ps
unfolding last_doc
forward_last d e doc [] some = absurd (omega (arith, some, ap length (forward_nothing doc)))
forward_last d e doc (p ∷ ps) some =
    elim (cases_lt p.doc doc) [
      | inl below ↦ rw (forward_next doc p ps below) (forward_last d p.doc doc ps (rw (forward_next doc p ps below) at some))
      | inr above ↦ rw (forward_here doc p ps above) refl
    ]

pub forward_from : (all d doc : ℕ) (ps : List Posting) → Rises all d ps → forward_to doc ps ≡ from_doc doc ps
unfolding Rises
forward_from all d doc [] h = forward_nothing doc ∙ sym (from_nothing doc)
forward_from all d doc (p ∷ ps) h =
    elim (cases_lt p.doc doc) [
      | inl below ↦ forward_next doc p ps below ∙ forward_from all p.doc doc ps h.1 ∙ sym (from_next doc p ps below)
      | inr above ↦ forward_here doc p ps above ∙ sym (from_here doc p ps above ∙ ap (λ l. p ∷ l) (from_above all p.doc doc ps h.1 (omega (arith, above))))
    ]

-- the document asked for is at most the last one
pub forward_some : (all d doc : ℕ) (ps : List Posting) → Rises all d ps → d < doc → doc ≤ last_doc d ps → 0 < length (forward_to doc ps)
forward_some all d doc ps h lt le = rw (forward_from all d doc ps h) (from_some all d doc ps h lt le)
